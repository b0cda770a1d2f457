-- The output for a command line.
use Rattle.std.proofs.Common.{◌≡◌, ℕ, ◌-◌, List, [], length, Some, None, Result, Ok, Err, refl, sym, ap, ◌∙◌, subst, arith, get_or, ◌∷◌, ◌++◌}
use Rattle.std.specs.Prelude.{IsErrAnd}
use Rattle.std.proofs.lemmas.List.{length_push, get_or_push}
use Rattle.std.proofs.lemmas.Option.{same_Some, slice_get_read}
use Rattle.shell_io.proofs.AppendLemmas.{appended_none}
use Rattle.dbg_base.specs.declared.said.Said.{Said}
use Rattle.dbg_base.specs.declared.refusal.Refusal.{Refusal}
use Rattle.dbg_base.specs.declared.said.Said.TheVariants.{Refused}
use Rattle.dbg_base.specs.Calls.{Call, Give, Back, Ask, call_of}
use Rattle.dbg_base.specs.Fits.{FitsCall, FitsRefusal}
use Rattle.dbg_base.specs.Trees.{Program}
use Rattle.dbg_base.specs.Journals.{Journal, Entry, Makes, Enters}
use Rattle.dbg_base.specs.Replies.{reply_text, refusal_text}
use Rattle.dbg_base.specs.Shell.{as_line}
use Rattle.shell_io.specs.Seen.{Seen}
use Rattle.shell_print.specs.Writing.{Writes}
use Rattle.shell_print.proofs.WriteLemmas.{writes_then, writes_same, stopped}
use Rattle.shell_serve.specs.Sessions.{Manner, Showing, MayBeQuiet, IsExplained, WritesForm, WritesReply}
use Rattle.shell_serve.specs.Answering.{IsLast, HasLast}
use Rattle.shell_print.specs.declared.outcome.ServeFault.{ServeFault}
use Rattle.shell_parse.specs.declared.line.Line.{Line}
use Rattle.shell_parse.specs.Lines.{IsParsed, requested}

module _ (M : Manner) (Shows : Showing) (P : Program) (bytes : List ℕ) (J : Journal) where
  -- the answer to a call of the seat with this number and an explanation were written, or a prefix of them
  pub call_told : {B : Type 0} {r : Result B ServeFault} (line : Line) (seat : ℕ) (said : Said) (after : Journal) (a c : Seen)
      → seat ≡ line.seat → IsParsed P bytes (Ok (Some line)) → Makes P J seat (call_of line.call) said after
      → WritesForm (IsExplained M Shows (as_line (reply_text P (call_of line.call) said))) a r c → WritesReply M Shows P bytes J a r c after
  call_told line seat said after a c number parsed makes told = record {
    reply = told.form.0;
    reported = told.form.1;
    answers = (
      as_line (reply_text P (call_of line.call) said),
      (
        Ok (Some (requested line)),
        parsed,
        (said, subst (λ (n : ℕ). Makes P J n (call_of line.call) said after) number makes, refl),
      ),
      told.form.2,
    );
    explains = told.form.3;
    written = writes_same told.form.4 told.written;
  }

  -- the line makes no call, and nothing was written
  pub none_replied : {A : Type 0} {u : A} (a : Seen) → MayBeQuiet M Shows → IsParsed P bytes (Ok None)
      → WritesReply {A = A} M Shows P bytes J a (Ok u) a J
  none_replied a quiet parsed = record {
    reply = [];
    reported = [];
    answers = ([], (Ok None, parsed, (refl, refl)), quiet.shows []);
    explains = quiet.explains;
    written = record { whole = appended_none a; part = tt; fault = tt };
  }

  -- the refusal of the line was written, and then an explanation or none, or a prefix of that
  pub refusal_replied : {B : Type 0} {r : Result B ServeFault} (refusal : Refusal) (a c : Seen) → IsParsed P bytes (Err refusal)
      → WritesForm (IsExplained M Shows (as_line (refusal_text P refusal))) a r c → WritesReply M Shows P bytes J a r c J
  refusal_replied refusal a c parsed told = record {
    reply = told.form.0;
    reported = told.form.1;
    answers = (as_line (refusal_text P refusal), (Err refusal, parsed, (refl, refl)), told.form.2);
    explains = told.form.3;
    written = writes_same told.form.4 told.written;
  }

-- what is shown for a reply of this program was written, whatever the program is called
pub shown_for : {A : Type 0} {r : Result A ServeFault} {a b : Seen} (Shows : Showing) (P Q : Program) (due : Program → List ℕ) → Q ≡ P
    → WritesForm (Shows (due Q)) a r b → WritesForm (Shows (due P)) a r b
shown_for {r = r} {a = a} {b = b} Shows P Q due is wrote = subst (λ (R : Program). WritesForm (Shows (due R)) a r b) is wrote

-- what was written for an entry was written for the same entry
pub told_same : {B : Type 0} {r : Result B ServeFault} {a c : Seen} (M : Manner) (Shows : Showing) (P : Program) (own entry : Entry)
    → own ≡ entry
    → WritesForm (IsExplained M Shows (as_line (reply_text P own.call own.said))) a r c
    → WritesForm (IsExplained M Shows (as_line (reply_text P entry.call entry.said))) a r c
told_same {r = r} {a = a} {c = c} M Shows P own entry same told =
    subst (λ (e : Entry). WritesForm (IsExplained M Shows (as_line (reply_text P e.call e.said))) a r c) same told

-- a refusal that fits a call
pub fits_refusal : (P : Program) (call : Call) (refusal : Refusal) → FitsCall P call (Refused refusal) → FitsRefusal P refusal
fits_refusal P (Give order) refusal fits = fits
fits_refusal P Back refusal fits = fits
fits_refusal P (Ask query) refusal fits = fits

-- the last entry of a journal to which one was appended
last_pushed : (J : Journal) (one : Entry) → IsLast (J ++ one ∷ []) one
last_pushed J one =
    let more = length_push J one in
    let last : length (J ++ one ∷ []) - 1 ≡ length J = omega (arith, more) in
    slice_get_read (J ++ one ∷ []) (length (J ++ one ∷ [])) (length (J ++ one ∷ []) - 1) one refl (omega (arith, more))
    (sym (ap (λ (n : ℕ). get_or (J ++ one ∷ []) n one) last ∙ get_or_push J one one (length J) refl))

-- The call that was entered last.
module _ {P : Program} {J after : Journal} {seat : ℕ} {call : Call} {said : Said} (enters : Enters P J seat call said after) where
  abbrev one : Entry
  one = record { seat = seat; call = call; said = said }

  pub is_last : IsLast after one
  is_last = subst (λ (K : Journal). IsLast K one) (sym enters.entered) (last_pushed J one)

  pub has_last : FitsCall P call said → HasLast P after
  has_last fits = record {
    some = let more = ap (λ (K : Journal). length K) enters.entered ∙ length_push J one in omega (arith, more);
    fits = λ entry last. subst (λ (e : Entry). FitsCall P e.call e.said) (same_Some one entry (sym is_last ∙ last)) fits;
  }
