-- Lines that a session answers, one after the other.
use Rattle.std.proofs.Common.{◌≡◌, ℕ, Bool, true, false, List, [], ◌∷◌, ◌++◌, refl, sym, ap, ◌∙◌, subst, inl, inr}
use Rattle.std.proofs.Common.{append_assoc, Some, None}
use Rattle.std.specs.Prelude.{IfOk, IfErr, IsErrAnd, Result, Ok, Err, ◌||◌, codes}
use Rattle.std.specs.List.{list_any}
use Rattle.std.specs.Bool.{MatchBool}
use Rattle.shell_io.specs.Seen.{Seen, Appended}
use Rattle.std.proofs.lemmas.List.{append-nil}
use Rattle.shell_io.proofs.AppendLemmas.{appended_none, appended_then}
use Rattle.dbg_base.specs.Trees.{Program}
use Rattle.dbg_base.specs.declared.refusal.Refusal.TheVariants as refusals
use Rattle.dbg_base.specs.Journals.{Journal, IsLegal}
use Rattle.dbg_base.specs.Replies.{refusal_text}
use Rattle.dbg_base.specs.Shell.{AnswersLine, as_line, too_long_text}
use Rattle.shell_serve.specs.declared.framing.Span.{Span}
use Rattle.shell_serve.specs.declared.framing.Next.{Next}
use Rattle.shell_serve.specs.declared.framing.Next.TheVariants as nexts
use Rattle.shell_print.specs.declared.outcome.Served.{Served}
use Rattle.shell_print.specs.declared.outcome.ServeFault.{ServeFault}
use Rattle.shell_print.specs.declared.outcome.ServeFault.TheVariants.{Memory, Read, Write}
use Rattle.shell_print.specs.declared.outcome.Served.TheVariants.{Done, TooLong}
use Rattle.shell_io.specs.declared.health.Health.TheVariants.{Fine, Failed}
use Rattle.shell_print.specs.Outcomes.{source_after, sink_after}
use Rattle.shell_print.specs.Writing.{AppendsPrefix, Writes}
use Rattle.shell_serve.specs.Sources.{Given, Advances, GivesAll}
use Rattle.shell_serve.specs.Sessions.{Manner, Showing, MayBeQuiet, ShowsReply, Replies, Says, IsExplained, WritesForm, WritesLine, WritesAnswer, WritesReply, SaysLines, SaysAll, ends_session, NoneEnds, LastEnds, Plays}
use Rattle.shell_serve.proofs.AnswerStepLemmas.{opens_legal, line_legal, some_line}
use Rattle.shell_print.proofs.WriteLemmas.{prefix_then, writes_then, stopped}

module _ (M : Manner) (Shows : Showing) (P : Program) where
  -- an answer keeps a legal journal legal
  replies_legal : (line : Given) (J : Journal) (reply : List ℕ) (after : Journal) → Replies M Shows P line J reply after → IsLegal P J
      → IsLegal P after
  replies_legal None J reply after replies legal = subst (IsLegal P) (sym replies.1) legal
  replies_legal (Some line) J reply after replies legal = by_kind (M.is_directive line) replies
    where
      by_kind : (own : Bool) → MatchBool own ((reply ≡ []) × (after ≡ J)) (ShowsReply Shows P (M.seated line) J reply after)
          → IsLegal P after
      by_kind true replies = subst (IsLegal P) (sym replies.1) legal
      by_kind false replies = line_legal P (M.seated line) J replies.0 after replies.1 legal

  pub says_legal : (line : Given) (J : Journal) (out : List ℕ) (after : Journal) → Says M Shows P line J out after → IsLegal P J
      → IsLegal P after
  says_legal line J out after says legal = replies_legal line J says.1 after says.4 legal

  -- each line has a reply that makes no call
  pub some_reply : ((due : List ℕ) → Shows due due) → (line : Given) (J : Journal) → IsLegal P J
      → (reply : List ℕ) × Replies M Shows P line J reply J
  some_reply same None J legal = (as_line (refusal_text P refusals.Memory), (same (as_line (refusal_text P refusals.Memory)), refl))
  some_reply same (Some line) J legal = by_kind (M.is_directive line) refl
    where
      by_kind : (own : Bool) → M.is_directive line ≡ own → (reply : List ℕ) × Replies M Shows P (Some line) J reply J
      by_kind true is = ([], rw is (refl, refl))
      by_kind false is = let some = some_line P (M.seated line) J legal in (some.0, rw is (some.0, some.1, same some.0))

  -- the output for one more line
  pub says_more : (lines : List Given) (line : Given) (J : Journal) (out : List ℕ) (K : Journal) (more : List ℕ) (after : Journal)
      → SaysLines M Shows P lines J out K → Says M Shows P line K more after → SaysLines M Shows P (lines ++ line ∷ []) J (out ++ more) after
  says_more [] line J out K more after says one = (
    more,
    [],
    after,
    subst (λ (L : Journal). Says M Shows P line L more after) says.1 one,
    (refl, refl),
    ap (λ (t : List ℕ). t ++ more) says.0 ∙ sym (append-nil more),
  )
  says_more (first ∷ lines) line J out K more after says one = (
    says.0,
    says.1 ++ more,
    says.2,
    says.3,
    says_more lines line says.2 says.1 K more after says.4 one,
    ap (λ (t : List ℕ). t ++ more) says.5 ∙ append_assoc says.0 says.1 more,
  )

-- neither of two
neither : (one other : Bool) → one || other ≡ false → (one ≡ false) × (other ≡ false)
neither true other is = cc
neither false other is = (refl, is)

none_more : (M : Manner) (lines : List Given) (line : Given) → NoneEnds M lines → ends_session M line ≡ false
    → NoneEnds M (lines ++ line ∷ [])
none_more M [] line none one = ap (λ (b : Bool). b || false) one
none_more M (first ∷ lines) line none one =
    let both = neither (ends_session M first) (list_any (ends_session M) lines) none in
    ap (λ (b : Bool). b || list_any (ends_session M) (lines ++ line ∷ [])) both.0 ∙ none_more M lines line both.1 one

module _ {S R : Type 0} (Gives : S → R → Given → S → R → Type 0) (Stops : S → R → Result Next ServeFault → S → R → Type 0)
    (Holds : S → Span → Given → Type 0) (left : S → ℕ) (s : S) (r : R) (next : Next) (t : S) (u : R)
    (advances : Advances Gives Stops Holds left s r (Ok next) t u) where
  -- what a source did that returned this
  pub returned : (known : Next) → next ≡ known → Advances Gives Stops Holds left s r (Ok known) t u
  returned known is = subst (λ (n : Next). Advances Gives Stops Holds left s r (Ok n) t u) is advances

module _ {S R : Type 0} (Gives : S → R → Given → S → R → Type 0) where
  -- one more line was given
  gives_more : (lines : List Given) (line : Given) (s m t : S) (r k u : R) → GivesAll Gives s r lines m k → Gives m k line t u
      → GivesAll Gives s r (lines ++ line ∷ []) t u
  gives_more [] line s m t r k u gives one =
      (t, u, subst (λ (a : S). Gives a r line t u) gives.0 (subst (λ (b : R). Gives m b line t u) gives.1 one), (refl, refl))
  gives_more (first ∷ lines) line s m t r k u gives one =
      (gives.0, gives.1, gives.2, gives_more lines line gives.0 m t gives.1 k u gives.3 one)

  -- The lines that were given were answered, and none of them ends the session.
  pub record Answered (M : Manner) (Shows : Showing) (P : Program) (s : S) (r : R) (at : S) (reader : R) (J : Journal)
      (old new : Seen) : Type 0 where
    pub lines : List Given
    pub gives : GivesAll Gives s r lines at reader
    pub none : NoneEnds M lines
    pub text : List ℕ
    pub says : SaysLines M Shows P lines [] text J
    pub legal : IsLegal P J
    pub written : Appended old new text

  pub none_answered : (M : Manner) (Shows : Showing) (P : Program) (s : S) (r : R) (J : Journal) (a : Seen) → J ≡ []
      → Answered M Shows P s r s r J a a
  none_answered M Shows P s r J a none = record {
    lines = [];
    gives = (refl, refl);
    none = refl;
    text = [];
    says = (refl, none);
    legal = subst (IsLegal P) (sym none) (opens_legal P);
    written = appended_none a;
  }

  module _ (Stops : S → R → Result Next ServeFault → S → R → Type 0) (M : Manner) (Shows : Showing) (P : Program) (s : S) (r : R) where
    abbrev pub PlaysBy : Seen → Result Served ServeFault → S → R → Seen → Type 0
    PlaysBy old result t u new = Plays Gives Stops M Shows P s r old result t u new

    -- memory ran out before the session was opened
    pub unopened : (old : Seen) → PlaysBy old (Err Memory) s r old
    unopened old = record {
      lines = [];
      at = s;
      reader = r;
      end = [];
      gives = (refl, refl);
      ends = (refl, refl, (refl, refl));
      writes = appended_none old;
    }

    module _ (m : S) (k : R) (J : Journal) (old mid : Seen) (answered : Answered M Shows P s r m k J old mid) where
      abbrev so_far : SaysAll M Shows P answered.lines [] answered.text
      so_far = (answered.text, J, answered.says, answered.legal, sym (append-nil answered.text))

      -- the source gave no line
      pub source_ends : (t : S) (u : R) → Stops m k (Ok nexts.End) t u → PlaysBy old (Ok Done) t u mid
      source_ends t u stops = record {
        lines = answered.lines;
        at = m;
        reader = k;
        end = [];
        gives = answered.gives;
        ends = (refl, inr (stops, answered.none));
        writes = (answered.text, so_far, answered.written);
      }

      pub source_fails : (t : S) (u : R) (e : ServeFault) (result : Result Served ServeFault) → Stops m k (Err e) t u → e ≡ Read
          → IsErrAnd result (λ f. f ≡ e) → PlaysBy old result t u mid
      source_fails t u e (Ok served) stops is same = absurd same
      source_fails t u e (Err fault) stops is same =
          subst (λ (f : ServeFault). PlaysBy old (Err f) t u mid) (sym (same ∙ is)) (record {
            lines = answered.lines;
            at = m;
            reader = k;
            end = [];
            gives = answered.gives;
            ends = (refl, subst (λ (f : ServeFault). Stops m k (Err f) t u) is stops, answered.none);
            writes = (answered.text, so_far, answered.written);
          })

      -- the source gives too much, which was reported, or not in full
      pub source_is_too_long : (t : S) (u : R) (result : Result Served ServeFault) (new : Seen) → Stops m k (Ok nexts.TooLong) t u
          → Writes mid new result too_long_text → IfOk result (λ served. served ≡ TooLong) → PlaysBy old result t u new
      source_is_too_long t u (Ok served) new stops wrote same =
          subst (λ (v : Served). PlaysBy old (Ok v) t u new) (sym same) (record {
            lines = answered.lines;
            at = m;
            reader = k;
            end = too_long_text;
            gives = answered.gives;
            ends = (refl, stops, answered.none);
            writes = (
              answered.text ++ too_long_text,
              (answered.text, J, answered.says, answered.legal, refl),
              appended_then old mid new answered.text too_long_text answered.written wrote.whole,
            );
          })
      source_is_too_long t u (Err fault) new stops wrote same =
          subst (λ (f : ServeFault). PlaysBy old (Err f) t u new) (sym wrote.fault) (record {
            lines = answered.lines;
            at = m;
            reader = k;
            end = too_long_text;
            gives = answered.gives;
            ends = inr (refl, stops);
            writes = (
              answered.text ++ too_long_text,
              (answered.text, J, answered.says, answered.legal, refl),
              prefix_then old mid new answered.text too_long_text answered.written wrote.part,
            );
          })

      -- the source gave a line
      module _ (t : S) (u : R) (line given : Given) (gave : Gives m k given t u) (same : line ≡ given) (after : Journal) (new : Seen) where
        more_gives : GivesAll Gives s r (answered.lines ++ line ∷ []) t u
        more_gives = gives_more answered.lines line s m t r k u answered.gives (subst (λ (g : Given). Gives m k g t u) (sym same) gave)

        -- the output, with that for the line
        all_said : (text : List ℕ) → Says M Shows P line J text after → SaysAll M Shows P (answered.lines ++ line ∷ []) []
            (answered.text ++ text)
        all_said text says = (
          answered.text ++ text,
          after,
          says_more M Shows P answered.lines line [] answered.text J text after answered.says says,
          says_legal M Shows P line J text after says answered.legal,
          sym (append-nil (answered.text ++ text)),
        )

        -- it was answered, and the session continues
        pub line_answered : {A : Type 0} {v : A} → WritesLine {A = A} M Shows P line J mid (Ok v) new after → ends_session M line ≡ false
            → Answered M Shows P s r t u after old new
        line_answered wrote on = record {
          lines = answered.lines ++ line ∷ [];
          gives = more_gives;
          none = none_more M answered.lines line answered.none on;
          text = answered.text ++ wrote.text;
          says = says_more M Shows P answered.lines line [] answered.text J wrote.text after answered.says wrote.says;
          legal = says_legal M Shows P line J wrote.text after wrote.says answered.legal;
          written = appended_then old mid new answered.text wrote.text answered.written wrote.written.whole;
        }

        -- it was answered, and ends the session
        pub line_ends : {A : Type 0} {v : A} → WritesLine {A = A} M Shows P line J mid (Ok v) new after → ends_session M line ≡ true
            → PlaysBy old (Ok Done) t u new
        line_ends wrote last = record {
          lines = answered.lines ++ line ∷ [];
          at = t;
          reader = u;
          end = [];
          gives = more_gives;
          ends = (refl, inl ((refl, refl), (answered.lines, line, refl, answered.none, last)));
          writes = (
            answered.text ++ wrote.text,
            all_said wrote.text wrote.says,
            appended_then old mid new answered.text wrote.text answered.written wrote.written.whole,
          );
        }

        -- the answer was not written in full
        pub line_stops : {A : Type 0} {e : ServeFault} (result : Result Served ServeFault)
            → WritesLine {A = A} M Shows P line J mid (Err e) new after → e ≡ Write → IsErrAnd result (λ f. f ≡ e)
            → PlaysBy old result t u new
        line_stops (Ok served) wrote is same = absurd same
        line_stops (Err fault) wrote is same =
            subst (λ (f : ServeFault). PlaysBy old (Err f) t u new) (sym (same ∙ is)) (record {
              lines = answered.lines ++ line ∷ [];
              at = t;
              reader = u;
              end = [];
              gives = more_gives;
              ends = inl (refl, (refl, refl));
              writes = (
                answered.text ++ wrote.text,
                all_said wrote.text wrote.says,
                prefix_then old mid new answered.text wrote.text answered.written wrote.written.part,
              );
            })

-- the output is the same, whatever else the result has
pub result_ok : {A B : Type 0} {u : A} {v : B} (M : Manner) (Shows : Showing) (P : Program) (line : Given) (J after : Journal)
    (old new : Seen)
    → WritesLine {A = A} M Shows P line J old (Ok u) new after → WritesLine {A = B} M Shows P line J old (Ok v) new after
result_ok M Shows P line J after old new wrote = record
    { text = wrote.text; says = wrote.says; written = record { whole = wrote.written.whole; part = tt; fault = tt } }

pub result_err : {A B : Type 0} {e : ServeFault} {r : Result B ServeFault} (M : Manner) (Shows : Showing) (P : Program) (line : Given)
    (J after : Journal)
    (old new : Seen) → WritesLine {A = A} M Shows P line J old (Err e) new after → IsErrAnd r (λ f. f ≡ e)
    → WritesLine M Shows P line J old r new after
result_err {r = Ok v} M Shows P line J after old new wrote same = absurd same
result_err {r = Err f} M Shows P line J after old new wrote same = record {
  text = wrote.text;
  says = wrote.says;
  written = record { whole = tt; part = wrote.written.part; fault = same ∙ wrote.written.fault };
}

-- the text was flushed
pub flushed : {A B : Type 0} {r : Result A ServeFault} {q : Result B ServeFault} {Form : List ℕ → Type 0} {a b c : Seen}
    → WritesForm Form a r b → ((old : Seen) (text : List ℕ) → Writes old b r text → Writes old c q text) → WritesForm Form a q c
flushed told flushes = record { text = told.text; form = told.form; written = flushes _ told.text told.written }

-- What is shown for a reply was written, and then an explanation or none. The style of the reply was set before it.
pub refused_then : {A B C : Type 0} {u : A} {v : B} {r : Result C ServeFault} (M : Manner) (Shows : Showing) (due : List ℕ) (a b c d : Seen)
    → Writes {A = A} a b (Ok u) [] → WritesForm {A = B} (Shows due) b (Ok v) c → WritesForm M.explains c r d
    → WritesForm (IsExplained M Shows due) a r d
refused_then M Shows due a b c d marked shown reported = record {
  text = shown.text ++ reported.text;
  form = (shown.text, reported.text, shown.form, reported.form, refl);
  written = writes_then marked (writes_then shown.written reported.written);
}

-- or it was not written in full
pub refused_not : {A B C : Type 0} {u : A} {e : ServeFault} {r : Result C ServeFault} (M : Manner) (Shows : Showing) (due : List ℕ)
    (a b c : Seen) → MayBeQuiet M Shows → Writes {A = A} a b (Ok u) [] → WritesForm {A = B} (Shows due) b (Err e) c
    → IsErrAnd r (λ f. f ≡ e) → WritesForm (IsExplained M Shows due) a r c
refused_not M Shows due a b c quiet marked shown same = record {
  text = shown.text ++ [];
  form = (shown.text, [], shown.form, quiet.explains, refl);
  written = stopped [] (writes_then marked shown.written) same;
}

-- or its style was not set, and nothing was written
pub unmarked : {A B : Type 0} {e : ServeFault} {r : Result B ServeFault} (M : Manner) (Shows : Showing) (due : List ℕ) (a b : Seen)
    → MayBeQuiet M Shows → Writes {A = A} a b (Err e) [] → IsErrAnd r (λ f. f ≡ e) → WritesForm (IsExplained M Shows due) a r b
unmarked M Shows due a b quiet wrote same = record {
  text = due ++ [];
  form = (due, [], quiet.shows due, quiet.explains, refl);
  written = stopped (due ++ []) wrote same;
}

-- The end of a call with `?`: the output is the same, whatever else the result has.
pub form_ok : {A B : Type 0} {u : A} {v : B} {Form : List ℕ → Type 0} {a b : Seen} → WritesForm {A = A} Form a (Ok u) b
    → WritesForm {A = B} Form a (Ok v) b
form_ok wrote = record { text = wrote.text; form = wrote.form; written = record { whole = wrote.written.whole; part = tt; fault = tt } }

pub form_err : {A B : Type 0} {e : ServeFault} {r : Result B ServeFault} {Form : List ℕ → Type 0} {a b : Seen}
    → WritesForm {A = A} Form a (Err e) b → IsErrAnd r (λ f. f ≡ e) → WritesForm Form a r b
form_err {r = Ok v} wrote same = absurd same
form_err {r = Err f} wrote same = record {
  text = wrote.text;
  form = wrote.form;
  written = record { whole = tt; part = wrote.written.part; fault = same ∙ wrote.written.fault };
}

-- the output before the answer was not written in full, and nothing after it was written
pub before_stops : {A B : Type 0} {e : ServeFault} {r : Result B ServeFault} (M : Manner) (Shows : Showing) (P : Program) (line : Given)
    (J : Journal)
    (a b : Seen) → MayBeQuiet M Shows → IsLegal P J → WritesForm {A = A} (M.before line) a (Err e) b → IsErrAnd r (λ f. f ≡ e)
    → WritesLine M Shows P line J a r b J
before_stops M Shows P line J a b quiet legal first same =
    let some = some_reply M Shows P quiet.shows line J legal in
    record {
      text = first.text ++ (some.0 ++ []);
      says = (first.text, some.0, [], first.form, some.1, quiet.explains, refl);
      written = stopped (some.0 ++ []) first.written same;
    }

-- a line was answered
pub line_said : {A B : Type 0} {u : A} {r : Result B ServeFault} (M : Manner) (Shows : Showing) (P : Program) (given : Given) (line : List ℕ)
    (J after : Journal) (a b c : Seen) → given ≡ Some line → WritesForm {A = A} (M.before given) a (Ok u) b
    → WritesAnswer M Shows P line J b r c after → WritesLine M Shows P given J a r c after
line_said M Shows P given line J after a b c is first answer = record {
  text = first.text ++ (answer.reply ++ answer.reported);
  says = (
    first.text,
    answer.reply,
    answer.reported,
    first.form,
    subst (λ (g : Given). Replies M Shows P g J answer.reply after) (sym is) answer.replies,
    answer.explains,
    refl,
  );
  written = writes_then first.written answer.written;
}

-- a line for which memory ran out was refused
pub lost_said : {A B : Type 0} {u : A} {r : Result B ServeFault} (M : Manner) (Shows : Showing) (P : Program) (given : Given) (J : Journal)
    (a b c : Seen) → given ≡ None → WritesForm {A = A} (M.before given) a (Ok u) b
    → WritesForm (IsExplained M Shows (as_line (refusal_text P refusals.Memory))) b r c → WritesLine M Shows P given J a r c J
lost_said M Shows P given J a b c is first told =
    let lost : Replies M Shows P None J told.form.0 J = (told.form.2, refl) in
    record {
      text = first.text ++ told.text;
      says = (
        first.text,
        told.form.0,
        told.form.1,
        first.form,
        subst (λ (g : Given). Replies M Shows P g J told.form.0 J) (sym is) lost,
        told.form.3,
        ap (λ (t : List ℕ). first.text ++ t) told.form.4,
      );
      written = writes_then first.written told.written;
    }

module _ (M : Manner) (Shows : Showing) (P : Program) (line : List ℕ) (J : Journal) where
  -- a directive was answered
  pub directive_said : {B : Type 0} {r : Result B ServeFault} (a b : Seen) → M.is_directive line ≡ true → WritesForm M.explains a r b
      → WritesAnswer M Shows P line J a r b J
  directive_said a b own reported = record {
    reply = [];
    reported = reported.text;
    replies = rw own (refl, refl);
    explains = reported.form;
    written = reported.written;
  }

  -- a command line was answered
  pub command_said : {B : Type 0} {r : Result B ServeFault} (after : Journal) (a b : Seen) → M.is_directive line ≡ false
      → WritesReply M Shows P (M.seated line) J a r b after → WritesAnswer M Shows P line J a r b after
  command_said after a b own answer = record {
    reply = answer.reply;
    reported = answer.reported;
    replies = rw own answer.answers;
    explains = answer.explains;
    written = answer.written;
  }

-- the answer is the same, whatever else the result has
pub answer_ok : {A B : Type 0} {u : A} {v : B} (M : Manner) (Shows : Showing) (P : Program) (line : List ℕ) (J after : Journal)
    (old new : Seen)
    → WritesAnswer {A = A} M Shows P line J old (Ok u) new after → WritesAnswer {A = B} M Shows P line J old (Ok v) new after
answer_ok M Shows P line J after old new wrote = record {
  reply = wrote.reply;
  reported = wrote.reported;
  replies = wrote.replies;
  explains = wrote.explains;
  written = record { whole = wrote.written.whole; part = tt; fault = tt };
}

pub answer_err : {A B : Type 0} {e : ServeFault} {r : Result B ServeFault} (M : Manner) (Shows : Showing) (P : Program) (line : List ℕ)
    (J after : Journal)
    (old new : Seen) → WritesAnswer {A = A} M Shows P line J old (Err e) new after → IsErrAnd r (λ f. f ≡ e)
    → WritesAnswer M Shows P line J old r new after
answer_err {r = Ok v} M Shows P line J after old new wrote same = absurd same
answer_err {r = Err f} M Shows P line J after old new wrote same = record {
  reply = wrote.reply;
  reported = wrote.reported;
  replies = wrote.replies;
  explains = wrote.explains;
  written = record { whole = tt; part = wrote.written.part; fault = same ∙ wrote.written.fault };
}

-- a failure of the writer is reported
pub sink_cut : {A : Type 0} {e : ServeFault} (r : Result A ServeFault) → IsErrAnd r (λ f. f ≡ e) → e ≡ Write → sink_after r ≡ Failed
sink_cut (Ok v) same is = absurd same
sink_cut {A = A} (Err f) same is = subst (λ (g : ServeFault). sink_after {A = A} (Err g) ≡ Failed) (sym (same ∙ is)) refl

-- and not one of the reader
pub source_fine : {A : Type 0} {e : ServeFault} (r : Result A ServeFault) → IsErrAnd r (λ f. f ≡ e) → e ≡ Write → Fine ≡ source_after r
source_fine (Ok v) same is = absurd same
source_fine {A = A} (Err f) same is = subst (λ (g : ServeFault). Fine ≡ source_after {A = A} (Err g)) (sym (same ∙ is)) refl

-- a failure of the reader is not one of the writer
pub never_write : {A : Type 0} {e : ServeFault} (X : Type 0) (r : Result A ServeFault) → IsErrAnd r (λ f. f ≡ e) → e ≡ Read
    → IfErr r (λ fault. fault ≡ Write → X)
never_write X (Ok v) same is = tt
never_write X (Err f) same is = λ wrote. cc

-- what failed did not end well
pub never_ok : {A : Type 0} (P : ServeFault → Type 0) (Q : A → Type 0) (r : Result A ServeFault) → IsErrAnd r P → IfOk r Q
never_ok P Q (Ok v) is = absurd is
never_ok P Q (Err f) is = tt

-- what holds anyhow holds of this outcome
pub where_served : {A : Type 0} (X : Type 0) (r : Result A ServeFault) (end : A) → X → IfOk r (λ served. served ≡ end → X)
where_served X (Ok v) end x = λ is. x
where_served X (Err f) end x = tt
