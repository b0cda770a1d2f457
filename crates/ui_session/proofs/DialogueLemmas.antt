-- The output of an interactive session besides the replies.
use Rattle.std.proofs.Common.{◌≡◌, ℕ, Bool, true, false, List, [], ◌∷◌, ◌++◌, refl, sym, ap, ◌∙◌, inl, inr}
use Rattle.std.specs.Prelude.{Some, None, Result, Ok, Err, IsErrAnd}
use Rattle.std.specs.List.{AllByRecursion}
use Rattle.std.proofs.lemmas.List.{append-nil}
use Rattle.std.proofs.lemmas.List.Concat.{flat_map-append}
use Rattle.shell_io.specs.Seen.{Seen, Appended}
use Rattle.shell_io.proofs.AppendLemmas.{appended_none, appended_then}
use Rattle.dbg_base.specs.Shell.{as_line}
use Rattle.shell_print.specs.declared.outcome.ServeFault.{ServeFault}
use Rattle.shell_print.specs.Writing.{Writes}
use Rattle.shell_print.proofs.WriteLemmas.{prefix_then, stopped, writes_then}
use Rattle.shell_serve.specs.Spans.{is_unended}
use Rattle.shell_serve.specs.Sources.{Given}
use Rattle.shell_serve.specs.Sessions.{MayBeQuiet, WritesForm}
use Rattle.ui_session.specs.Named.{showing}
use Rattle.ui_session.specs.Dialogues.{explanation_line, explanation_text, IsExplanation, IsEcho, IsEchoOf, IsGap, interactive}

-- nothing is explained
none_explained : IsExplanation []
none_explained = ([], tt, refl)

quiet_before : (line : Given) → IsEchoOf line []
quiet_before None = ([], inl refl)
quiet_before (Some line) = inl refl

-- the line of a run may be shown
shows_due : (is_model : Bool) (due : List ℕ) → showing is_model due due
shows_due true due = inl refl
shows_due false due = refl

-- the replies may be the only output
pub quiet : (is_model : Bool) → MayBeQuiet interactive (showing is_model)
quiet is_model = record { before = quiet_before; explains = none_explained; shows = shows_due is_model }

-- the echo of a line for which memory ran out
pub lost_echo : {A : Type 0} {r : Result A ServeFault} {a b : Seen} (line : List ℕ) → WritesForm (IsEcho line) a r b
    → WritesForm (IsEchoOf None) a r b
lost_echo line wrote = record { text = wrote.text; form = (line, wrote.form); written = wrote.written }

all_more : (lines : List (List ℕ)) (line : List ℕ) → AllByRecursion (λ l. is_unended l ≡ true) lines → is_unended line ≡ true
    → AllByRecursion (λ l. is_unended l ≡ true) (lines ++ line ∷ [])
all_more [] line all one = (one, tt)
all_more (x ∷ lines) line all one = (all.0, all_more lines line all.1 one)

-- one more line
one_more : (text line : List ℕ) → IsExplanation text → is_unended line ≡ true → IsExplanation (text ++ explanation_line line)
one_more text line h one =
    let lines = h.0 in
    let same : text ++ explanation_line line ≡ explanation_text (lines ++ line ∷ []) =
    ap (λ (t : List ℕ). t ++ explanation_line line) h.2
    ∙ sym (flat_map-append explanation_line lines (line ∷ [])
    ∙ ap (λ (t : List ℕ). explanation_text lines ++ t) (append-nil (explanation_line line))) in
    (lines ++ line ∷ [], all_more lines line h.1 one, same)

-- some lines of an explanation were written
abbrev pub Explains : Seen → Seen → Type 0
Explains old new = (text : List ℕ) × IsExplanation text × Appended old new text

pub explains_none : (a : Seen) → Explains a a
explains_none a = ([], none_explained, appended_none a)

pub explains_more : {A : Type 0} {u : A} (a b c : Seen) (line : List ℕ) → Explains a b → is_unended line ≡ true
    → Writes {A = A} b c (Ok u) (explanation_line line) → Explains a c
explains_more a b c line h one wrote =
    (h.0 ++ explanation_line line, one_more h.0 line h.1 one, appended_then a b c h.0 (explanation_line line) h.2 wrote.whole)

pub explains_ends : {A : Type 0} {u : A} (a b : Seen) → Explains a b → WritesForm {A = A} IsExplanation a (Ok u) b
explains_ends a b h = record { text = h.0; form = h.1; written = record { whole = h.2; part = tt; fault = tt } }

pub explains_stops : {A B : Type 0} {e : ServeFault} {r : Result B ServeFault} (a b c : Seen) (line : List ℕ) → Explains a b
    → is_unended line ≡ true → Writes {A = A} b c (Err e) (explanation_line line) → IsErrAnd r (λ f. f ≡ e)
    → WritesForm IsExplanation a r c
explains_stops {r = Ok v} a b c line h one wrote same = absurd same
explains_stops {r = Err f} a b c line h one wrote same = record {
  text = h.0 ++ explanation_line line;
  form = one_more h.0 line h.1 one;
  written = record { whole = tt; part = prefix_then a b c h.0 (explanation_line line) h.2 wrote.part; fault = same ∙ wrote.fault };
}

-- no echo, or the line
pub no_echo : {A : Type 0} {u : A} (line : List ℕ) (a : Seen) → WritesForm {A = A} (IsEcho line) a (Ok u) a
no_echo line a = record { text = []; form = inl refl; written = record { whole = appended_none a; part = tt; fault = tt } }

pub echoed : {A B C : Type 0} {u : A} {v : B} {r : Result C ServeFault} (line gap : List ℕ) (a b c d : Seen) → IsGap gap
    → Writes {A = A} a b (Ok u) gap → Writes {A = B} b c (Ok v) line → Writes c d r (10 ∷ []) → WritesForm (IsEcho line) a r d
echoed line gap a b c d is h k l =
    record { text = gap ++ as_line line; form = inr (gap, is, refl); written = writes_then h (writes_then k l) }

-- the gap was not written
pub gap_stops : {A B : Type 0} {e : ServeFault} {r : Result B ServeFault} (line gap : List ℕ) (a b : Seen) → IsGap gap
    → Writes {A = A} a b (Err e) gap → IsErrAnd r (λ f. f ≡ e) → WritesForm (IsEcho line) a r b
gap_stops line gap a b is h same =
    record { text = gap ++ as_line line; form = inr (gap, is, refl); written = stopped (as_line line) h same }

-- the gap was written, and the line was not
pub echo_stops : {A B C : Type 0} {u : A} {e : ServeFault} {r : Result C ServeFault} (line gap : List ℕ) (a b c : Seen) → IsGap gap
    → Writes {A = A} a b (Ok u) gap → Writes {A = B} b c (Err e) line → IsErrAnd r (λ f. f ≡ e) → WritesForm (IsEcho line) a r c
echo_stops line gap a b c is h k same =
    record { text = gap ++ as_line line; form = inr (gap, is, refl); written = writes_then h (stopped (10 ∷ []) k same) }
