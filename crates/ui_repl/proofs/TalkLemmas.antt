-- What an interactive session writes.
use Rattle.std.proofs.Common.{◌≡◌, ◌≢◌, ℕ, Bool, List, [], ◌++◌, Result, Ok, Err, refl, sym, subst, inl, inr}
use Rattle.std.specs.Prelude.{◌⊎◌, IfOk, IsErrAnd}
use Rattle.shell_io.specs.Seen.{Seen, Appended}
use Rattle.shell_io.proofs.AppendLemmas.{appended_none}
use Rattle.shell_io.specs.declared.health.Health.TheVariants.{Fine, Failed}
use Rattle.dbg_base.specs.Trees.{Program}
use Rattle.dbg_base.specs.Shell.{no_end_line_text, too_long_text}
use Rattle.shell_print.specs.declared.outcome.Served.{Served}
use Rattle.shell_print.specs.declared.outcome.Served.TheVariants as outcomes
use Rattle.shell_print.specs.declared.outcome.ServeFault.{ServeFault}
use Rattle.shell_print.specs.declared.outcome.ServeFault.TheVariants.{Read, Write, Memory}
use Rattle.shell_print.specs.Outcomes.{source_after, sink_after}
use Rattle.shell_print.specs.Writing.{AppendsPrefix, Writes}
use Rattle.shell_print.proofs.WriteLemmas.{stopped, writes_then}
use Rattle.shell_serve.specs.declared.framing.Next.{Next}
use Rattle.shell_serve.specs.declared.framing.Next.TheVariants.{TooLong}
use Rattle.shell_serve.specs.Sources.{Given}
use Rattle.shell_serve.specs.Sessions.{SaysAll, WritesForm, Plays}
use Rattle.ui_session.specs.Dialogues.{interactive, IsExplanation}
use Rattle.ui_session.specs.Named.{showing}
use Rattle.ui_repl.specs.Talks.{IsFaultText, IsReadAs, IsRefusal, IsSession, IsTalk, Talks}

-- nothing was written before memory ran out
pub memory_talks : (a : Seen) → Talks a (Err Memory) a
memory_talks a = appended_none a

-- no session began, and nothing was written
pub unopened_talks : (e : ServeFault) (a b : Seen) → e ≢ Write → b ≡ a → Talks a (Err e) b
unopened_talks Read a b other same = ([], inr refl, subst (λ (s : Seen). Appended a s []) (sym same) (appended_none a))
unopened_talks Write a b other same = absurd (other refl)
unopened_talks Memory a b other same = subst (λ (s : Seen). Appended a s []) (sym same) (appended_none a)

-- the output of a session of this program
session_of : (text : List ℕ) (is_model : Bool) (P : Program) → IsReadAs text is_model P → (lines : List Given) (end due : List ℕ)
    → end ≡ due → (out : List ℕ) → SaysAll interactive (showing is_model) P lines end out → IsSession due out
session_of text is_model P read lines end due is out says =
    (text, is_model, P, read, lines, subst (λ (e : List ℕ). SaysAll interactive (showing is_model) P lines e out) is says)

session_talks : {S R : Type 0} {Gives : S → R → Given → S → R → Type 0} {Stops : S → R → Result Next ServeFault → S → R → Type 0}
    {s t : S} {r u : R} {result : Result Served ServeFault} {a b : Seen} (text : List ℕ) (is_model : Bool) (P : Program)
    → IsReadAs text is_model P → Plays Gives Stops interactive (showing is_model) P s r a result t u b → Talks a result b
session_talks {result = Ok outcomes.Done} text is_model P read plays =
    (plays.writes.0, session_of text is_model P read plays.lines plays.end [] plays.ends.0 plays.writes.0 plays.writes.1, plays.writes.2)
session_talks {result = Ok outcomes.TooLong} text is_model P read plays = (
  plays.writes.0,
  inl (session_of text is_model P read plays.lines plays.end too_long_text plays.ends.0 plays.writes.0 plays.writes.1),
  plays.writes.2,
)
session_talks {result = Ok outcomes.Refused} text is_model P read plays = absurd plays.ends
session_talks {result = Err Read} text is_model P read plays = (
  plays.writes.0,
  inl (session_of text is_model P read plays.lines plays.end [] plays.ends.0 plays.writes.0 plays.writes.1),
  plays.writes.2,
)
session_talks {Stops = Stops} {t = t} {u = u} {result = Err Write} text is_model P read plays =
    (plays.writes.0, by plays.ends, plays.writes.2)
  where
    by : ((plays.end ≡ []) × ((t ≡ plays.at) × (u ≡ plays.reader))) ⊎ ((plays.end ≡ too_long_text) × Stops plays.at plays.reader (Ok TooLong) t u)
        → IsTalk (Err Write) plays.writes.0
    by (inl ends) = inl (session_of text is_model P read plays.lines plays.end [] ends.0 plays.writes.0 plays.writes.1)
    by (inr ends) = inr (inl (session_of text is_model P read plays.lines plays.end too_long_text ends.0 plays.writes.0 plays.writes.1))
session_talks {result = Err Memory} text is_model P read plays = plays.writes

-- the same, of which it is known whether the program is in the notation
pub model_talks : {S R : Type 0} {Gives : S → R → Given → S → R → Type 0} {Stops : S → R → Result Next ServeFault → S → R → Type 0}
    {s t : S} {r u : R} {result : Result Served ServeFault} {a b : Seen} (text : List ℕ) (is_model own : Bool) (P : Program)
    → IsReadAs text is_model P → own ≡ is_model → Plays Gives Stops interactive (showing own) P s r a result t u b → Talks a result b
model_talks text is_model own P read same plays =
    session_talks text own P (subst (λ (m : Bool). IsReadAs text m P) (sym same) read) plays

-- the report that a program text is too long
pub too_long_talks : {r : Result Served ServeFault} {a b : Seen} → Writes a b r too_long_text → IfOk r (λ served. served ≡ outcomes.TooLong)
    → Talks a r b × (source_after r ≡ Fine)
too_long_talks {r = Ok v} {a = a} {b = b} wrote is =
    (subst (λ (s : Served). Talks a (Ok s) b) (sym is) (too_long_text, inr refl, wrote.whole), refl)
too_long_talks {r = Err f} {a = a} {b = b} wrote is =
    subst (λ (f : ServeFault). Talks a (Err f) b × (source_after {A = Served} (Err f) ≡ Fine)) (sym wrote.fault)
    ((too_long_text, inr (inr (inl refl)), wrote.part), refl)

-- a refusal
pub refusal_talks : {r : Result Served ServeFault} {a b : Seen} → WritesForm IsRefusal a r b → IfOk r (λ served. served ≡ outcomes.Refused)
    → Talks a r b
refusal_talks {r = Ok v} {a = a} {b = b} wrote is =
    subst (λ (s : Served). Talks a (Ok s) b) (sym is) (wrote.text, wrote.form, wrote.written.whole)
refusal_talks {r = Err f} {a = a} {b = b} wrote is =
    subst (λ (f : ServeFault). Talks a (Err f) b) (sym wrote.written.fault) (wrote.text, inr (inr (inr wrote.form)), wrote.written.part)

-- a refusal was reported, and then it was explained
pub refusal_explained : {A B : Type 0} {u : A} {r : Result B ServeFault} {a b c : Seen} (due : List ℕ) → IsFaultText due
    → Writes {A = A} a b (Ok u) due → WritesForm {A = B} IsExplanation b r c → WritesForm IsRefusal a r c
refusal_explained due is wrote explained = record {
  text = due ++ explained.text;
  form = (due, explained.text, is, explained.form, refl);
  written = writes_then wrote explained.written;
}

-- or it was not written in full
pub refusal_stopped : {A B : Type 0} {e : ServeFault} {r : Result B ServeFault} {a b : Seen} (due : List ℕ) → IsFaultText due
    → Writes {A = A} a b (Err e) due → IsErrAnd r (λ f. f ≡ e) → WritesForm IsRefusal a r b
refusal_stopped due is wrote same = record {
  text = due ++ [];
  form = (due, [], is, ([], tt, refl), refl);
  written = stopped [] wrote same;
}

-- or its style was not set, and nothing was written
pub refusal_unmarked : {A B : Type 0} {e : ServeFault} {r : Result B ServeFault} {a b : Seen} → Writes {A = A} a b (Err e) []
    → IsErrAnd r (λ f. f ≡ e) → WritesForm IsRefusal a r b
refusal_unmarked wrote same = record {
  text = no_end_line_text ++ [];
  form = (no_end_line_text, [], inl refl, ([], tt, refl), refl);
  written = stopped (no_end_line_text ++ []) wrote same;
}

-- a call with `?` ended with a fault
pub fault_talks : {r : Result Served ServeFault} (e : ServeFault) {a b : Seen} → WritesForm IsRefusal a r b → IsErrAnd r (λ f. f ≡ e)
    → Talks a r b
fault_talks {r = Ok v} e wrote same = absurd same
fault_talks {r = Err f} e wrote same = refusal_talks {r = Err f} wrote tt

-- What was written says whether the writer failed.
cut_fails : {a b : Seen} {text : List ℕ} → AppendsPrefix a b text → a.health ≡ Fine → b.health ≡ Failed
cut_fails cut fine = cut.3.failed fine

pub talks_report : (a b : Seen) (r : Result Served ServeFault) → Talks a r b → a.health ≡ Fine → b.health ≡ sink_after r
talks_report a b (Ok served) talks fine = talks.2.fine fine
talks_report a b (Err Read) talks fine = talks.2.fine fine
talks_report a b (Err Write) talks fine = cut_fails talks.2 fine
talks_report a b (Err Memory) talks fine = talks.fine fine
