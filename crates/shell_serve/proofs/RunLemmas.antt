-- A run is a session in which the output for each line is its reply alone, no line ends the session, and an input gives the lines.
use Rattle.std.proofs.Common.{◌≡◌, ◌≢◌, ◌≤◌, ℕ, Bool, true, false, List, [], ◌∷◌, ◌++◌, length, drop, Option, Some, None, Result, Ok, Err}
use Rattle.std.proofs.Common.{refl, sym, ap, ◌∙◌, subst, inl, inr, append_assoc, arith}
use Rattle.std.specs.Prelude.{IfOk, IfErr, map, if◌then◌else◌, ◌⊎◌}
use Rattle.std.specs.List.{list_any}
use Rattle.std.proofs.lemmas.List.{append-nil}
use Rattle.shell_io.specs.Seen.{Seen, Appended}
use Rattle.dbg_base.specs.Trees.{Program}
use Rattle.dbg_base.specs.Journals.{Journal, IsLegal}
use Rattle.dbg_base.specs.Shell.{lines_of, is_too_long, end_text, too_long_text, AnswersLine, AnswersLines, AnswersAll}
use Rattle.shell_print.specs.declared.outcome.Served.{Served}
use Rattle.shell_print.specs.declared.outcome.Served.TheVariants as outcomes
use Rattle.shell_print.specs.declared.outcome.ServeFault.{ServeFault}
use Rattle.shell_print.specs.declared.outcome.ServeFault.TheVariants.{Memory, Read, Write}
use Rattle.shell_print.specs.Writing.{AppendsPrefix}
use Rattle.shell_print.proofs.WriteLemmas.{prefix_longer}
use Rattle.shell_serve.specs.declared.framing.Input.{Input}
use Rattle.shell_serve.specs.declared.framing.Next.{Next}
use Rattle.shell_serve.specs.declared.framing.Next.TheVariants.{End, TooLong}
use Rattle.shell_serve.specs.Spans.{lines_from, MayBe, EndsWith, ReadsOn, IsUnderWay}
use Rattle.shell_serve.specs.Written.{WritesSome, WritesPrefix}
use Rattle.shell_serve.proofs.ReadStepLemmas.{reads_then}
use Rattle.shell_serve.proofs.UnfinishedInputLemmas.{goes_on, none_left}
use Rattle.shell_serve.specs.Sources.{Given, GivesAll}
use Rattle.shell_serve.specs.InputSteps.{InputGives, InputStops, NoneLeft}
use Rattle.shell_serve.specs.Sessions.{exactly, Says, SaysLines, SaysAll, LastEnds, ends_session, Plays}
use Rattle.shell_serve.specs.Serving.{end_of}
use Rattle.shell_serve.specs.Plain.{plain}
use Rattle.shell_serve.proofs.AnswerStepLemmas.{some_line, line_legal}
use Rattle.shell_serve.proofs.InputSourceLemmas.{Gave, all_gave}

-- the output for a line is its reply alone
alone : (first reply reported out : List ℕ) → first ≡ [] → reported ≡ [] → out ≡ first ++ (reply ++ reported) → out ≡ reply
alone first reply reported out none nothing is =
    is ∙ ap (λ (t : List ℕ). t ++ (reply ++ reported)) none ∙ ap (λ (t : List ℕ). reply ++ t) nothing ∙ append-nil reply

says_reply : (P : Program) (line : List ℕ) (J : Journal) (out : List ℕ) (J' : Journal) → Says plain exactly P (Some line) J out J'
    → AnswersLine P line J out J'
says_reply P line J out J' says =
    subst (λ (t : List ℕ). AnswersLine P line J t J') (sym (alone says.0 says.1 says.2 out says.3 says.5 says.6 ∙ says.4.2)) says.4.1

says_replies : (P : Program) (lines : List (List ℕ)) (J : Journal) (out : List ℕ) (J' : Journal)
    → SaysLines plain exactly P (map Some lines) J out J' → AnswersLines P lines J out J'
says_replies P [] J out J' says = says
says_replies P (line ∷ lines) J out J' says =
    (says.0, says.1, says.2, says_reply P line J says.0 says.2 says.3, says_replies P lines says.2 says.1 J' says.4, says.5)

-- the answers to some lines, and to further ones
answers_then : (P : Program) (lines others : List (List ℕ)) (J : Journal) (out : List ℕ) (K : Journal) (more : List ℕ) (L : Journal)
    → AnswersLines P lines J out K → AnswersLines P others K more L → AnswersLines P (lines ++ others) J (out ++ more) L
answers_then P [] others J out K more L answers further =
    subst (λ (t : List ℕ). AnswersLines P others J t L) (sym (ap (λ (t : List ℕ). t ++ more) answers.0))
    (subst (λ (j : Journal). AnswersLines P others j more L) answers.1 further)
answers_then P (line ∷ lines) others J out K more L answers further = (
  answers.0,
  answers.1 ++ more,
  answers.2,
  answers.3,
  answers_then P lines others answers.2 answers.1 K more L answers.4 further,
  ap (λ (t : List ℕ). t ++ more) answers.5 ∙ append_assoc answers.0 answers.1 more,
)

-- further lines have answers
some_left : (P : Program) (lines : List (List ℕ)) (J : Journal) → IsLegal P J → (out : List ℕ) × AnswersLines P lines J out J
some_left P [] J legal = ([], (refl, refl))
some_left P (line ∷ lines) J legal =
    let first = some_line P line J legal in
    let others = some_left P lines J legal in
    (first.0 ++ others.0, (first.0, others.0, J, first.1, others.1, refl))

-- no line ends a run
never_last : (lines : List Given) → LastEnds plain lines → ⊥
never_last lines last = by last.1 last.4
  where
    by : (line : Given) → ends_session plain line ≡ true → ⊥
    by None is = cc
    by (Some line) is = cc

-- the replies to these lines, and what is due at the end of the input
abbrev pub RunText : Program → List (List ℕ) → List ℕ → List ℕ → Type 0
RunText P lines input out = (replies : List ℕ) × AnswersAll P lines replies × (out ≡ replies ++ end_text input)

-- the lines from a position on were answered, for any input
abbrev pub RunsOn : Program → List ℕ → Bool → ℕ → Served → Seen → Seen → Type 0
RunsOn P bytes ended from served old new =
    (input : List ℕ) → MayBe bytes ended input → (served ≡ end_of input) × WritesSome old new (RunText P (lines_from from input) input)

-- the writer failed, for any input
abbrev pub StopsOn : Program → List ℕ → Bool → ℕ → Seen → Seen → Type 0
StopsOn P bytes ended from old new =
    (input : List ℕ) → MayBe bytes ended input → WritesPrefix old new (RunText P (lines_from from input) input)

-- the reader failed, and the whole lines from a position on were answered
pub record BreaksOn (P : Program) (bytes : List ℕ) (ended : Bool) (from : ℕ) (old new : Seen) : Type 0 where
  pub at : ℕ
  pub begun : from ≤ at
  pub under_way : IsUnderWay bytes ended at
  pub wrote : WritesSome old new (AnswersAll P (lines_of (drop from bytes)).whole)

-- The lines that an input gave from a position on were answered, or those up to a failure.
pub record RunsLines {R : Type 0} (remaining : R → Option (List ℕ)) (P : Program) (s : Input) (r : R) (old : Seen)
    (result : Result Served ServeFault) (t : Input) (u : R) (new : Seen) : Type 0 where
  pub reads : ReadsOn s.bytes.items s.ended (remaining r) t.bytes.items t.ended (remaining u)
  pub served : IfOk result (λ served. RunsOn P t.bytes.items t.ended s.at served old new)
  pub stopped : IfErr result (λ fault. fault ≡ Write → StopsOn P t.bytes.items t.ended s.at old new)
  pub broken : IfErr result (λ fault. fault ≡ Read → BreaksOn P t.bytes.items t.ended s.at old new)
  pub memory : IfErr result (λ fault. fault ≡ Memory → Appended old new [])
  pub untouched : IfErr result (λ fault. fault ≡ Memory → (t ≡ s) × (u ≡ r))
  pub accepted : IfOk result (λ served. served ≢ outcomes.Refused)

module _ {R : Type 0} (remaining : R → Option (List ℕ)) (P : Program) (s : Input) (r : R) (ends : EndsWith s.ended (remaining r)) where
  -- a text for these lines
  module _ (given : List Given) (at : Input) (reader : R) (gives : GivesAll (InputGives remaining) s r given at reader)
      (out end : List ℕ) (says : SaysAll plain exactly P given end out) where
    gave : Gave remaining s r given at reader
    gave = all_gave remaining given s r at reader ends gives

    answers : AnswersLines P gave.lines [] says.0 says.1
    answers =
        says_replies P gave.lines [] says.0 says.1
        (subst (λ (lines : List Given). SaysLines plain exactly P lines [] says.0 says.1) gave.is says.2)

    -- no line is left
    module _ (t : Input) (u : R) (long : Bool) (reads : ReadsOn at.bytes.items at.ended (remaining reader) t.bytes.items t.ended (remaining u))
        (none : NoneLeft t at.at long) where
      all_lines : (input : List ℕ) → MayBe t.bytes.items t.ended input → lines_from s.at input ≡ gave.lines
      all_lines input may =
          gave.left input (reads.narrows input may) ∙ ap (λ (ls : List (List ℕ)). gave.lines ++ ls) (none input may).0
          ∙ append-nil gave.lines

      run_text : (input : List ℕ) → MayBe t.bytes.items t.ended input → end ≡ end_text input → RunText P (lines_from s.at input) input out
      run_text input may due = (
        says.0,
        subst (λ (lines : List (List ℕ)). AnswersAll P lines says.0) (sym (all_lines input may)) (says.1, answers, says.3),
        says.4 ∙ ap (λ (t : List ℕ). says.0 ++ t) due,
      )

    -- some lines may be left
    text_left : (input : List ℕ) → MayBe at.bytes.items at.ended input → end ≡ [] → (more : List ℕ) × RunText P (lines_from s.at input) input (out ++ more)
    text_left input may none =
        let left = some_left P (lines_from at.at input) says.1 says.3 in
        let all : AnswersLines P (gave.lines ++ lines_from at.at input) [] (says.0 ++ left.0) says.1 =
        answers_then P gave.lines (lines_from at.at input) [] says.0 says.1 left.0 says.1 answers left.1 in
        let is : out ≡ says.0 = says.4 ∙ ap (λ (t : List ℕ). says.0 ++ t) none ∙ append-nil says.0 in (
          left.0 ++ end_text input,
          (
            says.0 ++ left.0,
            subst (λ (lines : List (List ℕ)). AnswersAll P lines (says.0 ++ left.0)) (sym (gave.left input may)) (says.1, all, says.3),
            ap (λ (t : List ℕ). t ++ (left.0 ++ end_text input)) is ∙ sym (append_assoc says.0 left.0 (end_text input)),
          ),
        )

    -- the whole lines among the bytes
    whole_text : (t : Input) (u : R) → ReadsOn at.bytes.items at.ended (remaining reader) t.bytes.items t.ended (remaining u)
        → IsUnderWay t.bytes.items t.ended at.at → end ≡ [] → AnswersAll P (lines_of (drop s.at t.bytes.items)).whole out
    whole_text t u reads way none =
        let on = goes_on t.bytes.items t.ended at.at way in
        let held : at.at ≤ length t.bytes.items = way.begun in
        let begun : s.at ≤ at.at = gave.begun in
        let whole : (lines_of (drop s.at t.bytes.items)).whole ≡ gave.lines =
        sym (on.whole s.at (omega arith)) ∙ gave.left on.input (reads.narrows on.input on.may)
        ∙ ap (λ (ls : List (List ℕ)). gave.lines ++ ls) (none_left t.bytes.items t.ended at.at way) ∙ append-nil gave.lines in
        let is : out ≡ says.0 = says.4 ∙ ap (λ (t : List ℕ). says.0 ++ t) none ∙ append-nil says.0 in
        subst (λ (text : List ℕ). AnswersAll P (lines_of (drop s.at t.bytes.items)).whole text) (sym is)
        (subst (λ (lines : List (List ℕ)). AnswersAll P lines says.0) (sym whole) (says.1, answers, says.3))

  abbrev PlaysRun : Seen → Result Served ServeFault → Input → R → Seen → Type 0
  PlaysRun old result t u new = Plays (InputGives remaining) (InputStops remaining) plain exactly P s r old result t u new

  abbrev Runs : Seen → Result Served ServeFault → Input → R → Seen → Type 0
  Runs old result t u new = RunsLines remaining P s r old result t u new

  reads_to : (given : List Given) (at : Input) (reader : R) (t : Input) (u : R) → GivesAll (InputGives remaining) s r given at reader
      → ReadsOn at.bytes.items at.ended (remaining reader) t.bytes.items t.ended (remaining u)
      → ReadsOn s.bytes.items s.ended (remaining r) t.bytes.items t.ended (remaining u)
  reads_to given at reader t u gives reads = reads_then (all_gave remaining given s r at reader ends gives).reads reads

  reads_same : (given : List Given) (at : Input) (reader : R) (t : Input) (u : R) → GivesAll (InputGives remaining) s r given at reader
      → (t ≡ at) × (u ≡ reader) → ReadsOn s.bytes.items s.ended (remaining r) t.bytes.items t.ended (remaining u)
  reads_same given at reader t u gives same =
      subst (λ (v : R). ReadsOn s.bytes.items s.ended (remaining r) t.bytes.items t.ended (remaining v)) (sym same.1)
      (subst (λ (i : Input). ReadsOn s.bytes.items s.ended (remaining r) i.bytes.items i.ended (remaining reader)) (sym same.0)
      (all_gave remaining given s r at reader ends gives).reads)

  run_done : (old : Seen) (t : Input) (u : R) (new : Seen) → PlaysRun old (Ok outcomes.Done) t u new → Runs old (Ok outcomes.Done) t u new
  run_done old t u new plays = by plays.ends.1
    where
      by : ((t ≡ plays.at) × (u ≡ plays.reader)) × LastEnds plain plays.lines
          ⊎ InputStops remaining plays.at plays.reader (Ok End) t u × (list_any (ends_session plain) plays.lines ≡ false)
          → Runs old (Ok outcomes.Done) t u new
      by (inl last) = absurd (never_last plays.lines last.1)
      by (inr stops) = record {
        reads = reads_to plays.lines plays.at plays.reader t u plays.gives stops.0.reads;
        served = λ input may.
            let no : is_too_long input ≡ false = (stops.0.why input may).1 in (
              rw no refl,
              (
                plays.writes.0,
                run_text plays.lines plays.at plays.reader plays.gives plays.writes.0 plays.end plays.writes.1 t u false stops.0.reads
                    stops.0.why input may (plays.ends.0 ∙ rw no refl),
                plays.writes.2,
              ),
            );
        stopped = tt;
        broken = tt;
        memory = tt;
        untouched = tt;
        accepted = λ same. cc;
      }

  run_too_long : (old : Seen) (t : Input) (u : R) (new : Seen) → PlaysRun old (Ok outcomes.TooLong) t u new
      → Runs old (Ok outcomes.TooLong) t u new
  run_too_long old t u new plays =
      let stops : InputStops remaining plays.at plays.reader (Ok TooLong) t u = plays.ends.1 in
      record {
        reads = reads_to plays.lines plays.at plays.reader t u plays.gives stops.reads;
        served = λ input may.
            let long : is_too_long input ≡ true = (stops.why input may).1 in (
              rw long refl,
              (
                plays.writes.0,
                run_text plays.lines plays.at plays.reader plays.gives plays.writes.0 plays.end plays.writes.1 t u true stops.reads stops.why
                    input may (plays.ends.0 ∙ rw long refl),
                plays.writes.2,
              ),
            );
        stopped = tt;
        broken = tt;
        memory = tt;
        untouched = tt;
        accepted = λ same. cc;
      }

  run_broken : (old : Seen) (t : Input) (u : R) (new : Seen) → PlaysRun old (Err Read) t u new → Runs old (Err Read) t u new
  run_broken old t u new plays =
      let stops : InputStops remaining plays.at plays.reader (Err Read) t u = plays.ends.1 in
      record {
        reads = reads_to plays.lines plays.at plays.reader t u plays.gives stops.reads;
        served = tt;
        stopped = λ is. absurd cc;
        broken = λ is. record {
          at = plays.at.at;
          begun = (all_gave remaining plays.lines s r plays.at plays.reader ends plays.gives).begun;
          under_way = stops.why;
          wrote = (
            plays.writes.0,
            whole_text plays.lines plays.at plays.reader plays.gives plays.writes.0 plays.end plays.writes.1 t u stops.reads stops.why plays.ends.0,
            plays.writes.2,
          );
        };
        memory = λ is. absurd cc;
        untouched = λ is. absurd cc;
        accepted = tt;
      }

  run_stopped : (old : Seen) (t : Input) (u : R) (new : Seen) → PlaysRun old (Err Write) t u new → Runs old (Err Write) t u new
  run_stopped old t u new plays = by plays.ends
    where
      by : (plays.end ≡ []) × ((t ≡ plays.at) × (u ≡ plays.reader))
          ⊎ (plays.end ≡ too_long_text) × InputStops remaining plays.at plays.reader (Ok TooLong) t u → Runs old (Err Write) t u new
      by (inl same) = record {
        reads = reads_same plays.lines plays.at plays.reader t u plays.gives same.1;
        served = tt;
        stopped = λ is input may.
            let left =
            text_left plays.lines plays.at plays.reader plays.gives plays.writes.0 plays.end plays.writes.1 input
            (subst (λ (i : Input). MayBe i.bytes.items i.ended input) same.1.0 may) same.0 in
            (plays.writes.0 ++ left.0, left.1, prefix_longer old new plays.writes.0 left.0 plays.writes.2);
        broken = λ is. absurd cc;
        memory = λ is. absurd cc;
        untouched = λ is. absurd cc;
        accepted = tt;
      }
      by (inr long) = record {
        reads = reads_to plays.lines plays.at plays.reader t u plays.gives long.1.reads;
        served = tt;
        stopped = λ is input may.
            let test : is_too_long input ≡ true = (long.1.why input may).1 in (
              plays.writes.0,
              run_text plays.lines plays.at plays.reader plays.gives plays.writes.0 plays.end plays.writes.1 t u true long.1.reads long.1.why
                  input may (long.0 ∙ rw test refl),
              plays.writes.2,
            );
        broken = λ is. absurd cc;
        memory = λ is. absurd cc;
        untouched = λ is. absurd cc;
        accepted = tt;
      }

  run_unopened : (old : Seen) (t : Input) (u : R) (new : Seen) → PlaysRun old (Err Memory) t u new → Runs old (Err Memory) t u new
  run_unopened old t u new plays =
      let none : GivesAll (InputGives remaining) s r [] plays.at plays.reader =
      subst (λ (lines : List Given). GivesAll (InputGives remaining) s r lines plays.at plays.reader) plays.ends.1 plays.gives in
      record {
        reads = reads_same plays.lines plays.at plays.reader t u plays.gives plays.ends.2;
        served = tt;
        stopped = λ is. absurd cc;
        broken = λ is. absurd cc;
        memory = λ is. plays.writes;
        untouched = λ is. (plays.ends.2.0 ∙ none.0, plays.ends.2.1 ∙ none.1);
        accepted = tt;
      }

  -- what a session of an input does is what a run does
  pub run_lines : (old : Seen) (result : Result Served ServeFault) (t : Input) (u : R) (new : Seen) → PlaysRun old result t u new
      → Runs old result t u new
  run_lines old (Ok outcomes.Done) t u new plays = run_done old t u new plays
  run_lines old (Ok outcomes.TooLong) t u new plays = run_too_long old t u new plays
  run_lines old (Ok outcomes.Refused) t u new plays = absurd plays.ends
  run_lines old (Err Read) t u new plays = run_broken old t u new plays
  run_lines old (Err Write) t u new plays = run_stopped old t u new plays
  run_lines old (Err Memory) t u new plays = run_unopened old t u new plays

-- what holds of the reader holds of it also if memory ran out
pub untouched_then : {S R : Type 0} (s t : S) (r u : R) (X : R → Type 0) (result : Result Served ServeFault)
    → IfErr result (λ fault. fault ≡ Memory → (t ≡ s) × (u ≡ r)) → X r → IfErr result (λ fault. fault ≡ Memory → X u)
untouched_then s t r u X (Ok served) same x = tt
untouched_then s t r u X (Err fault) same x = λ is. subst X (sym (same is).1) x

-- a result that is no refusal
pub never_refused : (X : Type 0) (result : Result Served ServeFault) → IfOk result (λ served. served ≢ outcomes.Refused)
    → IfOk result (λ served. served ≡ outcomes.Refused → X)
never_refused X (Ok served) other = λ is. absurd (other is)
never_refused X (Err fault) other = tt
