-- The output of a run over the input.
use Rattle.std.proofs.Common.{◌≡◌, ℕ, ◌≤◌, Bool, true, false, List, [], length, take, drop, Option, Some, None, refl, sym}
use Rattle.std.proofs.Common.{ap, ◌∙◌, subst, inl, inr, arith, ◌++◌}
use Rattle.std.specs.Prelude.{slice_range, IfSome, IfOk, IfErr, Result, Ok, Err, ◌+◌, if◌then◌else◌}
use Rattle.shell_io.specs.Seen.{Seen}
use Rattle.shell_io.proofs.AppendLemmas.{appended_none}
use Rattle.dbg_base.specs.declared.limits.TheConstants.{INPUT_BYTES}
use Rattle.dbg_base.specs.declared.fault.ProgFault.{ProgFault}
use Rattle.dbg_base.specs.Trees.{Program}
use Rattle.dbg_base.specs.Checks.{Reads, IsFault}
use Rattle.dbg_base.specs.Shell.{Parts, lines_of, parts_of, is_too_long, fault_text, too_long_text, no_end_line_text, no_end_text}
use Rattle.dbg_base.specs.Shell.{AnswersAll, AnswersParts, TextOfParts}
use Rattle.shell_serve.specs.declared.framing.Span.{Span}
use Rattle.shell_print.specs.declared.outcome.Served.{Served}
use Rattle.shell_print.specs.declared.outcome.ServeFault.{ServeFault}
use Rattle.shell_print.specs.declared.outcome.ServeFault.TheVariants.{Read, Write}
use Rattle.shell_print.specs.declared.outcome.Served.TheVariants as outcomes
use Rattle.shell_serve.specs.declared.program_text.TextEnd.{TextEnd}
use Rattle.shell_serve.specs.declared.program_text.TextEnd.TheVariants as ends
use Rattle.shell_serve.specs.Spans.{lines_from, KeepsInput, MayBe, Narrows}
use Rattle.shell_serve.specs.Serving.{EndsParts, ServesInput, BreaksInput, end_of}
use Rattle.shell_serve.proofs.RunLemmas.{RunsOn, StopsOn, BreaksOn}
use Rattle.shell_serve.specs.ProgramTexts.{Splits, SplitsAny, ReadsFew, ReadsText, ReadsProgram}
use Rattle.shell_serve.proofs.ProgramTextLemmas.{all_from_start, text_from_start, split_here, nothing_read}
use Rattle.shell_serve.proofs.UnfinishedInputLemmas.{goes_on}
use Rattle.shell_serve.proofs.KnownInputLemmas.{Done, Cut, DoneKnown, CutKnown, done_known, cut_known, whole_is}

-- it has this form if the reader failed
abbrev pub BreaksKnown : Option (List ℕ) → Option (List ℕ) → Result Served ServeFault → Seen → Seen → Type 0
BreaksKnown known left r old out = IfErr r (λ fault. fault ≡ Read → IfSome known (λ input. BreaksInput input left old out))

-- if the parts of the input are known
by_parts : (input : List ℕ) (parts : Option Parts) (served : Served) (out : List ℕ) → parts_of (lines_from 0 input) ≡ parts
    → EndsParts input parts served × TextOfParts input parts out → ServesInput input served out
by_parts input parts served out is says =
    subst (λ (o : Option Parts). EndsParts input o served × TextOfParts input o out) (sym (all_from_start input ∙ is)) says

module _ (bytes : List ℕ) (ended : Bool) (begin new : ℕ) (end : TextEnd) (begun : begin ≡ 0) (splits : SplitsAny bytes ended begin new end)
  where
    here : (at : TextEnd) → end ≡ at → (input : List ℕ) → MayBe bytes ended input → Splits input bytes 0 new at
    here at is = split_here bytes ended begin new end begun splits at is

    -- a program was read, and the lines after it were answered
    module _ (P : Program) (text : List ℕ) (span : Span) (is : end ≡ ends.Before span)
        (seen : span.from ≤ length bytes → text ≡ take span.from bytes)
        (reads : Reads text P) (more : List ℕ) (over : Bool) (narrows : Narrows bytes ended more over) where
      program_here : (input : List ℕ) → MayBe more over input → Splits input bytes 0 new (ends.Before span)
      program_here input may = here (ends.Before span) is input (narrows input may)

      program_is : (input : List ℕ) → MayBe more over input → Reads (slice_range bytes 0 span.from) P
      program_is input may =
          let split = program_here input may in
          subst (λ (t : List ℕ). Reads t P) (text_from_start bytes text span.from (seen split.1)) reads

      pub says_program : (known : Option (List ℕ)) (r : Result Served ServeFault) (old out : Seen)
          → IfSome known (MayBe more over)
          → IfOk r (λ served. RunsOn P more over new served old out) → DoneKnown ServesInput known r old out
      says_program known r old out may wrote = done_known more over ServesInput known r old out may (said_by r wrote)
        where
          said_by : (r : Result Served ServeFault) → IfOk r (λ served. RunsOn P more over new served old out)
              → (input : List ℕ) → MayBe more over input → Done (ServesInput input) r old out
          said_by (Err fault) wrote input may = tt
          said_by (Ok served) wrote input may =
              let split = program_here input may in
              let program = program_is input may in
              let reported = wrote input may in
              let text = reported.1.1 in (
                reported.1.0,
                by_parts input _ served reported.1.0 split.0 (inl (P, program, reported.0), inl (P, program, text.0, text.1, text.2)),
                reported.1.2,
              )

      pub stops_program : (known : Option (List ℕ)) (r : Result Served ServeFault) (old out : Seen)
          → IfSome known (MayBe more over)
          → IfErr r (λ fault. fault ≡ Write → StopsOn P more over new old out) → CutKnown ServesInput known r old out
      stops_program known r old out may wrote = cut_known more over ServesInput known r old out may (stopped_by r wrote)
        where
          stopped_by : (r : Result Served ServeFault) → IfErr r (λ fault. fault ≡ Write → StopsOn P more over new old out)
              → (input : List ℕ) → MayBe more over input → Cut (ServesInput input) r old out
          stopped_by (Ok served) wrote input may = tt
          stopped_by (Err fault) wrote input may = λ is_write.
              let split = program_here input may in
              let program = program_is input may in
              let reported = wrote is_write input may in
              let text = reported.1 in (
                end_of input,
                (
                  reported.0,
                  by_parts input _ (end_of input) reported.0 split.0 (inl (P, program, refl), inl (P, program, text.0, text.1, text.2)),
                  reported.2,
                ),
              )

      -- the answers to the whole lines
      text_so_far : (old out : Seen) (broken : BreaksOn P more over new old out)
          → AnswersParts (parts_of (lines_of more).whole) broken.wrote.0
      text_so_far old out broken =
          let on = goes_on more over broken.at broken.under_way in
          let split : Splits on.input bytes 0 new (ends.Before span) = program_here on.input on.may in
          let held : broken.at ≤ length more = broken.under_way.begun in
          let from : new ≤ broken.at = broken.begun in
          let out : List ℕ = broken.wrote.0 in
          subst (λ (o : Option Parts). AnswersParts o out) (sym (ap parts_of (sym (on.whole 0 (omega arith))) ∙ split.0)) (
            P,
            program_is on.input on.may,
            subst (λ (lines : List (List ℕ)). AnswersAll P lines out) (sym (on.whole new (omega arith))) broken.wrote.1,
          )

      pub breaks_program : (first : List ℕ) (known left : Option (List ℕ)) (r : Result Served ServeFault) (old out : Seen)
          → first ≡ []
          → KeepsInput first known more left → IfErr r (λ fault. fault ≡ Read → BreaksOn P more over new old out)
          → BreaksKnown known left r old out
      breaks_program first known left (Ok served) old out empty keeps wrote = tt
      breaks_program first None left (Err fault) old out empty keeps wrote = λ is_read. tt
      breaks_program first (Some xs) None (Err fault) old out empty keeps wrote = absurd keeps
      breaks_program first (Some xs) (Some ys) (Err fault) old out empty keeps wrote =
          λ is_read.
          let broken : BreaksOn P more over new old out = wrote is_read in (
            more,
            ys,
            refl,
            whole_is first more xs ys empty keeps,
            broken.under_way.within,
            (broken.wrote.0, text_so_far old out broken, broken.wrote.2),
          )

    -- the program text has a fault
    module _ (text : List ℕ) (span : Span) (is : end ≡ ends.Before span) (seen : span.from ≤ length bytes → text ≡ take span.from bytes)
        (fault : ProgFault) (faulty : IsFault text fault) where
      pub fault_here : (input : List ℕ) → MayBe bytes ended input → ServesInput input outcomes.Refused (fault_text fault)
      fault_here input may =
          let split = here (ends.Before span) is input may in
          let found : IsFault (slice_range bytes 0 span.from) fault =
          subst (λ (t : List ℕ). IsFault t fault) (text_from_start bytes text span.from (seen split.1)) faulty in
          by_parts input _ outcomes.Refused (fault_text fault) split.0 (inr (fault, found, refl), inr (fault, found, refl))

    -- no line ends the program text
    pub end_here : end ≡ ends.End → (input : List ℕ) → MayBe bytes ended input → ServesInput input outcomes.Refused no_end_line_text
    end_here is input may =
        let split = here ends.End is input may in
        let no : is_too_long input ≡ false = split.1 in
        by_parts input None outcomes.Refused no_end_line_text split.0 (
          sym (ap (λ (b : Bool). if b then outcomes.TooLong else outcomes.Refused) no),
          sym (ap (λ (b : Bool). if b then too_long_text else no_end_line_text) no),
        )

    pub too_long_here : end ≡ ends.TooLong → (input : List ℕ) → MayBe bytes ended input
        → ServesInput input outcomes.TooLong too_long_text
    too_long_here is input may =
        let split = here ends.TooLong is input may in
        let long : is_too_long input ≡ true = split.1 in
        by_parts input None outcomes.TooLong too_long_text split.0 (
          sym (ap (λ (b : Bool). if b then outcomes.TooLong else outcomes.Refused) long),
          sym (ap (λ (b : Bool). if b then too_long_text else no_end_line_text) long),
        )

-- the reader failed before the end of the program text
pub breaks_before : (first : List ℕ) (known : Option (List ℕ)) (bytes : List ℕ) (left : Option (List ℕ)) (begin : ℕ)
    (r : Result Served ServeFault)
    (old : Seen) → first ≡ [] → begin ≡ 0 → KeepsInput first known bytes left
    → parts_of (lines_of (drop begin bytes)).whole ≡ None → length bytes ≤ INPUT_BYTES
    → BreaksKnown known left r old old
breaks_before first known bytes left begin (Ok served) old empty begun keeps none few = tt
breaks_before first None bytes left begin (Err fault) old empty begun keeps none few = λ is_read. tt
breaks_before first (Some xs) bytes None begin (Err fault) old empty begun keeps none few = absurd keeps
breaks_before first (Some xs) bytes (Some ys) begin (Err fault) old empty begun keeps none few =
    let nowhere : parts_of (lines_of bytes).whole ≡ None =
    subst (λ (n : ℕ). parts_of (lines_of (drop n bytes)).whole ≡ None) begun none in
    λ is_read. (
      bytes,
      ys,
      refl,
      whole_is first bytes xs ys empty keeps,
      few,
      ([], subst (λ (o : Option Parts). AnswersParts o []) (sym nowhere) refl, appended_none old),
    )

-- no more bytes were read than an input may have
pub few_read : (first : List ℕ) (known : Option (List ℕ)) (bytes : List ℕ) (left : Option (List ℕ)) → first ≡ []
    → KeepsInput first known bytes left → length bytes ≤ INPUT_BYTES + 1 → IfSome known (λ input. ReadsFew input left)
few_read first None bytes left empty keeps few = tt
few_read first (Some xs) bytes None empty keeps few = absurd keeps
few_read first (Some xs) bytes (Some ys) empty keeps few = (bytes, ys, refl, whole_is first bytes xs ys empty keeps, few)

-- what was read for the program text is only that
pub text_read : (first : List ℕ) (known : Option (List ℕ)) (at : ℕ) (bytes : List ℕ) (left : Option (List ℕ)) → first ≡ [] → at ≡ 0
    → KeepsInput first known bytes left → ReadsText first at bytes → IfSome known (λ input. ReadsProgram input left)
text_read first None at bytes left empty begun keeps read = tt
text_read first (Some xs) at bytes None empty begun keeps read = absurd keeps
text_read first (Some xs) at bytes (Some ys) empty begun keeps (inl same) =
    let whole : xs ≡ ys =
    whole_is first bytes xs ys empty keeps ∙ ap (λ (b : List ℕ). b ++ ys) (same ∙ empty) in
    subst (λ (input : List ℕ). ReadsProgram input (Some ys)) (sym whole) (nothing_read (Some ys))
text_read first (Some xs) at bytes (Some ys) empty begun keeps (inr read) =
    let whole : xs ≡ read.0 ++ read.1 ++ ys =
    whole_is first bytes xs ys empty keeps ∙ ap (λ (b : List ℕ). b ++ ys) read.2 in (
      read.0,
      read.1,
      ys,
      refl,
      whole,
      read.3,
      subst (λ (n : ℕ). parts_of (lines_of (drop n read.0)).whole ≡ None) begun read.4,
    )
