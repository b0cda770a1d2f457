-- Where the program text ends.
use Rattle.std.proofs.Common.{◌≡◌, ℕ, ◌+◌, ◌-◌, ◌<◌, ◌≤◌, Bool, true, false, List, [], ◌∷◌, ◌++◌, length, take, drop, Option, Some, None}
use Rattle.std.proofs.Common.{refl, sym, ap, ◌∙◌, subst, inl, inr, ◌⊎◌, append_assoc, arith}
use Rattle.std.specs.Prelude.{slice_range, option_map}
use Rattle.std.proofs.lemmas.List.{append-nil, drop-drop, drop-append-le, take-append-le, length-drop}
use Rattle.std.proofs.Math.Seq.{take-add}
use Rattle.dbg_base.specs.Shell.{Parts, lines_of, parts_of, is_end_line, line_before}
use Rattle.shell_serve.specs.declared.framing.Span.{Span}
use Rattle.shell_serve.specs.declared.framing.Next.{Next}
use Rattle.shell_serve.specs.declared.framing.Next.TheVariants as nexts
use Rattle.shell_serve.specs.declared.program_text.TextEnd.TheVariants as ends
use Rattle.shell_serve.specs.Spans.{lines_from, AdvancesAt, Tells, TellsAny, MayBe, Narrows, ReadsAsNeeded, IsUnderWay}
use Rattle.shell_serve.specs.ProgramTexts.{with_text, Splits, SplitsAny, ReadsText}
use Rattle.shell_serve.proofs.UnfinishedInputLemmas.{goes_on, none_left}

slice_on : (xs : List ℕ) (a b c : ℕ) → a ≤ b → b ≤ c → slice_range xs a c ≡ slice_range xs a b ++ slice_range xs b c
slice_on xs a b c first second =
    let n : ℕ = b - a in
    let m : ℕ = c - b in
    let longer : c - a ≡ n + m = omega arith in
    let there : drop n (drop a xs) ≡ drop b xs = drop-drop n a xs ∙ ap (λ (k : ℕ). drop k xs) (omega arith) in
    ap (λ (k : ℕ). take k (drop a xs)) longer ∙ take-add n m (drop a xs) ∙ ap (λ (ys : List ℕ). take n (drop a xs) ++ take m ys) there

texts_join : (s line t : List ℕ) (o : Option Parts) → t ≡ s ++ (line ++ 10 ∷ [])
    → option_map (with_text s) (option_map (line_before line) o) ≡ option_map (with_text t) o
texts_join s line t None e = refl
texts_join s line t (Some parts) e =
    ap (λ (text : List ℕ). Some (record { program = text; commands = parts.commands }))
    (sym (append_assoc s (line ++ 10 ∷ []) parts.program) ∙ ap (λ (u : List ℕ). u ++ parts.program) (sym e))

-- the parts from one position on are those from a later position on, with the text between them before the program text
pub record SoFar (whole : List ℕ) (from at : ℕ) : Type 0 where
  pub begun : from ≤ at
  pub split : parts_of (lines_from from whole) ≡ option_map (with_text (slice_range whole from at)) (parts_of (lines_from at whole))

parts_after : (line : List ℕ) (lines : List (List ℕ)) → is_end_line line ≡ false
    → parts_of (line ∷ lines) ≡ option_map (line_before line) (parts_of lines)
parts_after line lines e = rw e refl

parts_at : (line : List ℕ) (lines : List (List ℕ)) → is_end_line line ≡ true
    → parts_of (line ∷ lines) ≡ Some (record { program = []; commands = lines })
parts_at line lines e = rw e refl

split_on : (whole line : List ℕ) (from at new : ℕ) → from ≤ at → at ≤ new → is_end_line line ≡ false
    → lines_from at whole ≡ line ∷ lines_from new whole
    → (slice_range whole at new ≡ line ++ 10 ∷ []) ⊎ (lines_from new whole ≡ [])
    → option_map (with_text (slice_range whole from at)) (parts_of (lines_from at whole))
    ≡ option_map (with_text (slice_range whole from new)) (parts_of (lines_from new whole))
split_on whole line from at new begun on other here (inl text) =
    ap (λ lines. option_map (with_text (slice_range whole from at)) (parts_of lines)) here
    ∙ ap (option_map (with_text (slice_range whole from at))) (parts_after line (lines_from new whole) other)
    ∙ texts_join (slice_range whole from at) line (slice_range whole from new) (parts_of (lines_from new whole))
    (slice_on whole from at new begun on ∙ ap (λ (t : List ℕ). slice_range whole from at ++ t) text)
split_on whole line from at new begun on other here (inr none) =
    ap (λ lines. option_map (with_text (slice_range whole from at)) (parts_of lines)) here
    ∙ ap (option_map (with_text (slice_range whole from at))) (parts_after line (lines_from new whole) other)
    ∙ ap (λ lines. option_map (with_text (slice_range whole from at)) (option_map (line_before line) (parts_of lines))) none
    ∙ sym (ap (λ lines. option_map (with_text (slice_range whole from new)) (parts_of lines)) none)

so_far_on : (whole bytes : List ℕ) (from at new : ℕ) (span : Span) → at < new → SoFar whole from at
    → Tells whole bytes at new (nexts.Line span)
    → is_end_line (slice_range bytes span.from span.to) ≡ false → SoFar whole from new
so_far_on whole bytes from at new span on so_far reported other =
    let begun : from ≤ at = so_far.begun in
    record {
      begun = omega arith;
      split = so_far.split ∙ split_on whole (slice_range bytes span.from span.to) from at new begun (omega arith) other reported.0 reported.4;
    }

-- the bytes that were read are a prefix of the input
slice_of_prefix : (bytes rest : List ℕ) (from to : ℕ) → from ≤ to → to ≤ length bytes
    → slice_range (bytes ++ rest) from to ≡ slice_range bytes from to
slice_of_prefix bytes rest from to le held =
    let here : drop from (bytes ++ rest) ≡ drop from bytes ++ rest = drop-append-le from bytes rest (omega arith) in
    let long : length (drop from bytes) ≡ length bytes - from = length-drop from bytes in
    ap (λ (t : List ℕ). take (to - from) t) here ∙ take-append-le (to - from) (drop from bytes) rest (omega arith)

split_at : (whole bytes rest : List ℕ) (from at new : ℕ) (span : Span) → whole ≡ bytes ++ rest → SoFar whole from at
    → Tells whole bytes at new (nexts.Line span)
    → is_end_line (slice_range bytes span.from span.to) ≡ true → Splits whole bytes from new (ends.Before span)
split_at whole bytes rest from at new span all so_far reported end =
    let begun : from ≤ at = so_far.begun in
    let here : span.from ≡ at = reported.1 in
    let ordered : span.from ≤ span.to = reported.2 in
    let held : span.to ≤ length bytes = reported.3 in
    let text : slice_range whole from at ≡ slice_range bytes from span.from =
    ap (λ (t : List ℕ). slice_range t from at) all ∙ slice_of_prefix bytes rest from at begun (omega arith)
    ∙ ap (λ (n : ℕ). slice_range bytes from n) (sym here) in
    let line : List ℕ = slice_range bytes span.from span.to in (
      so_far.split ∙ ap (λ lines. option_map (with_text (slice_range whole from at)) (parts_of lines)) reported.0
          ∙ ap (option_map (with_text (slice_range whole from at))) (parts_at line (lines_from new whole) end)
          ∙ ap (λ (t : List ℕ). Some (record { program = t; commands = lines_from new whole }))
          (append-nil (slice_range whole from at) ∙ text),
      omega arith,
    )

no_parts : (whole : List ℕ) (from at : ℕ) → SoFar whole from at → lines_from at whole ≡ [] → parts_of (lines_from from whole) ≡ None
no_parts whole from at so_far none = so_far.split ∙ ap (λ lines. option_map (with_text (slice_range whole from at)) (parts_of lines)) none

-- what holds for each possible input
pub reported_of : (bytes : List ℕ) (ended : Bool) (at new : ℕ) (next to : Next) → TellsAny bytes ended at new next → next ≡ to
    → (input : List ℕ) → MayBe bytes ended input → Tells input bytes at new to
reported_of bytes ended at new next to reported is input may =
    subst (λ (n : Next). Tells input bytes at new n) is (reported input may)

-- after a line the position is greater
pub further_on : (from at new : ℕ) (next : Next) (span : Span) → AdvancesAt at new next → next ≡ nexts.Line span → from ≤ at → from ≤ new
further_on from at new next span on is begun =
    let less : at < new = subst (λ (n : Next). AdvancesAt at new n) is on in
    omega arith

-- the line that was read is the one at this position
line_is : (input bytes line : List ℕ) (at new : ℕ) (span : Span) (end : Bool) → Tells input bytes at new (nexts.Line span)
    → (span.from ≤ span.to → span.to ≤ length bytes → line ≡ slice_range bytes span.from span.to) → is_end_line line ≡ end
    → is_end_line (slice_range bytes span.from span.to) ≡ end
line_is input bytes line at new span end reported seen test = ap is_end_line (sym (seen reported.2 reported.3)) ∙ test

-- the parts of each possible input
abbrev pub SoFarAny : List ℕ → Bool → ℕ → ℕ → Type 0
SoFarAny bytes ended from at = (input : List ℕ) → MayBe bytes ended input → SoFar input from at

module _ (before : List ℕ) (was : Bool) (bytes : List ℕ) (ended : Bool) (from at new : ℕ) (next : Next)
    (so_far : SoFarAny before was from at)
    (narrows : Narrows before was bytes ended) (reported : TellsAny bytes ended at new next) where
  module _ (line : List ℕ) (span : Span) (is : next ≡ nexts.Line span)
      (seen : span.from ≤ span.to → span.to ≤ length bytes → line ≡ slice_range bytes span.from span.to) where
    pub so_far_goes_on : AdvancesAt at new next → is_end_line line ≡ false → SoFarAny bytes ended from new
    so_far_goes_on on other input may =
        let here : Tells input bytes at new (nexts.Line span) = reported_of bytes ended at new next (nexts.Line span) reported is input may in
        so_far_on input bytes from at new span (subst (λ (n : Next). AdvancesAt at new n) is on) (so_far input (narrows input may)) here
        (line_is input bytes line at new span false here seen other)

    pub splits_here : is_end_line line ≡ true → SplitsAny bytes ended from new (ends.Before span)
    splits_here end input may =
        let here : Tells input bytes at new (nexts.Line span) = reported_of bytes ended at new next (nexts.Line span) reported is input may in
        split_at input bytes may.0 from at new span may.1 (so_far input (narrows input may)) here
        (line_is input bytes line at new span true here seen end)

  pub splits_nowhere : next ≡ nexts.End → SplitsAny bytes ended from new ends.End
  splits_nowhere is input may =
      let here : Tells input bytes at new nexts.End = reported_of bytes ended at new next nexts.End reported is input may in
      (no_parts input from at (so_far input (narrows input may)) here.0, here.1)

  pub splits_too_late : next ≡ nexts.TooLong → SplitsAny bytes ended from new ends.TooLong
  splits_too_late is input may =
      let here : Tells input bytes at new nexts.TooLong = reported_of bytes ended at new next nexts.TooLong reported is input may in
      (no_parts input from at (so_far input (narrows input may)) here.0, here.1)

-- if nothing more can be read, the whole lines have no end line
pub splits_not_yet : (before : List ℕ) (was : Bool) (bytes : List ℕ) (ended : Bool) (from at : ℕ) → SoFarAny before was from at
    → Narrows before was bytes ended → IsUnderWay bytes ended at → parts_of (lines_of (drop from bytes)).whole ≡ None
splits_not_yet before was bytes ended from at so_far narrows way =
    let on = goes_on bytes ended at way in
    let here : SoFar on.input from at = so_far on.input (narrows on.input on.may) in
    let begun : from ≤ at = here.begun in
    let held : at ≤ length bytes = way.begun in
    ap parts_of (sym (on.whole from (omega arith))) ∙ no_parts on.input from at here (none_left bytes ended at way)

-- if more is read, the bytes before have no end line
pub reads_for_text : (first old : List ℕ) (was : Bool) (new : List ℕ) (from at : ℕ) → ReadsText first from old → SoFarAny old was from at
    → ReadsAsNeeded old was new at → ReadsText first from new
reads_for_text first old was new from at text so_far (inl same) = subst (ReadsText first from) (sym same) text
reads_for_text first old was new from at text so_far (inr read) =
    inr (
      read.prefix,
      read.last,
      read.whole,
      read.few,
      splits_not_yet old was read.prefix read.over from at so_far read.narrows read.under_way,
    )
