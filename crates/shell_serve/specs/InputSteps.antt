-- An input as a source of lines.
use Rattle.std.specs.Prelude.{◌≡◌, ◌≤◌, ◌-◌, ℕ, List, [], ◌∷◌, length, slice_range, Bool, true, false, Option, Some, Result, Ok, Err}
use Rattle.dbg_base.specs.declared.limits.TheConstants.{INPUT_BYTES}
use Rattle.dbg_base.specs.Shell.{is_too_long}
use Rattle.shell_print.specs.declared.outcome.ServeFault.{ServeFault}
use Rattle.shell_serve.specs.declared.framing.Span.{Span}
use Rattle.shell_serve.specs.declared.framing.Next.{Next}
use Rattle.shell_serve.specs.declared.framing.Next.TheVariants.{Line, End, TooLong}
use Rattle.shell_serve.specs.declared.framing.Input.{Input}
use Rattle.shell_serve.specs.Spans.{lines_from, MayBe, ReadsOn, IsUnderWay}
use Rattle.shell_serve.specs.Sources.{Given}

-- the line at these positions
abbrev pub InputHolds : Input → Span → Given → Type 0
InputHolds input span given = (given ≡ Some (slice_range input.bytes.items span.from span.to)) × (span.from ≤ span.to)
    × (span.to ≤ length input.bytes.items)

-- the bytes that belong to no line yet
abbrev pub input_left : Input → ℕ
input_left input = INPUT_BYTES - input.at

-- A line was read: for each input that is possible now, it is the first line that was left.
pub record InputGives {R : Type 0} (remaining : R → Option (List ℕ)) (s : Input) (r : R) (given : Given) (t : Input) (u : R) : Type 0 where
  pub line : List ℕ
  pub is : given ≡ Some line
  pub reads : ReadsOn s.bytes.items s.ended (remaining r) t.bytes.items t.ended (remaining u)
  pub begun : s.at ≤ t.at
  pub first : (input : List ℕ) → MayBe t.bytes.items t.ended input → lines_from s.at input ≡ line ∷ lines_from t.at input

-- no line is left of an input that is too long or not
abbrev pub NoneLeft : Input → ℕ → Bool → Type 0
NoneLeft t at long = (input : List ℕ) → MayBe t.bytes.items t.ended input → (lines_from at input ≡ []) × (is_too_long input ≡ long)

-- why an input gives no line: it ends, it is too long, or its reader failed in a line
abbrev pub StopsFor : ℕ → Result Next ServeFault → Input → Type 0
StopsFor at (Ok End) t = NoneLeft t at false
StopsFor at (Ok TooLong) t = NoneLeft t at true
StopsFor at (Ok (Line span)) t = Unit {0}
StopsFor at (Err fault) t = IsUnderWay t.bytes.items t.ended at

-- more was read, and no line is there
pub record InputStops {R : Type 0} (remaining : R → Option (List ℕ)) (s : Input) (r : R) (result : Result Next ServeFault) (t : Input)
    (u : R) : Type 0 where
  pub reads : ReadsOn s.bytes.items s.ended (remaining r) t.bytes.items t.ended (remaining u)
  pub why : StopsFor s.at result t
