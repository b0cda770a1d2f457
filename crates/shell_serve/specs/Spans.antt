-- Where a line is in the input, and what is known of the input there.
use Rattle.std.specs.Prelude.{◌≡◌, ℕ, ◌-◌, ◌<◌, ◌≤◌, Bool, true, false, not, ◌==◌, List, [], ◌∷◌, ◌++◌, length, drop, slice_range, Option}
use Rattle.std.specs.Prelude.{◌⊎◌}
use Rattle.std.specs.List.{list_all}
use Rattle.std.specs.Io.KnownBytes.{Keeps, prepend_known, IsAtEnd}
use Rattle.dbg_base.specs.declared.limits.TheConstants.{INPUT_BYTES}
use Rattle.dbg_base.specs.Shell.{lines_within, is_too_long}
use Rattle.shell_serve.specs.declared.framing.TheConstants.{CHUNK}
use Rattle.shell_serve.specs.declared.framing.Next.{Next}
use Rattle.shell_serve.specs.declared.framing.Next.TheVariants.{Line, End, TooLong}

-- after a line the position is greater, otherwise it is the same
abbrev pub AdvancesAt : ℕ → ℕ → Next → Type 0
AdvancesAt old new (Line span) = old < new
AdvancesAt old new End = new ≡ old
AdvancesAt old new TooLong = new ≡ old

-- the byte is not a line end
abbrev pub is_inside : ℕ → Bool
is_inside b = not (b == 10)

abbrev pub is_unended : List ℕ → Bool
is_unended = list_all is_inside

-- the lines that are left from this position on
abbrev pub lines_from : ℕ → List ℕ → List (List ℕ)
lines_from at input = lines_within (INPUT_BYTES - at) (drop at input)

-- At this position of the input is this line, and the next line is at the new position, which is after a line end unless no line is left.
-- Or no line is left, and the input ends there or is too long.
abbrev pub Tells : List ℕ → List ℕ → ℕ → ℕ → Next → Type 0
Tells input bytes at new (Line span) =
    (lines_from at input ≡ slice_range bytes span.from span.to ∷ lines_from new input) × (span.from ≡ at) × (span.from ≤ span.to)
    × (span.to ≤ length bytes) × ((slice_range input at new ≡ slice_range bytes span.from span.to ++ 10 ∷ []) ⊎ (lines_from new input ≡ []))
Tells input bytes at new End = (lines_from at input ≡ []) × (is_too_long input ≡ false)
Tells input bytes at new TooLong = (lines_from at input ≡ []) × (is_too_long input ≡ true)

-- an input that is possible after these bytes were read: it begins with them, and is equal to them if its end was read
abbrev pub MayBe : List ℕ → Bool → List ℕ → Type 0
MayBe bytes ended input = (rest : List ℕ) × (input ≡ bytes ++ rest) × (ended ≡ true → rest ≡ [])

-- the same for each possible input
abbrev pub TellsAny : List ℕ → Bool → ℕ → ℕ → Next → Type 0
TellsAny bytes ended at new next = (input : List ℕ) → MayBe bytes ended input → Tells input bytes at new next

-- more bytes may have been read, so fewer inputs are possible than before
abbrev pub Narrows : List ℕ → Bool → List ℕ → Bool → Type 0
Narrows bytes ended more over = (input : List ℕ) → MayBe more over input → MayBe bytes ended input

-- the input has not ended, and there is no line end in the bytes from this position on
pub record IsUnderWay (bytes : List ℕ) (ended : Bool) (at : ℕ) : Type 0 where
  pub unfinished : ended ≡ false
  pub within : length bytes ≤ INPUT_BYTES
  pub begun : at ≤ length bytes
  pub unended : is_unended (drop at bytes) ≡ true

-- if the input has ended, the reader has nothing left
abbrev pub EndsWith : Bool → Option (List ℕ) → Type 0
EndsWith ended remaining = ended ≡ true → IsAtEnd remaining

-- the bytes that were read, followed by those that the reader has left, stay the same
abbrev pub KeepsInput : List ℕ → Option (List ℕ) → List ℕ → Option (List ℕ) → Type 0
KeepsInput old before new after = Keeps (prepend_known old before) (prepend_known new after)

-- What a step of reading keeps. What was read, followed by what is left, stays the same. If the input has ended, the reader has nothing
-- left. Each input that is possible now was possible before.
pub record ReadsOn (old : List ℕ) (was : Bool) (before : Option (List ℕ)) (new : List ℕ) (ended : Bool)
    (after : Option (List ℕ)) : Type 0 where
  pub keeps : KeepsInput old before new after
  pub ends : EndsWith ended after
  pub narrows : Narrows old was new ended

-- The last of these bytes came with one read: before it no line was complete from this position on.
pub record LastRead (old : List ℕ) (was : Bool) (new : List ℕ) (at : ℕ) : Type 0 where
  pub prefix : List ℕ
  pub last : List ℕ
  pub over : Bool
  pub whole : new ≡ prefix ++ last
  pub few : length last ≤ CHUNK
  pub under_way : IsUnderWay prefix over at
  pub narrows : Narrows old was prefix over

-- the reader is called only if no line is complete
abbrev pub ReadsAsNeeded : List ℕ → Bool → List ℕ → ℕ → Type 0
ReadsAsNeeded old was new at = (new ≡ old) ⊎ LastRead old was new at

-- one read appends at most so many bytes
pub record ReadsOnce (old new : List ℕ) : Type 0 where
  pub last : List ℕ
  pub whole : new ≡ old ++ last
  pub few : length last ≤ CHUNK
