-- What contracts see of a list of breakpoints, and how it agrees with a world.
use Rattle.std.specs.Prelude.{◌≡◌, ℕ, zero, suc, ◌<◌, Bool, true, false, List, [], ◌∷◌, length, map, slice_get, Option, Some, None}
use Rattle.std.specs.Prelude.{if◌then◌else◌, ◌⊎◌, ◌&&◌}
use Rattle.std.specs.Bool.{MatchBool}
use Rattle.std.specs.List.{AllByRecursion, IsDistinct, position_or_len}
use Rattle.std.specs.Str.{bytes_eq}
use Rattle.dbg_base.specs.declared.refusal.Refusal.{Refusal}
use Rattle.dbg_base.specs.declared.refusal.Refusal.TheVariants as refusals
use Rattle.dbg_base.specs.declared.elimination.Elimination.{Elimination}
use Rattle.dbg_base.specs.Trees.{Program}
use Rattle.dbg_base.specs.Histories.{History}
use Rattle.dbg_base.specs.Predicates.{Conjunct, IsLeast, NoCut}
use Rattle.dbg_base.specs.Breakpoints.{Breakpoint, HasCut, named, with_mark}
use Rattle.causal_world.specs.Scenes.{Scene}
use Rattle.least_cut.specs.Watches.{TruthLine}
use Rattle.least_cut.specs.Detectors.{DetectorState, conjuncts_of, lines_of, has_cut_in, IsDetectorOf, HasRoomUpTo, IsGrown, IsShrunk, IsMoved}

-- what is kept of a breakpoint, without its name
pub record Kept : Type 0 where
  pub armed : Bool
  pub detector : DetectorState

abbrev pub Entry : Type 0
Entry = List ℕ × Kept

-- what calls show of it: all but the room of its detector
pub record Shown : Type 0 where
  pub name : List ℕ
  pub armed : Bool
  pub conjuncts : List Conjunct
  pub lines : List TruthLine
  pub candidates : List ℕ
  pub trail : List Elimination

abbrev pub shown_in : Entry → Shown
shown_in entry = record {
  name = entry.0;
  armed = entry.1.armed;
  conjuncts = conjuncts_of entry.1.detector;
  lines = lines_of entry.1.detector;
  candidates = entry.1.detector.candidates;
  trail = entry.1.detector.trail;
}

abbrev pub shown_of : List Entry → List Shown
shown_of book = map shown_in book

-- the breakpoint of an entry
abbrev pub breakpoint_of : Entry → Breakpoint
breakpoint_of entry = record { name = entry.0; conjuncts = conjuncts_of entry.1.detector; armed = entry.1.armed }

abbrev pub breakpoints_of : List Entry → List Breakpoint
breakpoints_of book = map breakpoint_of book

-- a new breakpoint
abbrev pub new_breakpoint : List ℕ → List Conjunct → Breakpoint
new_breakpoint name conjuncts = record { name = name; conjuncts = conjuncts; armed = true }

-- no two breakpoints have the same name
abbrev pub HasDistinctNames : List Entry → Type 0
HasDistinctNames book = IsDistinct bytes_eq (map (λ entry. entry.0) book)

-- each detector is that of the world
abbrev pub AreDetectorsOf : Scene → List Entry → Type 0
AreDetectorsOf w book = AllByRecursion (λ entry. IsDetectorOf w entry.1.detector) book

-- with these places they need no allocation
abbrev pub HaveRoomUpTo : List Entry → List ℕ → Type 0
HaveRoomUpTo book places = AllByRecursion (λ entry. HasRoomUpTo entry.1.detector places) book

-- the process has made an event since they were detectors of the world
abbrev pub AreGrown : List Entry → ℕ → Scene → Type 0
AreGrown book p w = AllByRecursion (λ entry. IsGrown entry.1.detector p w) book

-- the process has lost its last event since
abbrev pub AreShrunk : List Entry → ℕ → Scene → Type 0
AreShrunk book p w = AllByRecursion (λ entry. IsShrunk entry.1.detector p w) book

-- events were made or undone since
abbrev pub AreMoved : List Entry → Scene → Type 0
AreMoved book w = AllByRecursion (λ entry. IsMoved entry.1.detector w) book

-- the same breakpoint but for its room, under any name; its detector is of each world of which the old one was
pub record IsRoomier (old new : Kept) : Type 0 where
  pub same : (name : List ℕ) → shown_in (name, new) ≡ shown_in (name, old)
  pub detectors : (w : Scene) → IsDetectorOf w old.detector → IsDetectorOf w new.detector

-- the same breakpoint, under any name, with a detector of the world
pub record IsFollowed (w : Scene) (old new : Kept) : Type 0 where
  pub same : (name : List ℕ) → breakpoint_of (name, new) ≡ breakpoint_of (name, old)
  pub detector : IsDetectorOf w new.detector

-- the same breakpoints but for their room; their detectors are of each world of which the old ones were
pub record AreRoomier (old new : List Entry) : Type 0 where
  pub same : shown_of new ≡ shown_of old
  pub detectors : (w : Scene) → AreDetectorsOf w old → AreDetectorsOf w new

-- the same breakpoints, with detectors of the world
pub record AreFollowed (w : Scene) (old new : List Entry) : Type 0 where
  pub same : breakpoints_of new ≡ breakpoints_of old
  pub detectors : AreDetectorsOf w new

-- the breakpoint at this position has this mark
abbrev pub marked_at : ℕ → Bool → List Entry → List Entry
marked_at position armed [] = []
marked_at zero armed (entry ∷ book) = (entry.0, record entry.1 { armed = armed }) ∷ book
marked_at (suc position) armed (entry ∷ book) = entry ∷ marked_at position armed book

-- the breakpoint of this name is at this position, from 0, and this is kept of it
pub record IsPlacedAt (name : List ℕ) (book : List Entry) (i : ℕ) (kept : Kept) : Type 0 where
  pub is : named name (breakpoints_of book) ≡ Some (breakpoint_of (name, kept))
  pub entry : slice_get book i ≡ Some (name, kept)
  pub within : i < length book
  pub detector : (w : Scene) → AreDetectorsOf w book → IsDetectorOf w kept.detector
  pub marked : (armed : Bool) → breakpoints_of (marked_at i armed book) ≡ with_mark name armed (breakpoints_of book)

-- whether it is armed and has a cut, by what its detector keeps
abbrev pub halts_in : Kept → Bool
halts_in kept = kept.armed && has_cut_in kept.detector.candidates (lines_of kept.detector)

-- the same by what calls show of it
abbrev pub halts_shown : Shown → Bool
halts_shown shown = shown.armed && has_cut_in shown.candidates shown.lines

-- the position, from 0, of the first one that is armed and has a cut, or the number of breakpoints if there is none
abbrev pub first_halt : List Entry → ℕ
first_halt book = position_or_len halts_shown (shown_of book)

-- whether a cut satisfies the conjuncts
abbrev pub TellsWhether : Program → History → List Conjunct → Bool → Type 0
TellsWhether P H conjuncts has = MatchBool has ((cut : List ℕ) × IsLeast P H conjuncts cut) (NoCut P H conjuncts)

-- it is armed and has a cut
abbrev pub Halts : Program → History → Kept → Type 0
Halts P H kept =
    (kept.armed ≡ true) × (cut : List ℕ) × IsLeast P H (conjuncts_of kept.detector) cut

-- it is not armed, or has no cut
abbrev pub HaltsNot : Program → History → Kept → Type 0
HaltsNot P H kept = (kept.armed ≡ false) ⊎ NoCut P H (conjuncts_of kept.detector)

-- why this breakpoint cannot be armed, if it cannot
abbrev pub arm_refusal : Option Breakpoint → Option Refusal
arm_refusal None = Some refusals.UnknownBreak
arm_refusal (Some b) = if b.armed then Some refusals.AlreadyArmed else None

-- this breakpoint exists, is armed, and has a cut
abbrev pub MayPass : Program → History → Option Breakpoint → Type 0
MayPass P H None = ⊥
MayPass P H (Some b) = (b.armed ≡ true) × HasCut P H b

-- it does not exist, is not armed, or has no cut
abbrev pub CannotPass : Program → History → Option Breakpoint → Refusal → Type 0
CannotPass P H None refusal = refusal ≡ refusals.UnknownBreak
CannotPass P H (Some b) refusal =
    MatchBool b.armed (NoCut P H b.conjuncts × (refusal ≡ refusals.NoCut)) (refusal ≡ refusals.NotArmed)
