-- A part of a predicate in a cut.
use Rattle.std.specs.Prelude.{◌≡◌, ℕ, ◌+◌, ◌<◌, ◌≤◌, Bool, false, List, length, Option, MatchOption, slice_index}
use Rattle.std.specs.List.{AllByRecursion}
use Rattle.dbg_base.specs.Trees.{Program}
use Rattle.dbg_base.specs.Predicates.{Conjunct, is_true, IsLeast}
use Rattle.dbg_base.specs.SystemStates.{history_of, place_at}
use Rattle.causal_world.specs.Scenes.{Scene, IsWorldOf}
use Rattle.ui_causes.specs.declared.past.EventPlace.{EventPlace}
use Rattle.ui_halt.specs.declared.part.Earlier.{Earlier}
use Rattle.ui_halt.specs.declared.part.PartInCut.{PartInCut}
use Rattle.ui_halt.specs.Lanes.{true_at, IsSince, IsNeverTrue, IsLastTrue}
use Rattle.ui_halt.specs.Reasons.{IsReason}

-- the truths of the part in the local states of its process; one whose evaluation faults is false
abbrev pub AreTruths : Scene → Conjunct → List Bool → Type 0
AreTruths w part truths =
    (P : Program) (n : ℕ) → IsWorldOf P w → part.process < length P → n ≤ place_at w.state part.process
    → true_at truths n ≡ is_true P (history_of w.state) part n

-- the predicate has no other part of the same process
abbrev pub IsOnlyPart : Conjunct → List Conjunct → Type 0
IsOnlyPart part conjuncts = AllByRecursion (λ (other : Conjunct). other.process ≡ part.process → other ≡ part) conjuncts

-- the cut is not the least that satisfies a predicate with this part
abbrev pub IsNotLeast : Scene → Conjunct → List ℕ → Type 0
IsNotLeast w part cut =
    (P : Program) (conjuncts : List Conjunct) → IsWorldOf P w → IsOnlyPart part conjuncts → ¬ IsLeast P (history_of w.state) conjuncts cut

-- the event after n events of process p
abbrev pub next_event : ℕ → ℕ → EventPlace
next_event p n = record { pid = record { 0 = p }; number = n + 1 }

-- The part was true after fewer events, and not since, up to the bound. An event of the cut needs one more event of the process; if there is
-- none, the cut is not the least.
pub record IsEarlierTruth (w : Scene) (part : Conjunct) (cut : List ℕ) (truths : List Bool) (since : ℕ) (earlier : Earlier) : Type 0 where
  pub last : IsLastTrue truths since earlier.events
  pub reason : MatchOption earlier.reason (IsNotLeast w part cut) (IsReason w cut (next_event part.process earlier.events))

-- the last such truth, if there is one
abbrev pub FindsEarlier : Scene → Conjunct → List ℕ → List Bool → ℕ → Option Earlier → Type 0
FindsEarlier w part cut truths since found =
    MatchOption found (IsNeverTrue truths since) (IsEarlierTruth w part cut truths since)

-- where the part is true, since when it has been so in the cut, and when it was before
pub record IsPartOf (w : Scene) (part : Conjunct) (cut : List ℕ) (found : PartInCut) : Type 0 where
  pub process : found.pid.0 ≡ part.process
  pub truths : AreTruths w part found.truths.items
  pub since : IsSince found.truths.items (slice_index cut part.process) found.since
  pub earlier : FindsEarlier w part cut found.truths.items found.since found.earlier

-- the part in the cut, or it is false there
abbrev pub FindsPart : Scene → Conjunct → List ℕ → Option PartInCut → Type 0
FindsPart w part cut found =
    MatchOption found ((truths : List Bool) × AreTruths w part truths × (true_at truths (slice_index cut part.process) ≡ false))
    (IsPartOf w part cut)
