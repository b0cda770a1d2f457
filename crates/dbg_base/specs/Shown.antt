-- What the replay of a list of events shows to each query. Besides the events, only the list of breakpoints is read.
use Rattle.std.specs.Prelude.{◌≡◌, ◌↔◌, ◌⊎◌, ◌&&◌, ℕ, ◌<◌, List, length, nat_lt, if◌then◌else◌, Some, None, Ok, Err, ◌-◌, slice_index}
use Rattle.std.specs.Prelude.{◌≤◌, ◌+◌, [], true, map, slice_index_or}
use Rattle.std.specs.Bool.{MatchBool}
use Rattle.std.specs.List.{AllByRecursion}
use Rattle.dbg_base.specs.declared.said.Said.{Said}
use Rattle.dbg_base.specs.declared.said.Said.TheVariants.{Answered, Refused}
use Rattle.dbg_base.specs.declared.said.Answer.TheVariants.{Values, Messages, Counts, PlaceOf, CanUndo, CutIs, Frontier, Marks}
use Rattle.dbg_base.specs.declared.refusal.Refusal.TheVariants.{UnknownProcess, NothingToUndo, Consequence}
use Rattle.dbg_base.specs.Trees.{Program}
use Rattle.dbg_base.specs.Configurations.{Configuration, values_of, channel_of}
use Rattle.dbg_base.specs.LocalStates.{LocalState, no_state}
use Rattle.dbg_base.specs.Orders.{Event, choices_of, states_of}
use Rattle.dbg_base.specs.Predicates.{Conjunct, holds}
use Rattle.dbg_base.specs.Frontiers.{heads_of}
use Rattle.dbg_base.specs.Breakpoints.{Breakpoint, named}
use Rattle.dbg_base.specs.Calls.{Query, Vars, Chan, Clock, Place, Can, CutOf, Why, Breaks}
use Rattle.dbg_base.specs.Views.{about, AboutFound, mark_of}
use Rattle.dbg_base.specs.Reference.{line, IsMessage, HappenedBefore, IsInPast, IsMet, IsLeastMet, IsMaximal}

-- for each process, how many of its events are events of process p or happened before one of them
pub record IsPastOf (P : Program) (E : List Event) (p : ℕ) (cut : List ℕ) : Type 0 where
  pub sizes : length cut ≡ length P
  pub has : (q m : ℕ) → (m < slice_index cut q) ↔ ((n : ℕ) × (n < length (line P E p)) × IsInPast P E q m p n)

-- the answer is the least set of events that meets the breakpoint's conjuncts, or that no set does
abbrev pub ShowsCut : Program → List Event → Breakpoint → Said → Type 0
ShowsCut P E b said =
    ((cut : List ℕ) × IsLeastMet P E b.conjuncts cut × (said ≡ Answered (CutIs (Some cut))))
    ⊎ (((cut : List ℕ) → ¬ IsMet P E b.conjuncts cut) × (said ≡ Answered (CutIs None)))

-- the local state of process p in the replay of E after its first n events
abbrev pub state_after : Program → List Event → ℕ → ℕ → LocalState
state_after P E p n = slice_index_or (slice_index_or (states_of P E) p []) n no_state

-- Where the search for a breakpoint's cut can stop. The tuple has for each process a number of events, which may be one more than there are.
-- With each event it has all that happened before that event. A conjunct holds there, unless its process is past its last event.
pub record IsStop (P : Program) (E : List Event) (conjuncts : List Conjunct) (tuple : List ℕ) : Type 0 where
  pub sizes : length tuple ≡ length P
  pub within : (p : ℕ) → slice_index tuple p ≤ length (line P E p) + 1
  pub closed : (i m j n : ℕ) → HappenedBefore P E i m j n → n < slice_index tuple j → m < slice_index tuple i
  pub all : AllByRecursion
      (λ conjunct. slice_index tuple conjunct.process ≤ length (line P E conjunct.process)
      → holds conjunct.expression (state_after P E conjunct.process (slice_index tuple conjunct.process)) ≡ true) conjuncts

-- the answer is the least such tuple: for each process a number of events, or that it is past its last event
abbrev pub ShowsStop : Program → List Event → Breakpoint → Said → Type 0
ShowsStop P E b said = (tuple : List ℕ) × IsStop P E b.conjuncts tuple
    × ((other : List ℕ) → IsStop P E b.conjuncts other → (p : ℕ) → slice_index tuple p ≤ slice_index other p)
    × (said ≡ Answered (Frontier (heads_of (choices_of (length P) E) tuple)))

-- The answer is that the last event of process p may be undone, since no event happened after it. Or the process has no event, or process q
-- received the message of its last event.
abbrev pub ShowsUndo : Program → List Event → ℕ → Said → Type 0
ShowsUndo P E p said =
    (IsMaximal P E p × (said ≡ Answered (CanUndo (Ok tt)))) ⊎ ((line P E p ≡ []) × (said ≡ Answered (CanUndo (Err NothingToUndo))))
    ⊎ ((q n : ℕ) × IsMessage P E p (length (line P E p) - 1) q n × (said ≡ Answered (CanUndo (Err (Consequence (record { 0 = q }))))))

-- The replay of E ends at c. The place of a process is the number of its events. How many more choices it can make again is left open, since
-- these are not events. The marks are those of the breakpoints.
abbrev pub Shows : Program → List Breakpoint → List Event → Configuration → Query → Said → Type 0
Shows P breakpoints E c (Vars p) said = said ≡ about P p (Values (values_of c p))
Shows P breakpoints E c (Chan i j) said =
    said ≡ (if nat_lt i (length P) && nat_lt j (length P) then Answered (Messages (channel_of c i j)) else Refused UnknownProcess)
Shows P breakpoints E c (Clock p) said =
    MatchBool (nat_lt p (length P)) ((cut : List ℕ) × IsPastOf P E p cut × (said ≡ Answered (Counts cut))) (said ≡ Refused UnknownProcess)
Shows P breakpoints E c (Can p) said = MatchBool (nat_lt p (length P)) (ShowsUndo P E p said) (said ≡ Refused UnknownProcess)
Shows P breakpoints E c (CutOf name) said = AboutFound (named name breakpoints) (λ b. ShowsCut P E b said) said
Shows P breakpoints E c (Why name) said = AboutFound (named name breakpoints) (λ b. ShowsStop P E b said) said
Shows P breakpoints E c (Place p) said = (more : ℕ) × (said ≡ about P p (PlaceOf (length (line P E p)) (length (line P E p) + more)))
Shows P breakpoints E c Breaks said = said ≡ Answered (Marks (map mark_of breakpoints))
