-- The reference of the headline law: a list E of events, replayed from the start one after the other (`order P E`). Event n of process p is
-- its n-th event in E, counted from 0. These definitions use no session, schedule, clock or undo.
use Rattle.std.specs.Prelude.{◌≡◌, ◌≢◌, ℕ, ◌-◌, ◌<◌, ◌≤◌, true, List, [], ◌∷◌, ◌++◌, length, take, Ok, nat_lt, if◌then◌else◌, ◌⊎◌}
use Rattle.std.specs.Prelude.{slice_index, slice_index_or, slice_set}
use Rattle.std.specs.List.{AllByRecursion, count_by}
use Rattle.dbg_base.specs.Trees.{Program}
use Rattle.dbg_base.specs.Configurations.{Configuration, state_in}
use Rattle.dbg_base.specs.Orders.{Event, order, choices_of}
use Rattle.dbg_base.specs.Counts.{sends_to, receives_from}
use Rattle.dbg_base.specs.Predicates.{Conjunct, holds}

-- the events of process p in E, as the numbers of its commands
abbrev pub line : Program → List Event → ℕ → List ℕ
line P E p = slice_index_or (choices_of (length P) E) p []

-- Event m of process i sends the message that event n of process j receives. The first sends to j, and the second receives from i. Before
-- them, i sent as many messages to j as j received from i, since a channel keeps its messages in order. The processes differ: the events of
-- one process are ordered without messages.
pub record IsMessage (P : Program) (E : List Event) (i m j n : ℕ) : Type 0 where
  pub apart : i ≢ j
  pub sent : m < length (line P E i)
  pub sends : sends_to P i j (slice_index (line P E i) m) ≡ true
  pub received : n < length (line P E j)
  pub receives : receives_from P j i (slice_index (line P E j) n) ≡ true
  pub same : count_by (sends_to P i j) (take m (line P E i)) ≡ count_by (receives_from P j i) (take n (line P E j))

-- In the replay of E, event n of process p happens at c and leads to d.
abbrev pub Happens : Program → List Event → ℕ → ℕ → Configuration → Configuration → Type 0
Happens P E p n c d = (before after : List Event) × (e : Event) × (E ≡ before ++ e ∷ after) × (e.process ≡ p)
    × (length (line P before p) ≡ n) × (order P before ≡ Ok c) × (order P (before ++ e ∷ []) ≡ Ok d)

-- Event m of process i happened before event n of process j (Lamport 1978). It is an earlier event of the same process, or it sent the
-- message that the other received, or it happened before an event that happened before the other.
pub data HappenedBefore (P : Program) (E : List Event) : ℕ → ℕ → ℕ → ℕ → Type 0 where
  Earlier : {p m n : ℕ} → m < n → n < length (line P E p) → HappenedBefore P E p m p n
  ByMessage : {i m j n : ℕ} → IsMessage P E i m j n → HappenedBefore P E i m j n
  Through : {i m j n k o : ℕ} → HappenedBefore P E i m j n → HappenedBefore P E j n k o → HappenedBefore P E i m k o

-- event m of process i is event n of process j, or happened before it
abbrev pub IsInPast : Program → List Event → ℕ → ℕ → ℕ → ℕ → Type 0
IsInPast P E i m j n = HappenedBefore P E i m j n ⊎ ((i ≡ j) × (m ≡ n))

-- A set of events of E that is closed under happened-before. It has the first events of each process, and is given by how many it has.
pub record IsClosed (P : Program) (E : List Event) (cut : List ℕ) : Type 0 where
  pub sizes : length cut ≡ length P
  pub within : (p : ℕ) → slice_index cut p ≤ length (line P E p)
  pub closed : (i m j n : ℕ) → HappenedBefore P E i m j n → n < slice_index cut j → m < slice_index cut i

-- the events of such a set, in the order of E
abbrev pub events_of : List ℕ → List Event → List Event
events_of cut [] = []
events_of cut (e ∷ E) =
    if nat_lt 0 (slice_index cut e.process) then e ∷ events_of (slice_set cut e.process (slice_index cut e.process - 1)) E
    else events_of cut E

-- The set is closed. If its events are replayed alone, each of them fires, and the conjuncts hold at the end.
pub record IsMet (P : Program) (E : List Event) (conjuncts : List Conjunct) (cut : List ℕ) : Type 0 where
  pub closed : IsClosed P E cut
  pub end : Configuration
  pub replayed : order P (events_of cut E) ≡ Ok end
  pub all : AllByRecursion (λ conjunct. holds conjunct.expression (state_in end conjunct.process) ≡ true) conjuncts

-- It is the least such set.
pub record IsLeastMet (P : Program) (E : List Event) (conjuncts : List Conjunct) (cut : List ℕ) : Type 0 where
  pub met : IsMet P E conjuncts cut
  pub least : (other : List ℕ) → IsMet P E conjuncts other → (p : ℕ) → slice_index cut p ≤ slice_index other p

-- It is the greatest closed set with at most n events of process p.
pub record IsGreatest (P : Program) (E : List Event) (p n : ℕ) (cut : List ℕ) : Type 0 where
  pub closed : IsClosed P E cut
  pub below : slice_index cut p ≤ n
  pub greatest : (other : List ℕ) → IsClosed P E other → slice_index other p ≤ n → (q : ℕ) → slice_index other q ≤ slice_index cut q

-- Process p has a last event, which is maximal: no event happened after it.
pub record IsMaximal (P : Program) (E : List Event) (p : ℕ) : Type 0 where
  pub some : 0 < length (line P E p)
  pub none_after : (j n : ℕ) → ¬ HappenedBefore P E p (length (line P E p) - 1) j n
