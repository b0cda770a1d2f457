-- What contracts see of a detector, and how it agrees with a world.
use Rattle.std.specs.Prelude.{◌≡◌, ℕ, ◌+◌, ◌<◌, ◌≤◌, ◌⊎◌, ◌&&◌, ◌==◌, not, Bool, List, [], length, map, take, nat_le, slice_index}
use Rattle.std.specs.Prelude.{if◌then◌else◌, slice_index_or, slice_set}
use Rattle.std.specs.List.{AllByRecursion, list_any}
use Rattle.dbg_base.specs.declared.elimination.Elimination.{Elimination}
use Rattle.dbg_base.specs.Trees.{Tree, Program}
use Rattle.dbg_base.specs.Histories.{History}
use Rattle.dbg_base.specs.Cuts.{IsAtMost}
use Rattle.dbg_base.specs.Reversal.{without_last}
use Rattle.dbg_base.specs.SystemStates.{place_at, history_of}
use Rattle.dbg_base.specs.Predicates.{Conjunct}
use Rattle.dbg_base.specs.declared.said.Head.{Head}
use Rattle.dbg_base.specs.declared.said.Head.TheVariants.{At, Past}
use Rattle.dbg_base.specs.Frontiers.{IsFrontier, heads_of}
use Rattle.dbg_base.specs.Eliminations.{reach_from}
use Rattle.causal_world.specs.Scenes.{Scene, IsWorldOf}
use Rattle.least_cut.specs.Watches.{TruthLine, WatchState, WatchRoom, conjunct_in, IsWatchOf}
use Rattle.least_cut.specs.Searches.{IsTrailFrom, IsSettledAt, none_of, steps_up_to}

-- its conjuncts with their truths, a candidate for each process, the eliminations that led to these, and how many eliminations fit without
-- allocation
pub record DetectorState : Type 0 where
  pub watches : List WatchRoom
  pub candidates : List ℕ
  pub trail : List Elimination
  pub trail_room : ℕ

abbrev pub states_of : DetectorState → List WatchState
states_of d = map (λ watch. watch.state) d.watches

-- the conjunct of this process with this expression
abbrev pub conjunct_with : ℕ → Tree → Conjunct
conjunct_with process expression = record { process = process; expression = expression }

abbrev pub conjuncts_of : DetectorState → List Conjunct
conjuncts_of d = map (λ watch. conjunct_in watch.state) d.watches

abbrev pub lines_of : DetectorState → List TruthLine
lines_of d = map (λ watch. watch.state.line) d.watches

-- what is kept of each conjunct is that of the world
abbrev pub AreWatchesOf : Scene → List WatchRoom → Type 0
AreWatchesOf w watches = AllByRecursion (λ watch. IsWatchOf w watch.state) watches

-- there is room for the truths of so many events of the process
abbrev pub HasTruthRoom : List ℕ → WatchRoom → Type 0
HasTruthRoom places watch = slice_index places watch.state.line.process + 1 ≤ watch.room

-- the watches are the same, and no room was lost
pub record AreRoomier (old new : List WatchRoom) : Type 0 where
  pub states : map (λ watch. watch.state) new ≡ map (λ watch. watch.state) old
  pub grows : (places : List ℕ) → AllByRecursion (HasTruthRoom places) old → AllByRecursion (HasTruthRoom places) new

-- the watches are those of the world, of the same conjuncts, and with the same room
pub record AreWatched (w : Scene) (old new : List WatchRoom) : Type 0 where
  pub watches : AreWatchesOf w new
  pub conjuncts : map (λ watch. conjunct_in watch.state) new ≡ map (λ watch. conjunct_in watch.state) old
  pub rooms : map (λ watch. watch.room) new ≡ map (λ watch. watch.room) old

-- with these places it needs no allocation
pub record HasRoomUpTo (d : DetectorState) (places : List ℕ) : Type 0 where
  pub truths : AllByRecursion (HasTruthRoom places) d.watches
  pub trail : steps_up_to places ≤ d.trail_room

-- its eliminations lead to its candidates in the world
pub record IsSearchOf (w : Scene) (d : DetectorState) : Type 0 where
  pub watches : AreWatchesOf w d.watches
  pub sound : IsTrailFrom w (lines_of d) (none_of w) d.trail
  pub reached : reach_from (none_of w) d.trail ≡ d.candidates
  pub room : HasRoomUpTo d w.state.places

-- the same, and nothing is left to rule out
pub record IsDetectorOf (w : Scene) (d : DetectorState) : Type 0 where
  pub search : IsSearchOf w d
  pub settled : (q : ℕ) → q < length w.state.places → IsSettledAt w (lines_of d) d.candidates q

-- Its candidates moved in the world, and its conjuncts and its room stayed.
pub record GoesOn (w : Scene) (old new : DetectorState) : Type 0 where
  pub search : IsSearchOf w new
  pub watches : new.watches ≡ old.watches
  pub trail_room : new.trail_room ≡ old.trail_room
  pub most : IsAtMost old.candidates new.candidates

-- A conjunct names process p, and the process has fewer than n events, by the truths that are known.
abbrev pub is_past_in : List TruthLine → ℕ → ℕ → Bool
is_past_in lines p n = list_any (λ line. (line.process == p) && nat_le (length line.truths) n) lines

-- at most as many local states of the line's process are known as its candidate says
abbrev pub is_own_past : List ℕ → TruthLine → Bool
is_own_past candidates line = nat_le (length line.truths) (slice_index candidates line.process)

-- no process that a line names is past
abbrev pub has_cut_in : List ℕ → List TruthLine → Bool
has_cut_in candidates lines = not (list_any (is_own_past candidates) lines)

-- a component as the frontier has it, by the truths that are known
abbrev pub reported_head : List TruthLine → ℕ → ℕ → Head
reported_head lines p n = if is_past_in lines p n then Past else At n

-- The watches are those of the world, and all else stayed.
pub record Watches (w : Scene) (old new : DetectorState) : Type 0 where
  pub watches : AreWatchesOf w new.watches
  pub conjuncts : conjuncts_of new ≡ conjuncts_of old
  pub rooms : map (λ watch. watch.room) new.watches ≡ map (λ watch. watch.room) old.watches
  pub candidates : new.candidates ≡ old.candidates
  pub trail : new.trail ≡ old.trail
  pub trail_room : new.trail_room ≡ old.trail_room

-- The last eliminations were dropped, until the candidate of process p is at most the limit.
pub record DropsTo (p limit : ℕ) (old new : DetectorState) : Type 0 where
  pub watches : new.watches ≡ old.watches
  pub trail_room : new.trail_room ≡ old.trail_room
  pub search : (v : Scene) → IsSearchOf v old → IsSearchOf v new
  pub below : (v : Scene) → IsSearchOf v old → slice_index new.candidates p ≤ limit
  pub most : (v : Scene) → IsSearchOf v old → IsAtMost new.candidates old.candidates

-- The eliminations up to this component of process p stay valid as the world v becomes w. The component is at most one more than the
-- events, and is one more only if no event was undone.
pub record IsLimit (v w : Scene) (p n : ℕ) : Type 0 where
  pub most : n ≤ place_at w.state p + 1
  pub kept : (n ≤ place_at w.state p) ⊎ (place_at v.state p ≤ place_at w.state p)

-- these are the components of the frontier
pub record TellsFrontier (P : Program) (H : History) (conjuncts : List Conjunct) (heads : List Head) : Type 0 where
  pub tuple : List ℕ
  pub is : IsFrontier P H conjuncts tuple
  pub reported : heads ≡ heads_of H tuple

-- The detectors differ at most in their room, and the second has no less.
pub record IsSameButRoom (old new : DetectorState) : Type 0 where
  pub states : states_of new ≡ states_of old
  pub candidates : new.candidates ≡ old.candidates
  pub trail : new.trail ≡ old.trail
  pub room : (places : List ℕ) → HasRoomUpTo old places → HasRoomUpTo new places

-- the places with one more event of process p
abbrev pub one_more : Scene → ℕ → List ℕ
one_more w p = slice_set w.state.places p (place_at w.state p + 1)

-- The detector was that of the world `before`, and both worlds are of one program.
pub record WasOf (P : Program) (before : Scene) (d : DetectorState) (w : Scene) : Type 0 where
  pub detector : IsDetectorOf before d
  pub of : IsWorldOf P before
  pub now : IsWorldOf P w

-- Process p has made one event since.
abbrev pub IsGrown : DetectorState → ℕ → Scene → Type 0
IsGrown d p w =
    (P : Program) × (before : Scene) × WasOf P before d w × (0 < place_at w.state p)
    × (history_of before.state ≡ without_last (history_of w.state) p)

-- Process p has lost its last event since.
abbrev pub IsShrunk : DetectorState → ℕ → Scene → Type 0
IsShrunk d p w =
    (P : Program) × (before : Scene) × WasOf P before d w × (history_of w.state ≡ without_last (history_of before.state) p)

-- the first history is a prefix of the second, process by process
abbrev pub Begins : History → History → Type 0
Begins H more =
    (length H ≡ length more)
    × ((p : ℕ) → take (length (slice_index_or H p [])) (slice_index_or more p []) ≡ slice_index_or H p [])

-- Events were made or undone since.
abbrev pub IsMoved : DetectorState → Scene → Type 0
IsMoved d w =
    (P : Program) × (before : Scene) × WasOf P before d w
    × (Begins (history_of before.state) (history_of w.state) ⊎ Begins (history_of w.state) (history_of before.state))
