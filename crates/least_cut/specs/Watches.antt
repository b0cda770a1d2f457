-- What is kept of the conjuncts of a breakpoint.
use Rattle.std.specs.Prelude.{◌≡◌, ℕ, ◌<◌, ◌-◌, ◌++◌, ◌∷◌, ◌⊎◌, Bool, List, [], length, map, slice_get, slice_index_or}
use Rattle.std.specs.Borrow.{Bor}
use Rattle.dbg_base.specs.declared.expr.Expr.{Expr}
use Rattle.dbg_base.specs.declared.ids.Pid.{Pid}
use Rattle.dbg_base.specs.Trees.{Tree, tree_of}
use Rattle.dbg_base.specs.LocalStates.{LocalState, no_state}
use Rattle.dbg_base.specs.Predicates.{Conjunct, holds}
use Rattle.event_rows.specs.Events.{past_of, advanced}
use Rattle.event_rows.specs.Truths.{truths_along}
use Rattle.causal_world.specs.Scenes.{Scene, IsEarlier}
use Rattle.causal_world.specs.Worlds.{IsSomeWorld}

-- in which local states of a process its conjunct is true, from the start on
pub record TruthLine : Type 0 where
  pub process : ℕ
  pub truths : List Bool

-- the same, and how many truths fit without allocation
pub record TruthsState : Type 0 where
  pub line : TruthLine
  pub room : ℕ

-- a conjunct, where it is true, and the last local state of its process
pub record WatchState : Type 0 where
  pub line : TruthLine
  pub expression : Tree
  pub env : LocalState

-- the same, and how many truths fit without allocation
pub record WatchRoom : Type 0 where
  pub state : WatchState
  pub room : ℕ

abbrev pub conjunct_in : WatchState → Conjunct
conjunct_in watch = record { process = watch.line.process; expression = watch.expression }

-- where the conjunct is true in the world
abbrev pub truth_line : Scene → Conjunct → TruthLine
truth_line w conjunct = record {
  process = conjunct.process;
  truths = truths_along conjunct.expression (slice_index_or w.starts conjunct.process no_state)
      (slice_index_or w.events conjunct.process []);
}

abbrev pub scan_of : Scene → List Conjunct → List TruthLine
scan_of w conjuncts = map (truth_line w) conjuncts

-- the conjunct of a process and an expression
abbrev pub named_in : Pid × Bor Expr → Conjunct
named_in named = record { process = named.0.0; expression = tree_of named.1.now }

-- each conjunct's process, with the list at the same position
abbrev pub lines_with : List Conjunct → List (List Bool) → List TruthLine
lines_with [] lists = []
lines_with (conjunct ∷ conjuncts) [] = []
lines_with (conjunct ∷ conjuncts) (truths ∷ lists) =
    record { process = conjunct.process; truths = truths } ∷ lines_with conjuncts lists

-- the watch is that of the world
pub record IsWatchOf (w : Scene) (watch : WatchState) : Type 0 where
  pub here : watch.line.process < length w.state.places
  pub line : watch.line ≡ truth_line w (conjunct_in watch)
  pub env : watch.env ≡ past_of (slice_index_or w.starts watch.line.process no_state)
      (slice_index_or w.events watch.line.process []) (length (slice_index_or w.events watch.line.process []))

-- the next event of its process was added, if there is one
pub record IsAdvanced (w : Scene) (old new : WatchState) : Type 0 where
  pub expression : new.expression ≡ old.expression
  pub env : new.env ≡ advanced (slice_get (slice_index_or w.events old.line.process []) (length old.line.truths - 1)) old.env
  pub line : new.line ≡ record old.line { truths = old.line.truths ++ holds new.expression new.env ∷ [] }

-- one of two worlds has the events of the other, and perhaps more
abbrev pub AreAlong : Scene → Scene → Type 0
AreAlong v w = IsEarlier v w ⊎ IsEarlier w v

-- The watch was that of an earlier world, and events were made or undone since.
abbrev pub WasWatchOf : WatchState → Scene → Type 0
WasWatchOf watch w = (v : Scene) × IsSomeWorld v × IsWatchOf v watch × AreAlong v w
