use Rattle.std.proofs.Common.{◌≡◌, List, [], ◌∷◌, ℕ, sum, map, length}
use Rattle.dbg_base.specs.Cuts.{IsConsistent}
use Rattle.dbg_base.specs.SystemStates.{history_of}
use Rattle.dbg_base.specs.Trees.{Program}
use Rattle.causal_world.specs.Scenes.{IsWorldOf}
use Rattle.ui_timeline.proofs.UndoneOrderLemmas.{IsUndone}
use Rattle.ui_timeline.proofs.FirstCutLemmas.{Splits}
use Rattle.ui_timeline.proofs.order.undo_all.Given as goal

abbrev pub invariant-loop-pid : goal.invariant-loop-pid
invariant-loop-pid l = record {
  size : l.processes ≡ length l.world.state.places;
  undone : IsUndone l.fn.world l.world (map (λ pid. pid.0) l.undone.items);
  splits : (P : Program) (cut : List ℕ) → IsWorldOf P l.fn.world → map (λ c. c.now) l.cuts ≡ cut ∷ []
      → IsConsistent P (history_of l.fn.world.state) cut → Splits P l.world cut (map (λ pid. pid.0) l.undone.items);
}

-- the events that are left
abbrev pub decreases-loop-pid : goal.decreases-loop-pid
decreases-loop-pid l = sum l.world.state.places
