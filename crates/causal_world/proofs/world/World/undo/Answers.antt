use Rattle.std.proofs.Common.{◌≡◌, ℕ, List, [], ◌∷◌, ◌++◌, subst, sym, ap}
use Rattle.dbg_base.specs.declared.ids.Pid.{Pid}
use Rattle.dbg_base.specs.Trees.{Program}
use Rattle.causal_world.specs.declared.rolled.Taken.{Taken}
use Rattle.causal_world.specs.Scenes.{Scene, IsWorldOf}
use Rattle.causal_world.specs.Rollings.{IsRolledFrom, TakesOut}
use Rattle.causal_world.proofs.RollbackLemmas.{rolled_of, rolled_none, rolled_more}
use Rattle.causal_world.proofs.world.World.undo.Goals as goal
use Rattle.causal_world.proofs.world.World.undo.Goals.{After-new}

one_rolled : (P : Program) (w new : Scene) (one : Taken) → TakesOut w one.pid.0 one.event new → IsWorldOf P w
    → IsRolledFrom P w (one ∷ []) new
one_rolled P w new one took of =
    subst (λ (v : Scene). IsRolledFrom P w (one ∷ []) v) (sym took.left)
    (rolled_more P w w [] one (rolled_none P w of) took.was (took.may P of).1)

one_back : (c : After-new) (P : Program) → IsWorldOf P c.args.self.now
    → IsRolledFrom P c.args.self.now (c.in_ok-last.last ∷ []) c.pop_event.new.self
one_back c P of =
    let one = c.in_ok-last.last in
    let p : c.args.pid.0 ≡ one.pid.0 = ap (λ (pid : Pid). pid.0) (sym c.in_ok-last.ensures.of) in
    one_rolled P c.args.self.now c.pop_event.new.self one
    (subst (λ (q : ℕ). TakesOut c.args.self.now q one.event c.pop_event.new.self) p c.in_ok-last.ensures.took) of

pub returns-clause-of : goal.returns-clause-of
returns-clause-of c = λ P of. rolled_of P _ _ _ (one_back (goal.at.returns-clause-of c).After-new P of)

pub returns-clause-back : goal.returns-clause-back
returns-clause-back c = λ P of.
    subst (λ (l : List Taken). IsRolledFrom P c.args.self.now (l ++ c.in_ok-last.last ∷ []) c.pop_event.new.self)
    (sym c.new.ensures.items) (one_back (goal.at.returns-clause-back c).After-new P of)
