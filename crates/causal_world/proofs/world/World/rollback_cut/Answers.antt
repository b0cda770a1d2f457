use Rattle.std.proofs.Common.{List, ℕ, length, sym, ap, ◌∙◌}
use Rattle.cut_core.specs.declared.kind.Kind.{Kind}
use Rattle.causal_world.specs.Scenes.{Scene}
use Rattle.causal_world.proofs.WorldCallLemmas.{same_size, is_rollback}
use Rattle.causal_world.proofs.world.World.rollback_cut.Goals as goal

pub greatest_below-requires : goal.greatest_below-requires
greatest_below-requires c =
    ap (λ (l : List ℕ). length l) c.new.ensures
    ∙ same_size _ c.in_ok-places.places.items c.args.pid.0 c.args.n c.self.invariant c.in_ok-places.ensures
    ∙ sym (ap (λ (l : List (List Kind)). length l) c.tally.ensures)

pub returns-clause-greatest : goal.returns-clause-greatest
returns-clause-greatest c = λ P of.
    let found = c.in_ok-greatest_below.ensures in
    is_rollback P c.args.self.now c.args.pid.0 c.args.n c.in_ok-places.places.items c.new.result c.in_ok-greatest_below.field-0
    c.tally.result.now.kinds of (c.in_ok-places.ensures ∙ ap (λ (w : Scene). w.state.places) c.self.view_is)
    (c.tally.ensures ∙ ap (λ (w : Scene). w.kinds) c.self.view_is) c.new.ensures c.requires.process c.requires.event found.consistent
    found.below found.greatest
