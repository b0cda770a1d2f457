use Rattle.std.proofs.Common.{List, Vec, Global, subst, sym, refl}
use Rattle.std.specs.List.{All}
use Rattle.std.proofs.lemmas.List.Elements.{All-push}
use Rattle.ui_causes.specs.declared.messages.Hop.{Hop}
use Rattle.ui_causes.specs.CausalPasts.{IsOnTheWay}
use Rattle.ui_causes.proofs.chains.Chains.from.Goals as goal
use Rattle.ui_causes.proofs.chains.Chains.from.Goals.{then-is_on_the_way+in_ok-push, else-is_on_the_way}

pub loop-preserved : goal.loop-preserved
loop-preserved c =
    let Q = IsOnTheWay c.args.world.now c.args.event in
    elim c.if-is_on_the_way.branch [
      | then-is_on_the_way+in_ok-push w ↦
          subst (λ (v : Vec Hop Global). All Q v.items) (sym w.hops-is)
          (subst (λ (l : List Hop). All Q l) (sym w.in_ok-push.ensures.items)
          (All-push Q c.loop.hops.items c.in-Some-hop.hop c.loop.invariant (w.if-is_on_the_way.ensures refl)))
      | else-is_on_the_way w ↦ subst (λ (v : Vec Hop Global). All Q v.items) (sym w.hops-is) c.loop.invariant
    ]
