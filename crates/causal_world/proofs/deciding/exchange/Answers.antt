use Rattle.std.proofs.Common.{◌<◌, List, ℕ, subst, sym, get_or}
use Rattle.dbg_base.specs.declared.limits.TheConstants.{EVENTS}
use Rattle.dbg_base.specs.declared.expr.Direction.TheVariants.{Sent, Got}
use Rattle.causal_world.proofs.deciding.exchange.Goals as goal

pub one_more-requires : goal.one_more-requires
one_more-requires c =
    let target = c.in-Send-Some-default.target.0 in
    subst (λ (counts : List ℕ). get_or counts target 0 < EVENTS) (sym c.counts.ensures) (c.requires Sent target)

pub one_more-requires-in-Receive-default-Some : goal.one_more-requires-in-Receive-default-Some
one_more-requires-in-Receive-default-Some c =
    let source = c.in-Receive-default-Some.source.0 in
    subst (λ (counts : List ℕ). get_or counts source 0 < EVENTS) (sym c.counts-in-Receive-default-Some.ensures) (c.requires Got source)
