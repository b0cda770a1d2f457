use Rattle.std.proofs.lemmas.Bool.{leb-true, le-leb}
use Rattle.ui_causes.proofs.CausalPastLemmas.{counted_before}
use Rattle.ui_causes.proofs.past.is_before.Goals as goal

pub returns-then-earlier-ge1 : goal.returns-then-earlier-ge1
returns-then-earlier-ge1 c P E are is =
    let both = counted_before c.args.world.now c.args.earlier c.args.event c.count_before-count.result c.count_before-count.ensures P E are is in (
      λ t. both.0 (c.if-earlier-ge1.true, leb-true c.args.earlier.number c.count_before-count.result t),
      λ before. le-leb c.args.earlier.number c.count_before-count.result (both.1 before).1,
    )
