use Rattle.std.proofs.Common.{List, length, ap, arith}
use Rattle.cut_core.specs.declared.kind.Kind.{Kind}
use Rattle.causal_world.proofs.RollbackLemmas.{none_after}
use Rattle.causal_world.proofs.rolling.next_back.Goals as goal

pub returns : goal.returns
returns c =
    none_after _ c.args.cut.now c.requires.world c.requires.cut (λ q within. c.loop-p.invariant q
    (omega (arith, within, c.loop-p-test.false, c.processes-p-end.ensures, ap (λ (l : List (List Kind)). length l) c.tally.ensures)))
