use Rattle.std.proofs.Common.{◌+◌, arith}
use Rattle.proc_lang.proofs.Numbers.{prefix_is_less, value_more}
use Rattle.proc_lang.proofs.scan.number_value.Goals as goal

pub returns-then-value-digit : goal.returns-then-value-digit
returns-then-value-digit c =
    let digits = c.args.digits.now in
    let more =
    value_more digits c.loop-b.b-index c.loop-b.value c.from-digit.result c.requires c.loop-b-test.true c.from-digit.ensures
    c.loop-b.invariant.0 in
    omega (arith, more, prefix_is_less (c.loop-b.b-index + 1) digits)

pub loop-b-preserved : goal.loop-b-preserved
loop-b-preserved c = (
  value_more c.args.digits.now c.loop-b.b-index c.loop-b.value c.from-digit.result c.requires c.loop-b-test.true c.from-digit.ensures
      c.loop-b.invariant.0,
  omega arith,
)
