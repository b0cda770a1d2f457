use Rattle.std.specs.Fmt.{signed_decimal}
use Rattle.std.proofs.Common.{refl}
use Rattle.shell_print.proofs.WriteLemmas.{row_put, row_stopped, next_mapped}
use Rattle.shell_print.proofs.parts.put_numbers.Goals as goal

pub returns-in_err-put_number : goal.returns-in_err-put_number
returns-in_err-put_number g c =
    row_stopped _ _ _ _ _ _ _ _ _ _ c.loop-number.invariant
    (next_mapped signed_decimal c.args.numbers.now _ _ _ c.loop-number-test.true refl)
    c.in_err-put_number.ensures c.from_residual.ensures.1

pub loop-number-preserved : goal.loop-number-preserved
loop-number-preserved g c =
    row_put _ _ _ _ _ _ _ _ _ c.loop-number.invariant
    (next_mapped signed_decimal c.args.numbers.now _ _ _ c.loop-number-test.true refl)
    c.in_ok-put_number.ensures
