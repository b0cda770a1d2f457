use Rattle.std.proofs.Common.{◌≡◌, ◌-◌, length, get_or, arith}
use Rattle.shell_parse.proofs.FirstWords.{return_dropped, return_missing}
use Rattle.shell_parse.proofs.line.without_return.Goals as goal

pub returns-in-len1-up : goal.returns-in-len1-up
returns-in-len1-up c = return_dropped _ _ (omega arith) c.if-last-eq13.true

pub returns-in_default-2 : goal.returns-in_default-2
returns-in_default-2 c = return_missing c.args.line.now (λ n e h.
    let last : n ≡ length c.args.line.now - 1 = omega arith in
    let at : get_or c.args.line.now n 0 ≡ 13 = h in
    c.if-last-eq13.false (rw last at at))
