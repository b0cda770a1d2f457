use Rattle.std.proofs.Common.{◌++◌, drop, map}
use Rattle.std.specs.Fmt.{signed_decimal}
use Rattle.dbg_base.specs.Replies.{spaced}
use Rattle.shell_print.specs.Writing.{Progress}
use Rattle.shell_print.proofs.parts.put_numbers.Given as goal

abbrev pub invariant-loop-number : goal.invariant-loop-number
invariant-loop-number g l =
    Progress (g.W.Sink.seen l.fn.writer) (g.W.Sink.seen l.writer) (l.fn.text ++ spaced (map signed_decimal l.numbers))
    (l.text ++ spaced (map signed_decimal (drop l.number-index l.numbers)))
