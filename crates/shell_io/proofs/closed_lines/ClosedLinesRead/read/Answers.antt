use Rattle.std.proofs.Common.{◌≡◌, ◌<◌, length, arith}
use Rattle.std.proofs.lemmas.Grind.{common_steps}
use Rattle.shell_io.proofs.ClosedLineLemmas.{lines_read, lines_ended}
use Rattle.shell_io.proofs.closed_lines.ClosedLinesRead.read.Goals as goal

pub returns-then-count-gt0-clause-bytes : goal.returns-then-count-gt0-clause-bytes
returns-then-count-gt0-clause-bytes g c = (
  lines_read _ _ _ _ c.read.new.buf c.if-count-gt0.true c.in_ok-count.ensures.bound.0 c.in_ok-count.ensures.bytes.0,
  λ none. absurd (omega (arith, none, c.if-count-gt0.true)),
)

pub returns-clause-bytes : goal.returns-clause-bytes
returns-clause-bytes g c =
    let none : c.in_ok-count.count ≡ 0 = omega (arith, c.if-count-gt0.false) in
    let some : 0 < length c.read.new.buf = grind (arith, common_steps) in (
      lines_ended _ _ c.args.self.now.last c.in_ok-count.count c.read.new.buf some c.if-self-eq10.false none
          c.in_ok-count.ensures.bytes.0 (c.in_ok-count.ensures.bytes.1 none some),
      λ one. absurd (omega (arith, one)),
    )
