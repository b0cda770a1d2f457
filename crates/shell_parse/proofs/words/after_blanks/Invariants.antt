use Rattle.std.proofs.Common.{◌≡◌, length}
use Rattle.dbg_base.specs.CommandLines.{without_blanks}
use Rattle.shell_parse.proofs.words.after_blanks.Given as goal

abbrev pub invariant-loop-rest : goal.invariant-loop-rest
invariant-loop-rest l = without_blanks l.rest ≡ without_blanks l.fn.bytes

abbrev pub decreases-loop-rest : goal.decreases-loop-rest
decreases-loop-rest l = length l.rest
