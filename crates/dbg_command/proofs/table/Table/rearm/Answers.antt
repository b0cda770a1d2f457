use Rattle.std.proofs.Common.{sym, subst}
use Rattle.dbg_command.specs.Tables.{IsTableOf}
use Rattle.dbg_command.proofs.BreakpointCommandLemmas.{keeps_table}
use Rattle.dbg_command.proofs.table.Table.rearm.Goals as goal

pub returns-clause-of : goal.returns-clause-of
returns-clause-of c = λ P is.
    keeps_table P c.self.inside.world c.self.inside.book c.arm.new.self c.arm.ensures.of (subst (IsTableOf P) (sym c.self.view_is) is)
