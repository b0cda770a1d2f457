use Rattle.dbg_command.specs.Tables.{state_of}
use Rattle.dbg_command.proofs.QueryAnswerLemmas.{tells_cut, tells_no_break}
use Rattle.dbg_command.proofs.table.Table.cut.Goals as goal

pub returns-in-Ok-clause-answers : goal.returns-in-Ok-clause-answers
returns-in-Ok-clause-answers c = λ P is. tells_cut P (state_of c.args.self.now) c.args.name c.in-Ok.cut (c.in-Ok.ensures.of P is)

pub returns-in-Err-clause-answers : goal.returns-in-Err-clause-answers
returns-in-Err-clause-answers c = λ P is. tells_no_break P (state_of c.args.self.now) c.args.name c.in-Err.refusal (c.in-Err.ensures.of P is)
