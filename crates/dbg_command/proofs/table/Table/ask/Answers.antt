use Rattle.std.proofs.Common.{rules}
use Rattle.proc_tree.specs.Programs.{program_of}
use Rattle.dbg_command.proofs.table.Table.ask.Goals as goal

pub returns-in-Breaks-clause-answers : goal.returns-in-Breaks-clause-answers
returns-in-Breaks-clause-answers c =
    let marks = c.marks.ensures (program_of c.args.program.now) in
    search (rules, marks)
