use Rattle.std.proofs.Common.{Ok, subst}
use Rattle.dbg_base.specs.declared.call.Call as call
use Rattle.proc_tree.specs.Programs.{program_of}
use Rattle.shell_parse.specs.Lines.{IsOneParsed}
use Rattle.shell_parse.proofs.GivableBatchLemmas.{member_read}
use Rattle.shell_parse.proofs.batch_line.read_command.Goals as goal

pub returns-in-Give : goal.returns-in-Give
returns-in-Give c =
    let P = program_of c.args.program.now in
    member_read P c.args.bytes.now c.in-Give.plan c.requires
    (subst (λ (given : call.Call). IsOneParsed P c.args.bytes.now (Ok given)) c.in-Give.is c.in_ok-plan.ensures)
