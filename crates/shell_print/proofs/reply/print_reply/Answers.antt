use Rattle.std.proofs.Common.{sym}
use Rattle.dbg_base.specs.Calls.{call_of}
use Rattle.shell_print.proofs.QuestionLemmas.{fits_said}
use Rattle.shell_print.proofs.reply.print_reply.Goals as goal

pub print_said-requires : goal.print_said-requires
print_said-requires g c = fits_said _ (call_of c.args.call.now) _ _ c.question.ensures c.requires

pub returns : goal.returns
returns g c = c.print_said.ensures (call_of c.args.call.now) (sym c.question.ensures)
