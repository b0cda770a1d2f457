use Rattle.std.proofs.Common.{ap, arith}
use Rattle.std.proofs.lemmas.Bool.{ne_eqb}
use Rattle.std.proofs.lemmas.Result.{err_from_is_err_and}
use Rattle.dbg_base.specs.declared.fault.FaultKind.TheVariants.{Limit}
use Rattle.dbg_base.specs.declared.limits.TheConstants.{COMMANDS}
use Rattle.dbg_base.specs.Checks.{fault_where}
use Rattle.proc_lang.specs.Scopes.{scope_of}
use Rattle.proc_lang.proofs.FirstCheckLemmas.{passed_on, first_right}
use Rattle.proc_lang.proofs.ListCheckLemmas.{first_next, commands_here}
use Rattle.proc_lang.proofs.check.commands.Goals as goal

pub returns-in_err-read-clause-faults : goal.returns-in_err-read-clause-faults
returns-in_err-read-clause-faults c =
    passed_on c.from_residual.result _ _ _ (err_from_is_err_and c.from_residual.result c.from_residual.ensures.1)
    (first_next _ _ _ _ _ c.loop-i.invariant.left
    (commands_here (scope_of c.args.scope.now) c.args.written.now c.loop-i.i c.index-written-i.result c.loop-i-test.true
    c.index-written-i.is)
    (first_right _ _ _
    (ap (λ b. fault_where b Limit c.index-written-i.result.at) (ne_eqb c.loop-i.i COMMANDS (omega arith)))
    c.in_err-read.ensures))
