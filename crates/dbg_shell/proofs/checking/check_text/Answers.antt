use Rattle.std.proofs.Common.{Err, subst}
use Rattle.dbg_base.specs.Checks.{IsFault}
use Rattle.dbg_base.specs.Shell.{fault_text}
use Rattle.proc_lang.specs.declared.fault.ProgError.{ProgError}
use Rattle.proc_tree.specs.declared.program.Program.{Program}
use Rattle.proc_lang.specs.Answering.{IfBad}
use Rattle.shell_print.specs.declared.outcome.Served.TheVariants as outcomes
use Rattle.proc_tree.specs.Programs.{program_of}
use Rattle.shell_print.specs.Closings.{program_size_text}
use Rattle.dbg_shell.specs.Checking.{ChecksText}
use Rattle.shell_serve.proofs.KnownInputLemmas.{line_done, line_cut}
use Rattle.dbg_shell.proofs.CheckTextLemmas.{size_here, fault_here}
use Rattle.dbg_shell.proofs.checking.check_text.Goals as goal

pub returns-in-Ok-clause-checked : goal.returns-in-Ok-clause-checked
returns-in-Ok-clause-checked g c =
    line_done (ChecksText c.args.text.now) (program_size_text (program_of c.in-Ok.program)) outcomes.Done
    (size_here _ _ c.in-Ok.ensures.accepted) _ _ _ c.tell_size.ensures.written
    c.tell_size.ensures.served

pub returns-in-Ok-clause-stopped : goal.returns-in-Ok-clause-stopped
returns-in-Ok-clause-stopped g c =
    line_cut (ChecksText c.args.text.now) (program_size_text (program_of c.in-Ok.program)) outcomes.Done
    (size_here _ _ c.in-Ok.ensures.accepted) _ _ _ c.tell_size.ensures.written

pub returns-in-Err-Bad-clause-checked : goal.returns-in-Err-Bad-clause-checked
returns-in-Err-Bad-clause-checked g c =
    let faulty =
    subst (λ (e : ProgError). IfBad {X = Program} (Err e) (IsFault c.args.text.now)) c.in-Err-Bad.field-0-is c.in-Err-Bad.ensures.refused in
    line_done (ChecksText c.args.text.now) (fault_text c.in-Err-Bad.fault) outcomes.Refused (fault_here c.in-Err-Bad.fault _ faulty) _ _ _
    c.tell_fault.ensures.written c.tell_fault.ensures.served

pub returns-in-Err-Bad-clause-stopped : goal.returns-in-Err-Bad-clause-stopped
returns-in-Err-Bad-clause-stopped g c =
    let faulty =
    subst (λ (e : ProgError). IfBad {X = Program} (Err e) (IsFault c.args.text.now)) c.in-Err-Bad.field-0-is c.in-Err-Bad.ensures.refused in
    line_cut (ChecksText c.args.text.now) (fault_text c.in-Err-Bad.fault) outcomes.Refused (fault_here c.in-Err-Bad.fault _ faulty) _ _ _
    c.tell_fault.ensures.written
