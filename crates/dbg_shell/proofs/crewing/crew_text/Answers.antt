use Rattle.std.proofs.Common.{Err, inl, inr, refl, subst}
use Rattle.dbg_base.specs.Checks.{IsFault}
use Rattle.dbg_base.specs.declared.fault.ProgFault.{ProgFault}
use Rattle.shell_print.specs.Writing.{Writes}
use Rattle.dbg_base.specs.Shell.{fault_text}
use Rattle.proc_lang.specs.declared.fault.ProgError.{ProgError}
use Rattle.proc_tree.specs.declared.program.Program.{Program}
use Rattle.proc_tree.specs.Programs.{program_of}
use Rattle.proc_lang.specs.Answering.{IfBad}
use Rattle.dbg_shell.specs.declared.crewed.Crewed.TheVariants as crewed
use Rattle.dbg_shell.specs.Crewing.{CrewsProgram, CrewsText}
use Rattle.shell_serve.proofs.KnownInputLemmas.{line_cut, done_leads, cut_leads}
use Rattle.dbg_shell.proofs.CrewLemmas.{some_process}
use Rattle.dbg_shell.proofs.crewing.crew_text.Goals as goal

pub crew_program-requires-clause-some : goal.crew_program-requires-clause-some
crew_program-requires-clause-some g c = λ κs outlives. some_process _ _ c.in-Ok.ensures.accepted

pub returns-in-Ok-clause-crewed : goal.returns-in-Ok-clause-crewed
returns-in-Ok-clause-crewed g c =
    done_leads (CrewsProgram (program_of c.in-Ok.program) c.args.turns) (CrewsText c.args.turns c.args.text.now)
    (λ end out crews. inl (program_of c.in-Ok.program, c.in-Ok.ensures.accepted, crews)) _ _ _ c.crew_program.ensures.crewed

pub returns-in-Ok-clause-stopped : goal.returns-in-Ok-clause-stopped
returns-in-Ok-clause-stopped g c =
    cut_leads (CrewsProgram (program_of c.in-Ok.program) c.args.turns) (CrewsText c.args.turns c.args.text.now)
    (λ end out crews. inl (program_of c.in-Ok.program, c.in-Ok.ensures.accepted, crews)) _ _ _ c.crew_program.ensures.stopped

pub returns-in-Err-Bad-clause-stopped : goal.returns-in-Err-Bad-clause-stopped
returns-in-Err-Bad-clause-stopped g c =
    let faulty =
    subst (λ (e : ProgError). IfBad {X = Program} (Err e) (IsFault c.args.text.now)) c.in-Err-Bad.field-0-is c.in-Err-Bad.ensures.refused in
    line_cut (CrewsText c.args.turns c.args.text.now) (fault_text c.in-Err-Bad.fault) crewed.Refused
    (inr (c.in-Err-Bad.fault, faulty, refl, refl)) _ _ _ (c.ends.ensures.written _ _ _
    (subst (λ (f : ProgFault). Writes (g.W.Sink.seen c.args.writer.now) (g.W.Sink.seen c.tell_fault.new.writer)
    c.tell_fault.result (fault_text f)) c.in-Err-Bad.fault-is c.tell_fault.ensures.written))
