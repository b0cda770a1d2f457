use Rattle.std.proofs.Common.{◌*◌, ◌<◌, ◌≤◌, length, inl, inr, refl, rules}
use Rattle.dbg_base.specs.declared.limits.TheConstants.{CALLS}
use Rattle.proc_tree.specs.Programs.{program_of}
use Rattle.shell_print.specs.Closings.{too_many_turns_text}
use Rattle.dbg_shell.specs.declared.crewed.Crewed.TheVariants as crewed
use Rattle.dbg_shell.specs.Crewing.{CrewsProgram, closing_text, closing_end}
use Rattle.shell_serve.proofs.KnownInputLemmas.{line_cut}
use Rattle.dbg_shell.proofs.crewing.crew_program.Goals as goal

pub returns-then-not-fits_turns-clause-stopped : goal.returns-then-not-fits_turns-clause-stopped
returns-then-not-fits_turns-clause-stopped g c =
    let many : CALLS < c.args.turns * length (program_of c.args.program) = search rules in
    line_cut (CrewsProgram (program_of c.args.program) c.args.turns) too_many_turns_text crewed.TooManyTurns (inl (many, refl, refl)) _ _ _
    (c.ends.ensures.written _ _ _ c.tell_too_many_turns.ensures)

pub returns-in-Ok-clause-stopped : goal.returns-in-Ok-clause-stopped
returns-in-Ok-clause-stopped g c =
    let few : c.args.turns * length (program_of c.args.program) ≤ CALLS = search rules in
    line_cut (CrewsProgram (program_of c.args.program) c.args.turns) (closing_text c.in-Ok.closing) (closing_end c.in-Ok.closing)
    (inr (few, c.in-Ok.closing, c.in-Ok.ensures.closing, refl, refl)) _ _ _
    (c.ends-in-Ok.ensures.written _ _ _ (c.hand_on.ensures _ _ c.print_closing-written.ensures))
