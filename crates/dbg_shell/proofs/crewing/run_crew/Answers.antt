use Rattle.std.proofs.Common.{Some, None, ap, refl}
use Rattle.std.specs.Option.{option_map}
use Rattle.dbg_base.specs.Shell.{too_long_text}
use Rattle.dbg_shell.specs.declared.crewed.Crewed.TheVariants as outcomes
use Rattle.dbg_shell.specs.Crewing.{CrewsText, CrewsAlone, CrewsInput}
use Rattle.shell_serve.proofs.KnownInputLemmas.{known_may, reported_done, reported_cut, leads_done, leads_cut}
use Rattle.shell_serve.proofs.ProgramTextLemmas.{nothing_read, reported_alone}
use Rattle.dbg_shell.proofs.crewing.run_crew.Goals as goal

pub returns-in_err-input-clause-program : goal.returns-in_err-input-clause-program
returns-in_err-input-clause-program g c = nothing_read (g.I.Source.remaining c.args.reader.now)

pub returns-in-Some-clause-crewed : goal.returns-in-Some-clause-crewed
returns-in-Some-clause-crewed g c =
    leads_done c.read_program_text.new.input.bytes.items c.read_program_text.new.input.ended (CrewsInput c.args.turns) (CrewsText c.args.turns c.in-Some.text.now)
    (reported_alone _ _ _ c.read_program_text.new.input.at _ c.in_ok-input.ensures.at c.in_ok-end.ensures.splits c.in_ok-end.ensures.stopped _
    c.text_alone.ensures (CrewsAlone c.args.turns) (Some c.in-Some.text.now) (ap (option_map (λ text. text.now)) c.in-Some.is)) _ _ _ _
    (known_may c.in_ok-input.ensures.bytes c.read_program_text.ensures.reads) c.crew_text.ensures.crewed

pub returns-in-Some-clause-stopped : goal.returns-in-Some-clause-stopped
returns-in-Some-clause-stopped g c =
    leads_cut c.read_program_text.new.input.bytes.items c.read_program_text.new.input.ended (CrewsInput c.args.turns) (CrewsText c.args.turns c.in-Some.text.now)
    (reported_alone _ _ _ c.read_program_text.new.input.at _ c.in_ok-input.ensures.at c.in_ok-end.ensures.splits c.in_ok-end.ensures.stopped _
    c.text_alone.ensures (CrewsAlone c.args.turns) (Some c.in-Some.text.now) (ap (option_map (λ text. text.now)) c.in-Some.is)) _ _ _ _
    (known_may c.in_ok-input.ensures.bytes c.read_program_text.ensures.reads) c.crew_text.ensures.stopped

pub returns-clause-crewed : goal.returns-clause-crewed
returns-clause-crewed g c =
    reported_done c.read_program_text.new.input.bytes.items c.read_program_text.new.input.ended (CrewsInput c.args.turns) too_long_text outcomes.TooLong
    (λ input may. reported_alone _ _ _ c.read_program_text.new.input.at _ c.in_ok-input.ensures.at c.in_ok-end.ensures.splits
    c.in_ok-end.ensures.stopped _ c.text_alone.ensures (CrewsAlone c.args.turns) None (ap (option_map (λ text. text.now)) c.in-None.is) input may
    outcomes.TooLong too_long_text (refl, refl)) _ _ _ _
    (known_may c.in_ok-input.ensures.bytes c.read_program_text.ensures.reads) (c.ends.ensures.written _ _ _ c.tell_too_long.ensures.written)
    c.ends.ensures.end

pub returns-clause-stopped : goal.returns-clause-stopped
returns-clause-stopped g c =
    reported_cut c.read_program_text.new.input.bytes.items c.read_program_text.new.input.ended (CrewsInput c.args.turns) too_long_text outcomes.TooLong
    (λ input may. reported_alone _ _ _ c.read_program_text.new.input.at _ c.in_ok-input.ensures.at c.in_ok-end.ensures.splits
    c.in_ok-end.ensures.stopped _ c.text_alone.ensures (CrewsAlone c.args.turns) None (ap (option_map (λ text. text.now)) c.in-None.is) input may
    outcomes.TooLong too_long_text (refl, refl)) _ _ _ _
    (known_may c.in_ok-input.ensures.bytes c.read_program_text.ensures.reads) (c.ends.ensures.written _ _ _ c.tell_too_long.ensures.written)
