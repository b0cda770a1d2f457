use Rattle.dbg_base.specs.Grammar.{DerivesProgram}
use Rattle.dbg_base.specs.Checks.{check_faults, program_tree}
use Rattle.proc_tree.specs.Programs.{program_of}
use Rattle.proc_lang.proofs.WholeTextLemmas.{program_once}
use Rattle.proc_lang.proofs.Texts.{accepts, refuses}
use Rattle.proc_lang.proofs.parse.parse_program.Goals as goal

pub returns-clause-accepts : goal.returns-clause-accepts
returns-clause-accepts c =
    accepts DerivesProgram check_faults program_tree program_once program_of c.args.text.now c.read_program.result
    c.read_program.ensures.accepted c.read_program.ensures.refused

pub returns-clause-refuses : goal.returns-clause-refuses
returns-clause-refuses c =
    refuses DerivesProgram check_faults program_tree program_once program_of c.args.text.now c.read_program.result
    c.read_program.ensures.accepted c.read_program.ensures.refused
