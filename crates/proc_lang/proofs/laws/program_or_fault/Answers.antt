use Rattle.dbg_base.specs.Grammar.{DerivesProgram}
use Rattle.dbg_base.specs.Checks.{check_faults, program_tree}
use Rattle.dbg_base.proofs.FirstFaults.{first_of_program}
use Rattle.proc_lang.proofs.WholeTextLemmas.{program_once, program_parses}
use Rattle.proc_lang.proofs.Texts.{each_text, reads_well, reads_once, fault_once}
use Rattle.proc_lang.proofs.laws.program_or_fault.Goals as goal

pub returns-clause-some : goal.returns-clause-some
returns-clause-some c = each_text DerivesProgram check_faults program_tree program_once first_of_program program_parses

pub returns-clause-not_both : goal.returns-clause-not_both
returns-clause-not_both c = reads_well DerivesProgram check_faults program_tree program_once

pub returns-clause-one_program : goal.returns-clause-one_program
returns-clause-one_program c = reads_once DerivesProgram check_faults program_tree program_once

pub returns-clause-one_fault : goal.returns-clause-one_fault
returns-clause-one_fault c = fault_once DerivesProgram check_faults program_tree program_once
