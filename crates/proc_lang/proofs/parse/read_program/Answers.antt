use Rattle.std.proofs.Common.{sym, subst, arith}
use Rattle.std.proofs.lemmas.List.{length-map}
use Rattle.dbg_base.specs.Grammar.{DerivesProgram}
use Rattle.dbg_base.specs.Checks.{check_faults, program_tree}
use Rattle.dbg_base.proofs.FirstFaults.{first_of_program, few_processes}
use Rattle.proc_tree.specs.Programs.{program_of}
use Rattle.proc_lang.specs.Writing.{process_of, processes_of}
use Rattle.proc_lang.specs.Answering.{Writes}
use Rattle.proc_lang.proofs.WholeTextLemmas.{program_once}
use Rattle.proc_lang.proofs.Texts.{checked_accepted, checked_refused}
use Rattle.proc_lang.proofs.parse.read_program.Goals as goal

pub checked-requires : goal.checked-requires
checked-requires c =
    let w = subst (λ ws. Writes DerivesProgram c.args.text.now (processes_of ws))
    (sym c.as_slice.ensures.value) c.in_ok-written.ensures.written in
    omega (
      arith,
      few_processes c.args.text.now w.0 (processes_of c.as_slice.result.now) w.1 w.2,
      length-map c.as_slice.result.now process_of,
    )

pub returns-clause-accepted : goal.returns-clause-accepted
returns-clause-accepted c =
    checked_accepted DerivesProgram check_faults program_tree program_once first_of_program program_of c.args.text.now
    (processes_of c.as_slice.result.now)
    (subst (λ ws. Writes DerivesProgram c.args.text.now (processes_of ws)) (sym c.as_slice.ensures.value) c.in_ok-written.ensures.written)
    c.checked.result c.checked.ensures

pub returns-clause-refused : goal.returns-clause-refused
returns-clause-refused c =
    checked_refused DerivesProgram check_faults program_tree program_once first_of_program program_of c.args.text.now
    (processes_of c.as_slice.result.now)
    (subst (λ ws. Writes DerivesProgram c.args.text.now (processes_of ws)) (sym c.as_slice.ensures.value) c.in_ok-written.ensures.written)
    c.checked.result c.checked.ensures
