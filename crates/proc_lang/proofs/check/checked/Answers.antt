use Rattle.std.proofs.Common.{◌≡◌, [], true, map, sym, subst, ◌∙◌}
use Rattle.std.proofs.lemmas.Result.{err_from_is_err_and}
use Rattle.dbg_base.specs.Trees as tree
use Rattle.dbg_base.specs.WellFormed.{is_well_formed}
use Rattle.dbg_base.specs.Checks.{processes_faults, process_tree}
use Rattle.dbg_base.proofs.WellFormedTrees.{says_well_formed}
use Rattle.proc_lang.specs.Writing.{processes_of}
use Rattle.proc_tree.specs.ProcessTrees.{process_trees}
use Rattle.proc_lang.specs.Checking.{IsFirst}
use Rattle.proc_lang.proofs.FirstCheckLemmas.{passed_on}
use Rattle.proc_lang.proofs.ListCheckLemmas.{process_names_are}
use Rattle.proc_lang.proofs.check.checked.Goals as goal

pub returns-in_err-processes : goal.returns-in_err-processes
returns-in_err-processes c =
    let written = processes_of c.args.written.now in
    passed_on c.from_residual-in_err-processes.result _ _ _
    (err_from_is_err_and c.from_residual-in_err-processes.result c.from_residual-in_err-processes.ensures.1)
    (subst (λ names. IsFirst c.in_err-processes.field-0.0 (processes_faults names [] written))
    (process_names_are _ _ c.args.written.now (c.in_ok-names.ensures ∙ c.as_slice.ensures.value) c.in_ok-all.ensures) c.in_err-processes.ensures)

pub invariant_of-result : goal.invariant_of-result
invariant_of-result c =
    let written = processes_of c.args.written.now in
    let names = process_names_are _ _ c.args.written.now (c.in_ok-names.ensures ∙ c.as_slice.ensures.value) c.in_ok-all.ensures in
    let none = subst (λ names. processes_faults names [] written ≡ []) names c.in_ok-processes.ensures.0 in
    let read =
    subst (λ names. process_trees c.in_ok-processes.processes.items ≡ map (process_tree names) written) names c.in_ok-processes.ensures.1 in
    record { well_formed = subst (λ (P : tree.Program). is_well_formed P ≡ true) (sym read) (says_well_formed written none) }

pub returns : goal.returns
returns c =
    let written = processes_of c.args.written.now in
    subst (λ names. (processes_faults names [] written ≡ [])
    × (process_trees c.in_ok-processes.processes.items ≡ map (process_tree names) written))
    (process_names_are _ _ c.args.written.now (c.in_ok-names.ensures ∙ c.as_slice.ensures.value) c.in_ok-all.ensures) c.in_ok-processes.ensures
