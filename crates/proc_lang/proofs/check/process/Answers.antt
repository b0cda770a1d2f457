use Rattle.std.proofs.Common.{◌≡◌, [], map, subst}
use Rattle.std.proofs.lemmas.Result.{err_from_is_err_and}
use Rattle.dbg_base.specs.Checks.{commands_faults, variables_faults}
use Rattle.dbg_base.specs.Checks as model
use Rattle.proc_tree.specs.ProcessTrees.{command_tree}
use Rattle.proc_lang.specs.Writing.{command_of, variable_of}
use Rattle.proc_lang.specs.Checking.{IsFirst, starts, written_starts}
use Rattle.proc_lang.proofs.FirstCheckLemmas.{passed_on, first_right, none_in_both}
use Rattle.proc_lang.proofs.ListCheckLemmas.{scope_with, scope_with_is}
use Rattle.proc_lang.proofs.check.process.Goals as goal

pub returns-in_err-commands : goal.returns-in_err-commands
returns-in_err-commands c =
    let e = c.in_err-commands.field-0.0 in
    let given = scope_with c.args.processes.now.all.now c.args.written.now.name.name c.as_slice-4.result.now in
    let scope =
    scope_with_is c.args.processes.now.all.now _ _ _ c.args.written.now c.as_slice-4.ensures.value c.in_ok-names.ensures c.as_slice.ensures.value in
    passed_on c.from_residual-in_err-commands.result _ _ _
    (err_from_is_err_and c.from_residual-in_err-commands.result c.from_residual-in_err-commands.ensures.1)
    (first_right _ _ _
    (subst (λ all. variables_faults [] (map variable_of all) ≡ []) c.as_slice-3.ensures.value c.in_ok-variables.ensures.faults.0)
    (subst (λ s. IsFirst e (commands_faults s 0 (map command_of c.args.written.now.commands.items))) scope
    (subst (λ all. IsFirst e (commands_faults given 0 (map command_of all))) c.as_slice-5.ensures.value c.in_err-commands.ensures.faults)))

pub returns : goal.returns
returns c =
    let given = scope_with c.args.processes.now.all.now c.args.written.now.name.name c.as_slice-4.result.now in
    let scope =
    scope_with_is c.args.processes.now.all.now _ _ _ c.args.written.now c.as_slice-4.ensures.value c.in_ok-names.ensures c.as_slice.ensures.value in
    let variables =
    subst (λ all. (variables_faults [] (map variable_of all) ≡ []) × (starts c.in_ok-variables.variables.items ≡ written_starts all))
    c.as_slice-3.ensures.value c.in_ok-variables.ensures.faults in
    let read = map command_tree c.in_ok-commands.commands.items in
    let commands =
    subst (λ s. (commands_faults s 0 (map command_of c.args.written.now.commands.items) ≡ [])
    × (read ≡ map (model.command_tree s) (map command_of c.args.written.now.commands.items))) scope
    (subst (λ all. (commands_faults given 0 (map command_of all) ≡ []) × (read ≡ map (model.command_tree given) (map command_of all)))
    c.as_slice-5.ensures.value c.in_ok-commands.ensures.faults) in
    (none_in_both _ _ variables.0 commands.0, cc (variables.1, commands.1))
