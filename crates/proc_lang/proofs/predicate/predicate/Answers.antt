use Rattle.std.proofs.Common.{◌≡◌, ℕ, ℤ, ◌<◌, List, length, map, get_or, sym, ap, subst, ◌∙◌, arith}
use Rattle.std.proofs.lemmas.List.{length-map, get_or-map}
use Rattle.std.proofs.lemmas.Simd.{map-map}
use Rattle.dbg_base.specs.declared.expr.Sort.TheVariants as sort
use Rattle.dbg_base.specs.Trees as tree
use Rattle.dbg_base.specs.Checks.{Scope, scope_of, expression_faults, phrase_tree}
use Rattle.proc_tree.specs.declared.process.Process.{Process}
use Rattle.proc_tree.specs.ProcessTrees.{process_tree}
use Rattle.proc_lang.specs.Writing.{phrase_of}
use Rattle.proc_lang.specs.Checking.{Checks}
use Rattle.proc_lang.proofs.ListCheckLemmas.{scope_with}
use Rattle.proc_lang.proofs.predicate.predicate.Goals as goal

-- what a process can name, with the names that the code has collected
scope_is : (processes : List Process) (p : ℕ) (own : Process) (names variables : List (List ℕ)) → p < length (map process_tree processes)
    → own ≡ get_or processes p own → names ≡ map (λ process. process.name) processes
    → variables ≡ map (λ variable. variable.name) own.variables.items
    → scope_with names own.name variables ≡ scope_of (map process_tree processes) p
scope_is processes p own names variables lt here all its =
    let P : tree.Program = map process_tree processes in
    let process : process_tree own ≡ tree.process_of P p
    = ap process_tree here
    ∙ sym (get_or-map process_tree processes p own tree.no_process (omega (arith, length-map processes process_tree))) in
    let names_are : names ≡ tree.names_of P = all ∙ sym (map-map (λ (q : tree.Process). q.name) process_tree processes) in
    let variables_are : variables ≡ map (λ v. v.0) (process_tree own).variables
    = its ∙ sym (map-map (λ (v : List ℕ × ℤ). v.0) (λ v. (v.name, v.start)) own.variables.items) in
    ap (λ (l : List (List ℕ)). scope_with l own.name variables) names_are
    ∙ ap (λ (l : List (List ℕ)). scope_with (tree.names_of P) own.name l) variables_are
    ∙ ap (λ (q : tree.Process). scope_with (tree.names_of P) q.name (map (λ v. v.0) q.variables)) process

pub returns : goal.returns
returns c =
    let phrase = phrase_of c.args.phrase.now in
    let scope =
    scope_is c.args.program.now.processes.items c.args.pid.0 c.index-own.result.now c.in_ok-processes.processes.all.now c.as_slice-4.result.now
    c.requires c.index-own.ensures
    (c.in_ok-processes.ensures ∙ c.as_slice-2.ensures.value ∙ c.in_ok-names.ensures
    ∙ ap (map (λ process. process.name)) c.as_slice.ensures.value)
    (c.as_slice-4.ensures.value ∙ c.in_ok-variables.ensures ∙ ap (map (λ variable. variable.name)) c.as_slice-3.ensures.value) in
    subst (λ (s : Scope). Checks c.expression.result (expression_faults s sort.Truth phrase)
    (λ expr. tree.tree_of expr ≡ phrase_tree s phrase)) scope c.expression.ensures
