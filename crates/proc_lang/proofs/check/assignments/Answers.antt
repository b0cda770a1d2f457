use Rattle.std.proofs.Common.{map, subst}
use Rattle.std.proofs.lemmas.Result.{err_from_is_err_and}
use Rattle.dbg_base.specs.Checks.{assignment_faults, set_by_action, assignment_tree}
use Rattle.dbg_base.specs.Trees.{tree_of}
use Rattle.proc_lang.specs.Writing.{action_of, assignment_of}
use Rattle.proc_lang.specs.Scopes.{scope_of}
use Rattle.proc_lang.specs.Checking.{IsFirst}
use Rattle.proc_lang.proofs.FirstCheckLemmas.{passed_on}
use Rattle.proc_lang.proofs.ListCheckLemmas.{first_next, goes_on, assignments_here, reads_more}
use Rattle.proc_lang.proofs.check.assignments.Goals as goal

pub returns-in_err-read : goal.returns-in_err-read
returns-in_err-read c =
    let scope = scope_of c.args.scope.now in
    let earlier = set_by_action (action_of c.args.written.now.action) in
    passed_on c.from_residual.result _ _ _ (err_from_is_err_and c.from_residual.result c.from_residual.ensures.1)
    (subst (λ all. IsFirst c.in_err-read.field-0.0 (assignment_faults scope earlier (map assignment_of all))) c.as_slice-all.ensures.value
    (first_next _ _ _ _ _ c.loop-i.invariant.left
    (assignments_here scope earlier c.as_slice-all.result.now c.loop-i.i c.index-all-i.result c.already_set-is_set.result
    c.loop-i-test.true c.index-all-i.is c.already_set-is_set.ensures)
    c.in_err-read.ensures))

pub loop-i-preserved : goal.loop-i-preserved
loop-i-preserved c =
    let scope = scope_of c.args.scope.now in
    let earlier = set_by_action (action_of c.args.written.now.action) in
    record {
      left = goes_on _ _ _ _ c.loop-i.invariant.left
          (assignments_here scope earlier c.as_slice-all.result.now c.loop-i.i c.index-all-i.result c.already_set-is_set.result
          c.loop-i-test.true c.index-all-i.is c.already_set-is_set.ensures)
          c.in_ok-read.ensures.0;
      read = reads_more (λ a. (a.variable, tree_of a.value)) (assignment_tree scope) assignment_of
          c.loop-i.assignments.items c.push.new.self.items _ c.as_slice-all.result.now c.loop-i.i c.index-all-i.result
          c.in_ok-push.ensures.items c.loop-i.invariant.read c.loop-i-test.true c.index-all-i.is
          (let v = c.in_ok-read.ensures.1 in cc (v.0, v.1));
    }
