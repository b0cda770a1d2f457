use Rattle.std.proofs.Common.{arith}
use Rattle.std.proofs.lemmas.Result.{err_from_is_err_and}
use Rattle.dbg_base.specs.Checks as model
use Rattle.proc_tree.specs.ProcessTrees.{process_tree}
use Rattle.proc_lang.specs.Writing.{process_of}
use Rattle.proc_lang.proofs.FirstCheckLemmas.{passed_on, first_left, first_right, none_in_both}
use Rattle.proc_lang.proofs.ListCheckLemmas.{first_next, goes_on, processes_here, reads_more, length_before}
use Rattle.proc_lang.proofs.check.all_processes.Goals as goal

pub returns-in_err-fresh : goal.returns-in_err-fresh
returns-in_err-fresh c =
    passed_on c.from_residual.result _ _ _ (err_from_is_err_and c.from_residual.result c.from_residual.ensures.1)
    (first_next _ _ _ _ _ c.loop-i.invariant.left
    (processes_here c.args.names.now.all.now c.args.written.now c.loop-i.i c.index-written-i.result c.requires c.loop-i-test.true
    c.index-written-i.is)
    (first_left _ _ _ c.in_err-fresh.ensures.faults))

pub returns-in_err-read : goal.returns-in_err-read
returns-in_err-read c =
    passed_on c.from_residual-in_err-read.result _ _ _
    (err_from_is_err_and c.from_residual-in_err-read.result c.from_residual-in_err-read.ensures.1)
    (first_next _ _ _ _ _ c.loop-i.invariant.left
    (processes_here c.args.names.now.all.now c.args.written.now c.loop-i.i c.index-written-i.result c.requires c.loop-i-test.true
    c.index-written-i.is)
    (first_right _ _ _ c.in_ok-fresh.ensures.faults.0 c.in_err-read.ensures))

pub loop-i-preserved : goal.loop-i-preserved
loop-i-preserved c =
    let before =
    length_before (λ process. process.name.name) c.args.names.now.all.now c.args.written.now c.loop-i.i c.requires c.loop-i-test.true in
    record {
      len = omega (arith, c.in_ok-push.ensures.len);
      few = omega (arith, before, c.in_ok-fresh.ensures.few);
      left = goes_on _ _ _ _ c.loop-i.invariant.left
          (processes_here c.args.names.now.all.now c.args.written.now c.loop-i.i c.index-written-i.result c.requires c.loop-i-test.true
          c.index-written-i.is)
          (none_in_both _ _ c.in_ok-fresh.ensures.faults.0 c.in_ok-read.ensures.0);
      read = reads_more process_tree (model.process_tree c.args.names.now.all.now) process_of
          c.loop-i.processes.items c.push.new.self.items _ c.args.written.now c.loop-i.i c.index-written-i.result
          c.in_ok-push.ensures.items c.loop-i.invariant.read c.loop-i-test.true c.index-written-i.is c.in_ok-read.ensures.1;
    }
