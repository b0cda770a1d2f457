use Rattle.std.proofs.Common.{sym, ◌∙◌}
use Rattle.proc_tree.proofs.ProcessSearchLemmas.{search_found, search_passed}
use Rattle.proc_tree.proofs.program.Program.find_process_by.Goals as goal

pub returns-then-is_named : goal.returns-then-is_named
returns-then-is_named c =
    sym (c.loop-i.invariant ∙ search_found c.loop-i.i c.args.name.now c.deref-process-items.result.now _ c.process-item.result
    c.deref-process-items.ensures.value c.loop-i-test.true c.process-item.is c.if-is_named.ensures)

pub loop-i-preserved : goal.loop-i-preserved
loop-i-preserved c =
    c.loop-i.invariant ∙ search_passed c.loop-i.i c.args.name.now c.deref-process-items.result.now _ c.process-item.result
    c.deref-process-items.ensures.value c.loop-i-test.true c.process-item.is c.if-is_named.ensures
