use Rattle.std.proofs.Common.{sym, ◌∙◌}
use Rattle.shell_serve.proofs.UnfinishedInputLemmas.{where_failed}
use Rattle.shell_serve.proofs.ReadStepLemmas.{reads_then}
use Rattle.shell_serve.proofs.TextSplitLemmas.{reads_for_text, so_far_goes_on, splits_here, splits_nowhere, splits_too_late, splits_not_yet}
use Rattle.shell_serve.proofs.program_text.read_program_text.Goals as goal

pub loop-span-preserved : goal.loop-span-preserved
loop-span-preserved g c = record {
  reads = reads_then c.loop-span.invariant.reads c.next_line.ensures.reads;
  needed = reads_for_text _ _ _ _ _ _ c.loop-span.invariant.needed c.loop-span.invariant.so_far c.next_line.ensures.needed;
  so_far = so_far_goes_on _ _ _ _ _ _ _ _ c.loop-span.invariant.so_far c.next_line.ensures.reads.narrows c.in_ok-span.ensures.tells
      c.line.result.now c.in-Line.span c.in-Line.is c.line.ensures c.in_ok-span.ensures.advances
      (sym c.is_end_line.ensures ∙ c.if-is_end_line.false);
  reader = λ fine. c.in_ok-span.ensures.reader (c.loop-span.invariant.reader fine);
}

pub returns-in_err-span-clause-none : goal.returns-in_err-span-clause-none
returns-in_err-span-clause-none g c =
    where_failed _ (splits_not_yet _ _ _ _ _ _ c.loop-span.invariant.so_far c.next_line.ensures.reads.narrows
    c.in_err-span.ensures.under_way)

pub returns-then-is_end_line-clause-splits : goal.returns-then-is_end_line-clause-splits
returns-then-is_end_line-clause-splits g c =
    splits_here _ _ _ _ _ _ c.next_line.new.self.at _ c.loop-span.invariant.so_far c.next_line.ensures.reads.narrows
    c.in_ok-span.ensures.tells c.line.result.now c.in-Line.span c.in-Line.is c.line.ensures
    (sym c.is_end_line.ensures ∙ c.if-is_end_line.true)

pub returns-in-End-clause-splits : goal.returns-in-End-clause-splits
returns-in-End-clause-splits g c =
    splits_nowhere _ _ _ _ _ _ c.next_line.new.self.at _ c.loop-span.invariant.so_far c.next_line.ensures.reads.narrows
    c.in_ok-span.ensures.tells c.in-End.is

pub returns-in-TooLong-clause-splits : goal.returns-in-TooLong-clause-splits
returns-in-TooLong-clause-splits g c =
    splits_too_late _ _ _ _ _ _ c.next_line.new.self.at _ c.loop-span.invariant.so_far c.next_line.ensures.reads.narrows
    c.in_ok-span.ensures.tells c.in-TooLong.is

pub returns-in_err-span-clause-needed : goal.returns-in_err-span-clause-needed
returns-in_err-span-clause-needed g c =
    reads_for_text _ _ _ _ _ _ c.loop-span.invariant.needed c.loop-span.invariant.so_far c.next_line.ensures.needed

pub returns-then-is_end_line-clause-needed : goal.returns-then-is_end_line-clause-needed
returns-then-is_end_line-clause-needed g c =
    reads_for_text _ _ _ _ _ _ c.loop-span.invariant.needed c.loop-span.invariant.so_far c.next_line.ensures.needed

pub returns-in-End-clause-needed : goal.returns-in-End-clause-needed
returns-in-End-clause-needed g c =
    reads_for_text _ _ _ _ _ _ c.loop-span.invariant.needed c.loop-span.invariant.so_far c.next_line.ensures.needed

pub returns-in-TooLong-clause-needed : goal.returns-in-TooLong-clause-needed
returns-in-TooLong-clause-needed g c =
    reads_for_text _ _ _ _ _ _ c.loop-span.invariant.needed c.loop-span.invariant.so_far c.next_line.ensures.needed
