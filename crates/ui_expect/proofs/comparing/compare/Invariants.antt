use Rattle.std.proofs.Common.{◌≡◌, ◌+◌, ◌≤◌, drop}
use Rattle.ui_expect.specs.Tests.{are_met, expected_count}
use Rattle.ui_expect.specs.declared.comparing.PlayedLine.TheVariants.{Unanswered}
use Rattle.ui_expect.proofs.comparing.compare.Given as goal

abbrev pub invariant-loop-place : goal.invariant-loop-place
invariant-loop-place l = record {
  met : are_met l.before (drop l.place l.lines) ≡ are_met Unanswered l.lines;
  compared : l.compared + expected_count (drop l.place l.lines) ≡ expected_count l.lines;
  few : l.compared ≤ l.place;
}
