use Rattle.std.proofs.Common.{◌≡◌, false, take}
use Rattle.least_cut.specs.Searches.{is_false_in}
use Rattle.least_cut.proofs.scan.Scan.is_false.Given as goal

abbrev pub invariant-loop-line : goal.invariant-loop-line
invariant-loop-line l = is_false_in (take l.line-index l.self) l.pid.0 l.n ≡ false
