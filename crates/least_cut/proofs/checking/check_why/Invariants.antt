use Rattle.std.proofs.Common.{◌≡◌, length, map, take}
use Rattle.dbg_base.specs.Calls.{conjunct_of}
use Rattle.dbg_base.specs.Eliminations.{reach_from}
use Rattle.least_cut.specs.Watches.{scan_of}
use Rattle.least_cut.specs.Searches.{IsTrailFrom, none_of}
use Rattle.least_cut.proofs.checking.check_why.Given as goal

abbrev pub invariant-loop-step : goal.invariant-loop-step
invariant-loop-step l = record {
  size : length l.candidates ≡ length l.world.state.places;
  reached : reach_from (none_of l.world) (take l.step-index l.steps) ≡ l.candidates;
  trail : IsTrailFrom l.world (scan_of l.world (map conjunct_of l.conjuncts)) (none_of l.world) (take l.step-index l.steps);
}
