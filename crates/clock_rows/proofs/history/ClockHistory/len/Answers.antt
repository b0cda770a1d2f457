use Rattle.std.proofs.Common.{arith}
use Rattle.std.proofs.lemmas.Grind.{common_steps}
use Rattle.clock_rows.proofs.Pieces.{length_pieces}
use Rattle.clock_rows.proofs.history.ClockHistory.len.Goals as goal

pub returns : goal.returns
returns c = grind (arith, common_steps, length_pieces)
