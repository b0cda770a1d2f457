use Rattle.std.proofs.Common.{rules}
use Rattle.dbg_board.proofs.WordStepLemmas.{shows}
use Rattle.dbg_board.proofs.board.make_views.Goals as goal

pub split_seat-seat-requires : goal.split_seat-seat-requires
split_seat-seat-requires c = (search rules, search rules, shows _ _)
