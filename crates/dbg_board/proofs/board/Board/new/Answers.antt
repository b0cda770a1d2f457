use Rattle.dbg_board.proofs.WordStepLemmas.{opens}
use Rattle.dbg_board.proofs.board.Board.new.Goals as goal

pub of_words-requires : goal.of_words-requires
of_words-requires c = opens
