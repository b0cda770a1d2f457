use Rattle.std.proofs.Common.{◌++◌, drop}
use Rattle.std.specs.List.{flat_map}
use Rattle.dbg_base.specs.Replies.{spaced}
use Rattle.shell_print.specs.Writing.{Progress, in_a_row}
use Rattle.shell_print.specs.Pieces.{piece_words}
use Rattle.shell_print.proofs.parts.put_pieces.Given as goal

abbrev pub invariant-loop-piece : goal.invariant-loop-piece
invariant-loop-piece g l =
    Progress (g.W.Sink.seen l.fn.writer) (g.W.Sink.seen l.writer) (l.fn.text ++ spaced (in_a_row piece_words l.pieces))
    (l.text ++ flat_map (λ p. spaced (piece_words p)) (drop l.piece-index l.pieces))
