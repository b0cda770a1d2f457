use Rattle.dbg_base.specs.Replies.{spaced}
use Rattle.shell_print.specs.Pieces.{piece_words}
use Rattle.shell_print.proofs.WriteLemmas.{progress_begins, row_put, row_stopped, next_read, row_spaced}
use Rattle.shell_print.proofs.parts.put_pieces.Goals as goal

pub loop-piece-init : goal.loop-piece-init
loop-piece-init g c = rw (row_spaced piece_words c.args.pieces.now) (progress_begins _ _)

pub returns-in_err-put_piece : goal.returns-in_err-put_piece
returns-in_err-put_piece g c =
    row_stopped _ _ _ _ _ _ _ _ _ _ c.loop-piece.invariant
    (next_read (λ p. spaced (piece_words p)) c.args.pieces.now _ _ c.loop-piece-test.true c.piece-item.is)
    c.in_err-put_piece.ensures c.from_residual.ensures.1

pub loop-piece-preserved : goal.loop-piece-preserved
loop-piece-preserved g c =
    row_put _ _ _ _ _ _ _ _ _ c.loop-piece.invariant
    (next_read (λ p. spaced (piece_words p)) c.args.pieces.now _ _ c.loop-piece-test.true c.piece-item.is)
    c.in_ok-put_piece.ensures
