use Rattle.std.proofs.Common.{◌≡◌, [], replicate}
use Rattle.dbg_board.specs.Boards.{listing}
use Rattle.dbg_board.proofs.board.make_views.Given as goal

abbrev pub invariant-loop : goal.invariant-loop
invariant-loop l = (l.publisher.table_id ≡ l.initial.publisher.table_id) × (l.publisher.me ≡ l.initial.publisher.me)
    × (l.views.items ≡ replicate l.counter (listing l.word.shared.table_id []))
