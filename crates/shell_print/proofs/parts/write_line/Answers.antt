use Rattle.std.proofs.Common.{◌∷◌, [], ◌∙◌}
use Rattle.shell_print.proofs.WriteLemmas.{puts_first, puts_kept, puts_then, puts_stopped, puts_ends, puts_failed}
use Rattle.shell_print.proofs.parts.write_line.Goals as goal

pub returns-in_err-put_pieces : goal.returns-in_err-put_pieces
returns-in_err-put_pieces g c =
    let first = puts_first (g.W.Sink.seen c.args.writer.now) _ c.args.first.now _ c.new-text.ensures c.append.ensures in
    puts_failed (puts_stopped {last = []} (10 ∷ []) (puts_then first c.in_err-put_pieces.ensures) c.from_residual.ensures.1)
    c.from_residual.ensures.0

pub returns-in_err-make_room : goal.returns-in_err-make_room
returns-in_err-make_room g c =
    let first = puts_first (g.W.Sink.seen c.args.writer.now) _ c.args.first.now _ c.new-text.ensures c.append.ensures in
    let end = puts_stopped {last = []} (10 ∷ []) c.in_err-make_room.ensures.puts c.from_residual-in_err-make_room.ensures.1 in
    puts_failed (puts_then (puts_then first c.in_ok-put_pieces.ensures) end) c.from_residual-in_err-make_room.ensures.0

pub returns : goal.returns
returns g c =
    let first = puts_first (g.W.Sink.seen c.args.writer.now) _ c.args.first.now _ c.new-text.ensures c.append.ensures in
    let end = puts_then c.in_ok-make_room.ensures.puts
    (puts_kept {u = tt {0}} _ _ (10 ∷ []) c.bytes.result.now (c.bytes.ensures ∙ c.push.ensures)) in
    puts_ends (puts_then (puts_then first c.in_ok-put_pieces.ensures) end) c.write_whole.ensures
