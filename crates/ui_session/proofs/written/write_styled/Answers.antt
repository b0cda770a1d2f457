use Rattle.std.proofs.Common.{refl, sym, [], take, drop, arith}
use Rattle.std.proofs.lemmas.Grind.{common_steps}
use Rattle.std.proofs.lemmas.List.{append-nil, take-append-drop}
use Rattle.shell_print.proofs.WriteLemmas.{progress_goes_on}
use Rattle.ui_session.proofs.StyleLemmas.{then_styled, piece_stopped, pieces_end}
use Rattle.ui_session.proofs.written.write_styled.Goals as goal

pub returns-in_err-write_whole : goal.returns-in_err-write_whole
returns-in_err-write_whole g c =
    let rest = c.loop-change.rest.now in
    let length = c.min-length.result in
    piece_stopped (take length rest) (drop length rest) c.loop-change.invariant (sym (take-append-drop length rest))
    c.in_err-write_whole.ensures c.from_residual.ensures.1

pub returns-in_err-set_style : goal.returns-in_err-set_style
returns-in_err-set_style g c =
    let rest = c.loop-change.rest.now in
    let length = c.min-length.result in
    let written = progress_goes_on _ _ _ _ rest (drop length rest) length c.loop-change.invariant c.in_ok-write_whole.ensures.whole refl in
    piece_stopped [] (drop length rest) written refl c.in_err-set_style.ensures c.from_residual-in_err-set_style.ensures.1

pub loop-change-preserved : goal.loop-change-preserved
loop-change-preserved g c = progress_goes_on _ _ _ _ c.loop-change.rest.now _ c.min-length.result c.loop-change.invariant
    (then_styled c.in_ok-write_whole.ensures c.in_ok-set_style.ensures) (grind (arith, common_steps))

pub returns-in_err-write_whole-2 : goal.returns-in_err-write_whole-2
returns-in_err-write_whole-2 g c =
    let rest = c.loop-change.rest.now in
    piece_stopped rest [] c.loop-change.invariant (sym (append-nil rest)) c.in_err-write_whole-2.ensures
    c.from_residual-in_err-write_whole-2.ensures.1

pub returns : goal.returns
returns g c = pieces_end c.loop-change.invariant c.in_ok-write_whole-2.ensures c.set_style-2.ensures
