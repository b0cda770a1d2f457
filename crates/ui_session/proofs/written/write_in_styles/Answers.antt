use Rattle.std.proofs.Common.{◌∷◌, []}
use Rattle.shell_print.proofs.WriteLemmas.{stopped, writes_then}
use Rattle.dbg_base.specs.Shell.{as_line}
use Rattle.ui_session.proofs.written.write_in_styles.Goals as goal

pub returns-in_err-set_style : goal.returns-in_err-set_style
returns-in_err-set_style g c = stopped _ c.in_err-set_style.ensures c.from_residual.ensures.1

pub returns-in_err-write_whole : goal.returns-in_err-write_whole
returns-in_err-write_whole g c =
    writes_then c.in_ok-set_style.ensures (stopped (as_line c.args.bytes.now) c.in_err-write_whole.ensures
    c.from_residual-in_err-write_whole.ensures.1)

pub returns-in_err-write_styled : goal.returns-in_err-write_styled
returns-in_err-write_styled g c =
    writes_then c.in_ok-set_style.ensures (writes_then c.in_ok-write_whole.ensures (stopped (10 ∷ []) c.in_err-write_styled.ensures
    c.from_residual-in_err-write_styled.ensures.1))

pub returns : goal.returns
returns g c =
    writes_then c.in_ok-set_style.ensures (writes_then c.in_ok-write_whole.ensures (writes_then c.in_ok-write_styled.ensures
    c.write_whole-2.ensures))
