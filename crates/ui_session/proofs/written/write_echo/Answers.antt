use Rattle.ui_session.proofs.DialogueLemmas.{no_echo, echoed, gap_stops, echo_stops}
use Rattle.ui_session.proofs.written.write_echo.Goals as goal

pub returns-then-not-echoes : goal.returns-then-not-echoes
returns-then-not-echoes g c = record { written = no_echo c.args.line.now _ }

pub returns-in_err-write_whole : goal.returns-in_err-write_whole
returns-in_err-write_whole g c =
    let stops = gap_stops c.args.line.now c.args.gap.now _ _ c.requires c.in_err-write_whole.ensures c.from_residual.ensures.1 in
    record { written = stops }

pub returns-in_err-write_whole-2 : goal.returns-in_err-write_whole-2
returns-in_err-write_whole-2 g c =
    let stops = echo_stops c.args.line.now c.args.gap.now _ _ _ c.requires c.in_ok-write_whole.ensures c.in_err-write_whole-2.ensures
    c.from_residual-in_err-write_whole-2.ensures.1 in
    record { written = stops }

pub returns : goal.returns
returns g c =
    let wrote = echoed c.args.line.now c.args.gap.now _ _ _ _ c.requires c.in_ok-write_whole.ensures c.in_ok-write_whole-2.ensures
    c.write_whole-3.ensures in
    record { written = wrote }
