use Rattle.std.proofs.Common.{◌≡◌, List, [], get_or, map, sym, ap, ◌∙◌}
use Rattle.dbg_base.proofs.Places.{seen_at}
use Rattle.cut_core.specs.Tallies.{HistoryState}
use Rattle.cut_core.proofs.tally.Tally.stranger.Goals as goal

pub returns-in-Some : goal.returns-in-Some
returns-in-Some c =
    let there = c.in-Some.ensures.lookup in
    let same : c.in-Some.history.now.kinds ≡ get_or c.args.self.now.kinds c.args.pid.0 [] =
    rw (← c.self.view_is) (sym (seen_at (λ (history : HistoryState). history.kinds) c.deref.result.now c.args.pid.0 c.in-Some.history.now
    (sym there.1) there.3.0 []) ∙ ap (λ (histories : List HistoryState). get_or (map (λ (history : HistoryState). history.kinds) histories) c.args.pid.0 [])
    c.deref.ensures.value) in
    rw (sym same, sym c.processes.ensures) c.stranger.ensures
