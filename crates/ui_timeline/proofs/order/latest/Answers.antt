use Rattle.std.proofs.Common.{ℕ, ◌+◌, ◌<◌, ◌≤◌, List, map, length, ap, sym, ◌∙◌, subst, arith}
use Rattle.dbg_base.specs.declared.ids.Pid.{Pid}
use Rattle.cut_core.specs.declared.kind.Kind.{Kind}
use Rattle.ui_timeline.specs.FirstCuts.{cuts_before}
use Rattle.ui_timeline.proofs.UndoneOrderLemmas.{IsBest, sizes, found_may, found_stuck, best_stays, best_left, best_found, best_of_all, of_best}
use Rattle.ui_timeline.proofs.order.latest.Goals as goal
use Rattle.ui_timeline.proofs.order.latest.Goals.{then-is_ok+then-is_later, else-is_ok, else-is_ok-via-then-is_ok+else-is_later, else-is_ok-via-else-is_ok}

abbrev lines : List (List Kind) → ℕ
lines kinds = length kinds

pub is_later-requires-clause-process : goal.is_later-requires-clause-process
is_later-requires-clause-process c =
    omega (arith, c.loop-p-test.true, c.processes-p-end.ensures, ap lines c.tally.ensures.kinds, sizes c.args.world.now c.tally.ensures.world)

pub loop-p-preserved : goal.loop-p-preserved
loop-p-preserved c =
    let w = c.args.world.now in
    let n = c.loop-p.p in
    let cuts : List (List ℕ) = map (λ c. c.now) c.args.cuts.now in
    let here : n < length w.state.places =
    omega (arith, c.loop-p-test.true, c.processes-p-end.ensures, ap lines c.tally.ensures.kinds, sizes w c.tally.ensures.world) in
    elim c.if-is_ok.branch [ then-is_ok+then-is_later v ↦ best_found cuts w n c.loop-p.best _ c.loop-p.invariant (of_best (λ (pid : Pid). cuts_before cuts w.state pid.0 ≤ cuts_before cuts w.state n) c.loop-p.best v.is_later.ensures.later v.if-is_later.true) v.best-is here (found_may _ _ c.can_undo.result (sym c.is_ok.ensures.value ∙ v.if-is_ok.true) c.can_undo.ensures.may) | else-is_ok v ↦ subst (IsBest cuts w (n + 1)) (sym v.best-is) (elim v.else-is_ok.branch [ else-is_ok-via-then-is_ok+else-is_later u ↦ best_left cuts w n _ c.loop-p.invariant (λ none. (let yes = u.is_later.ensures.first none in let no_more = u.if-is_later.false in cc)) (of_best (λ (pid : Pid). cuts_before cuts w.state n ≤ cuts_before cuts w.state pid.0) c.loop-p.best u.is_later.ensures.earlier u.if-is_later.false) | else-is_ok-via-else-is_ok u ↦ best_stays cuts w n _ c.loop-p.invariant (found_stuck _ _ c.can_undo.result (sym c.is_ok.ensures.value ∙ u.if-is_ok.false) c.tally.ensures.world c.can_undo.ensures.why) ]) ]

pub returns-clause-best : goal.returns-clause-best
returns-clause-best c =
    let all : length c.args.world.now.kinds ≤ c.loop-p.p =
    omega (arith, c.processes-p-end.ensures, ap lines c.tally.ensures.kinds, c.loop-p-test.false) in
    let cuts : List (List ℕ) = map (λ c. c.now) c.args.cuts.now in
    best_of_all cuts _ c.loop-p.p _ c.tally.ensures.world all c.loop-p.invariant
