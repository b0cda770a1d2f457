use Rattle.std.proofs.Common.{List, map, ap, sym, ◌∙◌, subst, ℕ}
use Rattle.dbg_base.specs.declared.ids.Pid.{Pid}
use Rattle.dbg_base.specs.SystemStates.{history_of}
use Rattle.causal_world.specs.Scenes.{Scene, IsWorldOf}
use Rattle.dbg_base.specs.Cuts.{IsConsistent}
use Rattle.ui_timeline.specs.EventOrders.{IsEventOrder}
use Rattle.ui_timeline.proofs.FirstCutLemmas.{last_is_first}
use Rattle.ui_timeline.proofs.UndoneOrderLemmas.{ordered, map_reverse}
use Rattle.ui_timeline.proofs.order.event_order.Goals as goal

abbrev numbers : List Pid → List ℕ
numbers pids = map (λ (pid : Pid). pid.0) pids

pub returns-clause-order : goal.returns-clause-order
returns-clause-order c P of =
    let same = c.in_ok-copy.ensures in
    let there = subst (IsWorldOf P) (sym same) of in
    let back = c.in_ok-order.order.items in
    subst (λ (w : Scene). IsEventOrder P (history_of w.state) (numbers c.new.result)) same
    (ordered P (history_of c.in_ok-copy.field-0.state) (numbers back) (numbers c.new.result) (c.in_ok-order.ensures.all P there)
    (ap numbers (c.new.ensures ∙ c.reverse.ensures.items) ∙ map_reverse (λ (pid : Pid). pid.0) back))

pub returns-clause-cut : goal.returns-clause-cut
returns-clause-cut c P cut of only consistent =
    let same = c.in_ok-copy.ensures in
    let there = subst (IsWorldOf P) (sym same) of in
    let back = c.in_ok-order.order.items in
    let still = subst (λ (w : Scene). IsConsistent P (history_of w.state) cut) (sym same) consistent in
    last_is_first cut (numbers back) (numbers c.new.result)
    (ap numbers (c.new.ensures ∙ c.reverse.ensures.items) ∙ map_reverse (λ (pid : Pid). pid.0) back)
    (c.in_ok-order.ensures.cut P cut there only still)
