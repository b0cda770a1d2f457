use Rattle.std.proofs.Common.{◌≡◌, length, false, Option, None, Some, take_all, sym, ap, ◌∙◌, arith}
use Rattle.std.specs.List.{count_by}
use Rattle.std.specs.Option.{is_some}
use Rattle.std.proofs.lemmas.Option.{MatchOption-at_none}
use Rattle.dbg_base.specs.declared.ids.Pid.{Pid}
use Rattle.cut_core.specs.Kinds.{gets_from}
use Rattle.std.proofs.lemmas.List.Sums.{count_by_more_no}
use Rattle.std.proofs.Common.{refl}
use Rattle.cut_core.proofs.history.stranger.Goals as goal

no_one : (r : Option Pid) → is_some r ≡ false → r ≡ None
no_one None h = refl
no_one (Some x) h = absurd cc

pub loop-kind-preserved : goal.loop-kind-preserved
loop-kind-preserved c i le =
    let none = no_one c.stranger-found.result (sym c.is_some.ensures ∙ c.if-is_some.false) in
    let fails = MatchOption-at_none _ _ none c.stranger-found.ensures in
    count_by_more_no (gets_from i) c.args.kinds.now c.loop-kind.kind-index _ c.loop-kind-test.true (fails i le) ∙ c.loop-kind.invariant i le

pub returns : goal.returns
returns c i le =
    let all : c.loop-kind.kind-index ≡ length c.args.kinds.now = omega (arith, c.loop-kind-test.false, c.loop-kind.auto) in
    ap (count_by (gets_from i)) (sym (take_all c.loop-kind.kind-index c.args.kinds.now (omega (arith, all)))) ∙ c.loop-kind.invariant i le
