use Rattle.std.proofs.Common.{ℕ, ◌≤◌, List, length, map, ap, sym, ◌∙◌, subst, arith}
use Rattle.std.proofs.lemmas.List.{map-append, length-set}
use Rattle.cut_core.specs.declared.kind.Kind.{Kind}
use Rattle.dbg_base.specs.declared.ids.Pid.{Pid}
use Rattle.dbg_base.specs.Reversal.{MayUndo}
use Rattle.dbg_base.specs.SystemStates.{SystemState, history_of}
use Rattle.ui_timeline.proofs.UndoneOrderLemmas.{IsUndone, undone_none, undone_more, sizes, fewer_places, all_undone}
use Rattle.ui_timeline.specs.FirstCuts.{cuts_before}
use Rattle.ui_timeline.proofs.FirstCutLemmas.{Splits, split_none, split_more, split_all}
use Rattle.ui_timeline.proofs.order.undo_all.Goals as goal

-- the numbers of processes
abbrev numbers : List Pid → List ℕ
numbers pids = map (λ (pid : Pid). pid.0) pids

abbrev lines : List (List Kind) → ℕ
lines kinds = length kinds

abbrev lines_of : SystemState → ℕ
lines_of M = length M.places

pub heights-requires : goal.heights-requires
heights-requires c = omega (arith, c.processes-processes.ensures, ap lines c.tally.ensures.kinds, sizes c.args.world c.tally.ensures.world)

pub loop-pid-init : goal.loop-pid-init
loop-pid-init c = record {
  size = omega (arith, c.processes-processes.ensures, ap lines c.tally.ensures.kinds, sizes c.args.world c.tally.ensures.world);
  undone = subst (IsUndone c.args.world c.args.world) (sym (ap numbers c.new-undone.ensures.items)) (undone_none c.args.world);
  splits = λ P cut of only consistent.
      subst (Splits P c.args.world cut) (sym (ap numbers c.new-undone.ensures.items)) (split_none P c.args.world cut of consistent);
}

pub loop-pid-smaller : goal.loop-pid-smaller
loop-pid-smaller c =
    fewer_places c.loop-pid.world c.undo_one.new.world c.in-Some.pid.0 c.latest.ensures.world c.in-Some.ensures.best.1
    c.in-Some.ensures.best.0 c.in_ok-undo_one.ensures.moves

pub loop-pid-preserved : goal.loop-pid-preserved
loop-pid-preserved c = record {
  size = c.loop-pid.invariant.size
      ∙ sym (ap lines_of c.in_ok-undo_one.ensures.moves ∙ length-set c.loop-pid.world.state.places c.in-Some.pid.0 _);
  undone = subst (IsUndone c.args.world c.undo_one.new.world)
      (sym (ap numbers c.in_ok-push.ensures.items ∙ map-append _ c.loop-pid.undone.items _))
      (undone_more c.args.world c.loop-pid.world c.undo_one.new.world (numbers c.loop-pid.undone.items) c.in-Some.pid.0
      c.loop-pid.invariant.undone c.in-Some.ensures.best.1 c.undo_one.ensures.of c.in-Some.ensures.best.0 c.in_ok-undo_one.ensures.moves);
  splits = λ P cut of only consistent.
      let now = (c.loop-pid.invariant.undone P of).0 in
      let ahead = subst (λ (cuts : List (List ℕ)). (q : ℕ) → MayUndo P (history_of c.loop-pid.world.state) q
      → cuts_before cuts c.loop-pid.world.state q ≤ cuts_before cuts c.loop-pid.world.state c.in-Some.pid.0) only
      (λ q may. c.in-Some.ensures.best.2 P q now may) in
      subst (Splits P c.undo_one.new.world cut)
      (sym (ap numbers c.in_ok-push.ensures.items ∙ map-append _ c.loop-pid.undone.items _))
      (split_more P c.loop-pid.world c.undo_one.new.world cut (numbers c.loop-pid.undone.items) c.in-Some.pid.0 now
      (c.undo_one.ensures.of P now) (c.in-Some.ensures.best.1 P now) c.in-Some.ensures.best.0 c.in_ok-undo_one.ensures.moves
      (c.loop-pid.invariant.splits P cut of only consistent) ahead);
}

pub returns-clause-all : goal.returns-clause-all
returns-clause-all c = all_undone _ _ (numbers c.loop-pid.undone.items) c.loop-pid.invariant.undone c.in_default.ensures.best

pub returns-clause-cut : goal.returns-clause-cut
returns-clause-cut c P cut of only consistent =
    split_all P _ cut (numbers c.loop-pid.undone.items) (c.loop-pid.invariant.splits P cut of only consistent) c.in_default.ensures.best
