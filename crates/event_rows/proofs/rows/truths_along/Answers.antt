use Rattle.std.proofs.Common.{◌≡◌, ◌+◌, ◌++◌, ◌∷◌, [], Bool, List, take, sym, ap, ◌∙◌, arith}
use Rattle.dbg_base.specs.Trees.{tree_of}
use Rattle.dbg_base.specs.LocalStates.{LocalState}
use Rattle.dbg_base.specs.Predicates.{holds}
use Rattle.event_rows.specs.Events.{after_event, past_of}
use Rattle.event_rows.specs.Truths.{truths_along}
use Rattle.event_rows.proofs.PastStateLemmas.{past_more, truths_more}
use Rattle.event_rows.proofs.rows.truths_along.Goals as goal

pub loop-event-preserved : goal.loop-event-preserved
loop-event-preserved c =
    let start = c.args.env.now in
    let events = c.args.events.now in
    let i = c.loop-event.event-index in
    let tree = tree_of c.args.expr.now in
    let here = sym c.event-item.is in
    let there : c.redo.new.env ≡ past_of start events (i + 1) =
    c.redo.ensures ∙ ap (after_event c.event-item.result) c.loop-event.invariant.state
    ∙ sym (past_more start events i c.event-item.result (omega arith) here) in
    record {
      state = there;
      truths = c.in_ok-push-2.ensures.items
          ∙ ap (λ (l : List Bool). l ++ c.is_true-in-loop-event.result ∷ []) c.loop-event.invariant.truths
          ∙ ap (λ (b : Bool). truths_along tree start (take i events) ++ b ∷ [])
          (c.is_true-in-loop-event.ensures ∙ ap (λ (s : LocalState). holds tree s) there)
          ∙ sym (truths_more start events tree i c.event-item.result (omega arith) here);
    }
