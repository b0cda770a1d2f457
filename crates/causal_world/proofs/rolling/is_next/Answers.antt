use Rattle.std.proofs.Common.{◌≡◌, ℕ, ◌<◌, inr, true, false, List, get_or, Result, Ok, Err, sym, ◌∙◌, arith}
use Rattle.std.specs.Result.{is_ok}
use Rattle.dbg_base.specs.declared.refusal.Refusal.{Refusal}
use Rattle.dbg_base.specs.Trees.{Program}
use Rattle.dbg_base.specs.SystemStates.{history_of, place_at}
use Rattle.dbg_base.specs.Reversal.{MayUndo}
use Rattle.event_rows.specs.declared.exchange.Exchange.{Exchange}
use Rattle.causal_world.specs.Scenes.{Scene, IsWorldOf}
use Rattle.causal_world.specs.Worlds.{IsSomeWorld, LastExchange}
use Rattle.causal_world.specs.Rollings.{IsNextBack}
use Rattle.causal_world.proofs.RollbackLemmas.{next_by, stuck_by}
use Rattle.causal_world.proofs.rolling.is_next.Goals as goal

module _ (w : Scene) (cut : List ℕ) (p : ℕ) where
  next_if : (found : Result Exchange Refusal) → LastExchange w.events w.standing.channels p found → get_or cut p 0 < place_at w.state p
      → IsSomeWorld w → is_ok found ≡ true → IsNextBack w cut p
  next_if (Ok exchange) last beyond some may = next_by w cut p exchange last beyond some
  next_if (Err refusal) last beyond some may = cc

  stuck_if : (found : Result Exchange Refusal) → LastExchange w.events w.standing.channels p found → is_ok found ≡ false
      → (P : Program) → IsWorldOf P w → MayUndo P (history_of w.state) p → ⊥
  stuck_if (Ok exchange) last may = cc
  stuck_if (Err refusal) last may = stuck_by w p refusal last

pub returns-then-place-count_of-clause-next : goal.returns-then-place-count_of-clause-next
returns-then-place-count_of-clause-next c may =
    next_if _ c.args.cut.now c.args.pid.0 c.last_exchange.result c.last_exchange.ensures
    (omega (arith, c.if-place-count_of.true, c.place.ensures, c.count_of.ensures)) c.requires (sym c.is_ok.ensures.value ∙ may)

pub returns-then-place-count_of-clause-stuck : goal.returns-then-place-count_of-clause-stuck
returns-then-place-count_of-clause-stuck c no_more =
    inr (stuck_if _ c.args.cut.now c.args.pid.0 c.last_exchange.result c.last_exchange.ensures (sym c.is_ok.ensures.value ∙ no_more))
