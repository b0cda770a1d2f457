-- The replay after one more order of a journal, which was accepted.
use Rattle.std.proofs.Common.{◌≡◌, List, [], length, sym, subst}
use Rattle.std.specs.Prelude.{ℕ}
use Rattle.dbg_base.specs.declared.said.Reply.{Reply}
use Rattle.dbg_base.specs.declared.said.Said.TheVariants.{Accepted}
use Rattle.dbg_base.specs.Trees.{Program}
use Rattle.dbg_base.specs.Configurations.{Configuration}
use Rattle.dbg_base.specs.Orders.{Event, choices_of, IsLegalOrder}
use Rattle.dbg_base.specs.SystemStates.{history_of}
use Rattle.dbg_base.specs.ModelStates.{ModelState, opening}
use Rattle.dbg_base.specs.Calls.{Plan, Order, One, Batch, Give}
use Rattle.dbg_base.specs.Acts.{Follows}
use Rattle.dbg_base.specs.Journals.{Journal, Given, IsLegal, effective, LeadsTo}
use Rattle.dbg_base.specs.Sessions.{IsReplay, remaining, AreGiven, remaining_after}
use Rattle.dbg_laws.specs.Remaining.{with_order}
use Rattle.dbg_laws.proofs.LegalJournalLemmas.{effective_more, last_due}
use Rattle.dbg_laws.proofs.EffectiveOrderLemmas.{leads_to_reached, leads_to_once, leads_more, follows_keep}
use Rattle.dbg_laws.proofs.NextReplayLemmas.{acts_leave, batch_leaves}

module _ (P : Program) (J : Journal) (M : ModelState) (E : List Event) (c : Configuration) (is : IsReplay P J M E c) (seat : ℕ)
    (order : Order) (reply : Reply) (legal : IsLegal P (with_order J seat order reply)) where
  -- the order in the state of the journal
  record Next : Type 0 where
    after : ModelState
    follows : Follows P order M (Accepted reply) after

  next : Next
  next =
      let due = last_due P [] J (record { seat = seat; call = Give order; said = Accepted reply }) legal.due in
      let same : due.0 ≡ M = leads_to_once P (effective J) M due.0 is.leads_to due.2 in
      record { after = due.1; follows = subst (λ (K : ModelState). Follows P order K (Accepted reply) due.1) same due.3 }

  -- a list of the events that remain then
  replay : (F : List Event) → choices_of (length P) F ≡ history_of next.after.system → (fires : IsLegalOrder P F)
      → IsReplay P (with_order J seat order reply) next.after F fires.0
  replay F remain fires = record {
    legal = legal;
    leads_to = subst (λ (given : List Given). LeadsTo P given next.after)
        (sym (effective_more J (record { seat = seat; call = Give order; said = Accepted reply })))
        (leads_more P (effective J) (opening P) M (record { seat = seat; order = order }) reply next.after is.leads_to next.follows);
    remain = remain;
    replayed = fires.1;
  }

module _ (P : Program) (J : Journal) (M : ModelState) (E : List Event) (c : Configuration) (is : IsReplay P J M E c) (seat : ℕ) where
  pub after_command : (plan : Plan) (reply : Reply) → IsLegal P (with_order J seat (One plan) reply)
      → (after : ModelState) × (d : Configuration)
      × IsReplay P (with_order J seat (One plan) reply) after (remaining P reply.done E) d
  after_command plan reply legal =
      let n = next P J M E c is seat (One plan) reply legal in
      let reached = leads_to_reached P (effective J) M is.leads_to in
      let leaves = acts_leave P E c M reached is.remain is.replayed reply n.after
      (follows_keep P (One plan) M (Accepted reply) n.after reached n.follows) plan n.follows in
      (n.after, leaves.1.0, replay P J M E c is seat (One plan) reply legal (remaining P reply.done E) leaves.0 leaves.1)

  pub after_batch : (plans : List Plan) (reply : Reply) → IsLegal P (with_order J seat (Batch plans) reply)
      → (after : ModelState) × (d : Configuration) × (replies : List Reply) × AreGiven P plans replies M after
      × IsReplay P (with_order J seat (Batch plans) reply) after (remaining_after P replies E) d
  after_batch plans reply legal =
      let n = next P J M E c is seat (Batch plans) reply legal in
      let reached = leads_to_reached P (effective J) M is.leads_to in
      let (replies, given, remain, fires) = batch_leaves P M reply n.after plans 1 E c M reached is.remain is.replayed n.follows in
      (n.after, fires.0, replies, given, replay P J M E c is seat (Batch plans) reply legal (remaining_after P replies E) remain fires)
