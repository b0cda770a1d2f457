-- Rows as in ChangedReferenceRows, of the words on sessions: commands that are taken back, undos and batches.
use Rattle.std.proofs.Common.{◌≡◌, ◌∙◌, ap, inl, ℕ, pos, List, [], ◌∷◌, ◌++◌, length, None, Ok, refl}
use Rattle.std.proofs.Common.{arith}
use Rattle.dbg_base.specs.declared.said.Reply.{Reply}
use Rattle.dbg_base.specs.declared.said.Done.{Done}
use Rattle.dbg_base.specs.declared.said.Done.TheVariants.{Undone, Plain}
use Rattle.dbg_base.specs.declared.said.Said.{Said}
use Rattle.dbg_base.specs.declared.said.Said.TheVariants.{Accepted, Answered}
use Rattle.dbg_base.specs.declared.said.Answer.TheVariants.{Values}
use Rattle.dbg_base.specs.Trees.{Program}
use Rattle.dbg_base.specs.Configurations.{Configuration, start_of}
use Rattle.dbg_base.specs.Histories.{play}
use Rattle.dbg_base.specs.Orders.{Event, order, choices_of}
use Rattle.dbg_base.specs.SystemStates.{history_of, after_undo}
use Rattle.dbg_base.specs.ModelStates.{ModelState, with_system}
use Rattle.dbg_base.specs.Calls.{Call, Plan, One, Batch, Step, Undo, Give, Back, Query, Vars, Ask}
use Rattle.dbg_base.specs.Acts.{Follows}
use Rattle.dbg_base.specs.Journals.{Journal, Given, IsLegal, effective, LeadsTo, IsDue}
use Rattle.dbg_base.specs.Sessions.{IsReplay, remaining}
use Rattle.dbg_base.specs.Shown.{Shows}
use Rattle.dbg_laws.specs.Remaining.{with_order}
use Rattle.dbg_laws.proofs.EffectiveOrderLemmas.{leads_to_once}
use Rattle.dbg_laws.proofs.ReferenceRows.{system, received_last, nothing_done, first_done, both_done, played, journal, first_follows, second_follows}
use Rattle.dbg_laws.proofs.ReferenceRows.{journal_has_a_replay}

-- The two steps, and then the seat takes back the second one.

abbrev pub taken_back : Journal
taken_back = journal ++ record { seat = 1; call = Back; said = Accepted (record { done = Plain; halted = None }) } ∷ []

pub taken_back_is_legal : IsLegal system taken_back
taken_back_is_legal = record {
  few = omega arith;
  due = (
    (nothing_done, first_done, refl, first_follows),
    (
      (first_done, both_done, (played 0, first_done, first_follows, refl), second_follows),
      ((first_done, (played 0, first_done, first_follows, refl), record { halted = None; is = refl; reported = refl }), tt),
    ),
  );
}

-- the orders that were accepted, also those that were taken back

abbrev one_more : List Given → ℕ → Call → Said → List Given
one_more given seat (Give order) (Accepted reply) = given ++ record { seat = seat; order = order } ∷ []
one_more given seat call said = given

abbrev pub given_before : List Given → Journal → List Given
given_before given [] = given
given_before given (entry ∷ J) = given_before (one_more given entry.seat entry.call entry.said) J

-- the events of all accepted orders, and not of those that remain
record IsReplayOfAll (P : Program) (J : Journal) (M : ModelState) (E : List Event) (c : Configuration) : Type 0 where
  legal : IsLegal P J
  leads_to : LeadsTo P (given_before [] J) M
  remain : choices_of (length P) E ≡ history_of M.system
  replayed : order P E ≡ Ok c

-- `shown`: after the receive was taken back, y is 0
shown_of_all_orders : ((P : Program) (J : Journal) (M : ModelState) (E : List Event) (c : Configuration) → IsReplayOfAll P J M E c
    → (seat : ℕ) (query : Query) (said : Said) → IsDue P (effective J) seat (Ask query) said → Shows P M.breakpoints E c query said) → ⊥
shown_of_all_orders law =
    let replay : IsReplayOfAll system taken_back both_done received_last (play system ((0 ∷ []) ∷ (0 ∷ []) ∷ [])) = record {
      legal = taken_back_is_legal;
      leads_to = journal_has_a_replay.leads_to;
      remain = refl;
      replayed = refl;
    } in
    let shown = law system taken_back both_done received_last (play system ((0 ∷ []) ∷ (0 ∷ []) ∷ [])) replay 1 (Vars 1)
    (Answered (Values (pos 0 ∷ []))) (first_done, (played 0, first_done, first_follows, refl), refl) in
    let wrong : Answered (Values (pos 0 ∷ [])) ≡ Answered (Values (pos 7 ∷ [])) = shown in
    (cc)

-- an undo that leaves the events as they are
abbrev remaining_all : Program → Done → List Event → List Event
remaining_all P (Undone p k) E = E
remaining_all P done E = remaining P done E

abbrev undone : Reply
undone = record { done = Undone (record { 0 = 1 }) (record { 0 = 0 }); halted = None }

abbrev one_done : ModelState
one_done = with_system both_done (after_undo both_done.system 1)

undo_follows : Follows system (One (Undo 1)) both_done (Accepted undone) one_done
undo_follows = inl (record {
  may = record { some = omega arith; rest = (refl, (refl, tt)) };
  choice = 0;
  was = refl;
  reported = record { halted = None; is = refl; reported = refl };
  left = refl;
})

undo_is_legal : IsLegal system (with_order journal 1 (One (Undo 1)) undone)
undo_is_legal = record {
  few = omega arith;
  due = (
    (nothing_done, first_done, refl, first_follows),
    (
      (first_done, both_done, (played 0, first_done, first_follows, refl), second_follows),
      ((both_done, one_done, (played 0, first_done, first_follows, (played 1, both_done, second_follows, refl)), undo_follows), tt),
    ),
  );
}

-- `command`: after the undo of the receive, the send remains
command_without_undo : ((P : Program) (J : Journal) (M : ModelState) (E : List Event) (c : Configuration) → IsReplay P J M E c
    → (seat : ℕ) (plan : Plan) (reply : Reply) → IsLegal P (with_order J seat (One plan) reply)
    → (after : ModelState) × (d : Configuration)
    × IsReplay P (with_order J seat (One plan) reply) after (remaining_all P reply.done E) d) → ⊥
command_without_undo law =
    let is = law system journal both_done received_last (play system ((0 ∷ []) ∷ (0 ∷ []) ∷ [])) journal_has_a_replay 1 (Undo 1) undone
    undo_is_legal in
    let same : is.0 ≡ one_done =
    leads_to_once system (effective (with_order journal 1 (One (Undo 1)) undone)) one_done is.0
    (played 0, first_done, first_follows, (played 1, both_done, second_follows, (undone, one_done, undo_follows, refl))) is.2.leads_to in
    let wrong : ◌≡◌ {A = List (List ℕ)} ((0 ∷ []) ∷ (0 ∷ []) ∷ []) ((0 ∷ []) ∷ [] ∷ []) =
    is.2.remain ∙ ap (λ (M : ModelState). history_of M.system) same in
    (cc)

-- `batch`: from the reply to the batch itself, no event remains after its step
batch_from_its_reply : ((P : Program) (J : Journal) (M : ModelState) (E : List Event) (c : Configuration) → IsReplay P J M E c
    → (seat : ℕ) (plans : List Plan) (reply : Reply) → IsLegal P (with_order J seat (Batch plans) reply)
    → (after : ModelState) × (d : Configuration) × IsReplay P (with_order J seat (Batch plans) reply) after (remaining P reply.done E) d) → ⊥
batch_from_its_reply law =
    let replay : IsReplay system [] nothing_done [] (start_of system) =
    record { legal = record { few = omega arith; due = tt }; leads_to = refl; remain = refl; replayed = refl } in
    let plain : Reply = record { done = Plain; halted = None } in
    let follows : Follows system (Batch (Step 0 0 ∷ [])) nothing_done (Accepted plain) first_done =
    inl (played 0, first_done, first_follows, (record { halted = None; is = refl; reported = refl }, refl)) in
    let is = law system [] nothing_done [] (start_of system) replay 1 (Step 0 0 ∷ []) plain
    (record { few = omega arith; due = ((nothing_done, first_done, refl, follows), tt) }) in
    let same : is.0 ≡ first_done =
    leads_to_once system (effective (with_order [] 1 (Batch (Step 0 0 ∷ [])) plain)) first_done is.0 (plain, first_done, follows, refl)
    is.2.leads_to in
    let wrong : ◌≡◌ {A = List (List ℕ)} ([] ∷ [] ∷ []) ((0 ∷ []) ∷ [] ∷ []) =
    is.2.remain ∙ ap (λ (M : ModelState). history_of M.system) same in
    (cc)
