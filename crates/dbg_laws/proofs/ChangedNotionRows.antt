-- Rows as in ChangedReferenceRows, of the words on one state, one replay, one answer and `back`, and on where a predicate is judged.
use Rattle.std.proofs.Common.{◌≡◌, ◌≢◌, ◌∙◌, ◌↔◌, ◌≤◌, ap, sym, subst, refl, inl, inr, ℕ, zero, suc, pos, List, [], ◌∷◌, ◌++◌, length, get_or}
use Rattle.std.proofs.Common.{None, Ok, true, false, arith}
use Rattle.std.specs.Prelude.{codes, slice_index}
use Rattle.dbg_base.specs.declared.expr.Direction.TheVariants.{Sent}
use Rattle.dbg_base.specs.declared.expr.Operator.TheVariants.{Equal}
use Rattle.dbg_base.specs.declared.refusal.Refusal.TheVariants.{ChannelEmpty, Halted}
use Rattle.dbg_base.specs.declared.said.Reply.{Reply}
use Rattle.dbg_base.specs.declared.said.Done.TheVariants.{Played, Undone}
use Rattle.dbg_base.specs.declared.said.Said.{Said}
use Rattle.dbg_base.specs.declared.said.Said.TheVariants.{Accepted, Answered, Refused}
use Rattle.dbg_base.specs.declared.said.Answer.TheVariants.{Values}
use Rattle.dbg_base.specs.Trees.{Number, Variable, Truth, Count, Binary, Local, Command, Program}
use Rattle.dbg_base.specs.LocalStates.{LocalState}
use Rattle.dbg_base.specs.Configurations.{Configuration, start_of, state_in}
use Rattle.dbg_base.specs.Histories.{History, IsPossible, local_state, play}
use Rattle.dbg_base.specs.Orders.{Event, order, choices_of}
use Rattle.dbg_base.specs.Counts.{got, sent as sent_among}
use Rattle.dbg_base.specs.Cuts.{IsConsistent}
use Rattle.dbg_base.specs.Predicates.{Conjunct, holds, NoCut}
use Rattle.dbg_base.specs.SystemStates.{history_of, after_choice, after_undo}
use Rattle.dbg_base.specs.ModelStates.{ModelState, opening, with_system}
use Rattle.dbg_base.specs.Calls.{Call, Plan, One, Step, Undo, Give, Vars, Ask}
use Rattle.dbg_base.specs.Acts.{Follows}
use Rattle.dbg_base.specs.Journals.{Entry, Journal, Given, IsLegal, effective, LeadsTo, IsDue}
use Rattle.dbg_base.specs.Reference.{IsClosed, events_of, IsMet}
use Rattle.dbg_base.specs.Sessions.{IsReplay, counts}
use Rattle.dbg_laws.specs.Outcomes.{HasOneState}
use Rattle.dbg_laws.proofs.OrderSwapLemmas.{takes}
use Rattle.dbg_laws.proofs.PlayLemmas.{possible}
use Rattle.dbg_laws.proofs.ClosedSetLemmas.{closed}
use Rattle.dbg_laws.proofs.EffectiveOrderLemmas.{leads_more, leads_to_once}
use Rattle.dbg_laws.proofs.ReferenceRows.{send, receive, system, sent, received, received_last, first_done, both_done, played}
use Rattle.dbg_laws.proofs.ReferenceRows.{journal, first_follows, second_follows, journal_has_a_replay}
use Rattle.dbg_laws.proofs.ChangedReferenceRows.{end, neither, eight, three, last_end, three_done, longer, longer_has_a_replay}
use Rattle.dbg_laws.proofs.ChangedSessionRows.{taken_back, taken_back_is_legal, given_before}

-- The two steps, the second one is taken back, and then given again.

abbrev again : Journal
again = taken_back ++ record { seat = 1; call = Give (One (Step 1 0)); said = Accepted (played 1) } ∷ []

again_is_legal : IsLegal system again
again_is_legal = record {
  few = omega arith;
  due = (
    taken_back_is_legal.due.0,
    (
      taken_back_is_legal.due.1.0,
      (
        taken_back_is_legal.due.1.1.0,
        ((first_done, both_done, (played 0, first_done, first_follows, refl), second_follows), tt),
      ),
    ),
  );
}

-- process 1 cannot receive twice
no_second_receive : (reply : Reply) (after : ModelState) → Follows system (One (Step 1 0)) both_done (Accepted reply) after → ⊥
no_second_receive reply after (inl (free, (said, same))) = let wrong : Accepted reply ≡ Refused ChannelEmpty = said in cc
no_second_receive reply after (inr (name, halted, (said, same))) = let wrong : Accepted reply ≡ Refused (Halted name) = said in cc

-- `one_state`: the accepted orders, also the one that was taken back, lead to no state
one_state_of_all_orders : ((P : Program) (J : Journal) → IsLegal P J → HasOneState (LeadsTo P (given_before [] J))) → ⊥
one_state_of_all_orders law =
    let (first, M, goes, (second, N, receives, (third, K, receives_again, same))) = (law system again again_is_legal).is in
    let two : LeadsTo system (effective journal) N = (first, M, goes, (second, N, receives, refl)) in
    let at : N ≡ both_done = leads_to_once system (effective journal) both_done N journal_has_a_replay.leads_to two in
    no_second_receive third K (subst (λ (L : ModelState). Follows system (One (Step 1 0)) L (Accepted third) K) at receives_again)

-- `back`: the same orders were accepted, but the receive does not remain
back_of_all_orders : ((P : Program) (J J' : Journal) (M : ModelState) (E : List Event) (c : Configuration) → IsReplay P J M E c
    → IsLegal P J' → given_before [] J' ≡ given_before [] J → IsReplay P J' M E c) → ⊥
back_of_all_orders law =
    let is = law system journal taken_back both_done received_last end journal_has_a_replay taken_back_is_legal refl in
    let same : both_done ≡ first_done =
    leads_to_once system (effective taken_back) first_done both_done (played 0, first_done, first_follows, refl) is.leads_to in
    let wrong : ◌≡◌ {A = List (List ℕ)} ((0 ∷ []) ∷ (0 ∷ []) ∷ []) ((0 ∷ []) ∷ [] ∷ []) =
    ap (λ (M : ModelState). history_of M.system) same in
    (cc)

-- an answer that is due after the first ones of the orders that count, and not after all of them
abbrev IsDueEarlier : Program → List Given → ℕ → Call → Said → Type 0
IsDueEarlier P given seat call said = (before after : List Given) × (given ≡ before ++ after) × IsDue P before seat call said

-- `one_answer`: y is 7 after the receive, and was 0 before it
one_answer_of_earlier_orders : ((P : Program) (J : Journal) → IsLegal P J
    → (seat : ℕ) (call : Call) → (said : Said) × IsDueEarlier P (effective J) seat call said
    × ((other : Said) → IsDueEarlier P (effective J) seat call other → other ≡ said)) → ⊥
one_answer_of_earlier_orders law =
    let (said, due, only) = law system journal journal_has_a_replay.legal 1 (Ask (Vars 1)) in
    let now : Answered (Values (pos 7 ∷ [])) ≡ said =
    only (Answered (Values (pos 7 ∷ []))) (effective journal, [], refl, (both_done, journal_has_a_replay.leads_to, refl)) in
    let earlier : Answered (Values (pos 0 ∷ [])) ≡ said =
    only (Answered (Values (pos 0 ∷ []))) (
      record { seat = 1; order = One (Step 0 0) } ∷ [],
      record { seat = 1; order = One (Step 1 0) } ∷ [],
      refl,
      (first_done, (played 0, first_done, first_follows, refl), refl),
    ) in
    let wrong : Answered (Values (pos 7 ∷ [])) ≡ Answered (Values (pos 0 ∷ [])) = now ∙ sym earlier in
    (cc)

-- A send and its receive are undone, and process 0 makes a local command in place of the send. The receive can still be made again, in its
-- redo line, but it does not fire.

abbrev skip : Command
skip = record { guard = Truth true; action = Local; assignments = [] }

abbrev Q : Program
Q =
    record { name = codes "a"; variables = []; commands = send ∷ skip ∷ [] }
    ∷ record { name = codes "b"; variables = (codes "y", pos 0) ∷ []; commands = receive ∷ [] }
    ∷ []

abbrev M0 : ModelState
M0 = opening Q

abbrev M1 : ModelState
M1 = with_system M0 (after_choice M0.system 0 0)

abbrev M2 : ModelState
M2 = with_system M1 (after_choice M1.system 1 0)

abbrev M3 : ModelState
M3 = with_system M2 (after_undo M2.system 1)

abbrev M4 : ModelState
M4 = with_system M3 (after_undo M3.system 0)

abbrev M5 : ModelState
M5 = with_system M4 (after_choice M4.system 0 1)

abbrev undone : ℕ → Reply
undone p = record { done = Undone (record { 0 = p }) (record { 0 = 0 }); halted = None }

abbrev skipped : Reply
skipped = record { done = Played (record { 0 = 0 }) (record { 0 = 1 }); halted = None }

abbrev giving : Plan → Given
giving plan = record { seat = 1; order = One plan }

abbrev accepted : Plan → Reply → Entry
accepted plan reply = record { seat = 1; call = Give (One plan); said = Accepted reply }

abbrev replaced : Journal
replaced =
    accepted (Step 0 0) (played 0) ∷ accepted (Step 1 0) (played 1) ∷ accepted (Undo 1) (undone 1) ∷ accepted (Undo 0) (undone 0)
    ∷ accepted (Step 0 1) skipped ∷ []

follows_1 : Follows Q (One (Step 0 0)) M0 (Accepted (played 0)) M1
follows_1 = inl (refl, (record { halted = None; is = refl; reported = refl }, refl))

follows_2 : Follows Q (One (Step 1 0)) M1 (Accepted (played 1)) M2
follows_2 = inl (refl, (record { halted = None; is = refl; reported = refl }, refl))

follows_3 : Follows Q (One (Undo 1)) M2 (Accepted (undone 1)) M3
follows_3 = inl (record {
  may = record { some = omega arith; rest = (refl, (refl, tt)) };
  choice = 0;
  was = refl;
  reported = record { halted = None; is = refl; reported = refl };
  left = refl;
})

follows_4 : Follows Q (One (Undo 0)) M3 (Accepted (undone 0)) M4
follows_4 = inl (record {
  may = record { some = omega arith; rest = (refl, (refl, tt)) };
  choice = 0;
  was = refl;
  reported = record { halted = None; is = refl; reported = refl };
  left = refl;
})

follows_5 : Follows Q (One (Step 0 1)) M4 (Accepted skipped) M5
follows_5 = inl (refl, (record { halted = None; is = refl; reported = refl }, refl))

leads_1 : LeadsTo Q (giving (Step 0 0) ∷ []) M1
leads_1 = (played 0, M1, follows_1, refl)

leads_2 : LeadsTo Q (giving (Step 0 0) ∷ giving (Step 1 0) ∷ []) M2
leads_2 = leads_more Q (giving (Step 0 0) ∷ []) M0 M1 (giving (Step 1 0)) (played 1) M2 leads_1 follows_2

leads_3 : LeadsTo Q (giving (Step 0 0) ∷ giving (Step 1 0) ∷ giving (Undo 1) ∷ []) M3
leads_3 =
    leads_more Q (giving (Step 0 0) ∷ giving (Step 1 0) ∷ []) M0 M2 (giving (Undo 1)) (undone 1) M3 leads_2 follows_3

leads_4 : LeadsTo Q (giving (Step 0 0) ∷ giving (Step 1 0) ∷ giving (Undo 1) ∷ giving (Undo 0) ∷ []) M4
leads_4 =
    leads_more Q (giving (Step 0 0) ∷ giving (Step 1 0) ∷ giving (Undo 1) ∷ []) M0 M3 (giving (Undo 0)) (undone 0) M4 leads_3 follows_4

leads_5 : LeadsTo Q (effective replaced) M5
leads_5 =
    leads_more Q (giving (Step 0 0) ∷ giving (Step 1 0) ∷ giving (Undo 1) ∷ giving (Undo 0) ∷ []) M0 M4 (giving (Step 0 1)) skipped M5
    leads_4 follows_5

replaced_is_legal : IsLegal Q replaced
replaced_is_legal = record {
  few = omega arith;
  due = (
    (M0, M1, refl, follows_1),
    (
      (M1, M2, leads_1, follows_2),
      ((M2, M3, leads_2, follows_3), ((M3, M4, leads_3, follows_4), ((M4, M5, leads_4, follows_5), tt))),
    ),
  );
}

-- a replay of the whole lines, with the events that were undone, and not of the events that remain
record IsReplayOfLines (P : Program) (J : Journal) (M : ModelState) (E : List Event) (c : Configuration) : Type 0 where
  legal : IsLegal P J
  leads_to : LeadsTo P (effective J) M
  remain : choices_of (length P) E ≡ M.system.lines
  replayed : order P E ≡ Ok c

-- `some_replay`: nothing sends what the undone receive received
some_replay_of_lines : ((P : Program) (J : Journal) → IsLegal P J
    → (M : ModelState) × (E : List Event) × (c : Configuration) × IsReplayOfLines P J M E c) → ⊥
some_replay_of_lines law =
    let (M, E, c, replay) = law Q replaced replaced_is_legal in
    let at : M ≡ M5 = leads_to_once Q (effective replaced) M5 M leads_5 replay.leads_to in
    let lines : choices_of 2 E ≡ (1 ∷ []) ∷ (0 ∷ []) ∷ [] = replay.remain ∙ ap (λ (N : ModelState). N.system.lines) at in
    let plays = possible Q (choices_of 2 E) E c replay.replayed (takes Q (start_of Q) c E replay.replayed) in
    let all : IsPossible Q ((1 ∷ []) ∷ (0 ∷ []) ∷ []) = subst (λ (H : History). IsPossible Q H) lines plays.0 in
    let wrong : ◌≡◌ {A = List ℕ} (0 ∷ []) [] = all.1.0 in
    (cc)

-- `judged`: in the empty set y is 0, and at the end of all events 7
judged_at_the_end : ((P : Program) (J : Journal) (M : ModelState) (E : List Event) (c : Configuration) → IsReplay P J M E c
    → (cut : List ℕ) → IsClosed P E cut → (d : Configuration) → order P E ≡ Ok d
    → (p : ℕ) → local_state P (history_of M.system) p (slice_index cut p) ≡ state_in d p) → ⊥
judged_at_the_end law =
    let same = law system journal both_done received_last end journal_has_a_replay (0 ∷ 0 ∷ [])
    (closed system received_last (0 ∷ 0 ∷ []) neither) end refl 1 in
    let wrong : pos 0 ∷ [] ≡ pos 7 ∷ [] = ap (λ (state : LocalState). state.values) same in
    (cc)

-- only the sets through which the replay goes in its one order: those of the first events of E
record IsMetOnTheWay (P : Program) (E : List Event) (conjuncts : List Conjunct) (cut : List ℕ) : Type 0 where
  met : IsMet P E conjuncts cut
  first : List Event
  others : List Event
  are : E ≡ first ++ others
  counted : cut ≡ counts P first

abbrev both_sent : Conjunct
both_sent = record { process = 0; expression = Binary Equal (Count Sent 1) (Number (pos 2)) }

abbrev y_is_0 : Conjunct
y_is_0 = record { process = 1; expression = Binary Equal (Variable 0) (Number (pos 0)) }

-- The two sends alone are a consistent cut. The replay goes through other sets: its second send is after the receive.
two_sends : IsConsistent system (history_of three_done.system) (2 ∷ 0 ∷ [])
two_sends = record { sizes = refl; within = within; causes = causes }
  where
    within : (p : ℕ) → get_or (2 ∷ 0 ∷ []) p 0 ≤ length (get_or (history_of three_done.system) p [])
    within zero = omega arith
    within (suc zero) = omega arith
    within (suc (suc p)) = omega arith

    causes : (i j : ℕ) → i ≢ j → got system (history_of three_done.system) j i (slice_index (2 ∷ 0 ∷ []) j)
        ≤ sent_among system (history_of three_done.system) i j (slice_index (2 ∷ 0 ∷ []) i)
    causes i zero apart = omega arith
    causes i (suc zero) apart = omega arith
    causes i (suc (suc j)) apart = omega arith

not_on_the_way : (first others : List Event) (cut : List ℕ) (c : Configuration) → three ≡ first ++ others → cut ≡ counts system first
    → order system (events_of cut three) ≡ Ok c → holds both_sent.expression (state_in c 0) ≡ true
    → holds y_is_0.expression (state_in c 1) ≡ true → ⊥
not_on_the_way [] others cut c are counted at sends y =
    let cut_is : 0 ∷ 0 ∷ [] ≡ cut = sym counted in
    let leads : Ok (start_of system) ≡ Ok c = ap (λ (d : List ℕ). order system (events_of d three)) cut_is ∙ at in
    let c_is : start_of system ≡ c = cc in
    let wrong : false ≡ true = ap (λ (d : Configuration). holds both_sent.expression (state_in d 0)) c_is ∙ sends in
    (cc)
not_on_the_way (x ∷ []) others cut c are counted at sends y =
    let one : sent ≡ x = cc in
    let list : sent ∷ [] ≡ x ∷ [] = (λ i. one i ∷ []) in
    let cut_is : counts system (sent ∷ []) ≡ cut = ap (counts system) list ∙ sym counted in
    let leads : Ok (play system ((0 ∷ []) ∷ [] ∷ [])) ≡ Ok c = ap (λ (d : List ℕ). order system (events_of d three)) cut_is ∙ at in
    let c_is : play system ((0 ∷ []) ∷ [] ∷ []) ≡ c = cc in
    let wrong : false ≡ true = ap (λ (d : Configuration). holds both_sent.expression (state_in d 0)) c_is ∙ sends in
    (cc)
not_on_the_way (x ∷ z ∷ []) others cut c are counted at sends y =
    let one : sent ≡ x = cc in
    let two : received ≡ z = cc in
    let list : sent ∷ received ∷ [] ≡ x ∷ z ∷ [] = (λ i. one i ∷ two i ∷ []) in
    let cut_is : counts system (sent ∷ received ∷ []) ≡ cut = ap (counts system) list ∙ sym counted in
    let leads : Ok end ≡ Ok c = ap (λ (d : List ℕ). order system (events_of d three)) cut_is ∙ at in
    let c_is : end ≡ c = cc in
    let wrong : false ≡ true = ap (λ (d : Configuration). holds both_sent.expression (state_in d 0)) c_is ∙ sends in
    (cc)
not_on_the_way (x ∷ z ∷ w ∷ []) others cut c are counted at sends y =
    let one : sent ≡ x = cc in
    let two : received ≡ z = cc in
    let last : eight ≡ w = cc in
    let list : sent ∷ received ∷ eight ∷ [] ≡ x ∷ z ∷ w ∷ [] = (λ i. one i ∷ two i ∷ last i ∷ []) in
    let cut_is : counts system (sent ∷ received ∷ eight ∷ []) ≡ cut = ap (counts system) list ∙ sym counted in
    let leads : Ok last_end ≡ Ok c = ap (λ (d : List ℕ). order system (events_of d three)) cut_is ∙ at in
    let c_is : last_end ≡ c = cc in
    let wrong : false ≡ true = ap (λ (d : Configuration). holds y_is_0.expression (state_in d 1)) c_is ∙ y in
    (cc)
not_on_the_way (x ∷ z ∷ w ∷ v ∷ first) others cut c are counted at sends y = absurd (cc)

-- `none`: y is 0 after the two sends, but the replay does not go through this set
none_on_the_way : ((P : Program) (J : Journal) (M : ModelState) (E : List Event) (c : Configuration) → IsReplay P J M E c
    → (conjuncts : List Conjunct)
    → NoCut P (history_of M.system) conjuncts ↔ ((cut : List ℕ) → ¬ IsMetOnTheWay P E conjuncts cut)) → ⊥
none_on_the_way law =
    let is = law system longer three_done three last_end longer_has_a_replay (both_sent ∷ y_is_0 ∷ []) in
    is.1 (λ cut x. not_on_the_way x.first x.others cut x.met.end x.are x.counted x.met.replayed x.met.all.0 x.met.all.1.0) (2 ∷ 0 ∷ [])
    (record { consistent = two_sends; all = (refl, (refl, tt)) })
