-- Clauses of the headline with one definition changed. Each row refutes such a clause on a journal of two or three steps, in which process 0
-- sends and process 1 receives the message.
use Rattle.std.proofs.Common.{◌≡◌, ◌≢◌, ◌↔◌, ◌⊎◌, inl, inr, ℕ, ℤ, zero, suc, pos, ◌<◌, ◌≤◌, List, [], ◌∷◌, ◌++◌, length, get_or, Ok, refl, sym, ap}
use Rattle.std.proofs.Common.{◌∙◌, subst, arith, true, false, None, Bool, cond}
use Rattle.std.proofs.lemmas.Bool.{ne_eqb}
use Rattle.std.specs.List.{AllByRecursion}
use Rattle.std.specs.Prelude.{slice_index}
use Rattle.dbg_base.specs.declared.said.Reply.{Reply}
use Rattle.dbg_base.specs.declared.said.Done.TheVariants.{Played}
use Rattle.dbg_base.specs.declared.said.Said.TheVariants.{Accepted}
use Rattle.dbg_base.specs.Trees.{Program}
use Rattle.dbg_base.specs.Configurations.{Configuration, start_of, values_of, state_in, channel_of}
use Rattle.dbg_base.specs.Histories.{History, play}
use Rattle.dbg_base.specs.Orders.{Event, order, choices_of, IsLegalOrder}
use Rattle.dbg_base.specs.Counts.{sends_to, receives_from, got, sent as sent_among}
use Rattle.dbg_base.specs.Cuts.{IsConsistent}
use Rattle.dbg_base.specs.Clocks.{IsClock}
use Rattle.dbg_base.specs.Predicates.{Conjunct, holds, IsLeast}
use Rattle.dbg_base.specs.Reversal.{MayUndo, IsRollback}
use Rattle.dbg_base.specs.SystemStates.{history_of, configuration_of, after_choice}
use Rattle.dbg_base.specs.ModelStates.{ModelState, with_system}
use Rattle.dbg_base.specs.Calls.{One, Step, Give}
use Rattle.dbg_base.specs.Acts.{Follows}
use Rattle.dbg_base.specs.Journals.{Journal, IsLegal, effective, LeadsTo}
use Rattle.dbg_base.specs.Reference.{line, Happens, IsClosed, events_of, IsMet}
use Rattle.dbg_base.specs.Sessions.{IsReplay}
use Rattle.dbg_base.proofs.EliminationLemmas.{none_at}
use Rattle.dbg_laws.proofs.UndoneCutLemmas.{nothing_consistent}
use Rattle.dbg_laws.proofs.ClosedSetLemmas.{closed}
use Rattle.dbg_laws.proofs.ReferenceRows.{system, sent, received, received_last, nothing_done, first_done, both_done, played, journal}
use Rattle.dbg_laws.proofs.ReferenceRows.{y_is_7, first_follows, second_follows, journal_has_a_replay}

-- The history of the two events, and its cuts.

abbrev H : History
H = choices_of 2 received_last

abbrev pub end : Configuration
end = play system ((0 ∷ []) ∷ (0 ∷ []) ∷ [])

within_two : (p : ℕ) → get_or (1 ∷ 1 ∷ []) p 0 ≤ length (get_or H p [])
within_two zero = omega arith
within_two (suc zero) = omega arith
within_two (suc (suc p)) = omega arith

both : IsConsistent system H (1 ∷ 1 ∷ [])
both = record { sizes = refl; within = within_two; causes = causes }
  where
    causes : (i j : ℕ) → i ≢ j → got system H j i (slice_index (1 ∷ 1 ∷ []) j) ≤ sent_among system H i j (slice_index (1 ∷ 1 ∷ []) i)
    causes zero zero apart = absurd (apart refl)
    causes zero (suc zero) apart = omega arith
    causes zero (suc (suc j)) apart = omega arith
    causes (suc zero) zero apart = omega arith
    causes (suc zero) (suc zero) apart = absurd (apart refl)
    causes (suc zero) (suc (suc j)) apart = omega arith
    causes (suc (suc i)) zero apart = omega arith
    causes (suc (suc i)) (suc zero) apart =
        let none = ap (λ (b : Bool). cond {A = ℕ} b 1 0) (ne_eqb 0 (suc (suc i)) (λ e. cc)) in omega (arith, none)
    causes (suc (suc i)) (suc (suc j)) apart = omega arith

pub neither : IsConsistent system H (0 ∷ 0 ∷ [])
neither = nothing_consistent system H

-- Happened-before by another relation of messages, and sets that are closed under another relation.

data BeforeBy (IsSent : ℕ → ℕ → ℕ → ℕ → Type 0) (P : Program) (E : List Event) : ℕ → ℕ → ℕ → ℕ → Type 0 where
  Earlier : {p m n : ℕ} → m < n → n < length (line P E p) → BeforeBy IsSent P E p m p n
  ByMessage : {i m j n : ℕ} → IsSent i m j n → BeforeBy IsSent P E i m j n
  Through : {i m j n k o : ℕ} → BeforeBy IsSent P E i m j n → BeforeBy IsSent P E j n k o → BeforeBy IsSent P E i m k o

record IsClosedBy (Before : ℕ → ℕ → ℕ → ℕ → Type 0) (P : Program) (E : List Event) (cut : List ℕ) : Type 0 where
  sizes : length cut ≡ length P
  within : (p : ℕ) → slice_index cut p ≤ length (line P E p)
  closed : (i m j n : ℕ) → Before i m j n → n < slice_index cut j → m < slice_index cut i

-- happened-before without messages: the order of each process alone
abbrev InOrder : Program → List Event → ℕ → ℕ → ℕ → ℕ → Type 0
InOrder P E i m j n = BeforeBy (λ i m j n. ⊥) P E i m j n

same_process : (i m j n : ℕ) → InOrder system received_last i m j n → (i ≡ j) × (m < n)
same_process i m j n (Earlier less there) = (refl, less)
same_process i m j n (ByMessage none) = absurd none
same_process i m j n (Through {j = k} {n = o} first second) =
    let one = same_process i m k o first in
    let two = same_process k o j n second in
    let a = one.1 in
    let b = two.1 in
    (one.0 ∙ two.0, omega (arith, a, b))

-- the receive alone is then a closed set
receive_alone : IsClosedBy (InOrder system received_last) system received_last (0 ∷ 1 ∷ [])
receive_alone = record {
  sizes = refl;
  within = within_receive;
  closed = λ i m j n before inside.
      let same = same_process i m j n before in
      let less = same.1 in
      subst (λ (p : ℕ). m < slice_index (0 ∷ 1 ∷ []) p) (sym same.0) (omega (arith, less, inside));
}
  where
    within_receive : (p : ℕ) → slice_index (0 ∷ 1 ∷ []) p ≤ length (line system received_last p)
    within_receive zero = omega arith
    within_receive (suc zero) = omega arith
    within_receive (suc (suc p)) = omega arith

-- `alone`: it cannot be replayed alone
alone_without_messages : ((P : Program) (J : Journal) (M : ModelState) (E : List Event) (c : Configuration) → IsReplay P J M E c
    → (cut : List ℕ) → length cut ≡ length P → ((p : ℕ) → slice_index cut p ≤ length (line P E p))
    → IsClosedBy (InOrder P E) P E cut ↔ IsLegalOrder P (events_of cut E)) → ⊥
alone_without_messages law =
    let is = law system journal both_done received_last end journal_has_a_replay (0 ∷ 1 ∷ []) refl receive_alone.within in
    let replayed = is.0 receive_alone in
    (let wrong : order system (events_of (0 ∷ 1 ∷ []) received_last) ≡ Ok replayed.0 = replayed.1 in cc)

-- `cuts`: it is not consistent
cuts_without_messages : ((P : Program) (J : Journal) (M : ModelState) (E : List Event) (c : Configuration) → IsReplay P J M E c
    → (cut : List ℕ) → IsConsistent P (history_of M.system) cut ↔ IsClosedBy (InOrder P E) P E cut) → ⊥
cuts_without_messages law =
    let is = law system journal both_done received_last end journal_has_a_replay (0 ∷ 1 ∷ []) in
    let wrong : 1 ≤ 0 = (is.1 receive_alone).causes 0 1 (λ e. cc) in
    omega (arith, wrong)

-- `clock`: the clock of the receive counts the send
clock_without_messages : ((P : Program) (J : Journal) (M : ModelState) (E : List Event) (c : Configuration) → IsReplay P J M E c
    → (p n : ℕ) (cut : List ℕ) → n < length (line P E p) → IsClock P (history_of M.system) p (suc n) cut
    → (q m : ℕ) → (m < slice_index cut q) ↔ (InOrder P E q m p n ⊎ ((q ≡ p) × (m ≡ n)))) → ⊥
clock_without_messages law =
    by ((law system journal both_done received_last end journal_has_a_replay 1 0 (1 ∷ 1 ∷ []) (omega arith) clock 0 0).0 (omega arith))
  where
    some : (n o : ℕ) → got system H 1 0 o ≤ sent_among system H 0 1 n → 1 ≤ o → o ≤ 1 → 1 ≤ n
    some zero zero causes reaches few = absurd (omega (arith, reaches))
    some zero (suc zero) causes reaches few = let wrong : 1 ≤ 0 = causes in absurd (omega (arith, wrong))
    some zero (suc (suc o)) causes reaches few = absurd (omega (arith, few))
    some (suc n) o causes reaches few = omega arith

    least : (other : List ℕ) → IsConsistent system H other → 1 ≤ slice_index other 1 → (p : ℕ)
        → slice_index (1 ∷ 1 ∷ []) p ≤ slice_index other p
    least other is reaches zero =
        some (slice_index other 0) (slice_index other 1) (is.causes 0 1 (λ e. cc)) reaches (is.within 1)
    least other is reaches (suc zero) = reaches
    least other is reaches (suc (suc p)) = omega arith

    clock : IsClock system H 1 1 (1 ∷ 1 ∷ [])
    clock = record { consistent = both; reaches = omega arith; least = least }

    by : InOrder system received_last 0 0 1 0 ⊎ (◌≡◌ {A = ℕ} 0 1 × ◌≡◌ {A = ℕ} 0 0) → ⊥
    by (inl before) = (let wrong : ◌≡◌ {A = ℕ} 0 1 = (same_process 0 0 1 0 before).0 in omega (arith, wrong))
    by (inr same) = (let wrong : ◌≡◌ {A = ℕ} 0 1 = same.0 in omega (arith, wrong))

-- `undo`: any last event, also one whose message was received
undo_of_a_received_send : ((P : Program) (J : Journal) (M : ModelState) (E : List Event) (c : Configuration) → IsReplay P J M E c
    → (p : ℕ) → MayUndo P (history_of M.system) p ↔ (0 < length (line P E p))) → ⊥
undo_of_a_received_send law =
    let may = (law system journal both_done received_last end journal_has_a_replay 0).1 (omega arith) in
    let wrong : ◌≡◌ {A = List ℕ} (0 ∷ []) [] = may.rest.1.0 in
    (cc)

-- the greatest set that meets conjuncts in place of the least
record IsGreatestMet (P : Program) (E : List Event) (conjuncts : List Conjunct) (cut : List ℕ) : Type 0 where
  met : IsMet P E conjuncts cut
  greatest : (other : List ℕ) → IsMet P E conjuncts other → (p : ℕ) → slice_index other p ≤ slice_index cut p

-- `least`: without conjuncts the least set is empty
least_is_not_greatest : ((P : Program) (J : Journal) (M : ModelState) (E : List Event) (c : Configuration) → IsReplay P J M E c
    → (conjuncts : List Conjunct) (cut : List ℕ) → IsLeast P (history_of M.system) conjuncts cut ↔ IsGreatestMet P E conjuncts cut) → ⊥
least_is_not_greatest law =
    let is = (law system journal both_done received_last end journal_has_a_replay [] (0 ∷ 0 ∷ [])).0
    (record { satisfies = record { consistent = neither; all = tt }; least = λ other s p. (let none = none_at 2 p in omega (arith, none)) }) in
    let met : IsMet system received_last [] (1 ∷ 1 ∷ []) =
    record { closed = closed system received_last (1 ∷ 1 ∷ []) both; end = end; replayed = refl; all = tt } in
    let wrong : 1 ≤ 0 = is.greatest (1 ∷ 1 ∷ []) met 0 in
    omega (arith, wrong)

-- a closed set, with conjuncts that hold at the end of all events in place of the end of the set's
record IsMetAtEnd (P : Program) (E : List Event) (conjuncts : List Conjunct) (cut : List ℕ) : Type 0 where
  closed : IsClosed P E cut
  end : Configuration
  replayed : order P E ≡ Ok end
  all : AllByRecursion (λ conjunct. holds conjunct.expression (state_in end conjunct.process) ≡ true) conjuncts

record IsLeastAtEnd (P : Program) (E : List Event) (conjuncts : List Conjunct) (cut : List ℕ) : Type 0 where
  met : IsMetAtEnd P E conjuncts cut
  least : (other : List ℕ) → IsMetAtEnd P E conjuncts other → (p : ℕ) → slice_index cut p ≤ slice_index other p

-- `least`: without events y is not 7
least_at_the_end : ((P : Program) (J : Journal) (M : ModelState) (E : List Event) (c : Configuration) → IsReplay P J M E c
    → (conjuncts : List Conjunct) (cut : List ℕ) → IsLeast P (history_of M.system) conjuncts cut ↔ IsLeastAtEnd P E conjuncts cut) → ⊥
least_at_the_end law =
    let is = (law system journal both_done received_last end journal_has_a_replay (y_is_7 ∷ []) (0 ∷ 0 ∷ [])).1 (record {
      met = record { closed = closed system received_last (0 ∷ 0 ∷ []) neither; end = end; replayed = refl; all = (refl, tt) };
      least = λ other met p. (let none = none_at 2 p in omega (arith, none));
    }) in
    let wrong : false ≡ true = is.satisfies.all.0 in
    (cc)

-- the least set with at most so many events in place of the greatest
record IsLeastBelow (P : Program) (E : List Event) (p n : ℕ) (cut : List ℕ) : Type 0 where
  closed : IsClosed P E cut
  below : slice_index cut p ≤ n
  least : (other : List ℕ) → IsClosed P E other → slice_index other p ≤ n → (q : ℕ) → slice_index cut q ≤ slice_index other q

-- `rollback`: to one event of process 0 it leaves all events
rollback_is_not_least : ((P : Program) (J : Journal) (M : ModelState) (E : List Event) (c : Configuration) → IsReplay P J M E c
    → (p n : ℕ) (cut : List ℕ) → IsRollback P (history_of M.system) p n cut ↔ IsLeastBelow P E p n cut) → ⊥
rollback_is_not_least law =
    let is = (law system journal both_done received_last end journal_has_a_replay 0 1 (1 ∷ 1 ∷ [])).0
    (record { consistent = both; below = omega arith; greatest = λ other o few p. most other o p }) in
    let wrong : 1 ≤ 0 = is.least (0 ∷ 0 ∷ []) (closed system received_last (0 ∷ 0 ∷ []) neither) (omega arith) 0 in
    omega (arith, wrong)
  where
    most : (other : List ℕ) → IsConsistent system H other → (p : ℕ) → slice_index other p ≤ slice_index (1 ∷ 1 ∷ []) p
    most other o zero = o.within 0
    most other o (suc zero) = o.within 1
    most other o (suc (suc p)) = o.within (suc (suc p))

-- a replay of any events, and not of those that remain
record IsSomeReplay (P : Program) (J : Journal) (M : ModelState) (E : List Event) (c : Configuration) : Type 0 where
  legal : IsLegal P J
  leads_to : LeadsTo P (effective J) M
  replayed : order P E ≡ Ok c

-- `state`: without events, variable 0 of process 1 is 0
state_of_other_events : ((P : Program) (J : Journal) (M : ModelState) (E : List Event) (c : Configuration) → IsSomeReplay P J M E c
    → configuration_of P M.system ≡ c) → ⊥
state_of_other_events law =
    let same = law system journal both_done [] (start_of system)
    (record { legal = journal_has_a_replay.legal; leads_to = journal_has_a_replay.leads_to; replayed = refl }) in
    let wrong : pos 7 ∷ [] ≡ pos 0 ∷ [] = ap (λ (d : Configuration). values_of d 1) same in
    (cc)

-- Three steps: after the receive of 7, process 0 sends 8.

abbrev pub eight : Event
eight = record { process = 0; choice = 1 }

abbrev pub three : List Event
three = sent ∷ received ∷ eight ∷ []

abbrev pub last_end : Configuration
last_end = play system ((0 ∷ 1 ∷ []) ∷ (0 ∷ []) ∷ [])

abbrev pub three_done : ModelState
three_done = with_system both_done (after_choice both_done.system 0 1)

abbrev played_eight : Reply
played_eight = record { done = Played (record { 0 = 0 }) (record { 0 = 1 }); halted = None }

abbrev pub longer : Journal
longer = journal ++ record { seat = 1; call = Give (One (Step 0 1)); said = Accepted played_eight } ∷ []

third_follows : Follows system (One (Step 0 1)) both_done (Accepted played_eight) three_done
third_follows = inl (refl, (record { halted = None; is = refl; reported = refl }, refl))

pub longer_has_a_replay : IsReplay system longer three_done three last_end
longer_has_a_replay = record {
  legal = record {
    few = omega arith;
    due = (
      (nothing_done, first_done, refl, first_follows),
      (
        (first_done, both_done, (played 0, first_done, first_follows, refl), second_follows),
        (
          (both_done, three_done, (played 0, first_done, first_follows, (played 1, both_done, second_follows, refl)), third_follows),
          tt,
        ),
      ),
    );
  };
  leads_to = (played 0, first_done, first_follows, (played 1, both_done, second_follows, (played_eight, three_done, third_follows, refl)));
  remain = refl;
  replayed = refl;
}

-- a message from i to j, however many were sent before it
record IsAnyMessage (P : Program) (E : List Event) (i m j n : ℕ) : Type 0 where
  apart : i ≢ j
  sent : m < length (line P E i)
  sends : sends_to P i j (slice_index (line P E i) m) ≡ true
  received : n < length (line P E j)
  receives : receives_from P j i (slice_index (line P E j) n) ≡ true

-- the second send, as though it were received
second_send : IsAnyMessage system three 0 1 1 0
second_send = record { apart = λ e. cc; sent = omega arith; sends = refl; received = omega arith; receives = refl }

-- `forward`: it is after the receive in the replay
forward_with_any_message : ((P : Program) (J : Journal) (M : ModelState) (A B : List Event) (e : Event) (c : Configuration)
    → IsReplay P J M (A ++ e ∷ B) c → (i m : ℕ)
    → BeforeBy (IsAnyMessage P (A ++ e ∷ B)) P (A ++ e ∷ B) i m e.process (length (line P A e.process)) → m < length (line P A i)) → ⊥
forward_with_any_message law =
    let wrong : 1 < 1 = law system longer three_done (sent ∷ []) (eight ∷ []) received last_end longer_has_a_replay 0 1 (ByMessage second_send) in
    omega (arith, wrong)

-- `message`: the second send puts 8 at the tail, and the receive takes 7

second_puts : (before after : List Event) (e : Event) (a b : Configuration) → three ≡ before ++ e ∷ after → e.process ≡ 0
    → length (line system before 0) ≡ 1 → order system before ≡ Ok a → order system (before ++ e ∷ []) ≡ Ok b
    → (channel_of a 0 1 ≡ []) × (channel_of b 0 1 ≡ pos 8 ∷ [])
second_puts [] after e a b is own nth at leads = absurd (omega (arith, nth))
second_puts (x ∷ []) after e a b is own nth at leads =
    let same : received ≡ e = cc in
    let wrong : ◌≡◌ {A = ℕ} 1 0 = ap (λ (f : Event). f.process) same ∙ own in
    absurd (omega (arith, wrong))
second_puts (x ∷ y ∷ []) after e a b is own nth at leads =
    let first : sent ≡ x = cc in
    let second : received ≡ y = cc in
    let third : eight ≡ e = cc in
    let prefix : sent ∷ received ∷ [] ≡ x ∷ y ∷ [] = (λ i. first i ∷ second i ∷ []) in
    let whole : three ≡ x ∷ y ∷ e ∷ [] = (λ i. first i ∷ second i ∷ third i ∷ []) in
    let at_a : Ok end ≡ Ok a = ap (order system) prefix ∙ at in
    let to_b : Ok last_end ≡ Ok b = ap (order system) whole ∙ leads in
    let a_is : end ≡ a = cc in
    let b_is : last_end ≡ b = cc in
    (sym (ap (λ (c : Configuration). channel_of c 0 1) a_is), sym (ap (λ (c : Configuration). channel_of c 0 1) b_is))
second_puts (x ∷ y ∷ z ∷ []) after e a b is own nth at leads = absurd (cc)
second_puts (x ∷ y ∷ z ∷ w ∷ before) after e a b is own nth at leads = absurd (cc)

first_takes : (before after : List Event) (e : Event) (a : Configuration) → three ≡ before ++ e ∷ after → e.process ≡ 1
    → length (line system before 1) ≡ 0 → order system before ≡ Ok a → channel_of a 0 1 ≡ pos 7 ∷ []
first_takes [] after e a is own nth at =
    let same : sent ≡ e = cc in
    let wrong : ◌≡◌ {A = ℕ} 0 1 = ap (λ (f : Event). f.process) same ∙ own in
    absurd (omega (arith, wrong))
first_takes (x ∷ []) after e a is own nth at =
    let first : sent ≡ x = cc in
    let at_a : Ok (play system ((0 ∷ []) ∷ [] ∷ [])) ≡ Ok a = ap (λ (f : Event). order system (f ∷ [])) first ∙ at in
    let a_is : play system ((0 ∷ []) ∷ [] ∷ []) ≡ a = cc in
    sym (ap (λ (c : Configuration). channel_of c 0 1) a_is)
first_takes (x ∷ y ∷ []) after e a is own nth at =
    let same : eight ≡ e = cc in
    let wrong : ◌≡◌ {A = ℕ} 0 1 = ap (λ (f : Event). f.process) same ∙ own in
    absurd (omega (arith, wrong))
first_takes (x ∷ y ∷ z ∷ []) after e a is own nth at = absurd (cc)
first_takes (x ∷ y ∷ z ∷ w ∷ before) after e a is own nth at = absurd (cc)

message_of_any_send : ((P : Program) (J : Journal) (M : ModelState) (E : List Event) (c : Configuration) → IsReplay P J M E c
    → (i m j n : ℕ) → IsAnyMessage P E i m j n
    → (value : ℤ) × (a b d e : Configuration) × Happens P E i m a b × (channel_of b i j ≡ channel_of a i j ++ value ∷ [])
    × Happens P E j n d e × (channel_of d i j ≡ value ∷ channel_of e i j)) → ⊥
message_of_any_send law =
    let (value, a, b, d, e, put, puts, took, takes) = law system longer three_done three last_end longer_has_a_replay 0 1 1 0 second_send in
    let at_put = second_puts put.0 put.1 put.2 a b put.3 put.4 put.5 put.6 put.7 in
    let at_take = first_takes took.0 took.1 took.2 d took.3 took.4 took.5 took.6 in
    let eight_is : pos 8 ∷ [] ≡ value ∷ [] = sym at_put.1 ∙ puts ∙ ap (λ (l : List ℤ). l ++ value ∷ []) at_put.0 in
    let seven_is : pos 7 ∷ [] ≡ value ∷ channel_of e 0 1 = sym at_take ∙ takes in
    let wrong : pos 8 ≡ pos 7 = cc in
    (cc)
