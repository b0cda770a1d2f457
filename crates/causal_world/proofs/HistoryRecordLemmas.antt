-- The events of a history. What each process has done is the same in each order. The sends and receives of its choices are a list of kinds,
-- with the counts, the consistent cuts and the clocks of the history. A rollback undoes one event after the other.
use Rattle.std.proofs.Common.{◌≡◌, ◌≢◌, ℕ, ℤ, List, [], ◌∷◌, Option, Some, None, Result, Ok, refl, sym, ap, ◌∙◌, subst, zero, suc, ◌+◌}
use Rattle.std.proofs.Common.{◌-◌, ◌≤◌, Bool, ◌++◌, length, get_or, set, take, map, count_by, cond, arith, append-nil, ◌<◌, ◌⊎◌, inl, inr}
use Rattle.std.proofs.Common.{⊎_elim}
use Rattle.std.specs.Prelude.{slice_get}
use Rattle.std.proofs.lemmas.List.{length-map, map_push, take-map, length-append, length-take-le, get_or-set_same, get_or-set_other}
use Rattle.std.proofs.lemmas.List.Sums.{sum_by-cons}
use Rattle.std.proofs.lemmas.Bool.{cases_eq}
use Rattle.dbg_base.specs.declared.refusal.Refusal.{Refusal}
use Rattle.dbg_base.specs.Trees.{Action, Local, Sends, Receives, Command, Program, command_of}
use Rattle.dbg_base.specs.Configurations.{Configuration, state_in, channel_of}
use Rattle.dbg_base.specs.Firing.{fire, truth_of, Effect, effect_of, effect_by, assigned, receive, proceed, fire_if}
use Rattle.dbg_base.specs.LocalStates.{LocalState}
use Rattle.dbg_base.specs.Orders.{Event, GoesOver, source_of, source_in, with_last, target_of, target_in}
use Rattle.dbg_base.specs.Evaluation.{evaluate, number_of}
use Rattle.dbg_base.specs.Histories.{History, IsPossible}
use Rattle.dbg_base.specs.Counts.{is_process, sends_to as sends_by_choice, receives_from, sent, got}
use Rattle.dbg_base.specs.Cuts.{IsConsistent, IsAtMost, history_at}
use Rattle.dbg_base.specs.Clocks.{IsClock}
use Rattle.dbg_base.specs.Reversal.{without_back, without_last, MayUndo, IsPermitted, after_undos, IsRollback}
use Rattle.cut_core.specs.declared.kind.Kind.{Kind}
use Rattle.cut_core.specs.Kinds.{sends_to, gets_from}
use Rattle.cut_core.specs.Tallies.{sent_by, got_by}
use Rattle.cut_core.specs.ConsistentCuts.{IsConsistentCut, places}
use Rattle.event_rows.specs.declared.exchange.Exchange.TheVariants.{Nothing}
use Rattle.event_rows.specs.EventValues.{EventValue}
use Rattle.dbg_laws.proofs.Moves.{Move, Keeps, Puts, Takes, IsReady, move_source, fires, stays_ready, kept_state, guard_true}
use Rattle.dbg_laws.proofs.Moves.{effect_sent}
use Rattle.dbg_laws.proofs.Lists.{push}
use Rattle.dbg_laws.proofs.PlayLemmas.{goes_marked}
use Rattle.dbg_laws.proofs.UndoneCutLemmas.{cut_of, prefix_consistent, undos_to, prefix_after}
use Rattle.dbg_laws.proofs.ConsistentCutLemmas.{line_at}
use Rattle.dbg_laws.proofs.UndoLemmas.{within_by}
use Rattle.causal_world.specs.Scenes.{message_for, event_of, event_if, event_at, with_event, events_then, events_from, exchange_for}
use Rattle.causal_world.specs.Pasts.{kind_of_action, kind_of_command, kind_at, kinds_from, kinds_of, kind_done, with_kind, without_kind}
use Rattle.causal_world.specs.Pasts.{IsWhole, IsClockOf}
use Rattle.causal_world.proofs.CommandEventLemmas.{makes, done_by}

-- What each process has done is the same in each order.

no_event : EventValue
no_event = record { choice = 0; settings = []; exchange = Nothing }

abbrev known : Option EventValue → EventValue
known None = no_event
known (Some event) = event

-- the record of an event
abbrev mark : Program → Configuration → Event → EventValue
mark P c e = known (event_at P c e.process e.choice)

with_known : (events : List (List EventValue)) (p : ℕ) (o : Option EventValue) (event : EventValue) → o ≡ Some event
    → with_event events p o ≡ push events p (known o)
with_known events p o event e = rw e refl

pub events_step : (P : Program) (c d : Configuration) (events : List (List EventValue)) (e : Event) (E : List Event)
    → fire P c e.process e.choice ≡ Ok d
    → events_from P c events (e ∷ E) ≡ events_from P d (with_event events e.process (event_at P c e.process e.choice)) E
events_step P c d events e E fires =
    ap (λ (r : Result Configuration Refusal). events_then r events
    (λ x. events_from P x (with_event events e.process (event_at P c e.process e.choice)) E)) fires

step : (P : Program) (c d : Configuration) (events : List (List EventValue)) (e : Event) (E : List Event)
    → fire P c e.process e.choice ≡ Ok d → events_from P c events (e ∷ E) ≡ events_from P d (push events e.process (mark P c e)) E
step P c d events e E fires =
    let m = makes (command_of P e.process e.choice) c e.process e.choice d fires in
    events_step P c d events e E fires
    ∙ ap (λ (now : List (List EventValue)). events_from P d now E)
    (with_known events e.process (event_at P c e.process e.choice) m.event m.is)

-- the message that a ready move receives
message_ready : (c : Configuration) (q : ℕ) (action : Action) (move : Move) → source_of action ≡ move_source move
    → IsReady move q c.channels
    → (m : Option ℤ) × (message_for c q action ≡ m) × ((b : Configuration) → IsReady move q b.channels → message_for b q action ≡ m)
message_ready c q Local move same ready = (None, refl, λ b r. refl)
message_ready c q (Sends target value) move same ready = (None, refl, λ b r. refl)
message_ready c q (Receives source variable) Keeps same ready = cc
message_ready c q (Receives source variable) (Puts target value) same ready = cc
message_ready c q (Receives source variable) (Takes other message) same ready =
    let e : source ≡ other = cc in (
      Some message,
      ap (λ (s : ℕ). slice_get (channel_of c s q) 0) e ∙ ap (λ (messages : List ℤ). slice_get messages 0) ready.1,
      λ b r. ap (λ (s : ℕ). slice_get (channel_of b s q) 0) e ∙ ap (λ (messages : List ℤ). slice_get messages 0) r.1,
    )

-- an event depends on its process's local state and on the message that it receives
same_event : (b c : Configuration) (q l : ℕ) (o : Option Command) (move : Move) → source_in o ≡ move_source move
    → IsReady move q b.channels → IsReady move q c.channels → state_in b q ≡ state_in c q → event_if b q l o ≡ event_if c q l o
same_event b c q l None move same here there state = refl
same_event b c q l (Some command) move same here there state =
    let m = message_ready c q command.action move same there in
    let message : message_for b q command.action ≡ message_for c q command.action = m.2 b here ∙ sym m.1 in
    ap (λ (s : LocalState). event_of l command s (message_for b q command.action)) state
    ∙ ap (event_of l command (state_in c q)) message

steady : (P : Program) (c d b : Configuration) (e f : Event) → e.process ≢ f.process → fire P c e.process e.choice ≡ Ok d
    → fire P c f.process f.choice ≡ Ok b → mark P d f ≡ mark P c f
steady P c d b e f apart first other =
    let one = fires (command_of P e.process e.choice) c e.process d first in
    let two = fires (command_of P f.process f.choice) c f.process b other in
    let ready : IsReady two.move f.process d.channels =
    subst (λ (x : Configuration). IsReady two.move f.process x.channels) (sym one.leads)
    (stays_ready one.move two.move e.process f.process c.channels apart two.ready) in
    ap known (same_event d c f.process f.choice (command_of P f.process f.choice) two.move two.receives ready two.ready
    (kept_state P c d e.process e.choice f.process apart first))

pub goes_events : (P : Program) (c : Configuration) (events : List (List EventValue)) (E F : List Event) → GoesOver P c E F
    → events_from P c events E ≡ events_from P c events F
goes_events P = goes_marked P (mark P) (events_from P) (step P) (steady P)

-- Process by process.

length_from : (P : Program) (s : ℕ) (H : History) → length (kinds_from P s H) ≡ length H
length_from P s [] = refl
length_from P s (choices ∷ H) = ap (λ (n : ℕ). suc n) (length_from P (s + 1) H)

pub length_kinds : (P : Program) (H : History) → length (kinds_of P H) ≡ length H
length_kinds P H = length_from P 0 H

-- the process after another one
later : (P : Program) (s p : ℕ) (choices : List ℕ) → map (kind_at P (s + 1 + p)) choices ≡ map (kind_at P (s + suc p)) choices
later P s p choices = let same : s + 1 + p ≡ s + suc p = omega arith in ap (λ (q : ℕ). map (kind_at P q) choices) same

first : (P : Program) (s : ℕ) (choices : List ℕ) → map (kind_at P s) choices ≡ map (kind_at P (s + 0)) choices
first P s choices = let same : s ≡ s + 0 = omega arith in ap (λ (q : ℕ). map (kind_at P q) choices) same

from_at : (P : Program) (s : ℕ) (H : History) (p : ℕ) → get_or (kinds_from P s H) p [] ≡ map (kind_at P (s + p)) (get_or H p [])
from_at P s [] p = refl
from_at P s (choices ∷ H) zero = first P s choices
from_at P s (choices ∷ H) (suc p) = from_at P (s + 1) H p ∙ later P s p (get_or H p [])

pub kinds_at : (P : Program) (H : History) (p : ℕ) → get_or (kinds_of P H) p [] ≡ map (kind_at P p) (get_or H p [])
kinds_at P H p =
    let same : 0 + p ≡ p = omega arith in from_at P 0 H p ∙ ap (λ (q : ℕ). map (kind_at P q) (get_or H p [])) same

pub length_at : (P : Program) (H : History) (p : ℕ) → length (get_or (kinds_of P H) p []) ≡ length (get_or H p [])
length_at P H p = ap (λ (l : List Kind). length l) (kinds_at P H p) ∙ length-map (get_or H p []) (kind_at P p)

from_set : (P : Program) (s : ℕ) (H : History) (p : ℕ) (choices : List ℕ)
    → kinds_from P s (set H p choices) ≡ set (kinds_from P s H) p (map (kind_at P (s + p)) choices)
from_set P s [] p choices = refl
from_set P s (line ∷ H) zero choices = ap (λ (l : List Kind). l ∷ kinds_from P (s + 1) H) (first P s choices)
from_set P s (line ∷ H) (suc p) choices =
    ap (λ (l : List (List Kind)). map (kind_at P s) line ∷ l)
    (from_set P (s + 1) H p choices ∙ ap (set (kinds_from P (s + 1) H) p) (later P s p choices))

kinds_set : (P : Program) (H : History) (p : ℕ) (choices : List ℕ)
    → kinds_of P (set H p choices) ≡ set (kinds_of P H) p (map (kind_at P p) choices)
kinds_set P H p choices =
    let same : 0 + p ≡ p = omega arith in
    from_set P 0 H p choices ∙ ap (λ (q : ℕ). set (kinds_of P H) p (map (kind_at P q) choices)) same

-- one more choice, or one less
pub kinds_more : (P : Program) (H : History) (p k : ℕ) → kinds_of P (with_last H p k) ≡ with_kind (kinds_of P H) p (kind_at P p k)
kinds_more P H p k =
    kinds_set P H p (get_or H p [] ++ k ∷ [])
    ∙ ap (set (kinds_of P H) p)
    (map_push (kind_at P p) (get_or H p []) k ∙ ap (λ (l : List Kind). l ++ kind_at P p k ∷ []) (sym (kinds_at P H p)))

pub kinds_less : (P : Program) (H : History) (p : ℕ) → kinds_of P (without_last H p) ≡ without_kind (kinds_of P H) p
kinds_less P H p =
    let line : List ℕ = get_or H p [] in
    kinds_set P H p (without_back line)
    ∙ ap (set (kinds_of P H) p)
    (sym (take-map (kind_at P p) (length line - 1) line)
    ∙ ap (λ (n : ℕ). take (n - 1) (map (kind_at P p) line)) (sym (length-map line (kind_at P p)))
    ∙ ap (λ (l : List Kind). without_back l) (sym (kinds_at P H p)))

-- Counts.

sends_same : (j : ℕ) (o : Option Command) → sends_to j (kind_of_command o) ≡ is_process j (target_in o)
sends_same j None = refl
sends_same j (Some command) = by_action command.action
  where
    by_action : (action : Action) → sends_to j (kind_of_action action) ≡ is_process j (target_of action)
    by_action Local = refl
    by_action (Sends target value) = refl
    by_action (Receives source variable) = refl

gets_same : (i : ℕ) (o : Option Command) → gets_from i (kind_of_command o) ≡ is_process i (source_in o)
gets_same i None = refl
gets_same i (Some command) = by_action command.action
  where
    by_action : (action : Action) → gets_from i (kind_of_action action) ≡ is_process i (source_of action)
    by_action Local = refl
    by_action (Sends target value) = refl
    by_action (Receives source variable) = refl

count_map : {X Y : Type 0} (test : Y → Bool) (f : X → Y) (xs : List X) → count_by test (map f xs) ≡ count_by (λ x. test (f x)) xs
count_map test f [] = refl
count_map test f (x ∷ xs) =
    sum_by-cons (λ y. cond (test y) 1 0) (f x) (map f xs)
    ∙ ap (λ (n : ℕ). cond (test (f x)) 1 0 + n) (count_map test f xs)
    ∙ sym (sum_by-cons (λ y. cond (test (f y)) 1 0) x xs)

count_line : (P : Program) (H : History) (p n : ℕ) (test : Kind → Bool) (other : ℕ → Bool) → ((k : ℕ) → test (kind_at P p k) ≡ other k)
    → count_by test (take n (get_or (kinds_of P H) p [])) ≡ count_by other (take n (get_or H p []))
count_line P H p n test other same =
    ap (λ (l : List Kind). count_by test (take n l)) (kinds_at P H p)
    ∙ ap (λ (l : List Kind). count_by test l) (take-map (kind_at P p) n (get_or H p []))
    ∙ count_map test (kind_at P p) (take n (get_or H p []))
    ∙ ap (λ (f : ℕ → Bool). count_by f (take n (get_or H p []))) (λ t k. same k t)

pub sent_kinds : (P : Program) (H : History) (i j n : ℕ) → sent_by (kinds_of P H) i j n ≡ sent P H i j n
sent_kinds P H i j n = count_line P H i n (sends_to j) (sends_by_choice P i j) (λ k. sends_same j (command_of P i k))

pub got_kinds : (P : Program) (H : History) (j i n : ℕ) → got_by (kinds_of P H) j i n ≡ got P H j i n
got_kinds P H j i n = count_line P H j n (gets_from i) (receives_from P j i) (λ k. gets_same i (command_of P j k))

-- Cuts and clocks.

pub cut_consistent : (P : Program) (H : History) (cut : List ℕ) → IsConsistentCut (kinds_of P H) cut → IsConsistent P H cut
cut_consistent P H cut is = record {
  sizes = is.sizes ∙ length_kinds P H;
  within = λ p. (let le = is.within p in omega (arith, le, length_at P H p));
  causes = λ i j apart.
      let caused : got_by (kinds_of P H) j i (get_or cut j 0) ≤ sent_by (kinds_of P H) i j (get_or cut i 0) = is.causes i j apart in
      omega (arith, caused, got_kinds P H j i (get_or cut j 0), sent_kinds P H i j (get_or cut i 0));
}

pub consistent_cut : (P : Program) (H : History) (cut : List ℕ) → IsConsistent P H cut → IsConsistentCut (kinds_of P H) cut
consistent_cut P H cut is = record {
  sizes = is.sizes ∙ sym (length_kinds P H);
  within = λ p. (let le = is.within p in omega (arith, le, length_at P H p));
  causes = λ i j apart.
      let caused : got P H j i (get_or cut j 0) ≤ sent P H i j (get_or cut i 0) = is.causes i j apart in
      omega (arith, caused, got_kinds P H j i (get_or cut j 0), sent_kinds P H i j (get_or cut i 0));
}

places_from : (P : Program) (s : ℕ) (H : History) → places (kinds_from P s H) ≡ cut_of H
places_from P s [] = refl
places_from P s (choices ∷ H) =
    ap (λ (n : ℕ). n ∷ places (kinds_from P (s + 1) H)) (length-map choices (kind_at P s))
    ∙ ap (λ (l : List ℕ). length choices ∷ l) (places_from P (s + 1) H)

-- all events of a possible history
pub whole_kinds : (P : Program) (H : History) → IsPossible P H → IsWhole (kinds_of P H)
whole_kinds P H all =
    let own = prefix_consistent P H H all (record { size = refl; lines = λ q. ([], sym (append-nil (get_or H q []))) }) in
    subst (λ (cut : List ℕ). IsConsistentCut (kinds_of P H) cut) (sym (places_from P 0 H)) (consistent_cut P H (cut_of H) own)

pub clock_kinds : (P : Program) (H : History) (p n : ℕ) (cut : List ℕ) → IsClockOf (kinds_of P H) p n cut → IsClock P H p n cut
clock_kinds P H p n cut is = record {
  consistent = cut_consistent P H cut is.consistent;
  reaches = is.reaches;
  least = λ other consistent reaches. is.least other (consistent_cut P H other consistent) reaches;
}

-- What an event did.

received_kind : (command : Command) (c : Configuration) (p source variable : ℕ) (state : LocalState) (sent : Option ℤ) (d : Configuration)
    (messages : List ℤ) → receive command c p source messages ≡ Ok d
    → kind_done (exchange_for state (Receives source variable) sent (slice_get messages 0)) ≡ kind_of_action (Receives source variable)
received_kind command c p source variable state sent d [] fires = cc
received_kind command c p source variable state sent d (m ∷ rest) fires = refl

done_kind : (command : Command) (action : Action) (c : Configuration) (p : ℕ) (effect : Effect) (d : Configuration)
    → effect_by action command.assignments (state_in c p) (message_for c p action) ≡ Some effect → proceed command action c p ≡ Ok d
    → kind_done (exchange_for (state_in c p) action effect.message (message_for c p action)) ≡ kind_of_action action
done_kind command Local c p effect d known fires = refl
done_kind command (Sends target value) c p effect d known fires =
    let sent = effect_sent (number_of (evaluate value (state_in c p))) (assigned command.assignments (state_in c p)) effect known in
    ap (λ (e : Effect). kind_done (exchange_for (state_in c p) (Sends target value) e.message None)) sent.2
done_kind command (Receives source variable) c p effect d known fires =
    received_kind command c p source variable (state_in c p) effect.message d (channel_of c source p) fires

kind_if : (c d : Configuration) (p k : ℕ) (o : Option Command) (event : EventValue) → event_if c p k o ≡ Some event
    → fire_if o c p ≡ Ok d → kind_done event.exchange ≡ kind_of_command o
kind_if c d p k None event is fires = cc
kind_if c d p k (Some command) event is fires =
    let known = done_by (effect_of command (state_in c p) (message_for c p command.action)) k command.action (state_in c p)
    (message_for c p command.action) event is in
    let open_ = guard_true (truth_of (evaluate command.guard (state_in c p))) (proceed command command.action c p) d fires in
    ap (λ (e : EventValue). kind_done e.exchange) known.2 ∙ done_kind command command.action c p known.0 d known.1 open_.1

pub kind_event : (P : Program) (c : Configuration) (p k : ℕ) (event : EventValue) {d : Configuration} → event_at P c p k ≡ Some event
    → fire P c p k ≡ Ok d → kind_done event.exchange ≡ kind_at P p k
kind_event P c p k event {d} is fires = kind_if c d p k (command_of P p k) event is fires

-- Rollbacks.

-- the history at a cut has the counts of the cut
size_at : (P : Program) (H : History) (cut : List ℕ) (p : ℕ) → IsConsistent P H cut
    → length (get_or (history_at H cut) p []) ≡ get_or cut p 0
size_at P H cut p is =
    ap (λ (l : List ℕ). length l) (line_at H cut p) ∙ length-take-le (get_or cut p 0) (get_or H p []) (is.within p)

-- an undo leaves one choice less
size_without : (H : History) (p : ℕ) → 0 < length (get_or H p [])
    → length (get_or (without_last H p) p []) ≡ length (get_or H p []) - 1
size_without H p some =
    ap (λ (l : List ℕ). length l) (get_or-set_same H p (without_back (get_or H p [])) [] (within_by H p some))
    ∙ length-take-le (length (get_or H p []) - 1) (get_or H p []) (omega arith)

-- a history is at the cut, or some process has choices beyond it and may undo
abbrev AtCut : Program → History → List ℕ → Type 0
AtCut P H cut =
    ((p : ℕ) → length (get_or H p []) ≤ get_or cut p 0) ⊎ ((p : ℕ) × (get_or cut p 0 < length (get_or H p [])) × MayUndo P H p)

first_undo : (P : Program) (H : History) (cut undos : List ℕ) → IsConsistent P H cut → IsPermitted P H undos
    → after_undos H undos ≡ history_at H cut → AtCut P H cut
first_undo P H cut [] is permitted leads =
    inl (λ p.
    let size : length (get_or H p []) ≡ get_or cut p 0 =
    ap (λ (X : History). length (get_or X p [])) leads ∙ size_at P H cut p is in
    omega arith)
first_undo P H cut (p ∷ undos) is permitted leads =
    let beyond = prefix_after P (without_last H p) undos permitted.1 in
    let line = beyond.lines p in
    let whole : length (get_or (without_last H p) p []) ≡ length (get_or (after_undos (without_last H p) undos) p []) + length line.0 =
    ap (λ (l : List ℕ). length l) line.1 ∙ length-append (get_or (after_undos (without_last H p) undos) p []) line.0 in
    let size : length (get_or (after_undos (without_last H p) undos) p []) ≡ get_or cut p 0 =
    ap (λ (X : History). length (get_or X p [])) leads ∙ size_at P H cut p is in
    let some : 0 < length (get_or H p []) = permitted.0.some in
    let one = size_without H p some in
    inr (p, omega (arith, whole, size, some, one), permitted.0)

pub some_undo : (P : Program) (H : History) (cut : List ℕ) → IsPossible P H → IsConsistent P H cut
    → ((p : ℕ) → length (get_or H p []) ≤ get_or cut p 0) ⊎ ((p : ℕ) × (get_or cut p 0 < length (get_or H p [])) × MayUndo P H p)
some_undo P H cut all is = let led = undos_to P H cut all is in first_undo P H cut led.undos is led.permitted led.leads

-- the cut with n choices of p, and all choices of the others
module _ (H : History) (p n : ℕ) (top : List ℕ) (same : top ≡ set (map length H) p n) (here : p < length H) where
  top_own : get_or top p 0 ≡ n
  top_own =
      let size : length (map (λ (l : List ℕ). length l) H) ≡ length H = length-map H (λ (l : List ℕ). length l) in
      ap (λ (l : List ℕ). get_or l p 0) same ∙ get_or-set_same (map length H) p n 0 (omega (arith, here, size))

  top_other : (q : ℕ) → q ≢ p → get_or top q 0 ≡ length (get_or H q [])
  top_other q apart =
      ap (λ (l : List ℕ). get_or l q 0) same ∙ get_or-set_other (map length H) p q n 0 apart ∙ count_at H q
    where
      count_at : (H : History) (q : ℕ) → get_or (map length H) q 0 ≡ length (get_or H q [])
      count_at [] q = refl
      count_at (line ∷ H) zero = refl
      count_at (line ∷ H) (suc q) = count_at H q

pub rolled_back : (P : Program) (H : History) (p n : ℕ) (cut : List ℕ) (top : List ℕ) → IsConsistentCut (kinds_of P H) cut
    → IsAtMost cut top → ((c : List ℕ) → IsConsistentCut (kinds_of P H) c → IsAtMost c top → IsAtMost c cut)
    → top ≡ set (map length H) p n → p < length H → n ≤ length (get_or H p []) → IsRollback P H p n cut
rolled_back P H p n cut top is below greatest same here inside = record {
  consistent = cut_consistent P H cut is;
  below = (let le = below p in omega (arith, le, top_own H p n top same here));
  greatest = λ other consistent le.
      greatest other (consistent_cut P H other consistent) (λ q.
      ⊎_elim
      (λ (own : q ≡ p). subst (λ (x : ℕ). get_or other x 0 ≤ get_or top x 0) (sym own) (omega (arith, le, top_own H p n top same here)))
      (λ (apart : q ≢ p).
      let most = consistent.within q in omega (arith, most, top_other H p n top same here q apart))
      (cases_eq q p));
}
