-- Events are listed in an order, each with its number.
use Rattle.std.proofs.Common.{◌≡◌, ◌≢◌, ◌⊎◌, ◌<◌, ◌≤◌, ◌+◌, ℕ, zero, suc, List, [], ◌∷◌, ◌++◌, length, map, replicate, get_or, set, take, refl, sym, ap, ◌∙◌, subst}
use Rattle.std.proofs.Common.{inl, inr, ⊎_elim, arith, eqb, cond, Ok}
use Rattle.std.proofs.lemmas.Bool.{cases_eq}
use Rattle.std.proofs.lemmas.List.{take_all, get_or-replicate, length-map, length-replicate, length-set, get_or-set_same, get_or-set_other, map-append, take_more}
use Rattle.std.proofs.lemmas.List.Sums.{sum_by-cons, sum_by_push, sum_by_more, sum_by-take-le}
use Rattle.dbg_base.specs.Trees.{Program}
use Rattle.dbg_base.specs.Configurations.{Configuration, start_of}
use Rattle.dbg_base.specs.Histories.{History}
use Rattle.dbg_base.specs.Firing.{fire}
use Rattle.dbg_base.specs.Orders.{Event, order_from, choices_of}
use Rattle.dbg_laws.proofs.Lists.{none_in_replicate}
use Rattle.dbg_laws.proofs.OrderSwapLemmas.{first_step, is_there, length-choices_of}
use Rattle.ui_timeline.specs.declared.timed.TimedEvent.{TimedEvent}
use Rattle.ui_timeline.specs.EventOrders.{IsEventOrder}
use Rattle.ui_timeline.specs.FirstCuts.{times}
use Rattle.ui_timeline.specs.TimedEvents.{events_of, AreNumbered}
use Rattle.ui_timeline.proofs.TimesLemmas.{one_if, once, never, times_first}

-- as often as these events have the process
events_times : (p : ℕ) (events : List TimedEvent) → events_of p events ≡ times p (map (λ (e : TimedEvent). e.pid.0) events)
events_times p [] = refl
events_times p (event ∷ events) =
    sum_by-cons (λ (e : TimedEvent). cond (eqb e.pid.0 p) 1 0) event events
    ∙ ap (λ n. one_if event.pid.0 p + n) (events_times p events)
    ∙ sym (times_first p event.pid.0 (map (λ (e : TimedEvent). e.pid.0) events))

-- and in an order as often as the history has choices of it
times_chosen : (n : ℕ) (E : List Event) (p : ℕ) → p < n
    → times p (map (λ (e : Event). e.process) E) ≡ length (get_or (choices_of n E) p [])
times_chosen n [] p here = sym (ap (λ (l : List ℕ). length l) (none_in_replicate n p))
times_chosen n (e ∷ E) p here =
    let H : History = choices_of n E in
    let rest = times_chosen n E p here in
    let first = times_first p e.process (map (λ (x : Event). x.process) E) in
    ⊎_elim
    (λ (same : e.process ≡ p).
    let within : e.process < length H = omega (arith, same, here, length-choices_of n E) in
    let own = get_or-set_same H e.process (e.choice ∷ get_or H e.process []) [] within in
    let one = once p e.process same in
    let there = ap (λ (q : ℕ). length (get_or (choices_of n (e ∷ E)) q [])) same in
    let more = ap (λ (l : List ℕ). length l) own in
    let before = ap (λ (q : ℕ). length (get_or H q [])) same in
    omega (arith, first, one, rest, there, more, before))
    (λ (apart : e.process ≢ p).
    let none = never p e.process apart in
    let other = ap (λ (l : List ℕ). length l) (get_or-set_other H e.process p (e.choice ∷ get_or H e.process []) [] (λ x. apart (sym x))) in
    omega (arith, first, none, rest, other))
    (cases_eq e.process p)

pub times_in : (P : Program) (H : History) (order : List ℕ) (p : ℕ) → IsEventOrder P H order → p < length P
    → times p order ≡ length (get_or H p [])
times_in P H order p is here =
    ap (times p) (sym is.processes) ∙ times_chosen (length P) is.events p here ∙ ap (λ (l : History). length (get_or l p [])) is.all

-- each process that occurs is one of the program
there_from : (P : Program) (c d : Configuration) (E : List Event) (i : ℕ) → order_from P c E ≡ Ok d → i < length E
    → get_or (map (λ (e : Event). e.process) E) i 0 < length P
there_from P c d [] i legal within = absurd (omega (arith, within))
there_from P c d (e ∷ E) zero legal within =
    let step = first_step (fire P c e.process e.choice) (λ x. order_from P x E) d legal in
    is_there P c step.0 e.process e.choice step.1
there_from P c d (e ∷ E) (suc i) legal within =
    let step = first_step (fire P c e.process e.choice) (λ x. order_from P x E) d legal in
    there_from P step.0 d E i step.2 (omega (arith, within))

pub there_in : (P : Program) (H : History) (order : List ℕ) (i : ℕ) → IsEventOrder P H order → i < length order
    → get_or order i 0 < length P
there_in P H order i is within =
    let size : length (map (λ (e : Event). e.process) is.events) ≡ length is.events = simp length-map in
    let same = ap (λ (l : List ℕ). length l) is.processes in
    subst (λ (l : List ℕ). get_or l i 0 < length P) is.processes
    (there_from P (start_of P) is.fires.0 is.events i is.fires.1 (omega (arith, within, size, same)))

-- The events that are listed so far are numbered.

-- a list with one more item, split at an item: it is the last one, or in the list
split_last : {A : Type 0} (xs before beyond : List A) (x y : A) → xs ++ x ∷ [] ≡ before ++ y ∷ beyond
    → ((xs ≡ before) × (x ≡ y)) ⊎ ((rest : List A) × (xs ≡ before ++ y ∷ rest))
split_last [] [] beyond x y is = inl (refl, cc)
split_last [] (b ∷ []) beyond x y is = cc
split_last [] (b ∷ d ∷ before) beyond x y is = cc
split_last (z ∷ xs) [] beyond x y is = let same : z ≡ y = cc in inr (xs, ap (λ w. w ∷ xs) same)
split_last {A = A} (z ∷ xs) (b ∷ before) beyond x y is =
    let first : z ≡ b = cc in
    let others : xs ++ x ∷ [] ≡ before ++ y ∷ beyond = cc in
    ⊎_elim
    (λ (last : (xs ≡ before) × (x ≡ y)). inl (cc, last.1))
    (λ (among : (rest : List A) × (xs ≡ before ++ y ∷ rest)). let same = among.1 in inr (among.0, cc))
    (split_last xs before beyond x y others)

-- So many events of the order are listed, each with its number, and so many of each process.
pub record AreReported (order counts : List ℕ) (n : ℕ) (events : List TimedEvent) : Type 0 where
  pub processes : map (λ event. event.pid.0) events ≡ take n order
  pub counted : (p : ℕ) → p < length counts → get_or counts p 0 ≡ events_of p events
  pub numbers : AreNumbered events

nothing_in : {A : Type 0} (before beyond : List A) (x : A) → [] ≡ before ++ x ∷ beyond → ⊥
nothing_in [] beyond x is = cc
nothing_in (b ∷ before) beyond x is = cc

pub reported_none : (order : List ℕ) (n : ℕ) → AreReported order (replicate n 0) 0 []
reported_none order n = record {
  processes = refl;
  counted = λ p here. get_or-replicate n p 0 0 (omega (arith, here, length-replicate {A = ℕ} n 0));
  numbers = λ before beyond event is. absurd (nothing_in before beyond event is);
}

-- a process with events that are not listed yet
pub some_left : (P : Program) (H : History) (order counts : List ℕ) (n p : ℕ) (events : List TimedEvent) → IsEventOrder P H order
    → AreReported order counts n events → n < length order → get_or order n 0 ≡ p → p < length counts → p < length P
    → get_or counts p 0 < length (get_or H p [])
some_left P H order counts n p events is reported within next here there =
    let all = times_in P H order p is there in
    let so_far = reported.counted p here ∙ events_times p events ∙ ap (times p) reported.processes in
    let one = once p (get_or order n 0) next in
    let more = sum_by_more (λ x. one_if x p) order n 0 within in
    let few = sum_by-take-le (λ x. one_if x p) order (n + 1) in
    omega (arith, all, so_far, one, more, few)

-- One more event is listed.

-- the numbers
numbers_more : (events : List TimedEvent) (event : TimedEvent) → AreNumbered events → event.number ≡ events_of event.pid.0 events + 1
    → AreNumbered (events ++ event ∷ [])
numbers_more events event numbers number before beyond other is =
    ⊎_elim
    (λ (last : (events ≡ before) × (event ≡ other)).
    ap (λ (e : TimedEvent). e.number) (sym last.1) ∙ number ∙ ap (λ (e : TimedEvent). events_of e.pid.0 events + 1) last.1
    ∙ ap (λ (l : List TimedEvent). events_of other.pid.0 l + 1) last.0)
    (λ (among : (rest : List TimedEvent) × (events ≡ before ++ other ∷ rest)). numbers before among.0 other among.1)
    (split_last events before beyond event other is)

-- and the counts
counts_more : (counts : List ℕ) (event : TimedEvent) (events : List TimedEvent) (p : ℕ)
    → ((q : ℕ) → q < length counts → get_or counts q 0 ≡ events_of q events) → event.pid.0 < length counts
    → event.number ≡ get_or counts event.pid.0 0 + 1 → p < length counts
    → get_or (set counts event.pid.0 event.number) p 0 ≡ events_of p (events ++ event ∷ [])
counts_more counts event events p counted here number there =
    let more = sum_by_push (λ (e : TimedEvent). one_if e.pid.0 p) events event in
    let before = counted p there in
    ⊎_elim
    (λ (same : event.pid.0 ≡ p).
    let at = ap (λ (q : ℕ). get_or (set counts event.pid.0 event.number) q 0) (sym same) in
    let own = get_or-set_same counts event.pid.0 event.number 0 here in
    let was = ap (λ (q : ℕ). get_or counts q 0) same in
    omega (arith, more, before, at, own, was, number, once p event.pid.0 same))
    (λ (apart : event.pid.0 ≢ p).
    let other = get_or-set_other counts event.pid.0 p event.number 0 (λ x. apart (sym x)) in
    omega (arith, more, before, other, never p event.pid.0 apart))
    (cases_eq event.pid.0 p)

pub reported_more : (order counts : List ℕ) (n : ℕ) (event : TimedEvent) (events : List TimedEvent) → AreReported order counts n events
    → n < length order → get_or order n 0 ≡ event.pid.0 → event.pid.0 < length counts → event.number ≡ get_or counts event.pid.0 0 + 1
    → AreReported order (set counts event.pid.0 event.number) (n + 1) (events ++ event ∷ [])
reported_more order counts n event events reported within next here number = record {
  processes = map-append (λ (e : TimedEvent). e.pid.0) events (event ∷ [])
      ∙ ap (λ (l : List ℕ). l ++ event.pid.0 ∷ []) reported.processes
      ∙ ap (λ (p : ℕ). take n order ++ p ∷ []) (sym next) ∙ sym (take_more order n 0 within);
  counted = λ p there.
      counts_more counts event events p reported.counted here number
      (omega (arith, there, length-set counts event.pid.0 event.number));
  numbers = numbers_more events event reported.numbers (number ∙ ap (λ (m : ℕ). m + 1) (reported.counted event.pid.0 here));
}

-- all events are listed
pub reported_all : (order counts : List ℕ) (n : ℕ) (events : List TimedEvent) → AreReported order counts n events → length order ≤ n
    → order ≡ map (λ (e : TimedEvent). e.pid.0) events
reported_all order counts n events reported all = sym (reported.processes ∙ take_all n order all)
