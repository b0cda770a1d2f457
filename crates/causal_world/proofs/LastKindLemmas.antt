-- The last event of a process with events beyond a cut: its kind says from which channel it received, and without it the sum of the places
-- is one less.
use Rattle.std.proofs.Common.{◌≡◌, ℕ, ◌≤◌, ◌⊎◌, inl, inr, Bool, true, false, ◌&&◌, cond, refl, arith, zero, suc, ◌+◌, ◌-◌, ◌<◌, ◌==◌, ℤ}
use Rattle.std.proofs.Common.{List, [], ◌∷◌, length, get_or, set, take, sum, Option, Some, None, sym, ap, ◌∙◌, subst}
use Rattle.std.specs.Prelude.{if◌then◌else◌}
use Rattle.std.specs.Option.{option_map}
use Rattle.std.proofs.lemmas.List.{length-map, length-set, length-take-le, map-set, get_or-map}
use Rattle.std.proofs.lemmas.List.Sums.{sum_by-cons, sum_by-set}
use Rattle.dbg_base.specs.Trees.{Action, Local, Sends, Receives, Command, Program, command_of}
use Rattle.dbg_base.specs.LocalStates.{LocalState}
use Rattle.dbg_base.specs.Configurations.{Configuration, state_in}
use Rattle.dbg_base.specs.Firing.{Effect, effect_of}
use Rattle.dbg_base.specs.Histories.{History}
use Rattle.dbg_base.specs.SystemStates.{history_of, after_undo}
use Rattle.dbg_base.specs.Reversal.{without_back}
use Rattle.cut_core.specs.declared.kind.Kind.{Kind}
use Rattle.cut_core.specs.Kinds.{gets_from}
use Rattle.cut_core.specs.ConsistentCuts.{places}
use Rattle.event_rows.specs.EventValues.{EventValue}
use Rattle.dbg_laws.proofs.LineStates.{history_undo}
use Rattle.causal_world.specs.Pasts.{kind_at, kind_of_action, kind_of_command, kinds_of, with_kind, without_kind}
use Rattle.causal_world.specs.Scenes.{Scene, IsWorldOf, message_for, exchange_for, event_by, event_if}
use Rattle.causal_world.specs.Room.{puts_before}
use Rattle.causal_world.specs.Worlds.{last_event}
use Rattle.causal_world.proofs.WorldOfLemmas.{history_without}
use Rattle.causal_world.proofs.LastEventLemmas.{last_made}
use Rattle.causal_world.proofs.ClockLemmas.{one_longer}
use Rattle.causal_world.proofs.HistoryRecordLemmas.{kinds_more, kinds_less}
use Rattle.causal_world.proofs.WorldCallLemmas.{kinds_there}

-- A conditional on two tests.

pub one_at_most : (a b : Bool) → (if a && b then 1 else 0) ≤ cond a 1 0
one_at_most true true = omega arith
one_at_most true false = omega arith
one_at_most false b = omega arith

pub one_of_both : (a b : Bool) → a ≡ true → b ≡ true → ◌≡◌ {A = ℕ} (if a && b then 1 else 0) 1
one_of_both true true e f = refl
one_of_both true false e f = cc
one_of_both false b e f = cc

pub none_of_one : (a b : Bool) → (a ≡ false) ⊎ (b ≡ false) → ◌≡◌ {A = ℕ} (if a && b then 1 else 0) 0
none_of_one true true (inl e) = cc
none_of_one true true (inr e) = cc
none_of_one true false e = refl
none_of_one false b e = refl

-- The kind of the last event says what it received.

taken_kind : (p k i : ℕ) (action : Action) (state : LocalState) (taken : Option ℤ) (effect : Effect)
    → puts_before p (event_by k action state taken effect).exchange i p ≤ cond (gets_from i (kind_of_action action)) 1 0
taken_kind p k i Local state taken effect = omega arith
taken_kind p k i (Sends target value) state taken effect = sends effect.message
  where
    sends : (message : Option ℤ) → puts_before p (exchange_for state (Sends target value) message taken) i p ≤ 0
    sends None = omega arith
    sends (Some m) = omega arith
taken_kind p k i (Receives source variable) state None effect = omega arith
taken_kind p k i (Receives source variable) state (Some message) effect = one_at_most (source == i) (p == p)

-- the kind of the last event of process p is a receive from process i, if its exchange returns a message there
pub record LastKind (w : Scene) (p : ℕ) (event : EventValue) : Type 0 where
  pub here : p < length w.kinds
  pub some : 0 < length (get_or w.kinds p [])
  pub kind : Kind
  pub is : w.kinds ≡ with_kind (without_kind w.kinds p) p kind
  pub takes : (i : ℕ) → puts_before p event.exchange i p ≤ cond (gets_from i kind) 1 0

event_kind : (p k i : ℕ) (c : Configuration) (o : Option Command) (event : EventValue) → event_if c p k o ≡ Some event
    → puts_before p event.exchange i p ≤ cond (gets_from i (kind_of_command o)) 1 0
event_kind p k i c None event is = cc
event_kind p k i c (Some command) event is =
    by (effect_of command (state_in c p) (message_for c p command.action)) is
  where
    by : (effect : Option Effect)
        → option_map (event_by k command.action (state_in c p) (message_for c p command.action)) effect ≡ Some event
        → puts_before p event.exchange i p ≤ cond (gets_from i (kind_of_action command.action)) 1 0
    by None e = cc
    by (Some effect) e =
        let same : event_by k command.action (state_in c p) (message_for c p command.action) effect ≡ event = cc in
        subst (λ (x : EventValue). puts_before p x.exchange i p ≤ cond (gets_from i (kind_of_action command.action)) 1 0) same
        (taken_kind p k i command.action (state_in c p) (message_for c p command.action) effect)

pub last_kind : (P : Program) (w : Scene) (p : ℕ) (event : EventValue) → IsWorldOf P w → last_event w p ≡ Some event → LastKind w p event
last_kind P w p event of was =
    let made = last_made P w p event of was in
    let k = made.choice in
    let M = w.state in
    let B : History = history_of (after_undo M p) in
    let before : kinds_of P B ≡ without_kind w.kinds p =
    ap (kinds_of P) (history_without P M p of.state made.here) ∙ kinds_less P (history_of M) p
    ∙ ap (λ (kinds : List (List Kind)). without_kind kinds p) (sym of.counts) in
    let is : w.kinds ≡ with_kind (without_kind w.kinds p) p (kind_at P p k) =
    of.counts ∙ ap (kinds_of P) (history_undo P M of.state p made.here k made.was) ∙ kinds_more P B p k
    ∙ ap (λ (kinds : List (List Kind)). with_kind kinds p (kind_at P p k)) before in
    let here : p < length w.kinds = omega (arith, made.here, kinds_there P w of) in
    let size : length (get_or (with_kind (without_kind w.kinds p) p (kind_at P p k)) p [])
    ≡ length (get_or (without_kind w.kinds p) p []) + 1 =
    one_longer (without_kind w.kinds p) p (kind_at P p k)
    (omega (arith, here, length-set w.kinds p (without_back (get_or w.kinds p [])))) in
    record {
      here = here;
      some = omega (arith, size, ap (λ (kinds : List (List Kind)). length (get_or kinds p [])) is);
      kind = kind_at P p k;
      is = is;
      takes = λ i. event_kind p k i made.at_that (command_of P p k) event made.is;
    }

-- Sums of counts.

sum_cons : (m : ℕ) (c : List ℕ) → sum (m ∷ c) ≡ m + sum c
sum_cons m c = sum_by-cons (λ x. x) m c

pub sum_less : (c d : List ℕ) → length c ≡ length d → ((q : ℕ) → get_or c q 0 ≤ get_or d q 0) → sum c ≤ sum d
sum_less [] [] size below = omega arith
sum_less [] (n ∷ d) size below = absurd (omega (arith, size))
sum_less (m ∷ c) [] size below = absurd (omega (arith, size))
sum_less (m ∷ c) (n ∷ d) size below =
    let first : m ≤ n = below 0 in
    let rest = sum_less c d (omega (arith, size)) (λ q. below (suc q)) in
    omega (arith, first, rest, sum_cons m c, sum_cons n d)

pub sum_strict : (c d : List ℕ) (p : ℕ) → length c ≡ length d → ((q : ℕ) → get_or c q 0 ≤ get_or d q 0) → get_or c p 0 < get_or d p 0
    → sum c < sum d
sum_strict [] [] p size below less = absurd (omega (arith, less))
sum_strict [] (n ∷ d) p size below less = absurd (omega (arith, size))
sum_strict (m ∷ c) [] p size below less = absurd (omega (arith, size))
sum_strict (m ∷ c) (n ∷ d) zero size below less =
    let first : m < n = less in
    let rest = sum_less c d (omega (arith, size)) (λ q. below (suc q)) in
    omega (arith, first, rest, sum_cons m c, sum_cons n d)
sum_strict (m ∷ c) (n ∷ d) (suc p) size below less =
    let first : m ≤ n = below 0 in
    let rest = sum_strict c d p (omega (arith, size)) (λ q. below (suc q)) less in
    omega (arith, first, rest, sum_cons m c, sum_cons n d)

-- the sum with one more count
pub sum_next : (c : List ℕ) (i : ℕ) → sum (take (i + 1) c) ≡ sum (take i c) + get_or c i 0
sum_next c i =
    let later : i + 1 ≡ suc i = omega arith in
    ap (λ (n : ℕ). sum (take n c)) later ∙ next c i
  where
    take_nothing : (i : ℕ) → take {A = ℕ} i [] ≡ []
    take_nothing zero = refl
    take_nothing (suc i) = refl

    next : (c : List ℕ) (i : ℕ) → sum (take (suc i) c) ≡ sum (take i c) + get_or c i 0
    next [] i = omega (arith, ap (λ (l : List ℕ). sum l) (take_nothing i))
    next (m ∷ c) zero =
        let one : sum (take 1 (m ∷ c)) ≡ m + sum (take 0 c) = sum_cons m (take 0 c) in
        let none : sum (take 0 c) ≡ 0 = refl in
        let nothing : sum (take 0 (m ∷ c)) ≡ 0 = refl in
        omega (arith, one, none, nothing)
    next (m ∷ c) (suc i) = omega (arith, sum_cons m (take (suc i) c), sum_cons m (take i c), next c i)

pub placed : (kinds : List (List Kind)) (q : ℕ) → get_or (places kinds) q 0 ≡ length (get_or kinds q [])
placed [] q = refl
placed (l ∷ kinds) zero = refl
placed (l ∷ kinds) (suc q) = placed kinds q

-- one event less
pub sum_without : (kinds : List (List Kind)) (p : ℕ) → p < length kinds → 0 < length (get_or kinds p [])
    → suc (sum (places (without_kind kinds p))) ≡ sum (places kinds)
sum_without kinds p here some =
    let own = get_or kinds p [] in
    let l = without_back own in
    let size : length l ≡ length own - 1 = length-take-le (length own - 1) own (omega arith) in
    let changed : places (without_kind kinds p) ≡ set (places kinds) p (length l) = map-set (λ (x : List Kind). length x) kinds p l in
    let sums = sum_by-set (λ x. x) (places kinds) p (length l) 0 (omega (arith, here, length-map kinds (λ (x : List Kind). length x))) in
    let read : get_or (places kinds) p 0 ≡ length own = get_or-map (λ (x : List Kind). length x) kinds p [] 0 here in
    omega (arith, some, size, sums, read, ap (λ (c : List ℕ). sum c) changed)
