-- The events of a single consistent cut are undone last, so they come first in the order.
use Rattle.std.proofs.Common.{◌≡◌, ◌≢◌, ◌⊎◌, ◌<◌, ◌≤◌, ◌+◌, ◌-◌, ℕ, List, [], ◌∷◌, ◌++◌, length, reverse, get_or, take, refl, sym, ap, ◌∙◌, subst, inl, inr, ⊎_elim, arith, append_assoc, cond, count_by}
use Rattle.std.specs.Prelude.{nat_lt}
use Rattle.std.proofs.lemmas.Bool.{cases_eq, cases_lt, lt-ltb, le-ltb}
use Rattle.std.proofs.lemmas.List.{append-nil, reverse-append, take-append-le, get_or-set_same, get_or-set_other}
use Rattle.std.proofs.lemmas.List.Sums.{sum_by-cons}
use Rattle.dbg_base.specs.Trees.{Program}
use Rattle.dbg_base.specs.Counts.{sends_to, receives_from}
use Rattle.dbg_base.specs.Cuts.{IsConsistent}
use Rattle.dbg_base.specs.Histories.{History}
use Rattle.dbg_base.specs.Reversal.{MayUndo, without_last}
use Rattle.dbg_base.specs.SystemStates.{SystemState, history_of, place_at, after_undo}
use Rattle.dbg_laws.proofs.UndoneCutLemmas.{IsPrefix, prefix_without}
use Rattle.causal_world.specs.Scenes.{Scene, IsWorldOf}
use Rattle.causal_world.proofs.RollbackLemmas.{choices_counted}
use Rattle.causal_world.proofs.HistoryRecordLemmas.{some_undo}
use Rattle.causal_world.proofs.WorldOfLemmas.{history_without}
use Rattle.ui_timeline.specs.FirstCuts.{times, AreFirst, AreLast, cuts_before}
use Rattle.ui_timeline.proofs.TimesLemmas.{one_if, once, never, times_first, times_more}

times_back : (p : ℕ) (order : List ℕ) → times p (reverse order) ≡ times p order
times_back p [] = refl
times_back p (q ∷ order) =
    let back : reverse (q ∷ order) ≡ reverse order ++ q ∷ [] = reverse-append (q ∷ []) order in
    omega (arith, ap (times p) back, times_more p q (reverse order), times_first p q order, times_back p order)

-- A cut that is within a prefix of the history.

same_start : (H F : History) (q n : ℕ) → IsPrefix H F → n ≤ length (get_or F q []) → take n (get_or H q []) ≡ take n (get_or F q [])
same_start H F q n f few =
    let line = f.lines q in
    ap (λ (l : List ℕ). take n l) line.1 ∙ take-append-le n (get_or F q []) line.0 few

consistent_in : (P : Program) (H F : History) (cut : List ℕ) → IsPrefix H F → IsConsistent P H cut
    → ((q : ℕ) → get_or cut q 0 ≤ length (get_or F q [])) → IsConsistent P F cut
consistent_in P H F cut f is within = record {
  sizes = is.sizes ∙ sym f.size;
  within = within;
  causes = λ i j apart.
      let caused = is.causes i j apart in
      let gets = ap (λ (l : List ℕ). count_by (receives_from P j i) l) (same_start H F j (get_or cut j 0) f (within j)) in
      let sends = ap (λ (l : List ℕ). count_by (sends_to P i j) l) (same_start H F i (get_or cut i 0) f (within i)) in
      omega (arith, caused, gets, sends);
}

-- The places after an undo.

module _ (w new : Scene) (p : ℕ) (moved : new.state ≡ after_undo w.state p) where
  place_own : p < length w.state.places → place_at new.state p ≡ place_at w.state p - 1
  place_own here =
      ap (λ (M : SystemState). place_at M p) moved ∙ get_or-set_same w.state.places p (place_at w.state p - 1) 0 here

  place_other : (q : ℕ) → q ≢ p → place_at new.state q ≡ place_at w.state q
  place_other q apart =
      ap (λ (M : SystemState). place_at M q) moved ∙ get_or-set_other w.state.places p q (place_at w.state p - 1) 0 apart

-- Whether a single cut is before the last event of a process.

abbrev one_before : List ℕ → SystemState → ℕ → ℕ
one_before cut state q = cond (nat_lt (get_or cut q 0) (place_at state q)) 1 0

before : (cut : List ℕ) (state : SystemState) (q : ℕ) → cuts_before (cut ∷ []) state q ≡ one_before cut state q
before cut state q =
    let first = sum_by-cons (λ (c : List ℕ). one_before c state q) cut [] in omega (arith, first)

before_one : (cut : List ℕ) (state : SystemState) (q : ℕ) → get_or cut q 0 < place_at state q → cuts_before (cut ∷ []) state q ≡ 1
before_one cut state q less = before cut state q ∙ ap (λ b. cond b 1 0) (lt-ltb (get_or cut q 0) (place_at state q) less)

before_none : (cut : List ℕ) (state : SystemState) (q : ℕ) → place_at state q ≤ get_or cut q 0 → cuts_before (cut ∷ []) state q ≡ 0
before_none cut state q le = before cut state q ∙ ap (λ b. cond b 1 0) (le-ltb (get_or cut q 0) (place_at state q) le)

is_beyond : (cut : List ℕ) (state : SystemState) (q : ℕ) → 1 ≤ cuts_before (cut ∷ []) state q → get_or cut q 0 < place_at state q
is_beyond cut state q some =
    ⊎_elim (λ (less : get_or cut q 0 < place_at state q). less)
    (λ (le : place_at state q ≤ get_or cut q 0). absurd (omega (arith, some, before_none cut state q le)))
    (cases_lt (get_or cut q 0) (place_at state q))

-- The undone events end with those of the cut that are undone. Until then the cut is within the remaining events.
pub record Splits (P : Program) (w : Scene) (cut undone : List ℕ) : Type 0 where
  pub others : List ℕ
  pub last : List ℕ
  pub is : undone ≡ others ++ last
  pub below : (q : ℕ) → get_or cut q 0 ≤ place_at w.state q + times q last
  pub either : ((last ≡ []) × IsConsistent P (history_of w.state) cut) ⊎ ((q : ℕ) → place_at w.state q + times q last ≡ get_or cut q 0)

none_yet : (q : ℕ) (last : List ℕ) → last ≡ [] → times q last ≡ 0
none_yet q last none = ap (times q) none

pub split_none : (P : Program) (w : Scene) (cut : List ℕ) → IsWorldOf P w → IsConsistent P (history_of w.state) cut → Splits P w cut []
split_none P w cut of consistent = record {
  others = [];
  last = [];
  is = refl;
  below = λ q. (let within = consistent.within q in omega (arith, within, choices_counted P w q of));
  either = inl (refl, consistent);
}

module _ (P : Program) (w new : Scene) (cut undone : List ℕ) (p : ℕ) (of : IsWorldOf P w) (left : IsWorldOf P new)
    (may : MayUndo P (history_of w.state) p) (here : p < length w.state.places) (moved : new.state ≡ after_undo w.state p)
    (so_far : Splits P w cut undone) where
  has : 0 < place_at w.state p
  has = let some = may.some in omega (arith, some, choices_counted P w p of)

  -- an event of the cut is undone
  inside : ((q : ℕ) → place_at w.state q + times q so_far.last ≡ get_or cut q 0) → Splits P new cut (undone ++ p ∷ [])
  inside same = record {
    others = so_far.others;
    last = so_far.last ++ p ∷ [];
    is = ap (λ (l : List ℕ). l ++ p ∷ []) so_far.is ∙ append_assoc so_far.others so_far.last (p ∷ []);
    below = λ q. omega (arith, all q);
    either = inr all;
  }
    where
      all : (q : ℕ) → place_at new.state q + times q (so_far.last ++ p ∷ []) ≡ get_or cut q 0
      all q =
          let now = same q in
          let more = times_more q p so_far.last in
          ⊎_elim
          (λ (own : q ≡ p).
          let at = ap (λ (x : ℕ). place_at new.state x) own in
          let was = ap (λ (x : ℕ). place_at w.state x) own in
          let one = ap (λ (x : ℕ). one_if p x) own in
          omega (arith, now, more, at, was, one, once p p refl, has, place_own w new p moved here))
          (λ (apart : q ≢ p). omega (arith, now, more, never q p (λ x. apart (sym x)), place_other w new p moved q apart))
          (cases_eq q p)

  -- an event beyond the cut is undone
  outside : so_far.last ≡ [] → IsConsistent P (history_of w.state) cut → get_or cut p 0 < place_at w.state p
      → Splits P new cut (undone ++ p ∷ [])
  outside none consistent beyond = record {
    others = undone ++ p ∷ [];
    last = [];
    is = sym (append-nil (undone ++ p ∷ []));
    below = λ q. omega (arith, within q);
    either = inl (refl, consistent_in P (history_of w.state) (history_of new.state) cut prefix consistent (λ q. omega (arith, within q, choices_counted P new q left)));
  }
    where
      prefix : IsPrefix (history_of w.state) (history_of new.state)
      prefix =
          let less : history_of new.state ≡ without_last (history_of w.state) p =
          ap history_of moved ∙ history_without P w.state p of.state (omega (arith, here, of.state.places)) in
          subst (IsPrefix (history_of w.state)) (sym less) (prefix_without (history_of w.state) p may.some)

      within : (q : ℕ) → get_or cut q 0 ≤ place_at new.state q
      within q =
          let below = so_far.below q in
          let nothing = none_yet q so_far.last none in
          ⊎_elim
          (λ (own : q ≡ p). subst (λ (x : ℕ). get_or cut x 0 ≤ place_at new.state x) (sym own)
          (omega (arith, beyond, place_own w new p moved here)))
          (λ (apart : q ≢ p). omega (arith, below, nothing, place_other w new p moved q apart))
          (cases_eq q p)

  pub split_more : ((q : ℕ) → MayUndo P (history_of w.state) q → cuts_before (cut ∷ []) w.state q ≤ cuts_before (cut ∷ []) w.state p)
      → Splits P new cut (undone ++ p ∷ [])
  split_more ahead = by so_far.either
    where
      by : ((so_far.last ≡ []) × IsConsistent P (history_of w.state) cut)
          ⊎ ((q : ℕ) → place_at w.state q + times q so_far.last ≡ get_or cut q 0) → Splits P new cut (undone ++ p ∷ [])
      by (inr same) = inside same
      by (inl yet) = ⊎_elim
          (λ (none : (q : ℕ) → length (get_or (history_of w.state) q []) ≤ get_or cut q 0).
          inside (λ q.
          let few = none q in
          let below = so_far.below q in
          omega (arith, few, below, none_yet q so_far.last yet.0, choices_counted P w q of)))
          (λ (found : (q : ℕ) × (get_or cut q 0 < length (get_or (history_of w.state) q [])) × MayUndo P (history_of w.state) q).
          let more = found.1 in
          let less : get_or cut found.0 0 < place_at w.state found.0 = omega (arith, more, choices_counted P w found.0 of) in
          outside yet.0 yet.1
          (is_beyond cut w.state p (omega (arith, ahead found.0 found.2, before_one cut w.state found.0 less))))
          (some_undo P (history_of w.state) cut of.possible yet.1)

-- all events are undone
pub split_all : (P : Program) (w : Scene) (cut undone : List ℕ) → Splits P w cut undone → ((q : ℕ) → place_at w.state q ≡ 0)
    → AreLast cut undone
split_all P w cut undone all none = record {
  others = all.others;
  last = all.last;
  is = all.is;
  counts = λ q. by q all.either;
}
  where
    by : (q : ℕ) → ((all.last ≡ []) × IsConsistent P (history_of w.state) cut)
        ⊎ ((q : ℕ) → place_at w.state q + times q all.last ≡ get_or cut q 0) → times q all.last ≡ get_or cut q 0
    by q (inr same) = let is = same q in omega (arith, is, none q)
    by q (inl yet) = let below = all.below q in omega (arith, below, none q, none_yet q all.last yet.0)

-- read from the end
pub last_is_first : (cut undone order : List ℕ) → order ≡ reverse undone → AreLast cut undone → AreFirst cut order
last_is_first cut undone order back all = record {
  first = reverse all.last;
  others = reverse all.others;
  is = back ∙ ap reverse all.is ∙ reverse-append all.others all.last;
  counts = λ q. times_back q all.last ∙ all.counts q;
}
