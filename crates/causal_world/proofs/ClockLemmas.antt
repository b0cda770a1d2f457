-- Clocks of processes as events are added and undone. Of two consistent cuts the lesser counts are one. So a clock counts only the first
-- events that include its event, and later events do not change it.
use Rattle.std.proofs.Common.{◌≡◌, ◌≢◌, ℕ, zero, suc, ◌+◌, ◌-◌, ◌<◌, ◌≤◌, min, cond, List, [], ◌∷◌, length, get_or, take, refl, sym, ap}
use Rattle.std.proofs.Common.{◌∙◌, subst, ⊎_elim, arith, count_by}
use Rattle.std.proofs.lemmas.Bool.{cases_eq, cases_lt, eq-eqb}
use Rattle.std.proofs.lemmas.List.{length-set, length_push, length-take-le, get_or-set_same, get_or-set_other, take-append-le, take_all}
use Rattle.std.proofs.lemmas.List.{take-take}
use Rattle.std.proofs.lemmas.List.Sums.{sum_by_push}
use Rattle.dbg_base.specs.Cuts.{IsAtMost}
use Rattle.dbg_base.specs.Reversal.{without_back}
use Rattle.dbg_base.proofs.CountLemmas.{count_grows}
use Rattle.cut_core.specs.declared.kind.Kind.{Kind}
use Rattle.cut_core.specs.declared.kind.Kind.TheVariants as does
use Rattle.cut_core.specs.Kinds.{sends_to, gets_from}
use Rattle.cut_core.specs.Tallies.{sent_by, got_by}
use Rattle.cut_core.specs.ConsistentCuts.{IsConsistentCut, places}
use Rattle.cut_core.proofs.CutBoundLemmas.{none_sent}
use Rattle.cut_core.proofs.RaisedCutLemmas.{place_at}
use Rattle.dbg_laws.proofs.Lists.{push_same, push_other, length-push}
use Rattle.causal_world.specs.Pasts.{with_kind, without_kind, IsWhole, IsClockOf}

-- with more events at least as many sends
pub sent_grows : (kinds : List (List Kind)) (i j m n : ℕ) → m ≤ n → sent_by kinds i j m ≤ sent_by kinds i j n
sent_grows kinds i j m n le = count_grows (sends_to j) (get_or kinds i []) m n le

pub got_grows : (kinds : List (List Kind)) (j i m n : ℕ) → m ≤ n → got_by kinds j i m ≤ got_by kinds j i n
got_grows kinds j i m n le = count_grows (gets_from i) (get_or kinds j []) m n le

-- the second has the events of the first, and perhaps more after them
pub record Continues (kinds more : List (List Kind)) : Type 0 where
  pub size : length more ≡ length kinds
  pub longer : (q : ℕ) → length (get_or kinds q []) ≤ length (get_or more q [])
  pub prefixes : (q n : ℕ) → n ≤ length (get_or kinds q []) → take n (get_or more q []) ≡ take n (get_or kinds q [])

module _ (kinds : List (List Kind)) (p : ℕ) (kind : Kind) (here : p < length kinds) where
  pub one_longer : length (get_or (with_kind kinds p kind) p []) ≡ length (get_or kinds p []) + 1
  one_longer = ap (λ (l : List Kind). length l) (push_same kinds p kind here) ∙ length_push (get_or kinds p []) kind

  pub continues_more : Continues kinds (with_kind kinds p kind)
  continues_more = record {
    size = length-push kinds p kind;
    longer = λ q. ⊎_elim
        (λ (same : p ≡ q). subst (λ (x : ℕ). length (get_or kinds x []) ≤ length (get_or (with_kind kinds p kind) x [])) same
        (omega (arith, one_longer)))
        (λ (apart : p ≢ q).
        let line : length (get_or (with_kind kinds p kind) q []) ≡ length (get_or kinds q []) =
        ap (λ (l : List Kind). length l) (push_other kinds p q kind (λ x. apart (sym x))) in
        omega (arith, line))
        (cases_eq p q);
    prefixes = λ q n le. ⊎_elim
        (λ (same : p ≡ q). subst
        (λ (x : ℕ). n ≤ length (get_or kinds x []) → take n (get_or (with_kind kinds p kind) x []) ≡ take n (get_or kinds x [])) same
        (λ y. ap (λ (l : List Kind). take n l) (push_same kinds p kind here) ∙ take-append-le n (get_or kinds p []) (kind ∷ []) y) le)
        (λ (apart : p ≢ q). ap (λ (l : List Kind). take n l) (push_other kinds p q kind (λ x. apart (sym x))))
        (cases_eq p q);
  }

  -- what the additional event receives
  pub got_more : (i : ℕ) → got_by (with_kind kinds p kind) p i (suc (length (get_or kinds p [])))
      ≡ got_by kinds p i (length (get_or kinds p [])) + cond (gets_from i kind) 1 0
  got_more i =
      let old : List Kind = get_or kinds p [] in
      let le : length (get_or (with_kind kinds p kind) p []) ≤ suc (length old) = omega (arith, one_longer) in
      ap (λ (l : List Kind). count_by (gets_from i) l)
      (take_all (suc (length old)) (get_or (with_kind kinds p kind) p []) le ∙ push_same kinds p kind here)
      ∙ sum_by_push (λ (x : Kind). cond (gets_from i x) 1 0) old kind
      ∙ ap (λ (l : List Kind). count_by (gets_from i) l + cond (gets_from i kind) 1 0) (sym (take_all (length old) old (omega arith)))

module _ (kinds : List (List Kind)) (p : ℕ) (here : p < length kinds) where
  pub one_shorter : length (get_or (without_kind kinds p) p []) ≡ length (get_or kinds p []) - 1
  one_shorter =
      ap (λ (l : List Kind). length l) (get_or-set_same kinds p (without_back (get_or kinds p [])) [] here)
      ∙ length-take-le (length (get_or kinds p []) - 1) (get_or kinds p []) (omega arith)

  pub continues_less : Continues (without_kind kinds p) kinds
  continues_less = record {
    size = sym (length-set kinds p (without_back (get_or kinds p [])));
    longer = λ q. ⊎_elim
        (λ (same : p ≡ q). subst (λ (x : ℕ). length (get_or (without_kind kinds p) x []) ≤ length (get_or kinds x [])) same
        (omega (arith, one_shorter)))
        (λ (apart : p ≢ q).
        let line : length (get_or (without_kind kinds p) q []) ≡ length (get_or kinds q []) =
        ap (λ (l : List Kind). length l) (get_or-set_other kinds p q (without_back (get_or kinds p [])) [] (λ x. apart (sym x))) in
        omega (arith, line))
        (cases_eq p q);
    prefixes = λ q n le. ⊎_elim
        (λ (same : p ≡ q). subst (λ (x : ℕ). n ≤ length (get_or (without_kind kinds p) x [])
        → take n (get_or kinds x []) ≡ take n (get_or (without_kind kinds p) x [])) same
        (λ y.
        sym (ap (λ (l : List Kind). take n l) (get_or-set_same kinds p (without_back (get_or kinds p [])) [] here)
        ∙ take-take n (length (get_or kinds p []) - 1) (get_or kinds p []) (omega (arith, one_shorter))))
        le)
        (λ (apart : p ≢ q).
        sym (ap (λ (l : List Kind). take n l)
        (get_or-set_other kinds p q (without_back (get_or kinds p [])) [] (λ x. apart (sym x)))))
        (cases_eq p q);
  }

-- the lesser count of each process
abbrev meet : List ℕ → List ℕ → List ℕ
meet [] other = []
meet (m ∷ cut) [] = 0 ∷ meet cut []
meet (m ∷ cut) (n ∷ other) = min m n ∷ meet cut other

length_meet : (cut other : List ℕ) → length (meet cut other) ≡ length cut
length_meet [] other = refl
length_meet (m ∷ cut) [] = ap (λ (n : ℕ). suc n) (length_meet cut [])
length_meet (m ∷ cut) (n ∷ other) = ap (λ (n : ℕ). suc n) (length_meet cut other)

meet_at : (cut other : List ℕ) (p : ℕ) → get_or (meet cut other) p 0 ≡ min (get_or cut p 0) (get_or other p 0)
meet_at [] other p = omega arith
meet_at (m ∷ cut) [] zero = omega arith
meet_at (m ∷ cut) [] (suc p) = meet_at cut [] p
meet_at (m ∷ cut) (n ∷ other) zero = refl
meet_at (m ∷ cut) (n ∷ other) (suc p) = meet_at cut other p

-- the lesser counts of two consistent cuts are a consistent cut
meet_consistent : (kinds : List (List Kind)) (cut other : List ℕ) → IsConsistentCut kinds cut → IsConsistentCut kinds other
    → IsConsistentCut kinds (meet cut other)
meet_consistent kinds cut other a b = record {
  sizes = length_meet cut other ∙ a.sizes;
  within = λ p. (let le = a.within p in omega (arith, meet_at cut other p, le));
  causes = λ i j apart.
      ⊎_elim
      (λ (less : get_or cut i 0 < get_or other i 0).
      let same : get_or (meet cut other) i 0 ≡ get_or cut i 0 = omega (arith, meet_at cut other i) in
      let sends : sent_by kinds i j (get_or (meet cut other) i 0) ≡ sent_by kinds i j (get_or cut i 0) =
      ap (λ (n : ℕ). sent_by kinds i j n) same in
      let gets : got_by kinds j i (get_or (meet cut other) j 0) ≤ got_by kinds j i (get_or cut j 0) =
      got_grows kinds j i (get_or (meet cut other) j 0) (get_or cut j 0) (omega (arith, meet_at cut other j)) in
      let caused : got_by kinds j i (get_or cut j 0) ≤ sent_by kinds i j (get_or cut i 0) = a.causes i j apart in
      omega arith)
      (λ (most : get_or other i 0 ≤ get_or cut i 0).
      let same : get_or (meet cut other) i 0 ≡ get_or other i 0 = omega (arith, meet_at cut other i) in
      let sends : sent_by kinds i j (get_or (meet cut other) i 0) ≡ sent_by kinds i j (get_or other i 0) =
      ap (λ (n : ℕ). sent_by kinds i j n) same in
      let gets : got_by kinds j i (get_or (meet cut other) j 0) ≤ got_by kinds j i (get_or other j 0) =
      got_grows kinds j i (get_or (meet cut other) j 0) (get_or other j 0) (omega (arith, meet_at cut other j)) in
      let caused : got_by kinds j i (get_or other j 0) ≤ sent_by kinds i j (get_or other i 0) = b.causes i j apart in
      omega arith)
      (cases_lt (get_or cut i 0) (get_or other i 0));
}

module _ (kinds more : List (List Kind)) (continues : Continues kinds more) where
  pub same_sent : (i j n : ℕ) → n ≤ length (get_or kinds i []) → sent_by more i j n ≡ sent_by kinds i j n
  same_sent i j n le = ap (λ (l : List Kind). count_by (sends_to j) l) (continues.prefixes i n le)

  pub same_got : (j i n : ℕ) → n ≤ length (get_or kinds j []) → got_by more j i n ≡ got_by kinds j i n
  same_got j i n le = ap (λ (l : List Kind). count_by (gets_from i) l) (continues.prefixes j n le)

  -- a consistent cut stays one; and if it is within the first events, it was one
  pub cut_more : (cut : List ℕ) → IsConsistentCut kinds cut → IsConsistentCut more cut
  cut_more cut is = record {
    sizes = is.sizes ∙ sym continues.size;
    within = λ p. (let le = is.within p in let longer = continues.longer p in omega (arith, le, longer));
    causes = λ i j apart.
        let sends = same_sent i j (get_or cut i 0) (is.within i) in
        let gets = same_got j i (get_or cut j 0) (is.within j) in
        let caused : got_by kinds j i (get_or cut j 0) ≤ sent_by kinds i j (get_or cut i 0) = is.causes i j apart in
        omega (arith, sends, gets, caused);
  }

  pub cut_less : (cut : List ℕ) → IsConsistentCut more cut → ((p : ℕ) → get_or cut p 0 ≤ length (get_or kinds p []))
      → IsConsistentCut kinds cut
  cut_less cut is within = record {
    sizes = is.sizes ∙ continues.size;
    within = within;
    causes = λ i j apart.
        let sends = same_sent i j (get_or cut i 0) (within i) in
        let gets = same_got j i (get_or cut j 0) (within j) in
        let caused : got_by more j i (get_or cut j 0) ≤ sent_by more i j (get_or cut i 0) = is.causes i j apart in
        omega (arith, sends, gets, caused);
  }

  -- the same for a clock
  module _ (q n : ℕ) (cut : List ℕ) (whole : IsWhole kinds) (inside : n ≤ length (get_or kinds q [])) where
    pub clock_more : IsClockOf kinds q n cut → IsClockOf more q n cut
    clock_more is = record {
      consistent = cut_more cut is.consistent;
      reaches = is.reaches;
      least = λ other consistent reaches p.
          let both : List ℕ = meet other (places kinds) in
          let below : (r : ℕ) → get_or both r 0 ≤ length (get_or kinds r []) =
          λ r. (omega (arith, meet_at other (places kinds) r, place_at kinds r)) in
          let part : IsConsistentCut kinds both =
          cut_less both (meet_consistent more other (places kinds) consistent (cut_more (places kinds) whole)) below in
          let enough : n ≤ get_or both q 0 = omega (arith, meet_at other (places kinds) q, place_at kinds q) in
          let le : get_or cut p 0 ≤ get_or both p 0 = is.least both part enough p in
          omega (arith, meet_at other (places kinds) p);
    }

    pub clock_less : IsClockOf more q n cut → IsClockOf kinds q n cut
    clock_less is =
        let enough : n ≤ get_or (places kinds) q 0 = omega (arith, place_at kinds q) in
        let below : IsAtMost cut (places kinds) = is.least (places kinds) (cut_more (places kinds) whole) enough in
        record {
          consistent = cut_less cut is.consistent (λ p. (let le = below p in omega (arith, le, place_at kinds p)));
          reaches = is.reaches;
          least = λ other consistent reaches. is.least other (cut_more other consistent) reaches;
        }

-- a clock stays one if an event is added
pub kept_clock : (kinds : List (List Kind)) (p q n : ℕ) (kind : Kind) (cut : List ℕ) → p < length kinds → IsWhole kinds
    → n ≤ length (get_or kinds q []) → IsClockOf kinds q n cut → IsClockOf (with_kind kinds p kind) q n cut
kept_clock kinds p q n kind cut here whole inside is =
    clock_more kinds (with_kind kinds p kind) (continues_more kinds p kind here) q n cut whole inside is

-- a clock stays one if an event after it is undone
pub left_clock : (kinds : List (List Kind)) (p q n : ℕ) (cut : List ℕ) → p < length kinds → IsWhole (without_kind kinds p)
    → n ≤ length (get_or (without_kind kinds p) q []) → IsClockOf kinds q n cut → IsClockOf (without_kind kinds p) q n cut
left_clock kinds p q n cut here whole inside is =
    clock_less (without_kind kinds p) kinds (continues_less kinds p here) q n cut whole inside is

-- a message that is received was sent
pub has_sender : (kinds : List (List Kind)) (p s : ℕ) → p < length kinds → s ≢ p
    → IsWhole (with_kind kinds p (does.Got (record { 0 = s })))
    → (s < length kinds) × (got_by kinds p s (length (get_or kinds p [])) + 1 ≤ sent_by kinds s p (length (get_or kinds s [])))
has_sender kinds p s here apart whole =
    let kind : Kind = does.Got (record { 0 = s }) in
    let more : List (List Kind) = with_kind kinds p kind in
    let n : ℕ = length (get_or kinds p []) in
    let caused : got_by more p s (get_or (places more) p 0) ≤ sent_by more s p (get_or (places more) s 0) = whole.causes s p apart in
    let at_p : get_or (places more) p 0 ≡ suc n = omega (arith, place_at more p, one_longer kinds p kind here) in
    let line : get_or more s [] ≡ get_or kinds s [] = push_other kinds p s kind apart in
    let at_s : get_or (places more) s 0 ≡ length (get_or kinds s []) = place_at more s ∙ ap (λ (l : List Kind). length l) line in
    let gets : got_by more p s (get_or (places more) p 0) ≡ got_by more p s (suc n) = ap (λ (m : ℕ). got_by more p s m) at_p in
    let one : cond {A = ℕ} (gets_from s kind) 1 0 ≡ 1 = ap (λ b. cond b 1 0) (eq-eqb s s refl) in
    let sends : sent_by more s p (get_or (places more) s 0) ≡ sent_by kinds s p (length (get_or kinds s [])) =
    ap (λ (m : ℕ). sent_by more s p m) at_s
    ∙ ap (λ (l : List Kind). count_by (sends_to p) (take (length (get_or kinds s [])) l)) line in
    let enough : got_by kinds p s n + 1 ≤ sent_by kinds s p (length (get_or kinds s [])) =
    omega (arith, caused, gets, got_more kinds p kind here s, one, sends) in (
      ⊎_elim
          (λ (there : s < length kinds). there)
          (λ (past : length kinds ≤ s).
          absurd (let none = none_sent kinds s p (length (get_or kinds s [])) past in omega (arith, none, enough)))
          (cases_lt s (length kinds)),
      enough,
    )
