-- The clock of the next event of a process. Count by count it is the larger of the process's last clock and the clock of its cause, with
-- the own count one more. This is a consistent cut with the event, and each such cut has at least its counts.
use Rattle.std.proofs.Common.{◌≡◌, ◌≢◌, ℕ, zero, suc, ◌+◌, ◌-◌, ◌<◌, ◌≤◌, ◌⊎◌, inl, inr, max, cond, true, false, List, [], ◌∷◌, length}
use Rattle.std.proofs.Common.{get_or, take, count_by, Bool, refl, sym, ap, ◌∙◌, subst, ⊎_elim, arith}
use Rattle.std.proofs.lemmas.Bool.{cases_eq, cases_lt, eq-eqb, ne_eqb}
use Rattle.std.proofs.lemmas.List.{length-set, get_or-set_same, get_or-set_other}
use Rattle.std.proofs.lemmas.Option.{get_or_from_slice_get}
use Rattle.dbg_base.specs.Cuts.{IsAtMost}
use Rattle.cut_core.specs.declared.kind.Kind.{Kind}
use Rattle.cut_core.specs.declared.kind.Kind.TheVariants as does
use Rattle.cut_core.specs.Kinds.{sends_to, gets_from}
use Rattle.cut_core.specs.Tallies.{sent_by, got_by}
use Rattle.cut_core.specs.ConsistentCuts.{IsConsistentCut}
use Rattle.cut_core.proofs.CountLemmas.{count_before, count_below}
use Rattle.clock_rows.specs.Clocks.{join, next_row}
use Rattle.clock_rows.proofs.Joins.{length_join}
use Rattle.dbg_laws.proofs.Lists.{push_other}
use Rattle.causal_world.specs.Pasts.{with_kind, IsWhole, IsClockOf, IsSender, IsOwnLast, IsCause}
use Rattle.causal_world.proofs.ClockLemmas.{Continues, continues_more, one_longer, got_more, sent_grows, got_grows, same_sent, cut_more}
use Rattle.causal_world.proofs.ClockLemmas.{kept_clock}

-- Joins.

joined_at : (row other : List ℕ) (i : ℕ) → length row ≡ length other → get_or (join row other) i 0 ≡ max (get_or row i 0) (get_or other i 0)
joined_at [] [] i long = omega arith
joined_at [] (n ∷ other) i long = absurd (omega (arith, long))
joined_at (m ∷ row) [] i long = absurd (omega (arith, long))
joined_at (m ∷ row) (n ∷ other) zero long = refl
joined_at (m ∷ row) (n ∷ other) (suc i) long = joined_at row other i (omega (arith, long))

same_size : (kinds : List (List Kind)) (p n q m : ℕ) (row joined : List ℕ) → IsClockOf kinds p n row → IsClockOf kinds q m joined
    → length row ≡ length joined
same_size kinds p n q m row joined own other = own.consistent.sizes ∙ sym other.consistent.sizes

-- the next event follows the last one
pub fits_next : (kinds : List (List Kind)) (p q m : ℕ) (row joined : List ℕ) → p < length kinds
    → IsClockOf kinds p (length (get_or kinds p [])) row → IsClockOf kinds q m joined
    → get_or (join row joined) p 0 ≡ length (get_or kinds p [])
fits_next kinds p q m row joined here own other =
    let long = same_size kinds p (length (get_or kinds p [])) q m row joined own other in
    let reaches : length (get_or kinds p []) ≤ get_or row p 0 = own.reaches in
    let most : get_or row p 0 ≤ length (get_or kinds p []) = own.consistent.within p in
    let within : get_or joined p 0 ≤ length (get_or kinds p []) = other.consistent.within p in
    omega (arith, joined_at row joined p long)

-- Causes.

own_within : (kinds : List (List Kind)) (p q m : ℕ) → p < length kinds → IsOwnLast kinds p q m
    → (q < length kinds) × (m ≤ length (get_or kinds q []))
own_within kinds p q m here own =
    subst (λ (x : ℕ). (x < length kinds) × (m ≤ length (get_or kinds x []))) (sym own.0) (here, (let e = own.1 in omega arith))

pub cause_within : (kinds : List (List Kind)) (p q m : ℕ) (kind : Kind) → p < length kinds → IsCause kinds p kind q m
    → (q < length kinds) × (m ≤ length (get_or kinds q []))
cause_within kinds p q m does.Local here cause = own_within kinds p q m here cause
cause_within kinds p q m (does.Sent target) here cause = own_within kinds p q m here cause
cause_within kinds p q m (does.Got source) here cause =
    ⊎_elim
    (λ (same : source.0 ≡ p). own_within kinds p q m here (cause.0 same))
    (λ (apart : source.0 ≢ p).
    let c = cause.1 apart in
    subst (λ (x : ℕ). (x < length kinds) × (m ≤ length (get_or kinds x []))) (sym c.0) (c.1.here, c.1.within))
    (cases_eq source.0 p)

-- the event receives nothing from process i, or what event m of that process sent
abbrev Received : List (List Kind) → ℕ → Kind → ℕ → ℕ → ℕ → Type 0
Received kinds p kind q m i = (cond {A = ℕ} (gets_from i kind) 1 0 ≡ 0) ⊎ ((q ≡ i) × IsSender kinds p i m)

received : (kinds : List (List Kind)) (p q m i : ℕ) (kind : Kind) → i ≢ p → IsCause kinds p kind q m → Received kinds p kind q m i
received kinds p q m i does.Local away cause = inl refl
received kinds p q m i (does.Sent target) away cause = inl refl
received kinds p q m i (does.Got source) away cause =
    ⊎_elim
    (λ (same : source.0 ≡ i). inr (subst (λ (x : ℕ). (q ≡ x) × IsSender kinds p x m) same (cause.1 (λ x. away (sym same ∙ x)))))
    (λ (apart : source.0 ≢ i). inl (ap (λ b. cond b 1 0) (ne_eqb source.0 i apart)))
    (cases_eq source.0 i)

-- event m of process q is the process's own last event, or it sent the message to the process
abbrev OwnOrSent : List (List Kind) → ℕ → Kind → ℕ → ℕ → Type 0
OwnOrSent kinds p kind q m =
    IsOwnLast kinds p q m ⊎ ((q ≢ p) × IsSender kinds p q m × (cond {A = ℕ} (gets_from q kind) 1 0 ≡ 1))

own_or_sent : (kinds : List (List Kind)) (p q m : ℕ) (kind : Kind) → IsCause kinds p kind q m → OwnOrSent kinds p kind q m
own_or_sent kinds p q m does.Local cause = inl cause
own_or_sent kinds p q m (does.Sent target) cause = inl cause
own_or_sent kinds p q m (does.Got source) cause =
    ⊎_elim
    (λ (same : source.0 ≡ p). inl (cause.0 same))
    (λ (apart : source.0 ≢ p).
    let c = cause.1 apart in
    inr (
      λ x. apart (sym c.0 ∙ x),
      subst (λ (x : ℕ). IsSender kinds p x m) (sym c.0) c.1,
      ap (λ b. cond b 1 0) (eq-eqb source.0 q (sym c.0)),
    ))
    (cases_eq source.0 p)

-- a cut with the message includes the event that sent it
sender_in : (kinds : List (List Kind)) (p s m n : ℕ) → IsSender kinds p s m
    → got_by kinds p s (length (get_or kinds p [])) + 1 ≤ sent_by kinds s p n → m ≤ n
sender_in kinds p s m n is enough =
    let line : List Kind = get_or kinds s [] in
    let kind : Kind = does.Sent (record { 0 = p }) in
    let at : get_or line (m - 1) kind ≡ kind = get_or_from_slice_get line (m - 1) kind kind is.sends in
    let like : sends_to p (get_or line (m - 1) kind) ≡ true = ap (λ (k : Kind). sends_to p k) at ∙ eq-eqb p p refl in
    let before : sent_by kinds s p m ≡ sent_by kinds s p (m - 1) + 1 =
    count_before (sends_to p) line m kind is.first is.within like in
    let count : sent_by kinds s p m ≡ got_by kinds p s (length (get_or kinds p [])) + 1 = is.count in
    let first : 1 ≤ m = is.first in
    let lt : m - 1 < n = count_below (sends_to p) line (m - 1) n (omega arith) in
    omega arith

module _ (kinds : List (List Kind)) (p q m : ℕ) (kind : Kind) (row joined : List ℕ) (here : p < length kinds) (whole : IsWhole kinds)
    (cause : IsCause kinds p kind q m) (own : IsClockOf kinds p (length (get_or kinds p [])) row) (other : IsClockOf kinds q m joined) where
  abbrev n : ℕ
  n = length (get_or kinds p [])

  abbrev more : List (List Kind)
  more = with_kind kinds p kind

  abbrev next : List ℕ
  next = next_row p row joined

  long : length row ≡ length joined
  long = same_size kinds p n q m row joined own other

  follows : get_or (join row joined) p 0 ≡ n
  follows = fits_next kinds p q m row joined here own other

  -- the counts of the next event's clock
  next_own : get_or next p 0 ≡ suc n
  next_own =
      let size : length (join row joined) ≡ length kinds = length_join row joined long ∙ own.consistent.sizes in
      let at : get_or next p 0 ≡ get_or (join row joined) p 0 + 1 =
      get_or-set_same (join row joined) p (get_or (join row joined) p 0 + 1) 0 (omega (arith, size, here)) in
      omega (arith, at, follows)

  next_other : (r : ℕ) → r ≢ p → get_or next r 0 ≡ max (get_or row r 0) (get_or joined r 0)
  next_other r apart =
      get_or-set_other (join row joined) p r (get_or (join row joined) p 0 + 1) 0 apart ∙ joined_at row joined r long

  own_below : n ≤ get_or row p 0
  own_below = own.reaches

  row_within : (r : ℕ) → get_or row r 0 ≤ length (get_or kinds r [])
  row_within r = own.consistent.within r

  joined_within : (r : ℕ) → get_or joined r 0 ≤ length (get_or kinds r [])
  joined_within r = other.consistent.within r

  row_below : IsAtMost row next
  row_below r =
      ⊎_elim
      (λ (same : r ≡ p). subst (λ (x : ℕ). get_or row x 0 ≤ get_or next x 0) (sym same)
      (omega (arith, next_own, row_within p)))
      (λ (apart : r ≢ p). omega (arith, next_other r apart))
      (cases_eq r p)

  joined_below : IsAtMost joined next
  joined_below r =
      ⊎_elim
      (λ (same : r ≡ p). subst (λ (x : ℕ). get_or joined x 0 ≤ get_or next x 0) (sym same)
      (omega (arith, next_own, joined_within p)))
      (λ (apart : r ≢ p). omega (arith, next_other r apart))
      (cases_eq r p)

  parts : Continues kinds more
  parts = continues_more kinds p kind here

  inside : (r : ℕ) → get_or next r 0 ≤ length (get_or more r [])
  inside r =
      ⊎_elim
      (λ (same : r ≡ p). subst (λ (x : ℕ). get_or next x 0 ≤ length (get_or more x [])) (sym same)
      (omega (arith, next_own, one_longer kinds p kind here)))
      (λ (apart : r ≢ p).
      let line : length (get_or more r []) ≡ length (get_or kinds r []) =
      ap (λ (l : List Kind). length l) (push_other kinds p r kind apart) in
      omega (arith, next_other r apart, row_within r, joined_within r, line))
      (cases_eq r p)

  -- what another process receives was sent, since the larger of two consistent cuts includes it
  caused_other : (i j : ℕ) → i ≢ j → j ≢ p → got_by more j i (get_or next j 0) ≤ sent_by more i j (get_or next i 0)
  caused_other i j apart away =
      ⊎_elim
      (λ (less : get_or row j 0 < get_or joined j 0).
      let same : get_or next j 0 ≡ get_or joined j 0 = omega (arith, next_other j away) in
      let gets : got_by more j i (get_or next j 0) ≡ got_by more j i (get_or joined j 0) = ap (λ (k : ℕ). got_by more j i k) same in
      let caused : got_by more j i (get_or joined j 0) ≤ sent_by more i j (get_or joined i 0) =
      (cut_more kinds more parts joined other.consistent).causes i j apart in
      let sends : sent_by more i j (get_or joined i 0) ≤ sent_by more i j (get_or next i 0) =
      sent_grows more i j (get_or joined i 0) (get_or next i 0) (joined_below i) in
      omega arith)
      (λ (most : get_or joined j 0 ≤ get_or row j 0).
      let same : get_or next j 0 ≡ get_or row j 0 = omega (arith, next_other j away) in
      let gets : got_by more j i (get_or next j 0) ≡ got_by more j i (get_or row j 0) = ap (λ (k : ℕ). got_by more j i k) same in
      let caused : got_by more j i (get_or row j 0) ≤ sent_by more i j (get_or row i 0) =
      (cut_more kinds more parts row own.consistent).causes i j apart in
      let sends : sent_by more i j (get_or row i 0) ≤ sent_by more i j (get_or next i 0) =
      sent_grows more i j (get_or row i 0) (get_or next i 0) (row_below i) in
      omega arith)
      (cases_lt (get_or row j 0) (get_or joined j 0))

  -- and so was what the process itself receives
  caused_own : (i : ℕ) → i ≢ p → got_by more p i (get_or next p 0) ≤ sent_by more i p (get_or next i 0)
  caused_own i away =
      let gets : got_by more p i (get_or next p 0) ≡ got_by kinds p i n + cond (gets_from i kind) 1 0 =
      ap (λ (k : ℕ). got_by more p i k) next_own ∙ got_more kinds p kind here i in
      ⊎_elim
      (λ (none : cond {A = ℕ} (gets_from i kind) 1 0 ≡ 0).
      let full : get_or row p 0 ≡ n = omega (arith, own_below, row_within p) in
      let before : got_by kinds p i (get_or row p 0) ≡ got_by kinds p i n = ap (λ (k : ℕ). got_by kinds p i k) full in
      let caused : got_by kinds p i (get_or row p 0) ≤ sent_by kinds i p (get_or row i 0) = own.consistent.causes i p away in
      let same : sent_by more i p (get_or row i 0) ≡ sent_by kinds i p (get_or row i 0) =
      same_sent kinds more parts i p (get_or row i 0) (row_within i) in
      let sends : sent_by more i p (get_or row i 0) ≤ sent_by more i p (get_or next i 0) =
      sent_grows more i p (get_or row i 0) (get_or next i 0) (row_below i) in
      omega arith)
      (λ (some : (q ≡ i) × IsSender kinds p i m).
      let most : cond {A = ℕ} (gets_from i kind) 1 0 ≤ 1 = one_most (gets_from i kind) in
      let count : sent_by kinds i p m ≡ got_by kinds p i n + 1 = some.1.count in
      let same : sent_by more i p m ≡ sent_by kinds i p m = same_sent kinds more parts i p m some.1.within in
      let reaches : m ≤ get_or joined i 0 = subst (λ (x : ℕ). m ≤ get_or joined x 0) some.0 other.reaches in
      let sends : sent_by more i p m ≤ sent_by more i p (get_or next i 0) =
      sent_grows more i p m (get_or next i 0) (let le = joined_below i in omega (arith, le, reaches)) in
      omega arith)
      (received kinds p q m i kind away cause)
    where
      one_most : (b : Bool) → cond {A = ℕ} b 1 0 ≤ 1
      one_most true = omega arith
      one_most false = omega arith

  caused : (i j : ℕ) → i ≢ j → got_by more j i (get_or next j 0) ≤ sent_by more i j (get_or next i 0)
  caused i j apart =
      ⊎_elim
      (λ (same : j ≡ p). subst (λ (x : ℕ). got_by more x i (get_or next x 0) ≤ sent_by more i x (get_or next i 0)) (sym same)
      (caused_own i (λ x. apart (x ∙ sym same))))
      (λ (away : j ≢ p). caused_other i j apart away)
      (cases_eq j p)

  -- a consistent cut with the next event has at least the counts of its clock
  module _ (cut : List ℕ) (consistent : IsConsistentCut more cut) (reaches : suc n ≤ get_or cut p 0) where
    row_in : IsAtMost row cut
    row_in = (kept_clock kinds p p n kind row here whole (omega arith) own).least cut consistent (omega arith)

    message_in : q ≢ p → IsSender kinds p q m → cond {A = ℕ} (gets_from q kind) 1 0 ≡ 1 → m ≤ get_or cut q 0
    message_in away is one =
        let gets : got_by more p q (suc n) ≤ got_by more p q (get_or cut p 0) = got_grows more p q (suc n) (get_or cut p 0) reaches in
        let sends : got_by more p q (get_or cut p 0) ≤ sent_by more q p (get_or cut q 0) = consistent.causes q p away in
        let line : sent_by more q p (get_or cut q 0) ≡ sent_by kinds q p (get_or cut q 0) =
        ap (λ (l : List Kind). count_by (sends_to p) (take (get_or cut q 0) l)) (push_other kinds p q kind away) in
        sender_in kinds p q m (get_or cut q 0) is (omega (arith, gets, sends, line, got_more kinds p kind here q, one))

    cause_in : m ≤ get_or cut q 0
    cause_in =
        ⊎_elim
        (λ (last : IsOwnLast kinds p q m).
        subst (λ (x : ℕ). m ≤ get_or cut x 0) (sym last.0) (let e = last.1 in omega (arith, e, reaches)))
        (λ (some : (q ≢ p) × IsSender kinds p q m × (cond {A = ℕ} (gets_from q kind) 1 0 ≡ 1)). message_in some.0 some.1 some.2)
        (own_or_sent kinds p q m kind cause)

    joined_in : IsAtMost joined cut
    joined_in =
        let w = cause_within kinds p q m kind here cause in
        (kept_clock kinds p q m kind joined here whole w.1 other).least cut consistent cause_in

    next_in : IsAtMost next cut
    next_in r =
        ⊎_elim
        (λ (same : r ≡ p). subst (λ (x : ℕ). get_or next x 0 ≤ get_or cut x 0) (sym same) (omega (arith, next_own, reaches)))
        (λ (apart : r ≢ p).
        let first = row_in r in let second = joined_in r in omega (arith, first, second, next_other r apart))
        (cases_eq r p)

  is_next : IsClockOf more p (suc n) next
  is_next = record {
    consistent = record {
      sizes = length-set (join row joined) p (get_or (join row joined) p 0 + 1) ∙ length_join row joined long
          ∙ own.consistent.sizes ∙ sym parts.size;
      within = inside;
      causes = caused;
    };
    reaches = omega (arith, next_own);
    least = λ cut consistent reaches. next_in cut consistent reaches;
  }

-- the clock of the next event joins those of the last event and of the cause
pub next_clock : (kinds : List (List Kind)) (p q m : ℕ) (kind : Kind) (row joined : List ℕ) → p < length kinds → IsWhole kinds
    → IsWhole (with_kind kinds p kind) → IsCause kinds p kind q m → IsClockOf kinds p (length (get_or kinds p [])) row
    → IsClockOf kinds q m joined → IsClockOf (with_kind kinds p kind) p (suc (length (get_or kinds p []))) (next_row p row joined)
next_clock kinds p q m kind row joined here whole longer cause own other =
    is_next kinds p q m kind row joined here whole cause own other
