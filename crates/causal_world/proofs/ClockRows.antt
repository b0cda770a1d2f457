-- The rows of all processes are their clocks: at the start, with one more event, and with one less. So all that is kept of events agrees.
use Rattle.std.proofs.Common.{◌≡◌, ◌≢◌, ℕ, zero, suc, ◌+◌, ◌-◌, ◌<◌, ◌≤◌, List, [], ◌∷◌, ◌++◌, length, get_or, set, take, replicate, refl}
use Rattle.std.proofs.Common.{sym, ap, ◌∙◌, subst, ⊎_elim, arith, count_by, map, Some}
use Rattle.std.specs.Prelude.{slice_get}
use Rattle.std.proofs.lemmas.Bool.{cases_eq, cases_lt}
use Rattle.std.proofs.lemmas.List.{length-set, length_push, length-map, length-replicate, length-take-le, get_or-set_same}
use Rattle.std.proofs.lemmas.List.{get_or-set_other, get_or_append_left, get_or_push, get_or-take, get_or-replicate, ext_get_or}
use Rattle.std.proofs.lemmas.List.{length-take}
use Rattle.std.proofs.lemmas.List.Sums.{count_by-le-length}
use Rattle.std.proofs.lemmas.Option.{slice_get_within}
use Rattle.dbg_base.specs.Reversal.{without_back}
use Rattle.dbg_base.specs.declared.limits.TheConstants.{EVENTS}
use Rattle.cut_core.specs.declared.kind.Kind.{Kind}
use Rattle.cut_core.specs.Kinds.{gets_from}
use Rattle.cut_core.specs.Tallies.{got_by, sent_by}
use Rattle.cut_core.specs.ConsistentCuts.{IsConsistentCut, places}
use Rattle.cut_core.specs.declared.kind.Kind.TheVariants as does
use Rattle.cut_core.proofs.CountLemmas.{count_none}
use Rattle.cut_core.proofs.RaisedCutLemmas.{place_at}
use Rattle.clock_rows.specs.Clocks.{next_row, last_row, join}
use Rattle.event_rows.specs.EventValues.{EventValue}
use Rattle.dbg_laws.proofs.Lists.{none_in_replicate, push_same, push_other, length-push}
use Rattle.causal_world.specs.Pasts.{with_kind, without_kind, IsWhole, IsClockOf, AreClocksOf, IsCause, row_at, without_row, IsSender}
use Rattle.causal_world.specs.Pasts.{IsPast}
use Rattle.causal_world.specs.Scenes.{without_event}
use Rattle.causal_world.proofs.ClockLemmas.{one_longer, one_shorter, kept_clock, left_clock}
use Rattle.causal_world.proofs.NextClocks.{cause_within, next_clock, fits_next}

-- One more event.

module _ (kinds : List (List Kind)) (clocks : List (List (List ℕ))) (p q m : ℕ) (kind : Kind) (here : p < length kinds)
    (whole : IsWhole kinds) (longer : IsWhole (with_kind kinds p kind)) (cause : IsCause kinds p kind q m)
    (are : AreClocksOf kinds clocks) where
  abbrev more : List (List Kind)
  more = with_kind kinds p kind

  abbrev next : List ℕ
  next = next_row p (last_row (get_or clocks p [])) (row_at clocks q m)

  abbrev rows : List (List (List ℕ))
  rows = set clocks p (get_or clocks p [] ++ next ∷ [])

  inside : p < length clocks
  inside = omega (arith, here, are.processes)

  own : get_or rows p [] ≡ get_or clocks p [] ++ next ∷ []
  own = push_same clocks p next inside

  last_is : last_row (get_or clocks p []) ≡ row_at clocks p (length (get_or kinds p []))
  last_is =
      let size : length (get_or clocks p []) - 1 ≡ length (get_or kinds p []) = omega (arith, are.sizes p here) in
      ap (λ (n : ℕ). get_or (get_or clocks p []) n []) size

  is_next : IsClockOf more p (suc (length (get_or kinds p []))) next
  is_next =
      let w = cause_within kinds p q m kind here cause in
      next_clock kinds p q m kind (last_row (get_or clocks p [])) (row_at clocks q m) here whole longer cause
      (subst (λ (row : List ℕ). IsClockOf kinds p (length (get_or kinds p [])) row) (sym last_is)
      (are.rows p (length (get_or kinds p [])) here (omega arith)))
      (are.rows q m w.0 w.1)

  own_rows : (n : ℕ) → n ≤ length (get_or more p []) → IsClockOf more p n (row_at rows p n)
  own_rows n le =
      let size : length (get_or clocks p []) ≡ length (get_or kinds p []) + 1 = are.sizes p here in
      let most : length (get_or more p []) ≡ length (get_or kinds p []) + 1 = one_longer kinds p kind here in
      ⊎_elim
      (λ (less : length (get_or kinds p []) < n).
      let last : n ≡ suc (length (get_or kinds p [])) = omega arith in
      let row : row_at rows p n ≡ next =
      ap (λ (l : List (List ℕ)). get_or l n []) own ∙ get_or_push (get_or clocks p []) next [] n (omega arith) in
      subst (λ (r : List ℕ). IsClockOf more p n r) (sym row) (subst (λ (x : ℕ). IsClockOf more p x next) (sym last) is_next))
      (λ (old : n ≤ length (get_or kinds p [])).
      let row : row_at rows p n ≡ row_at clocks p n =
      ap (λ (l : List (List ℕ)). get_or l n []) own
      ∙ get_or_append_left (get_or clocks p []) (next ∷ []) [] n (omega arith) in
      subst (λ (r : List ℕ). IsClockOf more p n r) (sym row)
      (kept_clock kinds p p n kind (row_at clocks p n) here whole old (are.rows p n here old)))
      (cases_lt (length (get_or kinds p [])) n)

  other_rows : (r n : ℕ) → r ≢ p → r < length kinds → n ≤ length (get_or more r []) → IsClockOf more r n (row_at rows r n)
  other_rows r n apart there le =
      let line : length (get_or more r []) ≡ length (get_or kinds r []) =
      ap (λ (l : List Kind). length l) (push_other kinds p r kind apart) in
      let row : row_at rows r n ≡ row_at clocks r n = ap (λ (l : List (List ℕ)). get_or l n []) (push_other clocks p r next apart) in
      let old : n ≤ length (get_or kinds r []) = omega arith in
      subst (λ (x : List ℕ). IsClockOf more r n x) (sym row)
      (kept_clock kinds p r n kind (row_at clocks r n) here whole old (are.rows r n there old))

  size_more : (r : ℕ) → r < length kinds → length (get_or rows r []) ≡ length (get_or more r []) + 1
  size_more r there =
      ⊎_elim
      (λ (same : r ≡ p). subst (λ (x : ℕ). length (get_or rows x []) ≡ length (get_or more x []) + 1) (sym same)
      (let long : length (get_or rows p []) ≡ length (get_or clocks p []) + 1 =
      ap (λ (l : List (List ℕ)). length l) own ∙ length_push (get_or clocks p []) next in
      omega (arith, long, one_longer kinds p kind here, are.sizes p here)))
      (λ (apart : r ≢ p).
      let line : length (get_or more r []) ≡ length (get_or kinds r []) =
      ap (λ (l : List Kind). length l) (push_other kinds p r kind apart) in
      let row : length (get_or rows r []) ≡ length (get_or clocks r []) =
      ap (λ (l : List (List ℕ)). length l) (push_other clocks p r next apart) in
      omega (arith, line, row, are.sizes r there))
      (cases_eq r p)

  all_more : AreClocksOf more rows
  all_more = record {
    processes = length-push clocks p next ∙ are.processes ∙ sym (length-push kinds p kind);
    sizes = λ r there. size_more r (omega (arith, there, length-push kinds p kind));
    rows = λ r n there le. ⊎_elim
        (λ (same : p ≡ r). subst (λ (x : ℕ). n ≤ length (get_or more x []) → IsClockOf more x n (row_at rows x n)) same
        (λ y. own_rows n y) le)
        (λ (apart : p ≢ r). other_rows r n (λ x. apart (sym x)) (omega (arith, there, length-push kinds p kind)) le)
        (cases_eq p r);
  }

-- the rows with that of the next event are the clocks with that event
pub clocks_more : (kinds : List (List Kind)) (clocks : List (List (List ℕ))) (p q m : ℕ) (kind : Kind) → p < length kinds
    → IsWhole kinds → IsWhole (with_kind kinds p kind) → IsCause kinds p kind q m → AreClocksOf kinds clocks
    → AreClocksOf (with_kind kinds p kind)
    (set clocks p (get_or clocks p [] ++ next_row p (last_row (get_or clocks p [])) (row_at clocks q m) ∷ []))
clocks_more kinds clocks p q m kind here whole longer cause are = all_more kinds clocks p q m kind here whole longer cause are

-- One event less.

module _ (kinds : List (List Kind)) (clocks : List (List (List ℕ))) (p : ℕ) (here : p < length kinds)
    (some : 0 < length (get_or kinds p [])) (whole : IsWhole (without_kind kinds p)) (are : AreClocksOf kinds clocks) where
  abbrev less : List (List Kind)
  less = without_kind kinds p

  abbrev fewer : List (List (List ℕ))
  fewer = set clocks p (without_back (get_or clocks p []))

  own_less : get_or fewer p [] ≡ without_back (get_or clocks p [])
  own_less = get_or-set_same clocks p (without_back (get_or clocks p [])) [] (omega (arith, here, are.processes))

  own_fewer : (n : ℕ) → n ≤ length (get_or less p []) → IsClockOf less p n (row_at fewer p n)
  own_fewer n le =
      let size : length (get_or clocks p []) ≡ length (get_or kinds p []) + 1 = are.sizes p here in
      let most : length (get_or less p []) ≡ length (get_or kinds p []) - 1 = one_shorter kinds p here in
      let row : row_at fewer p n ≡ row_at clocks p n =
      ap (λ (l : List (List ℕ)). get_or l n []) own_less
      ∙ get_or-take (length (get_or clocks p []) - 1) (get_or clocks p []) n [] (omega arith) in
      subst (λ (r : List ℕ). IsClockOf less p n r) (sym row)
      (left_clock kinds p p n (row_at clocks p n) here whole le (are.rows p n here (omega arith)))

  line_less : (r : ℕ) → r ≢ p → length (get_or less r []) ≡ length (get_or kinds r [])
  line_less r apart = ap (λ (l : List Kind). length l) (get_or-set_other kinds p r (without_back (get_or kinds p [])) [] apart)

  row_less : (r : ℕ) → r ≢ p → get_or fewer r [] ≡ get_or clocks r []
  row_less r apart = get_or-set_other clocks p r (without_back (get_or clocks p [])) [] apart

  other_fewer : (r n : ℕ) → r ≢ p → r < length kinds → n ≤ length (get_or less r []) → IsClockOf less r n (row_at fewer r n)
  other_fewer r n apart there le =
      let row : row_at fewer r n ≡ row_at clocks r n = ap (λ (l : List (List ℕ)). get_or l n []) (row_less r apart) in
      subst (λ (x : List ℕ). IsClockOf less r n x) (sym row)
      (left_clock kinds p r n (row_at clocks r n) here whole le (are.rows r n there (omega (arith, le, line_less r apart))))

  size_less : (r : ℕ) → r < length kinds → length (get_or fewer r []) ≡ length (get_or less r []) + 1
  size_less r there =
      ⊎_elim
      (λ (same : r ≡ p). subst (λ (x : ℕ). length (get_or fewer x []) ≡ length (get_or less x []) + 1) (sym same)
      (let long : length (get_or fewer p []) ≡ length (get_or clocks p []) - 1 =
      ap (λ (l : List (List ℕ)). length l) own_less
      ∙ length-take-le (length (get_or clocks p []) - 1) (get_or clocks p []) (omega arith) in
      omega (arith, long, one_shorter kinds p here, are.sizes p here, some)))
      (λ (apart : r ≢ p).
      let row : length (get_or fewer r []) ≡ length (get_or clocks r []) = ap (λ (l : List (List ℕ)). length l) (row_less r apart) in
      omega (arith, line_less r apart, row, are.sizes r there))
      (cases_eq r p)

  all_less : AreClocksOf less fewer
  all_less =
      let size : length less ≡ length kinds = length-set kinds p (without_back (get_or kinds p [])) in
      record {
        processes = length-set clocks p (without_back (get_or clocks p [])) ∙ are.processes ∙ sym size;
        sizes = λ r there. size_less r (omega (arith, there, size));
        rows = λ r n there le. ⊎_elim
            (λ (same : p ≡ r). subst (λ (x : ℕ). n ≤ length (get_or less x []) → IsClockOf less x n (row_at fewer x n)) same
            (λ y. own_fewer n y) le)
            (λ (apart : p ≢ r). other_fewer r n (λ x. apart (sym x)) (omega (arith, there, size)) le)
            (cases_eq p r);
      }

-- the rows without the last one of a process are the clocks without its last event
pub clocks_less : (kinds : List (List Kind)) (clocks : List (List (List ℕ))) (p : ℕ) → p < length kinds
    → 0 < length (get_or kinds p []) → IsWhole (without_kind kinds p) → AreClocksOf kinds clocks
    → AreClocksOf (without_kind kinds p) (set clocks p (without_back (get_or clocks p [])))
clocks_less kinds clocks p here some whole are = all_less kinds clocks p here some whole are

-- No event yet.

zero_at : (n p : ℕ) → get_or {A = ℕ} (replicate n 0) p 0 ≡ 0
zero_at zero p = refl
zero_at (suc n) zero = refl
zero_at (suc n) (suc p) = zero_at n p

none_got : (n j i k : ℕ) → got_by (replicate n []) j i k ≡ 0
none_got n j i k =
    ap (λ (l : List Kind). count_by (gets_from i) (take k l)) (none_in_replicate n j) ∙ count_none (gets_from i) k

cut_open : (n : ℕ) (cut : List ℕ) → length cut ≡ n → ((p : ℕ) → get_or cut p 0 ≡ 0) → IsConsistentCut (replicate n []) cut
cut_open n cut size none = record {
  sizes = size ∙ sym (length-replicate {A = List Kind} n []);
  within = λ p. (let here = none p in omega (arith, here));
  causes = λ i j apart. (let gets = none_got n j i (get_or cut j 0) in omega (arith, gets));
}

pub whole_open : (n : ℕ) → IsWhole (replicate n [])
whole_open n =
    let kinds : List (List Kind) = replicate n [] in
    cut_open n (places kinds) (length-map kinds (λ (line : List Kind). length line) ∙ length-replicate {A = List Kind} n [])
    (λ p. place_at kinds p ∙ ap (λ (l : List Kind). length l) (none_in_replicate n p))

own_row : (n p : ℕ) → p < n → get_or (replicate n (replicate {A = ℕ} n 0 ∷ [])) p [] ≡ replicate n 0 ∷ []
own_row n p there = get_or-replicate n p (replicate n 0 ∷ []) [] there

pub clocks_open : (n : ℕ) → AreClocksOf (replicate n []) (replicate n (replicate n 0 ∷ []))
clocks_open n =
    let size : length (replicate {A = List Kind} n []) ≡ n = length-replicate {A = List Kind} n [] in
    record {
      processes = length-replicate {A = List (List ℕ)} n (replicate n 0 ∷ []) ∙ sym size;
      sizes = λ p there.
          let rows : length (get_or (replicate n (replicate n 0 ∷ [])) p []) ≡ 1 =
          ap (λ (l : List (List ℕ)). length l) (own_row n p (omega (arith, there, size))) in
          let events : length (get_or (replicate {A = List Kind} n []) p []) ≡ 0 =
          ap (λ (l : List Kind). length l) (none_in_replicate n p) in
          omega arith;
      rows = λ p m there le.
          let events : length (get_or (replicate {A = List Kind} n []) p []) ≡ 0 =
          ap (λ (l : List Kind). length l) (none_in_replicate n p) in
          let first : m ≡ 0 = omega arith in
          let row : row_at (replicate n (replicate n 0 ∷ [])) p m ≡ replicate n 0 =
          ap (λ (k : ℕ). row_at (replicate n (replicate n 0 ∷ [])) p k) first
          ∙ ap (λ (l : List (List ℕ)). get_or l 0 []) (own_row n p (omega (arith, there, size))) in
          subst (λ (x : List ℕ). IsClockOf (replicate n []) p m x) (sym row)
          (record {
            consistent = cut_open n (replicate n 0) (length-replicate n 0) (zero_at n);
            reaches = omega arith;
            least = λ other consistent reaches r. (omega (arith, zero_at n r));
          });
    }

-- Clocks are determined by the events.

one_clock : (kinds : List (List Kind)) (p n : ℕ) (a b : List ℕ) → IsClockOf kinds p n a → IsClockOf kinds p n b → a ≡ b
one_clock kinds p n a b first second =
    ext_get_or 0 a b (first.consistent.sizes ∙ sym second.consistent.sizes) (λ q lt.
    let below = first.least b second.consistent second.reaches q in
    let above = second.least a first.consistent first.reaches q in
    omega (arith, below, above))

pub same_clocks : (kinds : List (List Kind)) (a b : List (List (List ℕ))) → AreClocksOf kinds a → AreClocksOf kinds b → a ≡ b
same_clocks kinds a b first second =
    ext_get_or [] a b (first.processes ∙ sym second.processes) (λ p there.
    let here : p < length kinds = omega (arith, there, first.processes) in
    ext_get_or [] (get_or a p []) (get_or b p []) (first.sizes p here ∙ sym (second.sizes p here)) (λ n lt.
    let le : n ≤ length (get_or kinds p []) = omega (arith, lt, first.sizes p here) in
    one_clock kinds p n (row_at a p n) (row_at b p n) (first.rows p n here le) (second.rows p n here le)))

-- What is kept of events agrees as events are added and undone.

-- the k-th send, from 1, is an existing event
pub sender : (kinds : List (List Kind)) (p s m : ℕ) → s < length kinds
    → slice_get (get_or kinds s []) (m - 1) ≡ Some (does.Sent (record { 0 = p }))
    → sent_by kinds s p m ≡ got_by kinds p s (length (get_or kinds p [])) + 1 → IsSender kinds p s m
sender kinds p s zero here sends count = absurd (let none : sent_by kinds s p zero ≡ 0 = refl in omega (arith, count, none))
sender kinds p s (suc m) here sends count =
    let there = slice_get_within (get_or kinds s []) m _ (ap (slice_get (get_or kinds s [])) (omega arith) ∙ sends) in
    record { here = here; first = omega arith; within = omega (arith, there); sends = sends; count = count }

-- a process has received at most as many messages as it has events
pub got_few : (kinds : List (List Kind)) (p s n : ℕ) → got_by kinds p s n ≤ length (get_or kinds p [])
got_few kinds p s n =
    let line = get_or kinds p [] in
    omega (arith, count_by-le-length (gets_from s) (take n line), length-take n line)

-- as many events as kinds
pub as_many : (events : List (List EventValue)) (kinds : List (List Kind)) (clocks : List (List (List ℕ))) (p : ℕ)
    → IsPast events kinds clocks → length (get_or events p []) ≡ length (get_or kinds p [])
as_many events kinds clocks p past = many events kinds p past.sizes
  where
    many : (events : List (List EventValue)) (kinds : List (List Kind)) (p : ℕ) → map (λ own. length own) events ≡ places kinds
        → length (get_or events p []) ≡ length (get_or kinds p [])
    many [] [] p e = refl
    many [] (own ∷ kinds) p e = cc
    many (own ∷ events) [] p e = cc
    many (own ∷ events) (row ∷ kinds) zero e = cc
    many (own ∷ events) (row ∷ kinds) (suc p) e =
        many events kinds p (let rest : map (λ own. length own) events ≡ places kinds = cc in rest)

-- the sizes agree if one list of each changes to the same length
pub sizes_set : (events : List (List EventValue)) (kinds : List (List Kind)) (p : ℕ) (own : List EventValue) (row : List Kind)
    → map (λ own. length own) events ≡ places kinds → length own ≡ length row
    → map (λ own. length own) (set events p own) ≡ places (set kinds p row)
sizes_set [] [] p own row e same = refl
sizes_set [] (k ∷ kinds) p own row e same = cc
sizes_set (x ∷ events) [] p own row e same = cc
sizes_set (x ∷ events) (k ∷ kinds) zero own row e same =
    let rest : map (λ own. length own) events ≡ places kinds = cc in λ i. same i ∷ rest i
sizes_set (x ∷ events) (k ∷ kinds) (suc p) own row e same =
    let rest : map (λ own. length own) events ≡ places kinds = cc in
    let first : length x ≡ length k = cc in
    λ i. first i ∷ sizes_set events kinds p own row rest same i

pub sizes_open : (n : ℕ) → map (λ own. length own) (replicate n (let none : List EventValue = [] in none)) ≡ places (replicate n [])
sizes_open zero = refl
sizes_open (suc n) = ap (λ (l : List ℕ). 0 ∷ l) (sizes_open n)

pub opens_past : (n : ℕ) (events : List (List EventValue)) (kinds : List (List Kind)) (clocks : List (List (List ℕ)))
    → events ≡ replicate n [] → kinds ≡ replicate n [] → clocks ≡ replicate n (replicate n 0 ∷ []) → IsPast events kinds clocks
opens_past n events kinds clocks none no_kinds zeros = record {
  sizes = ap (λ (l : List (List EventValue)). map (λ own. length own) l) none ∙ sizes_open n ∙ sym (ap places no_kinds);
  whole = subst IsWhole (sym no_kinds) (whole_open n);
  rows = subst (λ (l : List (List (List ℕ))). AreClocksOf kinds l) (sym zeros)
      (subst (λ (l : List (List Kind)). AreClocksOf l (replicate n (replicate n 0 ∷ []))) (sym no_kinds) (clocks_open n));
}

module _ (events : List (List EventValue)) (kinds : List (List Kind)) (clocks : List (List (List ℕ))) (p : ℕ) (here : p < length kinds)
    (past : IsPast events kinds clocks) where
  last_row_is : last_row (get_or clocks p []) ≡ row_at clocks p (length (get_or kinds p []))
  last_row_is =
      let size = past.rows.sizes p here in
      ap (λ (n : ℕ). get_or (get_or clocks p []) n []) (omega (arith, size))

  -- the own component of the next row is within its limit
  pub fits_row : (q m : ℕ) (kind : Kind) → IsCause kinds p kind q m → length (get_or kinds p []) < EVENTS
      → get_or (join (last_row (get_or clocks p [])) (row_at clocks q m)) p 0 < 4294967295
  fits_row q m kind cause few =
      let within = cause_within kinds p q m kind here cause in
      let own = past.rows.rows p (length (get_or kinds p [])) here (omega arith) in
      let other = past.rows.rows q m within.0 within.1 in
      let is = fits_next kinds p q m (row_at clocks p (length (get_or kinds p []))) (row_at clocks q m) here own other in
      let is_last : get_or (join (last_row (get_or clocks p [])) (row_at clocks q m)) p 0 ≡ length (get_or kinds p []) =
      ap (λ (row : List ℕ). get_or (join row (row_at clocks q m)) p 0) last_row_is ∙ is in
      omega (arith, is_last, few)

  pub pushed_past : (q m : ℕ) (kind : Kind) (event : EventValue) → IsWhole (with_kind kinds p kind) → IsCause kinds p kind q m
      → IsPast (set events p (get_or events p [] ++ event ∷ [])) (with_kind kinds p kind)
      (set clocks p (get_or clocks p [] ++ next_row p (last_row (get_or clocks p [])) (row_at clocks q m) ∷ []))
  pushed_past q m kind event whole cause = record {
    sizes = sizes_set events kinds p (get_or events p [] ++ event ∷ []) (get_or kinds p [] ++ kind ∷ []) past.sizes
        (length_push (get_or events p []) event ∙ ap (λ (n : ℕ). n + 1) (as_many events kinds clocks p past)
        ∙ sym (length_push (get_or kinds p []) kind));
    whole = whole;
    rows = clocks_more kinds clocks p q m kind here past.whole whole cause past.rows;
  }

  pub popped_past : 0 < length (get_or kinds p []) → IsWhole (without_kind kinds p)
      → IsPast (without_event events p) (without_kind kinds p) (without_row clocks p)
  popped_past some whole = record {
    sizes = sizes_set events kinds p (without_back (get_or events p [])) (without_back (get_or kinds p [])) past.sizes
        (length-take-le (length (get_or events p []) - 1) (get_or events p []) (omega arith)
        ∙ ap (λ (n : ℕ). n - 1) (as_many events kinds clocks p past)
        ∙ sym (length-take-le (length (get_or kinds p []) - 1) (get_or kinds p []) (omega arith)));
    whole = whole;
    rows = clocks_less kinds clocks p here some whole past.rows;
  }

pub same_past : {events e : List (List EventValue)} {kinds k : List (List Kind)} {clocks c : List (List (List ℕ))}
    → e ≡ events → k ≡ kinds → c ≡ clocks → IsPast events kinds clocks → IsPast e k c
same_past {events} {e} {kinds} {k} {clocks} {c} same_events same_kinds same_clocks past = record {
  sizes = ap (λ (l : List (List EventValue)). map (λ own. length own) l) same_events ∙ past.sizes ∙ sym (ap places same_kinds);
  whole = subst IsWhole (sym same_kinds) past.whole;
  rows = subst (λ (l : List (List (List ℕ))). AreClocksOf k l) (sym same_clocks)
      (subst (λ (l : List (List Kind)). AreClocksOf l clocks) (sym same_kinds) past.rows);
}

-- a process with an event exists
pub has_events : {A : Type 0} (lists : List (List A)) (p : ℕ) → 0 < length (get_or lists p []) → p < length lists
has_events [] p some = absurd (omega (arith, some))
has_events (l ∷ lists) zero some = omega arith
has_events (l ∷ lists) (suc p) some = let rest = has_events lists p some in omega (arith, rest)
