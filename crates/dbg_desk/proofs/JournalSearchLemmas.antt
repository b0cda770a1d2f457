-- The recorded calls of several seats, compared with the journal's calls of them, entry by entry.
use Rattle.std.proofs.Common.{◌≡◌, ℕ, zero, suc, ◌+◌, ◌<◌, ◌≤◌, Bool, true, false, List, [], ◌∷◌, length, map, take, drop, get_or, Some, refl, sym, subst, arith, zero-add, suc-add, MatchBool}
use Rattle.std.specs.Prelude.{◌==◌, ◌≢◌, slice_get}
use Rattle.std.specs.List.{AllByRecursion}
use Rattle.std.proofs.lemmas.Bool.Decides.{nat_tests}
use Rattle.std.proofs.lemmas.Option.{slice_get_within, get_or_from_slice_get}
use Rattle.dbg_base.specs.Journals.{Journal}
use Rattle.dbg_desk.specs.declared.entry.Entry as entry
use Rattle.dbg_desk.specs.Desks.{SeatState, entry_of}
use Rattle.dbg_desk.specs.Settling.{IsKeptIn, HasOther, as_own}
use Rattle.dbg_desk.specs.Finding.{IsFound, AreFound, HasOtherNext, HaveEnded, HasMore}
use Rattle.dbg_desk.proofs.KeptCallLemmas.{IsKept, kept_on, kept_more, not_kept, kept_all, all_kept}

-- what holds at each position holds of all
pub all_places : {X : Type 0} (P : X → Type 0) (xs : List X) → ((k : ℕ) (d : X) → k < length xs → P (get_or xs k d)) → AllByRecursion P xs
all_places P [] at = tt
all_places P (x ∷ xs) at = (at 0 x (omega arith), all_places P xs (λ k d within. at (suc k) d (omega (arith, within))))

module _ (J : List entry.Entry) where
  -- of each of these seats so many calls were found among the first so many entries
  abbrev pub AreKept : List SeatState → ℕ → List ℕ → Type 0
  AreKept seats i found =
      (k : ℕ) (d : SeatState) → k < length seats → IsKept (get_or seats k d).number J (get_or seats k d).own i (get_or found k 0)

  module _ (i : ℕ) (x : entry.Entry) (within : i < length J) (is : x ≡ get_or J i x) where
    kept_by : (seat : SeatState) (before after : ℕ) → IsFound (entry_of x) seat before after → IsKept seat.number J seat.own i before
        → IsKept seat.number J seat.own (i + 1) after
    kept_by seat before after found m = by (x.seat == seat.number) refl found
      where
        by : (b : Bool) → (x.seat == seat.number) ≡ b
            → MatchBool b ((slice_get seat.own before ≡ Some (as_own (entry_of x))) × (after ≡ before + 1)) (after ≡ before)
            → IsKept seat.number J seat.own (i + 1) after
        by true e (at, more) =
            let mine : x.seat ≡ seat.number = grind (arith, nat_tests) in
            subst (λ (n : ℕ). IsKept seat.number J seat.own (i + 1) n) (sym more) (kept_more seat.number J seat.own i before x within is mine at m)
        by false e same =
            let other : x.seat ≢ seat.number = grind (arith, nat_tests) in
            subst (λ (n : ℕ). IsKept seat.number J seat.own (i + 1) n) (sym same) (kept_on seat.number J seat.own i before x within is other m)

    pub all_kept_by : (seats : List SeatState) (before after : List ℕ) → AreFound (entry_of x) seats before after → AreKept seats i before
        → AreKept seats (i + 1) after
    all_kept_by seats before after found kept =
        λ k d inside. kept_by (get_or seats k d) (get_or before k 0) (get_or after k 0) (found k d inside) (kept k d inside)

    -- the entry is not the next call of its seat
    pub other_next : (seats : List SeatState) (before : List ℕ) (named : ℕ) → HasOtherNext (entry_of x) seats before named
        → AreKept seats i before → HasOther (map entry_of J) seats named
    other_next seats before named next kept = record {
      place = next.place;
      seat = next.seat;
      here = next.here;
      number = next.other.number;
      other = not_kept next.seat.number J next.seat.own i (get_or before next.place 0) x within is next.other.mine next.other.other
          (kept_here seats i before next.place next.seat next.here kept);
    }
      where
        kept_here : (seats : List SeatState) (i : ℕ) (found : List ℕ) (k : ℕ) (seat : SeatState) → slice_get seats k ≡ Some seat
            → AreKept seats i found → IsKept seat.number J seat.own i (get_or found k 0)
        kept_here seats i found k seat here kept =
            subst (λ (s : SeatState). IsKept s.number J s.own i (get_or found k 0)) (get_or_from_slice_get seats k seat seat here)
            (kept k seat (slice_get_within seats k seat here))

  module _ (i : ℕ) (low : length J ≤ i) (high : i ≤ length J) (seats : List SeatState) (found : List ℕ) (kept : AreKept seats i found) where
    -- all entries were read
    pub ended : HaveEnded seats found → AllByRecursion (IsKeptIn (map entry_of J)) seats
    ended ends =
        all_places (IsKeptIn (map entry_of J)) seats
        (λ k d inside. kept_all (get_or seats k d).number J (get_or seats k d).own i (get_or found k 0) low high (kept k d inside)
        (sym (ends k d inside)))

    pub has_more : (named : ℕ) → HasMore seats found named → HasOther (map entry_of J) seats named
    has_more named more = record {
      place = more.place;
      seat = more.seat;
      here = more.here;
      number = more.number;
      other = λ same. more.more (sym (all_kept more.seat.number J more.seat.own i (get_or found more.place 0) low high here same));
    }
      where
        here : IsKept more.seat.number J more.seat.own i (get_or found more.place 0)
        here =
            subst (λ (s : SeatState). IsKept s.number J s.own i (get_or found more.place 0))
            (get_or_from_slice_get seats more.place more.seat more.seat more.here)
            (kept more.place more.seat (slice_get_within seats more.place more.seat more.here))

-- some of the seats, and the others
all_both : {X : Type 0} (P : X → Type 0) (n : ℕ) (xs : List X) → AllByRecursion P (take n xs) → AllByRecursion P (drop n xs)
    → AllByRecursion P xs
all_both P zero xs few others = others
all_both P (suc n) [] few others = tt
all_both P (suc n) (x ∷ xs) few others = (few.0, all_both P n xs few.1 others)

pub both_kept : (J : Journal) (n : ℕ) (seats : List SeatState) → AllByRecursion (IsKeptIn J) (take n seats)
    → AllByRecursion (IsKeptIn J) (drop n seats) → AllByRecursion (IsKeptIn J) seats
both_kept J n seats few others = all_both (IsKeptIn J) n seats few others

pub among_few : (J : Journal) (n : ℕ) (seats : List SeatState) (named : ℕ) → HasOther J (take n seats) named → HasOther J seats named
among_few J n seats named has = record {
  place = has.place;
  seat = has.seat;
  here = prefix n seats has.place has.seat has.here;
  number = has.number;
  other = has.other;
}
  where
    prefix : (n : ℕ) (xs : List SeatState) (k : ℕ) (x : SeatState) → slice_get (take n xs) k ≡ Some x → slice_get xs k ≡ Some x
    prefix (suc n) [] k x at = at
    prefix zero ys k x at = absurd (omega (arith, slice_get_within {A = SeatState} [] k x at))
    prefix (suc n) (y ∷ ys) zero x at = at
    prefix (suc n) (y ∷ ys) (suc k) x at = prefix n ys k x at

pub among_others : (J : Journal) (n : ℕ) (seats : List SeatState) (named : ℕ) → HasOther J (drop n seats) named → HasOther J seats named
among_others J n seats named has = record {
  place = n + has.place;
  seat = has.seat;
  here = back n seats has.place has.seat has.here;
  number = has.number;
  other = has.other;
}
  where
    back : (n : ℕ) (xs : List SeatState) (k : ℕ) (x : SeatState) → slice_get (drop n xs) k ≡ Some x → slice_get xs (n + k) ≡ Some x
    back zero xs k x at = rw zero-add at
    back (suc n) [] k x at = absurd (omega (arith, slice_get_within {A = SeatState} [] k x at))
    back (suc n) (y ∷ ys) k x at = rw suc-add (back n ys k x at)
