-- A seat's recorded calls, compared with the journal's calls of it, entry by entry.
use Rattle.std.proofs.Common.{◌≡◌, ℕ, ◌+◌, ◌<◌, ◌≤◌, Bool, true, false, List, [], ◌∷◌, length, map, get_or, Some, sym, ap, ◌∙◌, subst, arith}
use Rattle.std.specs.Prelude.{◌≢◌, ◌==◌, slice_get, if◌then◌else◌}
use Rattle.std.proofs.lemmas.List.{length-map}
use Rattle.std.proofs.lemmas.Bool.Decides.{nat_tests}
use Rattle.std.proofs.Math.ListN.{get_or-map}
use Rattle.dbg_desk.specs.declared.entry.Entry as entry
use Rattle.dbg_desk.specs.Desks.{RecordedCall, entry_of}
use Rattle.dbg_desk.specs.Settling.{own_at, own_in, as_own}
use Rattle.dbg_desk.proofs.CallMatchLemmas.{IsMatched, matched_on, matched_more, unmatched, matched_all, all_matched}

module _ (number : ℕ) (journal : List entry.Entry) (own : List RecordedCall) where
  abbrev pub IsKept : ℕ → ℕ → Type 0
  IsKept i found = IsMatched (own_at number) (map entry_of journal) own i found

  module _ (i found : ℕ) (x : entry.Entry) (within : i < length journal) (is : x ≡ get_or journal i x) where
    within_all : i < length (map entry_of journal)
    within_all = let size = length-map journal entry_of in omega (arith, within, size)

    is_mapped : entry_of x ≡ get_or (map entry_of journal) i (entry_of x)
    is_mapped = ap entry_of is ∙ sym (get_or-map entry_of journal i x)

    mine : x.seat ≡ number → own_at number (entry_of x) ≡ as_own (entry_of x) ∷ []
    mine e =
        let here : (x.seat == number) ≡ true = grind (arith, nat_tests) in
        ap (λ (b : Bool). if b then as_own (entry_of x) ∷ [] else []) here

    other : x.seat ≢ number → own_at number (entry_of x) ≡ []
    other e =
        let there : (x.seat == number) ≡ false = grind (arith, nat_tests) in
        ap (λ (b : Bool). if b then as_own (entry_of x) ∷ [] else []) there

    -- a call of another seat
    pub kept_on : x.seat ≢ number → IsKept i found → IsKept (i + 1) found
    kept_on e m = matched_on (own_at number) (map entry_of journal) own i found (entry_of x) within_all is_mapped (other e) m

    -- the next recorded call of the seat
    pub kept_more : x.seat ≡ number → slice_get own found ≡ Some (as_own (entry_of x)) → IsKept i found → IsKept (i + 1) (found + 1)
    kept_more e at m =
        matched_more (own_at number) (map entry_of journal) own i found (entry_of x) (as_own (entry_of x)) within_all is_mapped (mine e) at m

    -- not the next recorded call of the seat
    pub not_kept : x.seat ≡ number → (slice_get own found ≡ Some (as_own (entry_of x)) → ⊥) → IsKept i found
        → own ≡ own_in (map entry_of journal) number → ⊥
    not_kept e at m =
        unmatched (own_at number) (map entry_of journal) own i found (entry_of x) (as_own (entry_of x)) within_all is_mapped (mine e) at m

  module _ (i found : ℕ) (low : length journal ≤ i) (high : i ≤ length journal) (m : IsKept i found) where
    whole : IsKept (length (map entry_of journal)) found
    whole = subst (λ (n : ℕ). IsKept n found) (let size = length-map journal entry_of in omega (arith, low, high, size)) m

    pub kept_all : found ≡ length own → own ≡ own_in (map entry_of journal) number
    kept_all many = matched_all (own_at number) (map entry_of journal) own found whole many

    pub all_kept : own ≡ own_in (map entry_of journal) number → found ≡ length own
    all_kept same = all_matched (own_at number) (map entry_of journal) own found whole same
