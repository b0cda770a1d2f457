-- The last event of a process can be undone exactly if no event happened after it.
use Rattle.std.proofs.Common.{◌≡◌, ◌≢◌, ◌⊎◌, inl, inr, ⊎_elim, ℕ, suc, ◌-◌, ◌<◌, ◌≤◌, List, [], length, get_or, sym, ap, ◌∙◌}
use Rattle.std.proofs.Common.{subst, arith}
use Rattle.std.proofs.lemmas.Bool.{cases_eq, cases_lt}
use Rattle.std.proofs.lemmas.List.{get_or-set_same, get_or-set_other, length-take-le, length-map}
use Rattle.dbg_base.specs.Trees.{Program}
use Rattle.dbg_base.specs.Histories.{History, IsPossible}
use Rattle.dbg_base.specs.Orders.{Event, choices_of}
use Rattle.dbg_base.specs.Reversal.{without_back, without_last, MayUndo}
use Rattle.dbg_base.specs.Reference.{line, IsMessage, HappenedBefore, Earlier, ByMessage, Through, IsClosed, IsMaximal}
use Rattle.dbg_laws.proofs.OrderSwapLemmas.{length-choices_of}
use Rattle.dbg_laws.proofs.UndoLemmas.{within_by}
use Rattle.dbg_laws.proofs.ConsistentCutLemmas.{cut_possible}
use Rattle.dbg_laws.proofs.UndoneCutLemmas.{cut_of, count_at, prefix_without, prefix_is_cut, prefix_consistent}
use Rattle.dbg_laws.proofs.ClosedSetLemmas.{closed_under, closed, consistent}

-- what happened before another event is an earlier event of its process, or sent a message that was received
pub first_step : (P : Program) (E : List Event) (i m j n : ℕ) → HappenedBefore P E i m j n
    → (suc m < length (line P E i)) ⊎ ((k o : ℕ) × IsMessage P E i m k o)
first_step P E i m j n (Earlier less there) = inl (omega (arith, less, there))
first_step P E i m j n (ByMessage x) = inr (j, n, x)
first_step P E i m j n (Through {j = k} {n = o} first second) = first_step P E i m k o first

module _ (P : Program) (E : List Event) (p : ℕ) where
  abbrev H : History
  H = choices_of (length P) E

  -- no event happened after the last one of p
  abbrev pub NoneAfter : Type 0
  NoneAfter = (j n : ℕ) → ¬ HappenedBefore P E p (length (line P E p) - 1) j n

  abbrev B : History
  B = without_last H p

  module _ (some : 0 < length (line P E p)) where
    -- the counts without the last event of p
    count_own : get_or (cut_of B) p 0 ≡ length (line P E p) - 1
    count_own =
        count_at B p
        ∙ ap (λ (l : List ℕ). length l) (get_or-set_same H p (without_back (line P E p)) [] (within_by H p some))
        ∙ length-take-le (length (line P E p) - 1) (line P E p) (omega arith)

    count_other : (q : ℕ) → q ≢ p → get_or (cut_of B) q 0 ≡ length (line P E q)
    count_other q apart =
        count_at B q ∙ ap (λ (l : List ℕ). length l) (get_or-set_other H p q (without_back (line P E p)) [] apart)

    none_after : IsPossible P B → NoneAfter
    none_after rest j n before =
        ⊎_elim
        (λ (more : suc (length (line P E p) - 1) < length (line P E p)). omega (arith, more))
        (λ (sends : (k o : ℕ) × IsMessage P E p (length (line P E p) - 1) k o).
        let k : ℕ = sends.0 in
        let o : ℕ = sends.1 in
        let x = sends.2 in
        let is = closed P E (cut_of B) (prefix_consistent P H B rest (prefix_without H p some)) in
        let there = count_other k (λ (e : k ≡ p). x.apart (sym e)) in
        let received = x.received in
        let inside = is.closed p (length (line P E p) - 1) k o (ByMessage x) (omega (arith, there, received)) in
        omega (arith, inside, count_own))
        (first_step P E p (length (line P E p) - 1) j n before)

    messages_in : NoneAfter → (i m j n : ℕ) → IsMessage P E i m j n → n < get_or (cut_of B) j 0 → m < get_or (cut_of B) i 0
    messages_in none i m j n x inside =
        let sent = x.sent in
        ⊎_elim
        (λ (own : i ≡ p).
        ⊎_elim
        (λ (same : m ≡ length (line P E p) - 1).
        absurd (none j n (subst (λ (o : ℕ). HappenedBefore P E p o j n) same
        (subst (λ (q : ℕ). HappenedBefore P E q m j n) own (ByMessage x)))))
        (λ (differ : m ≢ length (line P E p) - 1).
        let sent_there : m < length (line P E p) = subst (λ (q : ℕ). m < length (line P E q)) own sent in
        let count = count_own in
        let less : m < length (line P E p) - 1 =
        ⊎_elim (λ (l : m < length (line P E p) - 1). l)
        (λ (l : length (line P E p) - 1 ≤ m). let e : m ≡ length (line P E p) - 1 = omega (arith, l, sent_there) in absurd (differ e))
        (cases_lt m (length (line P E p) - 1)) in
        subst (λ (q : ℕ). m < get_or (cut_of B) q 0) (sym own) (omega (arith, less, count)))
        (cases_eq m (length (line P E p) - 1)))
        (λ (other : i ≢ p). let count = count_other i other in omega (arith, count, sent))
        (cases_eq i p)

    pub possible_without : IsPossible P H → NoneAfter → IsPossible P B
    possible_without all none =
        let prefix = prefix_without H p some in
        let size = prefix.size in
        let is : IsClosed P E (cut_of B) = record {
          sizes = sizes;
          within = within;
          closed = closed_under P E (cut_of B) (messages_in none);
        } in
        subst (λ (X : History). IsPossible P X) (sym (prefix_is_cut H B prefix))
        (cut_possible P H (cut_of B) all (consistent P E all (cut_of B) is))
      where
        sizes : length (cut_of B) ≡ length P
        sizes = length-map B (λ (l : List ℕ). length l) ∙ (prefix_without H p some).size ∙ length-choices_of (length P) E

        within : (q : ℕ) → get_or (cut_of B) q 0 ≤ length (line P E q)
        within q =
            ⊎_elim
            (λ (own : q ≡ p). subst (λ (x : ℕ). get_or (cut_of B) x 0 ≤ length (line P E x)) (sym own)
            (let count = count_own in omega (arith, count)))
            (λ (other : q ≢ p). let count = count_other q other in omega (arith, count))
            (cases_eq q p)

  pub may_undo : IsPossible P H → MayUndo P H p → IsMaximal P E p
  may_undo all may = record { some = may.some; none_after = none_after may.some may.rest }

  pub undoable : IsPossible P H → IsMaximal P E p → MayUndo P H p
  undoable all is = record { some = is.some; rest = possible_without is.some all is.none_after }
