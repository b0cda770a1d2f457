-- The closed sets of events are the consistent cuts: what happened-before says by messages, consistency says by counts.
use Rattle.std.proofs.Common.{◌≡◌, ◌≢◌, ⊎_elim, ℕ, zero, suc, ◌+◌, ◌<◌, ◌≤◌, Bool, true, false, List, length, take}
use Rattle.std.proofs.Common.{get_or, sym, ap, ◌∙◌, subst, arith, count_by, refl}
use Rattle.std.proofs.lemmas.Bool.{cases_lt}
use Rattle.std.proofs.lemmas.List.{take_all}
use Rattle.std.proofs.lemmas.List.Sums.{count_by_more_yes, count_by_more_no}
use Rattle.dbg_base.specs.Trees.{Program}
use Rattle.dbg_base.specs.Histories.{History, IsPossible}
use Rattle.dbg_base.specs.Orders.{Event, choices_of}
use Rattle.dbg_base.specs.Counts.{sends_to, receives_from, sent, got}
use Rattle.dbg_base.specs.Cuts.{IsConsistent}
use Rattle.dbg_base.specs.Reference.{line, IsMessage, HappenedBefore, Earlier, ByMessage, Through, IsClosed}
use Rattle.dbg_base.proofs.CountLemmas.{count_grows}
use Rattle.dbg_laws.proofs.OrderSwapLemmas.{length-choices_of}
use Rattle.dbg_laws.proofs.UndoneCutLemmas.{gets_few}

-- among the first n elements, the one that passes a test after s others that pass
pub record Found (test : ℕ → Bool) (list : List ℕ) (s n : ℕ) : Type 0 where
  pub at : ℕ
  pub below : at < n
  pub passes : test (get_or list at 0) ≡ true
  pub before : count_by test (take at list) ≡ s

found_last : (test : ℕ → Bool) (list : List ℕ) (s n : ℕ) (b : Bool) → test (get_or list n 0) ≡ b → n < length list
    → count_by test (take n list) ≤ s → s < count_by test (take (n + 1) list) → Found test list s (suc n)
found_last test list s n true e within few less =
    let more = count_by_more_yes test list n 0 within e in
    record { at = n; below = omega arith; passes = e; before = omega (arith, more, few, less) }
found_last test list s n false e within few less =
    let more = count_by_more_no test list n 0 within e in
    absurd (omega (arith, more, few, less))

pub found : (test : ℕ → Bool) (list : List ℕ) (s n : ℕ) → n ≤ length list → s < count_by test (take n list) → Found test list s n
found test list s zero within less = absurd (omega (arith, less))
found test list s (suc n) within less =
    let same : suc n ≡ n + 1 = omega arith in
    let less_one : s < count_by test (take (n + 1) list) = subst (λ (m : ℕ). s < count_by test (take m list)) same less in
    ⊎_elim
    (λ (earlier : s < count_by test (take n list)).
    let f = found test list s n (omega arith) earlier in
    let below = f.below in
    record { at = f.at; below = omega (arith, below); passes = f.passes; before = f.before })
    (λ (last : count_by test (take n list) ≤ s). found_last test list s n (test (get_or list n 0)) refl (omega arith) last less_one)
    (cases_lt s (count_by test (take n list)))

-- Some set is closed if it is closed under the messages.
module _ (P : Program) (E : List Event) where
  -- the history of E
  abbrev pub H : History
  H = choices_of (length P) E

  abbrev pub IsClosedUnderMessages : List ℕ → Type 0
  IsClosedUnderMessages cut = (i m j n : ℕ) → IsMessage P E i m j n → n < get_or cut j 0 → m < get_or cut i 0

  pub closed_under : (cut : List ℕ) → IsClosedUnderMessages cut → (i m j n : ℕ) → HappenedBefore P E i m j n → n < get_or cut j 0
      → m < get_or cut i 0
  closed_under cut messages i m j n (Earlier less there) inside = omega (arith, less, inside)
  closed_under cut messages i m j n (ByMessage x) inside = messages i m j n x inside
  closed_under cut messages i m j n (Through {j = k} {n = o} first second) inside =
      closed_under cut messages i m k o first (closed_under cut messages k o j n second inside)

  messages_in : (cut : List ℕ) → IsConsistent P H cut → IsClosedUnderMessages cut
  messages_in cut consistent i m j n x inside =
      let gets = count_by_more_yes (receives_from P j i) (line P E j) n 0 x.received x.receives in
      let more = count_grows (receives_from P j i) (line P E j) (n + 1) (get_or cut j 0) (omega (arith, inside)) in
      let causes = consistent.causes i j x.apart in
      let same = x.same in
      ⊎_elim
      (λ (here : m < get_or cut i 0). here)
      (λ (past : get_or cut i 0 ≤ m).
      let fewer = count_grows (sends_to P i j) (line P E i) (get_or cut i 0) m past in
      absurd (omega (arith, gets, more, causes, same, fewer)))
      (cases_lt m (get_or cut i 0))

  pub closed : (cut : List ℕ) → IsConsistent P H cut → IsClosed P E cut
  closed cut consistent = record {
    sizes = consistent.sizes ∙ length-choices_of (length P) E;
    within = consistent.within;
    closed = closed_under cut (messages_in cut consistent);
  }

  -- a message that is received inside the set and sent beyond it
  beyond : IsPossible P H → (cut : List ℕ) → IsClosed P E cut → (i j : ℕ) → i ≢ j
      → sent P H i j (get_or cut i 0) < got P H j i (get_or cut j 0) → ⊥
  beyond all cut is i j apart less =
      let s : ℕ = sent P H i j (get_or cut i 0) in
      let within_i = is.within i in
      let within_j = is.within j in
      let r = found (receives_from P j i) (line P E j) s (get_or cut j 0) within_j less in
      let few = gets_few P H i j all in
      let most = count_grows (receives_from P j i) (line P E j) (get_or cut j 0) (length (line P E j)) within_j in
      let all_j = ap (λ (l : List ℕ). count_by (receives_from P j i) l) (take_all (length (line P E j)) (line P E j) (omega arith)) in
      let all_i = ap (λ (l : List ℕ). count_by (sends_to P i j) l) (take_all (length (line P E i)) (line P E i) (omega arith)) in
      let f = found (sends_to P i j) (line P E i) s (length (line P E i)) (omega arith) (omega (arith, less, few, most, all_j, all_i)) in
      let r_below = r.below in
      let f_below = f.below in
      let r_before = r.before in
      let f_before = f.before in
      let inside = is.closed i f.at j r.at
      (ByMessage (record {
        apart = apart;
        sent = f.below;
        sends = f.passes;
        received = omega (arith, r_below, within_j);
        receives = r.passes;
        same = f.before ∙ sym r.before;
      })) r.below in
      let next = count_by_more_yes (sends_to P i j) (line P E i) f.at 0 f.below f.passes in
      let grows = count_grows (sends_to P i j) (line P E i) (f.at + 1) (get_or cut i 0) (omega (arith, inside)) in
      omega (arith, next, grows, f_before)

  pub consistent : IsPossible P H → (cut : List ℕ) → IsClosed P E cut → IsConsistent P H cut
  consistent all cut is = record {
    sizes = is.sizes ∙ sym (length-choices_of (length P) E);
    within = is.within;
    causes = λ i j apart. ⊎_elim
        (λ (less : sent P H i j (get_or cut i 0) < got P H j i (get_or cut j 0)). absurd (beyond all cut is i j apart less))
        (λ (few : got P H j i (get_or cut j 0) ≤ sent P H i j (get_or cut i 0)). few)
        (cases_lt (sent P H i j (get_or cut i 0)) (got P H j i (get_or cut j 0)));
  }
