-- The clock of an event has the events of its past. By induction over the undos that take all events back, from the last one on, each event
-- has a closed set that has it, and only events of its past. The clock, as the least closed set with the event, is within it.
use Rattle.std.proofs.Common.{◌≡◌, ◌≢◌, inl, inr, ⊎_elim, ℕ, suc, ◌+◌, ◌-◌, ◌<◌, ◌≤◌, true, false, List, [], ◌∷◌, length}
use Rattle.std.proofs.Common.{take, replicate, max, Option, Some, None, get_or, set, sym, ap, ◌∙◌, subst, arith, count_by, refl, append-nil}
use Rattle.std.proofs.lemmas.Bool.{cases_eq, cases_lt, eqb-true, eq-eqb}
use Rattle.std.proofs.lemmas.List.{get_or-set_same, get_or-set_other, length-set, length-take-le, take_at, length-append}
use Rattle.std.proofs.lemmas.List.Sums.{count_by_more_yes}
use Rattle.dbg_base.specs.Trees.{Program, command_of}
use Rattle.dbg_base.specs.Histories.{History, IsPossible}
use Rattle.dbg_base.specs.Orders.{Event, choices_of, source_in}
use Rattle.dbg_base.specs.Counts.{is_process, sends_to, receives_from, got}
use Rattle.dbg_base.specs.Cuts.{IsConsistent}
use Rattle.dbg_base.specs.Clocks.{IsClock}
use Rattle.dbg_base.specs.Reversal.{without_back, without_last, IsPermitted, after_undos}
use Rattle.dbg_base.specs.Reference.{line, IsMessage, HappenedBefore, Earlier, ByMessage, Through, IsInPast, IsClosed}
use Rattle.dbg_base.proofs.CountLemmas.{count_grows}
use Rattle.dbg_base.proofs.EliminationLemmas.{none_at}
use Rattle.dbg_laws.proofs.OrderSwapLemmas.{length-choices_of}
use Rattle.dbg_laws.proofs.UndoLemmas.{within_by}
use Rattle.dbg_laws.proofs.ConsistentCutLemmas.{line_at}
use Rattle.dbg_laws.proofs.CutLatticeLemmas.{paired_size, greater, greater_at}
use Rattle.dbg_laws.proofs.UndoneCutLemmas.{IsPrefix, prefix_without, prefix_both, gets_few, undos_to, nothing_consistent}
use Rattle.dbg_laws.proofs.ClosedSetLemmas.{Found, found, closed_under, closed, consistent}

-- a receive has one source
source_once : (o : Option ℕ) (i s : ℕ) → is_process i o ≡ true → is_process s o ≡ true → i ≡ s
source_once None i s is too = cc
source_once (Some q) i s is too = sym (eqb-true q i is) ∙ eqb-true q s too

module _ (P : Program) (E : List Event) where
  abbrev H : History
  H = choices_of (length P) E

  -- event m of q is in the past of one of the first n events of p
  abbrev pub IsKnown : ℕ → ℕ → ℕ → ℕ → Type 0
  IsKnown q m p n = (k : ℕ) × (k < n) × IsInPast P E q m p k

  -- a closed set with the first n events of p, which has only events of their past
  pub record Past (p n : ℕ) : Type 0 where
    pub cut : List ℕ
    pub is : IsClosed P E cut
    pub reaches : n ≤ get_or cut p 0
    pub only : (q m : ℕ) → m < get_or cut q 0 → IsKnown q m p n

  known_more : (q m p n : ℕ) → IsKnown q m p n → IsKnown q m p (suc n)
  known_more q m p n known = let less = known.1 in (known.0, omega (arith, less), known.2)

  -- what is in the past of an event is in the past of each event after it
  past_through : (q m i n j o : ℕ) → IsInPast P E q m i n → HappenedBefore P E i n j o → IsInPast P E q m j o
  past_through q m i n j o (inl before) next = inl (Through before next)
  past_through q m i n j o (inr same) next =
      inl (subst (λ (x : ℕ). HappenedBefore P E x m j o) (sym same.0)
      (subst (λ (x : ℕ). HappenedBefore P E i x j o) (sym same.1) next))

  -- the past of the last of some events is the past of these
  known_last : (q m p n : ℕ) → n < length (line P E p) → IsKnown q m p (suc n) → IsInPast P E q m p n
  known_last q m p n there known =
      let less = known.1 in
      ⊎_elim
      (λ (earlier : known.0 < n). past_through q m p known.0 p n known.2 (Earlier earlier there))
      (λ (last : n ≤ known.0).
      let same : known.0 ≡ n = omega (arith, less, last) in
      subst (λ (k : ℕ). IsInPast P E q m p k) same known.2)
      (cases_lt known.0 n)

  -- no event
  nothing : (p n : ℕ) → n ≤ 0 → Past p n
  nothing p n none = record {
    cut = replicate (length H) 0;
    is = closed P E (replicate (length H) 0) (nothing_consistent P H);
    reaches = omega (arith, none);
    only = λ q m less. absurd (let zero_there = none_at (length H) q in omega (arith, zero_there, less));
  }

  -- two closed sets together are closed
  both_closed : (u v : List ℕ) → IsClosed P E u → IsClosed P E v → IsClosed P E (greater u v)
  both_closed u v one other = record {
    sizes = paired_size max u v (one.sizes ∙ sym other.sizes) ∙ one.sizes;
    within = λ p. (let a = one.within p in let b = other.within p in let e = greater_at u v p (one.sizes ∙ sym other.sizes) in omega (arith, a, b, e));
    closed = λ i m j n before inside.
        let ei = greater_at u v i (one.sizes ∙ sym other.sizes) in
        let ej = greater_at u v j (one.sizes ∙ sym other.sizes) in
        ⊎_elim
        (λ (here : n < get_or u j 0). let a = one.closed i m j n before here in omega (arith, a, ei))
        (λ (past : get_or u j 0 ≤ n). let a = other.closed i m j n before (omega (arith, ej, inside, past)) in omega (arith, a, ei))
        (cases_lt n (get_or u j 0));
  }

  -- One more event of p: its message is in the set.
  module _ (p n : ℕ) (there : n < length (line P E p)) (u : List ℕ) (is : IsClosed P E u) (next : get_or u p 0 ≡ n)
      (message : (i m : ℕ) → IsMessage P E i m p n → m < get_or u i 0) where
    abbrev more : List ℕ
    more = set u p (suc n)

    p_there : p < length u
    p_there =
        let here = within_by H p (omega (arith, there)) in
        let size = is.sizes in
        let size_H = length-choices_of (length P) E in
        omega (arith, here, size, size_H)

    own : get_or more p 0 ≡ suc n
    own = get_or-set_same u p (suc n) 0 p_there

    other : (q : ℕ) → q ≢ p → get_or more q 0 ≡ get_or u q 0
    other q apart = get_or-set_other u p q (suc n) 0 apart

    no_less : (q : ℕ) → get_or u q 0 ≤ get_or more q 0
    no_less q =
        ⊎_elim
        (λ (same : q ≡ p). subst (λ (x : ℕ). get_or u x 0 ≤ get_or more x 0) (sym same) (let e = own in omega (arith, e, next)))
        (λ (apart : q ≢ p). let e = other q apart in omega (arith, e))
        (cases_eq q p)

    messages_in : (i m j o : ℕ) → IsMessage P E i m j o → o < get_or more j 0 → m < get_or more i 0
    messages_in i m j o x inside =
        let grows = no_less i in
        let old = λ (here : o < get_or u j 0). (let a = is.closed i m j o (ByMessage x) here in let r : m < get_or more i 0 = omega (arith, a, grows) in r) in
        ⊎_elim
        (λ (same : j ≡ p).
        let inside_p : o < get_or more p 0 = subst (λ (y : ℕ). o < get_or more y 0) same inside in
        let e = own in
        ⊎_elim
        (λ (new : o ≡ n).
        let x_p : IsMessage P E i m p n =
        subst (λ (y : ℕ). IsMessage P E i m p y) new (subst (λ (y : ℕ). IsMessage P E i m y o) same x) in
        let a = message i m x_p in omega (arith, a, grows))
        (λ (differ : o ≢ n).
        ⊎_elim
        (λ (less : o < n). old (subst (λ (y : ℕ). o < get_or u y 0) (sym same) (omega (arith, less, next))))
        (λ (le : n ≤ o). let new : o ≡ n = omega (arith, le, inside_p, e) in absurd (differ new))
        (cases_lt o n))
        (cases_eq o n))
        (λ (apart : j ≢ p). let e = other j apart in old (omega (arith, e, inside)))
        (cases_eq j p)

    more_closed : IsClosed P E more
    more_closed = record {
      sizes = length-set u p (suc n) ∙ is.sizes;
      within = λ q. ⊎_elim
          (λ (same : q ≡ p). subst (λ (x : ℕ). get_or more x 0 ≤ length (line P E x)) (sym same) (let e = own in omega (arith, e, there)))
          (λ (apart : q ≢ p). (let e = other q apart in let w = is.within q in omega (arith, e, w)))
          (cases_eq q p);
      closed = closed_under P E more messages_in;
    }

    grown : ((q m : ℕ) → m < get_or u q 0 → IsKnown q m p (suc n)) → Past p (suc n)
    grown only = record {
      cut = more;
      is = more_closed;
      reaches = let e = own in omega (arith, e);
      only = λ q m less. ⊎_elim
          (λ (same : q ≡ p).
          let less_p : m < get_or more p 0 = subst (λ (x : ℕ). m < get_or more x 0) same less in
          let e = own in
          ⊎_elim
          (λ (old : m < n). only q m (subst (λ (x : ℕ). m < get_or u x 0) (sym same) (omega (arith, old, next))))
          (λ (last : n ≤ m). (n, omega arith, inr (same, omega (arith, last, less_p, e))))
          (cases_lt m n))
          (λ (apart : q ≢ p). (let e = other q apart in only q m (omega (arith, e, less))))
          (cases_eq q p);
    }

  -- the set may have the event already
  add : (p n : ℕ) → n < length (line P E p) → (u : List ℕ) → IsClosed P E u → n ≤ get_or u p 0
      → ((i m : ℕ) → IsMessage P E i m p n → m < get_or u i 0) → ((q m : ℕ) → m < get_or u q 0 → IsKnown q m p (suc n)) → Past p (suc n)
  add p n there u is enough message only =
      ⊎_elim
      (λ (has : n < get_or u p 0). record { cut = u; is = is; reaches = omega (arith, has); only = only })
      (λ (few : get_or u p 0 ≤ n). grown p n there u is (omega (arith, enough, few)) message only)
      (cases_lt n (get_or u p 0))

  -- The newest event of a possible prefix F of the history. B is F without it.
  module _ (F B : History) (p n : ℕ) (possible : IsPossible P F) (prefix : IsPrefix H F) (size : length (get_or F p []) ≡ suc n)
      (others : (q : ℕ) → q ≢ p → get_or F q [] ≡ get_or B q [])
      (earlier : (q k : ℕ) → k ≤ length (get_or B q []) → Past q k) (before : n ≤ length (get_or B p [])) where
    -- a line of F is the first part of the line of E
    line_of : (q : ℕ) → take (length (get_or F q [])) (line P E q) ≡ get_or F q []
    line_of q =
        let l = prefix.lines q in
        ap (λ (x : List ℕ). take (length (get_or F q [])) x) l.1 ∙ take_at (get_or F q []) l.0 (length (get_or F q [])) refl

    within : (q : ℕ) → length (get_or F q []) ≤ length (line P E q)
    within q =
        let l = prefix.lines q in
        let e = ap (λ (x : List ℕ). length x) l.1 in
        let s = length-append (get_or F q []) l.0 in
        omega (arith, e, s)

    there : n < length (line P E p)
    there = let w = within p in omega (arith, w, size)

    -- it receives the message of an event of s
    module _ (s : ℕ) (apart : s ≢ p) (receives : receives_from P p s (get_or (line P E p) n 0) ≡ true) where
      sent_by : Found (sends_to P s p) (line P E s) (got P H p s n) (length (get_or F s []))
      sent_by =
          let few = gets_few P F s p possible in
          let more = count_by_more_yes (receives_from P p s) (line P E p) n 0 there receives in
          let same : suc n ≡ n + 1 = omega arith in
          let gets = ap (λ (l : List ℕ). count_by (receives_from P p s) l)
          (sym (line_of p) ∙ ap (λ (k : ℕ). take k (line P E p)) (size ∙ same)) in
          let sends = ap (λ (l : List ℕ). count_by (sends_to P s p) l) (line_of s) in
          found (sends_to P s p) (line P E s) (got P H p s n) (length (get_or F s [])) (within s) (omega (arith, few, more, gets, sends))

      with_message : Past p (suc n)
      with_message =
          let f = sent_by in
          let f_below = f.below in
          let f_before = f.before in
          let within_s = within s in
          let size_s = ap (λ (l : List ℕ). length l) (others s apart) in
          let one = earlier p n before in
          let two = earlier s (suc f.at) (omega (arith, f_below, size_s)) in
          let u = greater one.cut two.cut in
          let sizes : length one.cut ≡ length two.cut = one.is.sizes ∙ sym two.is.sizes in
          let one_reaches = one.reaches in
          let two_reaches = two.reaches in
          let at_p = greater_at one.cut two.cut p sizes in
          let x : IsMessage P E s f.at p n = record {
            apart = apart;
            sent = omega (arith, f_below, within_s);
            sends = f.passes;
            received = there;
            receives = receives;
            same = f.before;
          } in
          add p n there u (both_closed one.cut two.cut one.is two.is) (omega (arith, at_p, one_reaches))
          (λ i m y.
          let i_is : i ≡ s =
          source_once (source_in (command_of P p (get_or (line P E p) n 0))) i s y.receives receives in
          let y_s : IsMessage P E s m p n = subst (λ (z : ℕ). IsMessage P E z m p n) i_is y in
          subst (λ (z : ℕ). m < get_or u z 0) (sym i_is)
          (let at_s = greater_at one.cut two.cut s sizes in
          let y_same = y_s.same in
          let next = count_by_more_yes (sends_to P s p) (line P E s) f.at 0 x.sent f.passes in
          ⊎_elim
          (λ (first : f.at < m).
          let grows = count_grows (sends_to P s p) (line P E s) (f.at + 1) m (omega (arith, first)) in
          absurd (omega (arith, next, grows, y_same, f_before)))
          (λ (le : m ≤ f.at). omega (arith, le, at_s, two_reaches))
          (cases_lt f.at m)))
          (λ q m less.
          let at_q = greater_at one.cut two.cut q sizes in
          ⊎_elim
          (λ (here : m < get_or one.cut q 0). known_more q m p n (one.only q m here))
          (λ (past : get_or one.cut q 0 ≤ m).
          let k = two.only q m (omega (arith, at_q, less, past)) in
          (n, omega arith, past_through q m s f.at p n (known_last q m s f.at x.sent k) (ByMessage x)))
          (cases_lt m (get_or one.cut q 0)))

    -- it receives no message of another process
    without_message : ((i m : ℕ) → IsMessage P E i m p n → ⊥) → Past p (suc n)
    without_message none =
        let one = earlier p n before in
        add p n there one.cut one.is one.reaches (λ i m x. absurd (none i m x)) (λ q m less. known_more q m p n (one.only q m less))

    newest_by : (o : Option ℕ) → source_in (command_of P p (get_or (line P E p) n 0)) ≡ o → Past p (suc n)
    newest_by None e =
        without_message
        (λ i m x. let r = x.receives in let none : is_process i (source_in (command_of P p (get_or (line P E p) n 0))) ≡ false = ap (is_process i) e in cc)
    newest_by (Some s) e =
        let from_s : is_process s (source_in (command_of P p (get_or (line P E p) n 0))) ≡ true =
        ap (is_process s) e ∙ eq-eqb s s refl in
        ⊎_elim
        (λ (own : s ≡ p).
        without_message
        (λ i m x. x.apart (source_once (source_in (command_of P p (get_or (line P E p) n 0))) i s x.receives from_s ∙ own)))
        (λ (apart : s ≢ p). with_message s apart from_s)
        (cases_eq s p)

    newest : Past p (suc n)
    newest = newest_by (source_in (command_of P p (get_or (line P E p) n 0))) refl

  -- all events, by the undos that take them back
  pasts_of : (F : History) (undos : List ℕ) → IsPossible P F → IsPrefix H F → IsPermitted P F undos
      → ((q : ℕ) → get_or (after_undos F undos) q [] ≡ []) → (p n : ℕ) → n ≤ length (get_or F p []) → Past p n
  pasts_of F [] possible prefix permitted none p n few =
      nothing p n (let e = ap (λ (l : List ℕ). length l) (none p) in omega (arith, e, few))
  pasts_of F (q ∷ undos) possible prefix permitted none p n few =
      let may = permitted.0 in
      let B : History = without_last F q in
      let earlier = pasts_of B undos may.rest (prefix_both H F B prefix (prefix_without F q may.some)) permitted.1 none in
      ⊎_elim
      (λ (new : length (get_or B p []) < n).
      ⊎_elim
      (λ (same : p ≡ q).
      let some = may.some in
      let size_B : length (get_or B q []) ≡ length (get_or F q []) - 1 =
      ap (λ (l : List ℕ). length l) (get_or-set_same F q (without_back (get_or F q [])) [] (within_by F q some))
      ∙ length-take-le (length (get_or F q []) - 1) (get_or F q []) (omega arith) in
      let few_q : n ≤ length (get_or F q []) = subst (λ (x : ℕ). n ≤ length (get_or F x [])) same few in
      let new_q : length (get_or B q []) < n = subst (λ (x : ℕ). length (get_or B x []) < n) same new in
      let size_F : length (get_or F q []) ≡ suc (length (get_or B q [])) = omega (arith, size_B, some) in
      let n_is : suc (length (get_or B q [])) ≡ n = omega (arith, few_q, new_q, size_F) in
      subst (λ (x : ℕ). Past x n) (sym same)
      (subst (λ (k : ℕ). Past q k) n_is
      (newest F B q (length (get_or B q [])) possible prefix size_F
      (λ r apart. sym (get_or-set_other F q r (without_back (get_or F q [])) [] apart)) earlier (omega arith))))
      (λ (apart : p ≢ q).
      let e = ap (λ (l : List ℕ). length l) (get_or-set_other F q p (without_back (get_or F q [])) [] apart) in
      absurd (omega (arith, e, new, few)))
      (cases_eq p q))
      (λ (old : n ≤ length (get_or B p [])). earlier p n old)
      (cases_lt (length (get_or B p [])) n)

  pub pasts : IsPossible P H → (p n : ℕ) → n ≤ length (line P E p) → Past p n
  pasts all =
      let zeros = replicate (length H) 0 in
      let led = undos_to P H zeros all (nothing_consistent P H) in
      pasts_of H led.undos all (record { size = refl; lines = λ q. ([], sym (append-nil (get_or H q []))) }) led.permitted
      (λ q. ap (λ (X : History). get_or X q []) led.leads ∙ line_at H zeros q
      ∙ ap (λ (m : ℕ). take m (get_or H q [])) (none_at (length H) q))

  -- the clock of p after n events has the events of their past, and no other
  pub clock_knows_all : IsPossible P H → (p n : ℕ) (cut : List ℕ) → n ≤ length (line P E p) → IsClock P H p n cut → (q m : ℕ)
      → m < get_or cut q 0 → IsKnown q m p n
  clock_knows_all all p n cut there clock q m less =
      let past = pasts all p n there in
      let least = clock.least past.cut (consistent P E all past.cut past.is) past.reaches q in
      past.only q m (omega (arith, least, less))

  pub clock_has_all : (p n : ℕ) (cut : List ℕ) → IsClock P H p n cut → (q m : ℕ) → IsKnown q m p n → m < get_or cut q 0
  clock_has_all p n cut clock q m (k, below, inl before) =
      let reaches = clock.reaches in (closed P E cut clock.consistent).closed q m p k before (omega (arith, reaches, below))
  clock_has_all p n cut clock q m (k, below, inr same) =
      let reaches = clock.reaches in
      subst (λ (x : ℕ). m < get_or cut x 0) (sym same.0) (let e = same.1 in omega (arith, e, reaches, below))

  -- the clock of event n of p has the events of its past, and no other
  pub clock_knows : IsPossible P H → (p n : ℕ) (cut : List ℕ) → n < length (line P E p) → IsClock P H p (suc n) cut → (q m : ℕ)
      → m < get_or cut q 0 → IsInPast P E q m p n
  clock_knows all p n cut there clock q m less =
      known_last q m p n there (clock_knows_all all p (suc n) cut (omega (arith, there)) clock q m less)

  pub clock_has : (p n : ℕ) (cut : List ℕ) → IsClock P H p (suc n) cut → (q m : ℕ) → IsInPast P E q m p n → m < get_or cut q 0
  clock_has p n cut clock q m past = clock_has_all p (suc n) cut clock q m (n, omega arith, past)

  -- and there is one
  pub clock_there : IsPossible P H → (p n : ℕ) → n ≤ length (line P E p) → (cut : List ℕ) × IsClock P H p n cut
  clock_there all p n there =
      let past = pasts all p n there in (
        past.cut,
        record {
          consistent = consistent P E all past.cut past.is;
          reaches = past.reaches;
          least = λ other is enough q.
              ⊎_elim
              (λ (more : get_or other q 0 < get_or past.cut q 0).
              let known = past.only q (get_or other q 0) more in
              let inside : known.0 < get_or other p 0 = (let a = known.1 in omega (arith, a, enough)) in
              absurd (in_other other is q p known.0 inside known.2))
              (λ (most : get_or past.cut q 0 ≤ get_or other q 0). most)
              (cases_lt (get_or other q 0) (get_or past.cut q 0));
        },
      )
    where
      in_other : (other : List ℕ) → IsConsistent P H other → (q p k : ℕ) → k < get_or other p 0
          → IsInPast P E q (get_or other q 0) p k → ⊥
      in_other other is q p k inside (inl before) =
          let less = (closed P E other is).closed q (get_or other q 0) p k before inside in omega (arith, less)
      in_other other is q p k inside (inr same) =
          let e = ap (λ (x : ℕ). get_or other x 0) same.0 in
          let f = same.1 in
          omega (arith, e, f, inside)
