-- Permitted undos reach exactly the consistent cuts. A legal list of the events beyond a cut, undone from its last event on, leads to the
-- cut. So the own component of a clock is the number of its event.
use Rattle.std.proofs.Common.{◌≡◌, ◌≢◌, ℕ, ℤ, zero, suc, ◌+◌, ◌<◌, ◌≤◌, List, [], ◌∷◌, ◌++◌, length, get_or, set, map, take, replicate}
use Rattle.std.proofs.Common.{Ok, refl, sym, ap, ◌∙◌, subst, ⊎_elim, arith, count_by, append-nil, append_assoc, ◌-◌}
use Rattle.std.proofs.lemmas.Bool.{cases_eq, cases_lt}
use Rattle.std.proofs.lemmas.List.{get_or-set_same, get_or-set_other, length-set, length-append, length-map, ext_get_or, take_at}
use Rattle.std.proofs.lemmas.List.{length-replicate, length-take-le}
use Rattle.dbg_base.specs.Trees.{Program}
use Rattle.dbg_base.specs.Configurations.{Configuration, start_of, channel_of}
use Rattle.dbg_base.specs.Firing.{fire}
use Rattle.dbg_base.specs.Histories.{History, IsPossible, play}
use Rattle.dbg_base.specs.Orders.{Event, order_from, with_last}
use Rattle.dbg_base.specs.Counts.{sends_to, receives_from, got}
use Rattle.dbg_base.specs.Cuts.{IsConsistent, history_at}
use Rattle.dbg_base.specs.Reversal.{without_back, without_last, choice_at_end, MayUndo, IsPermitted, after_undos}
use Rattle.dbg_base.specs.Clocks.{IsClock}
use Rattle.dbg_base.proofs.EliminationLemmas.{none_at}
use Rattle.dbg_laws.proofs.OrderSwapLemmas.{IsOrderOf, none_left, first_step}
use Rattle.dbg_laws.proofs.PlayLemmas.{listed}
use Rattle.dbg_laws.proofs.Lists.{push_same, push_other, length-push}
use Rattle.dbg_laws.proofs.PrefixLemmas.{prefix_within, one_more, IsSplit, leaves, extends}
use Rattle.dbg_laws.proofs.UndoLemmas.{without_with, with_without, within_without}
use Rattle.dbg_laws.proofs.ChannelBalanceLemmas.{sends_left, gets_left, balance_most}
use Rattle.dbg_laws.proofs.ConsistentCutLemmas.{rest_at, line_at, length-history_at, split_at, cut_possible}

-- one more undo at the end
permitted_more : (P : Program) (H : History) (undos : List ℕ) (p : ℕ) → IsPermitted P H undos → MayUndo P (after_undos H undos) p
    → IsPermitted P H (undos ++ p ∷ [])
permitted_more P H [] p permitted may = (may, tt)
permitted_more P H (q ∷ undos) p permitted may = (permitted.0, permitted_more P (without_last H q) undos p permitted.1 may)

after_more : (H : History) (undos : List ℕ) (p : ℕ) → after_undos H (undos ++ p ∷ []) ≡ without_last (after_undos H undos) p
after_more H [] p = refl
after_more H (q ∷ undos) p = after_more (without_last H q) undos p

-- permitted undos lead from H to F
pub record Led (P : Program) (H F : History) : Type 0 where
  pub undos : List ℕ
  pub permitted : IsPermitted P H undos
  pub leads : after_undos H undos ≡ F

split_more : (H F R : History) (p k : ℕ) (rest : List ℕ) → p < length F → get_or R p [] ≡ k ∷ rest → IsSplit H F R
    → IsSplit H (with_last F p k) (set R p rest)
split_more H F R p k rest within line split = record {
  size = split.size ∙ sym (length-set R p rest);
  lines = λ q. ⊎_elim
      (λ (same : p ≡ q). subst (λ (x : ℕ). get_or H x [] ≡ get_or (with_last F p k) x [] ++ get_or (set R p rest) x []) same
      (split.lines p
      ∙ ap (λ (l : List ℕ). get_or F p [] ++ l) line
      ∙ sym (append_assoc (get_or F p []) (k ∷ []) rest)
      ∙ ap (λ (l : List ℕ). l ++ rest) (sym (push_same F p k within))
      ∙ ap (λ (l : List ℕ). get_or (with_last F p k) p [] ++ l)
      (sym (get_or-set_same R p rest [] (prefix_within R p k rest line)))))
      (λ (apart : p ≢ q).
      let back : q ≢ p = λ x. apart (sym x) in
      split.lines q
      ∙ ap (λ (l : List ℕ). l ++ get_or R q []) (sym (push_other F p q k back))
      ∙ ap (λ (l : List ℕ). get_or (with_last F p k) q [] ++ l) (sym (get_or-set_other R p q rest [] back)))
      (cases_eq p q);
}

may_undo : (P : Program) (F : History) (p k : ℕ) → p < length F → IsPossible P F → MayUndo P (with_last F p k) p
may_undo P F p k within all =
    let size : length (get_or (with_last F p k) p []) ≡ length (get_or F p []) + 1 =
    ap (λ (l : List ℕ). length l) (push_same F p k within) ∙ length-append (get_or F p []) (k ∷ []) in
    record {
      some = omega arith;
      rest = subst (λ (X : History). IsPossible P X) (sym (without_with F p k within)) all;
    }

led_more : (P : Program) (H F : History) (p k : ℕ) → p < length F → IsPossible P F → Led P H (with_last F p k) → Led P H F
led_more P H F p k within all l = record {
  undos = l.undos ++ p ∷ [];
  permitted = permitted_more P H l.undos p l.permitted
      (subst (λ (X : History). MayUndo P X p) (sym l.leads) (may_undo P F p k within all));
  leads = after_more H l.undos p ∙ ap (λ (X : History). without_last X p) l.leads ∙ without_with F p k within;
}

chain : (P : Program) (d : Configuration) (H F R : History) (G : List Event) → IsPossible P F → length F ≡ length H → IsSplit H F R
    → order_from P (play P F) G ≡ Ok d → IsOrderOf R G → Led P H F
chain P d H F R [] all size split legal empty = record {
  undos = [];
  permitted = tt;
  leads = ext_get_or [] H F (sym size) (λ q within.
      split.lines q ∙ ap (λ (l : List ℕ). get_or F q [] ++ l) (none_left R q empty) ∙ append-nil (get_or F q []));
}
chain P d H F R (g ∷ G) all size split legal takes =
    let p = g.process in
    let step = first_step (fire P (play P F) p g.choice) (λ x. order_from P x G) d legal in
    let within_rest = prefix_within R p g.choice takes.0 takes.1 in
    let within : p < length F = omega (arith, within_rest, size, split.size) in
    let more = one_more P F p g.choice step.0 all within step.1 in
    led_more P H F p g.choice within all
    (chain P d H (with_last F p g.choice) (set R p takes.0) G more.0 (length-push F p g.choice ∙ size)
    (split_more H F R p g.choice takes.0 within takes.1 split)
    (subst (λ (x : Configuration). order_from P x G ≡ Ok d) (sym more.1) step.2) takes.2)

-- some permitted undos lead to each consistent cut
pub undos_to : (P : Program) (H : History) (cut : List ℕ) → IsPossible P H → IsConsistent P H cut → Led P H (history_at H cut)
undos_to P H cut all consistent =
    let F : History = history_at H cut in
    let prefix = cut_possible P H cut all consistent in
    let l = listed P H all in
    let s = listed P F prefix in
    let split = split_at H cut in
    let rest = extends P (start_of P) (play P H) (play P F) H (rest_at H cut) l.events s.events l.legal l.takes s.legal
    (leaves H F (rest_at H cut) s.events s.takes split) in
    chain P (play P H) H F (rest_at H cut) rest.events prefix (length-history_at H cut) split rest.legal rest.takes

-- each line of F is a prefix of a line of H
pub record IsPrefix (H F : History) : Type 0 where
  pub size : length F ≡ length H
  pub lines : (q : ℕ) → (more : List ℕ) × (get_or H q [] ≡ get_or F q [] ++ more)

pub prefix_without : (H : History) (p : ℕ) → 0 < length (get_or H p []) → IsPrefix H (without_last H p)
prefix_without H p some =
    let B : History = without_last H p in
    let within = within_without H p some in
    let same = with_without H p some in
    record {
      size = length-set H p (without_back (get_or H p []));
      lines = λ q. ⊎_elim
          (λ (own : p ≡ q). subst (λ (x : ℕ). (more : List ℕ) × (get_or H x [] ≡ get_or B x [] ++ more)) own
          (choice_at_end H p ∷ [], ap (λ (X : History). get_or X p []) (sym same) ∙ push_same B p (choice_at_end H p) within))
          (λ (apart : p ≢ q).
          ([], sym (get_or-set_other H p q (without_back (get_or H p [])) [] (λ x. apart (sym x))) ∙ sym (append-nil (get_or B q []))))
          (cases_eq p q);
    }

pub prefix_both : (H F G : History) → IsPrefix H F → IsPrefix F G → IsPrefix H G
prefix_both H F G a b = record {
  size = b.size ∙ a.size;
  lines = λ q.
      let first = a.lines q in
      let second = b.lines q in (
        second.0 ++ first.0,
        first.1 ∙ ap (λ (l : List ℕ). l ++ first.0) second.1 ∙ append_assoc (get_or G q []) second.0 first.0,
      );
}

pub prefix_after : (P : Program) (H : History) (undos : List ℕ) → IsPermitted P H undos → IsPrefix H (after_undos H undos)
prefix_after P H [] permitted = record { size = refl; lines = λ q. ([], sym (append-nil (get_or H q []))) }
prefix_after P H (p ∷ undos) permitted =
    prefix_both H (without_last H p) (after_undos (without_last H p) undos) (prefix_without H p permitted.0.some)
    (prefix_after P (without_last H p) undos permitted.1)

-- the cut where F ends
abbrev pub cut_of : History → List ℕ
cut_of F = map (λ (line : List ℕ). length line) F

pub count_at : (F : History) (q : ℕ) → get_or (cut_of F) q 0 ≡ length (get_or F q [])
count_at [] q = refl
count_at (line ∷ F) zero = refl
count_at (line ∷ F) (suc q) = count_at F q

taken_line : (H F : History) (q : ℕ) → IsPrefix H F → take (get_or (cut_of F) q 0) (get_or H q []) ≡ get_or F q []
taken_line H F q f =
    let line = f.lines q in
    ap (λ (l : List ℕ). take (get_or (cut_of F) q 0) l) line.1
    ∙ take_at (get_or F q []) line.0 (get_or (cut_of F) q 0) (sym (count_at F q))

pub prefix_is_cut : (H F : History) → IsPrefix H F → F ≡ history_at H (cut_of F)
prefix_is_cut H F f =
    ext_get_or [] F (history_at H (cut_of F)) (f.size ∙ sym (length-history_at H (cut_of F)))
    (λ q within. sym (line_at H (cut_of F) q ∙ taken_line H F q f))

no_messages : (n j : ℕ) → get_or (replicate n []) j [] ≡ (let none : List ℤ = [] in none)
no_messages zero j = refl
no_messages (suc n) zero = refl
no_messages (suc n) (suc j) = no_messages n j

pub nothing_sent : (m n i j : ℕ) → get_or (get_or (replicate m (replicate n [])) i []) j [] ≡ (let none : List ℤ = [] in none)
nothing_sent zero n i j = refl
nothing_sent (suc m) n zero j = no_messages n j
nothing_sent (suc m) n (suc i) j = nothing_sent m n i j

-- in a possible history no process receives more than others have sent to it
pub gets_few : (P : Program) (F : History) (i j : ℕ) → IsPossible P F → gets_left P F j i ≤ sends_left P F i j
gets_few P F i j all =
    let l = listed P F all in
    let most = balance_most P (start_of P) (play P F) F l.events i j l.legal l.takes in
    let none : length (channel_of (start_of P) i j) ≡ 0 = ap (λ (x : List ℤ). length x) (nothing_sent (length P) (length P) i j) in
    omega (arith, most, none)

pub prefix_consistent : (P : Program) (H F : History) → IsPossible P F → IsPrefix H F → IsConsistent P H (cut_of F)
prefix_consistent P H F all f = record {
  sizes = length-map F (λ (line : List ℕ). length line) ∙ f.size;
  within = λ q.
      let line = f.lines q in
      let size : length (get_or H q []) ≡ length (get_or F q []) + length line.0 =
      ap (λ (l : List ℕ). length l) line.1 ∙ length-append (get_or F q []) line.0 in
      omega (arith, count_at F q, size);
  causes = λ i j apart.
      let gets : count_by (receives_from P j i) (take (get_or (cut_of F) j 0) (get_or H j [])) ≡ gets_left P F j i =
      ap (λ (l : List ℕ). count_by (receives_from P j i) l) (taken_line H F j f) in
      let sends : count_by (sends_to P i j) (take (get_or (cut_of F) i 0) (get_or H i [])) ≡ sends_left P F i j =
      ap (λ (l : List ℕ). count_by (sends_to P i j) l) (taken_line H F i f) in
      omega (arith, gets, sends, gets_few P F i j all);
}

-- The own component of a clock.

-- a possible prefix of a history in which process q has n choices
pub record Stop (P : Program) (H : History) (q n : ℕ) : Type 0 where
  pub history : History
  pub possible : IsPossible P history
  pub prefix : IsPrefix H history
  pub count : length (get_or history q []) ≡ n

less_one : (H : History) (p q n : ℕ) → n < length (get_or H q []) → n ≤ length (get_or (without_last H p) q [])
less_one H p q n some =
    ⊎_elim
    (λ (same : p ≡ q). subst (λ (x : ℕ). n ≤ length (get_or (without_last H x) q [])) (sym same)
    (let own = ap (λ (l : List ℕ). length l) (get_or-set_same H q (without_back (get_or H q [])) [] (within H q n some)) in
    let size = length-take-le (length (get_or H q []) - 1) (get_or H q []) (omega arith) in
    omega (arith, own, size, some)))
    (λ (apart : p ≢ q).
    let other = ap (λ (l : List ℕ). length l) (get_or-set_other H p q (without_back (get_or H p [])) [] (λ x. apart (sym x))) in
    omega (arith, other, some))
    (cases_eq p q)
  where
    within : (H : History) (q n : ℕ) → n < length (get_or H q []) → q < length H
    within [] q n some = absurd (omega (arith, some))
    within (line ∷ H) zero n some = omega arith
    within (line ∷ H) (suc q) n some = let less = within H q n some in omega (arith, less)

stops : (P : Program) (H : History) (q n : ℕ) (undos : List ℕ) → IsPossible P H → IsPermitted P H undos
    → n ≤ length (get_or H q []) → length (get_or (after_undos H undos) q []) ≤ n → Stop P H q n
stops P H q n [] all permitted enough few =
    record { history = H; possible = all; prefix = prefix_after P H [] tt; count = omega (arith, enough, few) }
stops P H q n (p ∷ undos) all permitted enough few =
    ⊎_elim
    (λ (more : n < length (get_or H q [])).
    let rest = stops P (without_last H p) q n undos permitted.0.rest permitted.1 (less_one H p q n more) few in
    record {
      history = rest.history;
      possible = rest.possible;
      prefix = prefix_both H (without_last H p) rest.history (prefix_without H p permitted.0.some) rest.prefix;
      count = rest.count;
    })
    (λ (last : length (get_or H q []) ≤ n).
    record { history = H; possible = all; prefix = prefix_after P H [] tt; count = omega (arith, enough, last) })
    (cases_lt n (length (get_or H q [])))

-- the cut with no choices
pub nothing_consistent : (P : Program) (H : History) → IsConsistent P H (replicate (length H) 0)
nothing_consistent P H = record {
  sizes = length-replicate (length H) 0;
  within = λ p. (let e = none_at (length H) p in omega (arith, e));
  causes = λ i j apart.
      let gets : got P H j i (get_or (replicate (length H) 0) j 0) ≡ got P H j i 0 =
      ap (λ (m : ℕ). got P H j i m) (none_at (length H) j) in
      let none : got P H j i 0 ≡ 0 = refl in
      omega (arith, gets, none);
}

-- the own component of a clock is the number of the event
pub own_part : (P : Program) (H : History) (q n : ℕ) (cut : List ℕ) → IsPossible P H → IsClock P H q n cut
    → n ≤ length (get_or H q []) → get_or cut q 0 ≡ n
own_part P H q n cut all is inside =
    let zeros = replicate (length H) 0 in
    let led = undos_to P H zeros all (nothing_consistent P H) in
    let left : get_or (after_undos H led.undos) q [] ≡ [] =
    ap (λ (X : History). get_or X q []) led.leads ∙ line_at H zeros q
    ∙ ap (λ (m : ℕ). take m (get_or H q [])) (none_at (length H) q) in
    let stop = stops P H q n led.undos all led.permitted inside (let size = ap (λ (l : List ℕ). length l) left in omega (arith, size)) in
    let reaches = is.reaches in
    let least = is.least (cut_of stop.history) (prefix_consistent P H stop.history stop.possible stop.prefix)
    (omega (arith, count_at stop.history q, stop.count)) q in
    omega (arith, reaches, least, count_at stop.history q, stop.count)
