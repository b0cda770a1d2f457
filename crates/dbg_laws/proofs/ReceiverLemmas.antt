-- A last event that may not be undone sent a message that was received.
use Rattle.std.proofs.Common.{◌≡◌, ◌≢◌, ⊎_elim, ℕ, suc, ◌+◌, ◌-◌, ◌<◌, ◌≤◌, true, List, length, get_or, Option, Some, refl, sym}
use Rattle.std.proofs.Common.{ap, ◌∙◌, subst, arith}
use Rattle.std.proofs.lemmas.Bool.{cases_eq, cases_lt, eqb-true, eq-eqb}
use Rattle.std.proofs.lemmas.List.Sums.{count_by_more_yes}
use Rattle.dbg_base.specs.Trees.{Program, command_of}
use Rattle.dbg_base.specs.Histories.{History, IsPossible}
use Rattle.dbg_base.specs.Orders.{Event, choices_of, target_in}
use Rattle.dbg_base.specs.Counts.{is_process, receives_from, sent, got}
use Rattle.dbg_base.specs.Reversal.{without_last}
use Rattle.dbg_base.specs.Reference.{line, IsMessage}
use Rattle.dbg_base.proofs.CountLemmas.{count_grows}
use Rattle.dbg_laws.proofs.ClosedSetLemmas.{found}
use Rattle.dbg_laws.proofs.LastEventLemmas.{first_step, NoneAfter, possible_without}

module _ (P : Program) (E : List Event) (p q : ℕ) (some : 0 < length (line P E p)) (all : IsPossible P (choices_of (length P) E))
    (never : ¬ IsPossible P (without_last (choices_of (length P) E) p)) where
  abbrev H : History
  H = choices_of (length P) E

  abbrev last : ℕ
  last = length (line P E p) - 1

  abbrev target : Option ℕ
  target = target_in (command_of P p (get_or (line P E p) last 0))

  -- it sent some message
  not_none : ((j n : ℕ) → ¬ IsMessage P E p last j n) → ⊥
  not_none none = never (possible_without P E p some all none_after)
    where
      none_after : NoneAfter P E p
      none_after j n before =
          ⊎_elim (λ (more : suc last < length (line P E p)). omega (arith, more, some))
          (λ (sends : (k o : ℕ) × IsMessage P E p last k o). none sends.0 sends.1 sends.2) (first_step P E p last j n before)

  module _ (to : target ≡ Some q) where
    -- to q alone
    to_other : (j n : ℕ) → IsMessage P E p last j n → q ≡ j
    to_other j n x =
        let sends : is_process j target ≡ true = x.sends in
        let same : is_process j (Some q) ≡ true = ap (is_process j) (sym to) ∙ sends in
        eqb-true q j same

    none_left : got P H q p (length (line P E q)) ≤ sent P H p q last → (j n : ℕ) → IsMessage P E p last j n → ⊥
    none_left few j n x =
        let x_q : IsMessage P E p last q n = subst (λ (r : ℕ). IsMessage P E p last r n) (sym (to_other j n x)) x in
        let received = x_q.received in
        let same = x_q.same in
        let more = count_by_more_yes (receives_from P q p) (line P E q) n 0 x_q.received x_q.receives in
        let grows = count_grows (receives_from P q p) (line P E q) (n + 1) (length (line P E q)) (omega (arith, received)) in
        omega (arith, few, same, more, grows)

    pub received : (n : ℕ) × IsMessage P E p last q n
    received =
        ⊎_elim
        (λ (own : p ≡ q). absurd (not_none (λ j n x. x.apart (own ∙ to_other j n x))))
        (λ (apart : p ≢ q).
        ⊎_elim
        (λ (less : sent P H p q last < got P H q p (length (line P E q))).
        let f = found (receives_from P q p) (line P E q) (sent P H p q last) (length (line P E q)) (omega arith) less in (
          f.at,
          record {
            apart = apart;
            sent = omega (arith, some);
            sends = ap (is_process q) to ∙ eq-eqb q q refl;
            received = f.below;
            receives = f.passes;
            same = sym f.before;
          },
        ))
        (λ (few : got P H q p (length (line P E q)) ≤ sent P H p q last). absurd (not_none (none_left few)))
        (cases_lt (sent P H p q last) (got P H q p (length (line P E q)))))
        (cases_eq p q)
