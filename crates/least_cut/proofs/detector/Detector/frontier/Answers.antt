use Rattle.std.proofs.Common.{◌≡◌, ℕ, ◌+◌, ◌<◌, ◌≤◌, List, [], ◌∷◌, ◌++◌, length, get_or, sym, ap, ◌∙◌, subst, ⊎_elim, arith}
use Rattle.std.proofs.lemmas.Bool.{cases_lt}
use Rattle.std.proofs.lemmas.List.{length_push, get_or_push, get_or_append_left}
use Rattle.dbg_base.specs.declared.said.Head.{Head}
use Rattle.dbg_base.specs.declared.said.Head.TheVariants.{Past}
use Rattle.dbg_base.specs.SystemStates.{history_of}
use Rattle.least_cut.specs.Detectors.{conjuncts_of, lines_of, TellsFrontier, reported_head}
use Rattle.least_cut.proofs.DetectorResultLemmas.{reported_heads}
use Rattle.least_cut.proofs.detector.Detector.frontier.Goals as goal

pub loop-p-init : goal.loop-p-init
loop-p-init c = record {
  len = ap (λ (l : List Head). length l) c.in_ok-heads.ensures.items;
  each = λ p lt. absurd (omega arith);
}

pub loop-p-preserved : goal.loop-p-preserved
loop-p-preserved c =
    let d = c.args.self.now in
    let heads = c.loop-p.heads.items in
    let items : c.push.new.self.items ≡ heads ++ c.head.result ∷ [] = c.in_ok-push.ensures.items in
    let len : length heads ≡ c.loop-p.p = c.loop-p.invariant.len in
    let counts : c.counts-count-items.result.now ≡ d.candidates = rw (← c.self.view_is) c.counts-count-items.ensures in
    let more : length (heads ++ c.head.result ∷ []) ≡ length heads + 1 = length_push heads c.head.result in
    record {
      len = ap (λ (l : List Head). length l) items ∙ omega arith;
      each = λ p lt.
          ap (λ (l : List Head). get_or l p Past) items
          ∙ ⊎_elim
          (λ (old : p < c.loop-p.p).
          get_or_append_left heads (c.head.result ∷ []) Past p (omega (arith, len)) ∙ c.loop-p.invariant.each p old)
          (λ (last : c.loop-p.p ≤ p).
          let here : p ≡ c.loop-p.p = omega arith in
          get_or_push heads c.head.result Past p (len ∙ sym here) ∙ c.head.ensures
          ∙ ap (λ (l : List ℕ). reported_head (lines_of d) c.loop-p.p (get_or l c.loop-p.p 0)) counts
          ∙ ap (λ (q : ℕ). reported_head (lines_of d) q (get_or d.candidates q 0)) (sym here))
          (cases_lt p c.loop-p.p);
    }

pub returns-clause-frontier : goal.returns-clause-frontier
returns-clause-frontier c w P is of =
    let d = c.args.self.now in
    let counts : c.counts-count-items.result.now ≡ d.candidates = rw (← c.self.view_is) c.counts-count-items.ensures in
    let whole : c.loop-p.p ≡ length d.candidates =
    (let size = ap (λ (l : List ℕ). length l) counts in omega (arith, size, c.loop-p-test.false, c.loop-p.auto.p-end)) in
    subst (λ (heads : List Head). TellsFrontier P (history_of w.state) (conjuncts_of d) heads) (sym c.new.ensures)
    (reported_heads P w of d is c.loop-p.heads.items (c.loop-p.invariant.len ∙ whole)
    (λ p lt. c.loop-p.invariant.each p (omega (arith, whole))))
