use Rattle.std.proofs.Common.{◌≡◌, ℕ, ◌+◌, ◌≤◌, List, get_or, refl, ap, ◌∙◌, arith}
use Rattle.std.proofs.lemmas.List.{get_or-set_same, get_or-set_other}
use Rattle.least_cut.proofs.SearchStepLemmas.{candidates_sized, stays, goes_on}
use Rattle.least_cut.proofs.detector.Detector.pass_false.Goals as goal

pub loop-self-init : goal.loop-self-init
loop-self-init c = record { on = stays _ _ c.requires.search; others = λ r apart. refl }

pub eliminate-requires-clause-search : goal.eliminate-requires-clause-search
eliminate-requires-clause-search c = c.loop-self.invariant.on.search

pub loop-self-smaller : goal.loop-self-smaller
loop-self-smaller c =
    let d = c.loop-self.self in
    let size = candidates_sized c.args.world.now d c.loop-self.invariant.on.search in
    let here = c.requires.here in
    let set_is : get_or c.eliminate.new.self.candidates c.args.pid.0 0 ≡ c.candidate-from.result + 1 =
    ap (λ (l : List ℕ). get_or l c.args.pid.0 0) c.eliminate.ensures.set
    ∙ get_or-set_same d.candidates c.args.pid.0 (c.candidate-from.result + 1) 0 (omega (arith, size, here)) in
    let test : c.candidate.result ≤ c.place-place.result = c.loop-self-test.true in
    omega (arith, set_is, c.candidate-from.ensures, c.candidate.ensures, test)

pub loop-self-preserved : goal.loop-self-preserved
loop-self-preserved c = record {
  on = goes_on _ _ _ _ c.loop-self.invariant.on c.eliminate.ensures.on;
  others = λ r apart.
      ap (λ (l : List ℕ). get_or l r 0) c.eliminate.ensures.set ∙ get_or-set_other _ _ r _ 0 apart ∙ c.loop-self.invariant.others r apart;
}

pub returns-else-is_false-clause-on : goal.returns-else-is_false-clause-on
returns-else-is_false-clause-on c = c.loop-self.invariant.on

pub returns-else-is_false-clause-others : goal.returns-else-is_false-clause-others
returns-else-is_false-clause-others c = c.loop-self.invariant.others

pub returns-after-loop-self-clause-on : goal.returns-after-loop-self-clause-on
returns-after-loop-self-clause-on c = c.loop-self.invariant.on

pub returns-after-loop-self-clause-others : goal.returns-after-loop-self-clause-others
returns-after-loop-self-clause-others c = c.loop-self.invariant.others
