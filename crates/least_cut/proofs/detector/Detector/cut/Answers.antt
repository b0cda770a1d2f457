use Rattle.std.proofs.Common.{Bool, List, ℕ, sym, ap, subst, ◌∙◌}
use Rattle.std.specs.Bool.{MatchBool}
use Rattle.dbg_base.specs.SystemStates.{history_of}
use Rattle.dbg_base.specs.Predicates.{IsLeast, NoCut}
use Rattle.least_cut.specs.Detectors.{DetectorState, conjuncts_of}
use Rattle.least_cut.proofs.DetectorResultLemmas.{reported_cut}
use Rattle.least_cut.proofs.detector.Detector.cut.Goals as goal

pub returns-then-has_cut : goal.returns-then-has_cut
returns-then-has_cut c w P is of =
    let d = c.args.self.now in
    subst (λ (tuple : List ℕ). IsLeast P (history_of w.state) (conjuncts_of d) tuple)
    (sym (ap (λ (s : DetectorState). s.candidates) c.self.view_is))
    (subst (λ (b : Bool). MatchBool b (IsLeast P (history_of w.state) (conjuncts_of d) d.candidates) (NoCut P (history_of w.state) (conjuncts_of d)))
    (sym c.has_cut.ensures ∙ c.if-has_cut.true) (reported_cut P w of d is))

pub returns-else-has_cut : goal.returns-else-has_cut
returns-else-has_cut c w P is of =
    let d = c.args.self.now in
    subst (λ (b : Bool). MatchBool b (IsLeast P (history_of w.state) (conjuncts_of d) d.candidates) (NoCut P (history_of w.state) (conjuncts_of d)))
    (sym c.has_cut.ensures ∙ c.if-has_cut.false) (reported_cut P w of d is)
