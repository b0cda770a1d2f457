use Rattle.std.proofs.Common.{◌≡◌, List, sym, subst}
use Rattle.dbg_base.specs.declared.elimination.Elimination.{Elimination}
use Rattle.dbg_base.specs.SystemStates.{history_of}
use Rattle.dbg_base.specs.Eliminations.{IsSound, reach}
use Rattle.dbg_base.specs.Frontiers.{IsFrontier}
use Rattle.least_cut.specs.Detectors.{conjuncts_of}
use Rattle.least_cut.proofs.DetectorResultLemmas.{reported_sound, reported_frontier}
use Rattle.least_cut.proofs.detector.Detector.why.Goals as goal

pub returns-clause-sound : goal.returns-clause-sound
returns-clause-sound c w P is of =
    let d = c.args.self.now in
    let same : c.as_slice.result.now ≡ d.trail = rw (← c.self.view_is) c.as_slice.ensures.value in
    subst (λ (steps : List Elimination). IsSound P (history_of w.state) (conjuncts_of d) steps) (sym same) (reported_sound P w of d is)

pub returns-clause-frontier : goal.returns-clause-frontier
returns-clause-frontier c w P is of =
    let d = c.args.self.now in
    let same : c.as_slice.result.now ≡ d.trail = rw (← c.self.view_is) c.as_slice.ensures.value in
    subst (λ (steps : List Elimination). IsFrontier P (history_of w.state) (conjuncts_of d) (reach (history_of w.state) steps)) (sym same)
    (reported_frontier P w of d is)
