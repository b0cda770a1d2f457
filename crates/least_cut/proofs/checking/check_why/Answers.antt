use Rattle.std.proofs.Common.{◌≡◌, ℕ, List, length, map, get_or, replicate, true, false, IsTrue}
use Rattle.std.proofs.Common.{refl, sym, ap, ◌∙◌, subst, arith}
use Rattle.std.proofs.lemmas.List.{length-replicate, length-set}
use Rattle.dbg_base.specs.declared.elimination.Elimination.{Elimination}
use Rattle.dbg_base.specs.declared.elimination.Cause.TheVariants.{FalseAt}
use Rattle.dbg_base.specs.Calls.{conjunct_of}
use Rattle.dbg_base.specs.SystemStates.{history_of}
use Rattle.dbg_base.specs.Eliminations.{IsSound}
use Rattle.dbg_base.proofs.EliminationLemmas.{sound_above, few_steps}
use Rattle.causal_world.proofs.WorldCallLemmas.{kinds_placed}
use Rattle.least_cut.specs.Watches.{TruthLine, scan_of}
use Rattle.least_cut.specs.Searches.{IsStep, none_of}
use Rattle.least_cut.proofs.CheckedTrailLemmas.{trail_more, reach_more, whole_sound, sound_step, never_both}
use Rattle.least_cut.proofs.checking.check_why.Goals as goal

abbrev nothing : Elimination
nothing = record { pid = record { 0 = 0 }; from = 0; to = 0; cause = FalseAt }

pub loop-step-init : goal.loop-step-init
loop-step-init c =
    let w = c.args.world.now in
    let zeros : c.new-candidates.result ≡ replicate c.processes-processes.result 0 =
    c.new-candidates.ensures ∙ c.in_ok-vec.ensures.items_if_clones_equal (λ (y : ℕ) (e : y ≡ 0). e) in
    let counted : c.processes-processes.result ≡ length w.state.places =
    c.processes-processes.ensures ∙ ap length c.tally.ensures.kinds ∙ kinds_placed w c.tally.ensures.world in
    let start : none_of w ≡ c.new-candidates.result = ap (λ (n : ℕ). replicate n 0) (sym counted) ∙ sym zeros in
    record {
      size = ap (λ (l : List ℕ). length l) (sym start) ∙ length-replicate (length w.state.places) 0;
      reached = start;
      trail = tt;
    }

pub returns-then-not-is_step-clause-sound : goal.returns-then-not-is_step-clause-sound
returns-then-not-is_step-clause-sound c P of =
    let w = c.args.world.now in
    let conjuncts = map conjunct_of c.args.conjuncts.now in (
      λ (none : IsTrue false). cc,
      λ (sound : IsSound P (history_of w.state) conjuncts c.args.steps.now).
          absurd (never_both c.is_step.result
          (c.is_step.ensures.1
          (subst (λ (l : List TruthLine). IsStep w l c.loop-step.candidates (get_or c.args.steps.now c.loop-step.step-index nothing))
          (sym c.in_ok-scan.ensures.scan)
          (sound_step w conjuncts c.requires c.args.steps.now P of sound c.loop-step.step-index nothing c.loop-step.candidates
          c.loop-step-test.true c.loop-step.invariant.reached)))
          c.if-not-is_step.true),
    )

pub set-requires : goal.set-requires
set-requires c =
    let is = c.is_step.ensures.0 c.if-not-is_step.false in
    let here = is.here in
    omega (arith, here, c.loop-step.invariant.size)

pub loop-step-preserved : goal.loop-step-preserved
loop-step-preserved c =
    let w = c.args.world.now in
    let steps = c.args.steps.now in
    let i : ℕ = c.loop-step.step-index in
    let scan = scan_of w (map conjunct_of c.args.conjuncts.now) in
    let is : IsStep w scan c.loop-step.candidates (get_or steps i nothing) =
    subst (λ (l : List TruthLine). IsStep w l c.loop-step.candidates (get_or steps i nothing)) c.in_ok-scan.ensures.scan
    (c.is_step.ensures.0 c.if-not-is_step.false) in
    record {
      size = ap (λ (l : List ℕ). length l) c.set.ensures
          ∙ length-set c.loop-step.candidates (get_or steps i nothing).pid.0 (get_or steps i nothing).to ∙ c.loop-step.invariant.size;
      reached = reach_more (none_of w) c.loop-step.candidates steps i nothing c.loop-step-test.true c.loop-step.invariant.reached
          ∙ sym c.set.ensures;
      trail = trail_more w scan (none_of w) c.loop-step.candidates steps i nothing c.loop-step-test.true c.loop-step.invariant.reached
          c.loop-step.invariant.trail is;
    }

pub returns-clause-sound : goal.returns-clause-sound
returns-clause-sound c P of =
    let w = c.args.world.now in
    let conjuncts = map conjunct_of c.args.conjuncts.now in (
      λ (yes_it : IsTrue true).
          whole_sound w conjuncts c.requires c.args.steps.now c.loop-step.step-index c.loop-step-test.false
          c.loop-step.invariant.trail P of,
      λ (sound : IsSound P (history_of w.state) conjuncts c.args.steps.now). refl,
    )

pub returns-clause-above : goal.returns-clause-above
returns-clause-above c sound P of cut satisfies =
    let w = c.args.world.now in
    let conjuncts = map conjunct_of c.args.conjuncts.now in
    sound_above P (history_of w.state) conjuncts c.args.steps.now
    (whole_sound w conjuncts c.requires c.args.steps.now c.loop-step.step-index c.loop-step-test.false c.loop-step.invariant.trail P of)
    cut satisfies

pub returns-clause-few : goal.returns-clause-few
returns-clause-few c sound =
    let w = c.args.world.now in
    let conjuncts = map conjunct_of c.args.conjuncts.now in
    let P = c.tally.ensures.world.0 in
    few_steps P (history_of w.state) conjuncts c.args.steps.now
    (whole_sound w conjuncts c.requires c.args.steps.now c.loop-step.step-index c.loop-step-test.false c.loop-step.invariant.trail P
    c.tally.ensures.world.1)
