use Rattle.std.proofs.Common.{◌≡◌, ◌≤◌, ℕ, rules, List, length, map, replicate, subst, ap, ◌∙◌, arith}
use Rattle.std.proofs.lemmas.List.{length-map}
use Rattle.dbg_base.specs.Predicates.{Conjunct}
use Rattle.cut_core.specs.declared.kind.Kind.{Kind}
use Rattle.cut_core.specs.ConsistentCuts.{places}
use Rattle.causal_world.proofs.WorldCallLemmas.{kinds_placed}
use Rattle.least_cut.specs.Watches.{WatchRoom, conjunct_in}
use Rattle.least_cut.specs.Detectors.{HasRoomUpTo}
use Rattle.least_cut.proofs.MovedDetectorLemmas.{search_begins, seen_kept}
use Rattle.least_cut.proofs.detector.Detector.new.Goals as goal

pub run-requires-clause-search : goal.run-requires-clause-search
run-requires-clause-search c =
    let w = c.args.world.now in
    let counted = c.processes.ensures ∙ ap (λ (l : List (List Kind)). length l) c.tally-tally.ensures.kinds
    ∙ kinds_placed w c.tally-tally.ensures.world in
    let placed : c.in_ok-places.places ≡ places c.args.world.now.kinds =
    c.in_ok-places.ensures ∙ ap (λ (l : List (List Kind)). places l) c.tally-tally.ensures.kinds in
    let few : length c.in_ok-places.places ≤ c.processes-2.result =
    omega (
      arith,
      ap (λ (l : List ℕ). length l) c.in_ok-places.ensures,
      length-map c.tally-tally.result.now.kinds (λ (own : List Kind). length own),
      c.processes-2.ensures,
    ) in
    let none : c.in_ok-vec.field-0.items ≡ replicate c.processes.result 0 = search rules in
    search_begins w _ c.reserve_to.new.self c.tally-tally.ensures.world c.in_ok-watches.ensures.of
    (c.new-candidates.ensures ∙ none ∙ ap (λ (n : ℕ). replicate n 0) counted) c.new.ensures.items
    c.reserve_to.ensures.same
    (subst (HasRoomUpTo c.reserve_to.new.self) placed (c.in_ok-reserve_to.ensures.ok (c.steps_up_to-steps.ensures few)))

pub returns-clause-conjuncts : goal.returns-clause-conjuncts
returns-clause-conjuncts c =
    let seen : List WatchRoom → List Conjunct = λ l. map (λ (watch : WatchRoom). conjunct_in watch.state) l in
    ap seen c.run.ensures.on.watches ∙ seen_kept conjunct_in c.reserve_to.new.self.watches _ c.reserve_to.ensures.same.states
    ∙ c.in_ok-watches.ensures.conjuncts
