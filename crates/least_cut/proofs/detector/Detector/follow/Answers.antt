use Rattle.std.proofs.Common.{◌≡◌, ◌≢◌, ℕ, ◌<◌, ◌≤◌, List, length, map, get_or, refl, sym, ap, ◌∙◌, subst, ⊎_elim, arith}
use Rattle.std.specs.List.{AllByRecursion}
use Rattle.std.proofs.lemmas.Bool.{cases_eq, cases_lt}
use Rattle.cut_core.specs.declared.kind.Kind.{Kind}
use Rattle.causal_world.proofs.WorldCallLemmas.{kinds_placed}
use Rattle.dbg_base.specs.Predicates.{Conjunct}
use Rattle.least_cut.specs.Watches.{WatchRoom, conjunct_in}
use Rattle.least_cut.specs.Searches.{steps_up_to}
use Rattle.least_cut.specs.Detectors.{HasTruthRoom, IsSearchOf, IsLimit}
use Rattle.least_cut.proofs.SearchStepLemmas.{candidates_sized}
use Rattle.least_cut.proofs.MovedDetectorLemmas.{along_of, limit_past, moved_search, were_watches}
use Rattle.least_cut.proofs.GrownDetectorLemmas.{limit_less}
use Rattle.least_cut.proofs.detector.Detector.follow.Goals as goal

pub loop-p-init : goal.loop-p-init
loop-p-init c = record {
  watches = refl;
  trail_room = refl;
  search = λ v is. is;
  limits = λ v some is q less. absurd (omega (arith, less));
}

pub drop_to-requires : goal.drop_to-requires
drop_to-requires c = (c.requires.moved.1, c.loop-p.invariant.search c.requires.moved.1 c.requires.moved.2.detector.search)

pub loop-p-preserved : goal.loop-p-preserved
loop-p-preserved c =
    let before = c.loop-p.invariant in
    let drops = c.drop_to.ensures in
    record {
      watches = drops.watches ∙ before.watches;
      trail_room = drops.trail_room ∙ before.trail_room;
      search = λ v is. drops.search v (before.search v is);
      limits = λ v some is q less.
          let now = before.search v is in
          ⊎_elim
          (λ (same : q ≡ c.loop-p.p).
          subst (λ (x : ℕ). IsLimit v c.args.world.now x (get_or c.drop_to.new.self.candidates x 0)) (sym same)
          (limit_less v c.args.world.now c.loop-p.p (get_or c.drop_to.new.self.candidates c.loop-p.p 0) c.limit-limit.result
          (drops.below v now) (c.limit-limit.ensures v some now)))
          (λ (apart : q ≢ c.loop-p.p).
          limit_less v c.args.world.now q (get_or c.drop_to.new.self.candidates q 0) (get_or c.loop-p.self.candidates q 0)
          (drops.most v now q) (before.limits v some is q (omega (arith, less, apart))))
          (cases_eq q c.loop-p.p);
    }

pub watch-requires-clause-was : goal.watch-requires-clause-was
watch-requires-clause-was c =
    let g = c.requires.moved in
    were_watches g.1 c.args.world.now c.loop-p.self.watches (g.0, g.2.of) (along_of g.0 g.1 c.args.world.now g.2.of g.2.now g.3)
    (c.loop-p.invariant.search g.1 g.2.detector.search).watches

pub watch-requires-clause-room : goal.watch-requires-clause-room
watch-requires-clause-room c =
    subst (AllByRecursion (HasTruthRoom c.args.world.now.state.places)) (sym c.loop-p.invariant.watches) c.requires.room.truths

pub run-requires-clause-search : goal.run-requires-clause-search
run-requires-clause-search c =
    let g = c.requires.moved in
    let v = g.1 in
    let w = c.args.world.now in
    let old = c.loop-p.self in
    let now : IsSearchOf v old = c.loop-p.invariant.search v g.2.detector.search in
    let all = c.loop-p-test.false in
    let size = candidates_sized v old now in
    moved_search g.0 v w old c.watch.new.self g.2.of g.2.now (along_of g.0 v w g.2.of g.2.now g.3) now c.watch.ensures
    (λ q. ⊎_elim
    (λ (here : q < c.loop-p.p). c.loop-p.invariant.limits v (g.0, g.2.of) g.2.detector.search q here)
    (λ (past : c.loop-p.p ≤ q). limit_past v w old.candidates q (omega (
      arith,
      past,
      all,
      size,
      g.2.of.state.places,
      g.2.now.state.places,
      c.processes-p-end.ensures,
      ap (λ (l : List (List Kind)). length l) c.tally.ensures.kinds,
      kinds_placed w (g.0, g.2.now),
    )))
    (cases_lt q c.loop-p.p))
    (record {
      truths = subst (AllByRecursion (HasTruthRoom w.state.places)) (sym c.loop-p.invariant.watches) c.requires.room.truths;
      trail = subst (λ (n : ℕ). steps_up_to w.state.places ≤ n) (sym c.loop-p.invariant.trail_room) c.requires.room.trail;
    })

pub returns-clause-conjuncts : goal.returns-clause-conjuncts
returns-clause-conjuncts c =
    let seen : List WatchRoom → List Conjunct = λ l. map (λ (watch : WatchRoom). conjunct_in watch.state) l in
    ap seen c.run.ensures.on.watches ∙ c.watch.ensures.conjuncts ∙ ap seen c.loop-p.invariant.watches
