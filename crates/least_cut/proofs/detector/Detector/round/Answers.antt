use Rattle.std.proofs.Common.{◌≡◌, ◌≢◌, ℕ, ◌≤◌, sum, List, length, map, sym, ap, ◌∙◌, subst, arith, ⊎_elim}
use Rattle.std.proofs.lemmas.Bool.{cases_eq}
use Rattle.cut_core.specs.declared.kind.Kind.{Kind}
use Rattle.causal_world.proofs.WorldCallLemmas.{kinds_placed}
use Rattle.least_cut.specs.Watches.{TruthLine, WatchRoom}
use Rattle.least_cut.specs.Searches.{IsSettledAt}
use Rattle.least_cut.specs.Detectors.{lines_of}
use Rattle.least_cut.proofs.Trails.{still_settled}
use Rattle.least_cut.proofs.SearchStepLemmas.{stays, goes_on, on_sum}
use Rattle.least_cut.proofs.detector.Detector.round.Goals as goal
use Rattle.least_cut.proofs.detector.Detector.round.Goals.{then-settle, else-settle}

pub loop-p-init : goal.loop-p-init
loop-p-init c = record {
  on = stays _ _ c.requires.search;
  settled = λ moved q less. absurd (omega (arith, less));
  more = λ moved. cc;
}

pub settle-requires-clause-search : goal.settle-requires-clause-search
settle-requires-clause-search c = c.loop-p.invariant.on.search

pub settle-requires-clause-here : goal.settle-requires-clause-here
settle-requires-clause-here c =
    let there = c.loop-p-test.true in
    omega (
      arith,
      there,
      c.processes-p-end.ensures,
      ap (λ (l : List (List Kind)). length l) c.tally.ensures.kinds,
      kinds_placed c.args.world.now c.requires.world,
    )

pub loop-p-preserved : goal.loop-p-preserved
loop-p-preserved c =
    let before = c.loop-p.invariant in
    let w = c.args.world.now in
    let old = c.loop-p.self in
    let new = c.settle.new.self in
    let on = c.settle.ensures.on in
    let least : sum c.args.self.now.candidates ≤ sum old.candidates = on_sum w c.args.self.now old c.requires.search before.on in
    let rest : sum old.candidates ≤ sum new.candidates = on_sum w old new before.on.search on in
    let lines : lines_of old ≡ lines_of new =
    ap (λ (l : List WatchRoom). map (λ (watch : WatchRoom). watch.state.line) l) (sym on.watches) in
    record {
      on = goes_on _ _ _ _ before.on on;
      settled = elim c.if-settle.branch [
        | then-settle w ↦ λ none. absurd (let e = w.moved-is in cc)
        | else-settle w ↦ λ none q less.
            ⊎_elim
            (λ (same : q ≡ c.loop-p.p).
            subst (λ (x : ℕ). IsSettledAt c.args.world.now (lines_of new) new.candidates x) (sym same) c.settle.ensures.settled)
            (λ (apart : q ≢ c.loop-p.p).
            subst (λ (l : List TruthLine). IsSettledAt c.args.world.now l new.candidates q) lines
            (still_settled c.args.world.now (lines_of old) old.candidates new.candidates q
            (before.settled (sym w.moved-is ∙ none) q (omega (arith, less, apart))) on.most
            (c.settle.ensures.others w.if-settle.false q apart)))
            (cases_eq q c.loop-p.p)
      ];
      more = elim c.if-settle.branch [
        | then-settle w ↦ λ moved. let more = c.settle.ensures.more w.if-settle.true in omega (arith, least, more)
        | else-settle w ↦ λ moved. let more = before.more (sym w.moved-is ∙ moved) in omega (arith, rest, more)
      ];
    }

pub returns-clause-on : goal.returns-clause-on
returns-clause-on c = c.loop-p.invariant.on

pub returns-clause-settled : goal.returns-clause-settled
returns-clause-settled c = λ none.
    let all = c.loop-p-test.false in
    record {
      search = c.loop-p.invariant.on.search;
      settled = λ q there. c.loop-p.invariant.settled none q (omega (
        arith,
        there,
        all,
        c.processes-p-end.ensures,
        ap (λ (l : List (List Kind)). length l) c.tally.ensures.kinds,
        kinds_placed c.args.world.now c.requires.world,
      ));
    }

pub returns-clause-more : goal.returns-clause-more
returns-clause-more c = c.loop-p.invariant.more
