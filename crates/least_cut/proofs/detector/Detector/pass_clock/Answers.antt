use Rattle.std.proofs.Common.{◌≡◌, ℕ, ◌<◌, ◌≤◌, min, sum, List, length, get_or, sym, refl, ap, ◌∙◌, subst, arith, rules, ⊎_elim}
use Rattle.std.proofs.lemmas.Bool.{cases_lt}
use Rattle.std.proofs.lemmas.List.{get_or_past}
use Rattle.dbg_base.specs.SystemStates.{place_at}
use Rattle.cut_core.specs.declared.kind.Kind.{Kind}
use Rattle.causal_world.specs.Pasts.{row_at}
use Rattle.causal_world.proofs.WorldCallLemmas.{kinds_placed}
use Rattle.least_cut.specs.Detectors.{DetectorState}
use Rattle.least_cut.proofs.SearchStepLemmas.{candidates_sized, stays, goes_on, on_sum, row_within}
use Rattle.least_cut.proofs.detector.Detector.pass_clock.Goals as goal
use Rattle.least_cut.proofs.detector.Detector.pass_clock.Goals.{then-pass_part, else-pass_part}

pub loop-p-init : goal.loop-p-init
loop-p-init c = record {
  on = stays _ _ c.requires.search;
  passed = λ r less. absurd (omega (arith, less));
  own = refl;
  more = λ moved. cc;
  same = λ moved. refl;
}

pub exceeds-requires : goal.exceeds-requires
exceeds-requires c =
    c.clock_row.ensures.len ∙ sym (candidates_sized c.args.world.now c.args.self.now c.requires.search)
    ∙ sym (ap (λ (d : DetectorState). length d.candidates) c.self.view_is) ∙ sym (ap (λ (l : List ℕ). length l) c.counts.ensures)

pub pass_part-requires-clause-search : goal.pass_part-requires-clause-search
pass_part-requires-clause-search c = c.loop-p.invariant.on.search

pub pass_part-requires-clause-event : goal.pass_part-requires-clause-event
pass_part-requires-clause-event c =
    let own = c.loop-p.invariant.own in
    search (rules, own)

pub pass_part-requires-clause-of : goal.pass_part-requires-clause-of
pass_part-requires-clause-of c =
    let there = c.loop-p-test.true in
    omega (
      arith,
      there,
      c.processes-p-end.ensures,
      ap (λ (l : List (List Kind)). length l) c.tally.ensures.kinds,
      kinds_placed c.args.world.now c.requires.world,
    )

pub loop-p-preserved : goal.loop-p-preserved
loop-p-preserved c =
    let before = c.loop-p.invariant in
    let w = c.args.world.now in
    let q = c.args.pid.0 in
    let new = c.pass_part.new.self.candidates in
    let clock : ℕ → List ℕ = λ n. row_at w.clocks q (min n (place_at w.state q)) in
    let least : sum c.args.self.now.candidates ≤ sum c.loop-p.self.candidates =
    on_sum w c.args.self.now c.loop-p.self c.requires.search before.on in
    let on = c.pass_part.ensures.on in
    let rest : sum c.loop-p.self.candidates ≤ sum new = on_sum w c.loop-p.self c.pass_part.new.self before.on.search on in
    record {
      on = goes_on _ _ _ _ before.on on;
      passed = λ r less.
          ⊎_elim
          (λ (early : r < c.loop-p.p). let old = before.passed r early in let most = on.most r in omega (arith, old, most))
          (λ (late : c.loop-p.p ≤ r).
          let same : r ≡ c.loop-p.p = omega (arith, less, late) in
          subst (λ (x : ℕ). get_or (clock (get_or c.args.self.now.candidates q 0)) x 0 ≤ get_or new x 0) (sym same)
          (subst (λ (n : ℕ). get_or (clock n) c.loop-p.p 0 ≤ get_or new c.loop-p.p 0) before.own c.pass_part.ensures.part.part))
          (cases_lt r c.loop-p.p);
      own = c.pass_part.ensures.part.own ∙ before.own;
      more = elim c.if-pass_part.branch [
        | then-pass_part w ↦ λ moved. let more = c.pass_part.ensures.more w.if-pass_part.true in omega (arith, least, more)
        | else-pass_part w ↦ λ moved. let more = before.more (sym w.moved-is ∙ moved) in omega (arith, rest, more)
      ];
      same = elim c.if-pass_part.branch [
        | then-pass_part w ↦ λ none. absurd (let e = w.moved-is in cc)
        | else-pass_part w ↦ λ none. c.pass_part.ensures.same w.if-pass_part.false ∙ before.same (sym w.moved-is ∙ none)
      ];
    }

pub returns-clause-on : goal.returns-clause-on
returns-clause-on c = c.loop-p.invariant.on

pub returns-clause-clock : goal.returns-clause-clock
returns-clause-clock c = λ r.
    let w = c.args.world.now in
    let q = c.args.pid.0 in
    let event = min (get_or c.args.self.now.candidates q 0) (place_at w.state q) in
    let all = c.loop-p-test.false in
    ⊎_elim
    (λ (there : r < c.loop-p.p). c.loop-p.invariant.passed r there)
    (λ (past : c.loop-p.p ≤ r).
    let none : place_at w.state r ≡ 0 = get_or_past w.state.places r 0 (omega (
      arith,
      past,
      all,
      c.processes-p-end.ensures,
      ap (λ (l : List (List Kind)). length l) c.tally.ensures.kinds,
      kinds_placed w c.requires.world,
    )) in
    let few = row_within w c.requires.world q event c.requires.here (omega arith) r in
    omega (arith, none, few))
    (cases_lt r c.loop-p.p)

pub returns-clause-own : goal.returns-clause-own
returns-clause-own c = c.loop-p.invariant.own

pub returns-clause-more : goal.returns-clause-more
returns-clause-more c = c.loop-p.invariant.more

pub returns-clause-same : goal.returns-clause-same
returns-clause-same c = c.loop-p.invariant.same
