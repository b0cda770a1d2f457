use Rattle.std.proofs.Common.{◌≡◌, List, length, map, sym, ap, subst, ◌∙◌, inl, inr, arith}
use Rattle.std.specs.Vec.{vec_len}
use Rattle.dbg_base.specs.declared.call.Conjunct.{Conjunct}
use Rattle.least_cut.specs.Watches.{TruthsState, WatchRoom}
use Rattle.least_cut.proofs.WatchPairLemmas.{ArePaired, paired_none, paired_all, next_here, next_line, paired_more}
use Rattle.least_cut.proofs.watches.watches_of.Goals as goal

pub loop-conjunct-init : goal.loop-conjunct-init
loop-conjunct-init c =
    let gives = c.into_iter-conjunct-iterator.ensures.into_iter_gives in
    let first = c.zip-conjunct-items.ensures.first in
    let second = c.zip-conjunct-items.ensures.second in
    let left : c.into_iter-conjunct-iterator.result.a.rest.items ≡ c.into_items.result.items = rw (gives, first) c.into_iter.ensures.rest in
    let count : c.into_iter-conjunct-iterator.result.a.rest.len ≡ vec_len c.into_items.result = rw (gives, first) c.into_iter.ensures.len in
    let known : c.into_iter-conjunct-iterator.result.b.rest.items ≡ c.into_lines.result.items = rw gives second.0 in
    let lines : c.into_iter-conjunct-iterator.result.b.rest.len ≡ vec_len c.into_lines.result = rw gives second.1 in
    record {
      paired = paired_none c.args.world.now c.args.conjuncts c.args.scan c.new-watches.result.items
          c.into_iter-conjunct-iterator.result.a.rest.items c.into_iter-conjunct-iterator.result.b.rest.items
          c.new-watches.ensures.items (left ∙ c.into_items.ensures)
          (ap (λ (l : List TruthsState). map (λ (t : TruthsState). t.line) l) known ∙ c.into_lines.ensures) c.requires.scan c.requires.here;
      first = omega (arith, count, c.into_items.result.ok.0, ap (λ (l : List Conjunct). length l) left);
      second = omega (arith, lines, c.into_lines.result.ok.0, ap (λ (l : List TruthsState). length l) known);
    }

pub new-requires-clause-here : goal.new-requires-clause-here
new-requires-clause-here c =
    let steps = c.in-Some.ensures.steps in
    next_here c.args.world.now c.args.conjuncts c.loop-conjunct.watches.items c.loop-conjunct.conjunct-iterator.a.rest.items
    c.loop-conjunct.conjunct-iterator.b.rest.items c.loop-conjunct.invariant.paired c.in-Some.conjunct c.in-Some.truths
    c.next.new.self.a.rest.items c.next.new.self.b.rest.items steps.0.0 steps.1.0

pub new-requires-clause-line : goal.new-requires-clause-line
new-requires-clause-line c =
    let steps = c.in-Some.ensures.steps in
    next_line c.args.world.now c.args.conjuncts c.loop-conjunct.watches.items c.loop-conjunct.conjunct-iterator.a.rest.items
    c.loop-conjunct.conjunct-iterator.b.rest.items c.loop-conjunct.invariant.paired c.in-Some.conjunct c.in-Some.truths
    c.next.new.self.a.rest.items c.next.new.self.b.rest.items steps.0.0 steps.1.0

pub loop-conjunct-preserved : goal.loop-conjunct-preserved
loop-conjunct-preserved c =
    let steps = c.in-Some.ensures.steps in
    let more : ArePaired c.args.world.now c.args.conjuncts c.push.new.self.items c.next.new.self.a.rest.items c.next.new.self.b.rest.items =
    subst (λ (l : List WatchRoom). ArePaired c.args.world.now c.args.conjuncts l c.next.new.self.a.rest.items c.next.new.self.b.rest.items)
    (sym c.in_ok-push.ensures.items)
    (paired_more c.args.world.now c.args.conjuncts c.loop-conjunct.watches.items c.loop-conjunct.conjunct-iterator.a.rest.items
    c.loop-conjunct.conjunct-iterator.b.rest.items c.loop-conjunct.invariant.paired c.in-Some.conjunct c.in-Some.truths
    c.next.new.self.a.rest.items c.next.new.self.b.rest.items steps.0.0 steps.1.0 c.in_ok-new.field-0 c.in_ok-new.ensures.of
    c.in_ok-new.ensures.conjunct) in
    record {
      paired = more;
      first = omega (arith, steps.0.1, c.loop-conjunct.invariant.first, ap (λ (l : List Conjunct). length l) steps.0.0);
      second = omega (arith, steps.1.1, c.loop-conjunct.invariant.second, ap (λ (l : List TruthsState). length l) steps.1.0);
    }

pub returns-clause-of : goal.returns-clause-of
returns-clause-of c = c.loop-conjunct.invariant.paired.watches

pub returns-clause-conjuncts : goal.returns-clause-conjuncts
returns-clause-conjuncts c =
    paired_all c.args.world.now c.args.conjuncts c.loop-conjunct.watches.items c.loop-conjunct.conjunct-iterator.a.rest.items
    c.loop-conjunct.conjunct-iterator.b.rest.items c.loop-conjunct.invariant.paired
    (elim c.in-None.ensures.steps [
      | inl x ↦ inl (sym c.loop-conjunct.invariant.first ∙ x.1.0)
      | inr x ↦ inr (sym c.loop-conjunct.invariant.second ∙ x.1.0)
    ])
