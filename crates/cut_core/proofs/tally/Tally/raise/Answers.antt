use Rattle.std.proofs.Common.{◌≡◌, ℕ, ◌≤◌, get_or, [], length, take_all, ap, ◌∙◌, arith}
use Rattle.std.specs.List.{count_by}
use Rattle.cut_core.specs.declared.kind.Kind.TheVariants.{Sent}
use Rattle.cut_core.specs.Kinds.{sends_to}
use Rattle.cut_core.specs.Tallies.{sent_by, got_by}
use Rattle.cut_core.proofs.RaisedCutLemmas.{sent_enough, raised_sum, raised_above, raised_within, raised_least}
use Rattle.cut_core.proofs.tally.Tally.raise.Goals as goal

pub nth-requires-clause-enough : goal.nth-requires-clause-enough
nth-requires-clause-enough c =
    let kinds = c.args.self.now.kinds in
    let counts = c.loop-from.counts in
    let i : ℕ = c.in-Some.from.0 in
    let j : ℕ = c.in-Some.to.0 in
    let got : c.got-got.result ≡ got_by kinds j i (get_or counts j 0) =
    c.got-got.ensures ∙ ap (λ n. got_by kinds j i n) c.count_of.ensures in
    let le : got_by kinds j i (get_or counts j 0) ≤ sent_by kinds i j (length (get_or kinds i [])) =
    sent_enough kinds counts i j c.in-Some.ensures c.loop-from.invariant.within c.requires.all in
    let whole : sent_by kinds i j (length (get_or kinds i [])) ≡ count_by (sends_to j) (get_or kinds i []) =
    ap (count_by (sends_to j)) (take_all (length (get_or kinds i [])) (get_or kinds i []) (omega arith)) in
    let enough : c.got-got.result ≤ count_by (sends_to j) (get_or kinds i []) = omega arith in
    enough

pub loop-from-smaller : goal.loop-from-smaller
loop-from-smaller c =
    let kinds = c.args.self.now.kinds in
    let counts = c.loop-from.counts in
    let i : ℕ = c.in-Some.from.0 in
    let j : ℕ = c.in-Some.to.0 in
    let got : c.got-got.result ≡ got_by kinds j i (get_or counts j 0) =
    c.got-got.ensures ∙ ap (λ n. got_by kinds j i n) c.count_of.ensures in
    raised_sum kinds counts i j c.in-Some.ensures c.loop-from.invariant.within c.requires.all c.nth.result (Sent c.in-Some.to)
    c.nth.ensures.first c.nth.ensures.within c.nth.ensures.like (c.nth.ensures.count ∙ got)

pub loop-from-preserved : goal.loop-from-preserved
loop-from-preserved c =
    let kinds = c.args.self.now.kinds in
    let counts = c.loop-from.counts in
    let i : ℕ = c.in-Some.from.0 in
    let j : ℕ = c.in-Some.to.0 in
    let got : c.got-got.result ≡ got_by kinds j i (get_or counts j 0) =
    c.got-got.ensures ∙ ap (λ n. got_by kinds j i n) c.count_of.ensures in
    let count : sent_by kinds i j c.nth.result ≡ got_by kinds j i (get_or counts j 0) = c.nth.ensures.count ∙ got in
    record {
      within = raised_within kinds counts i j c.in-Some.ensures c.loop-from.invariant.within c.requires.all c.nth.result
          (Sent c.in-Some.to) c.nth.ensures.first c.nth.ensures.within c.nth.ensures.like count;
      above = λ p. let a = raised_above kinds counts i j c.in-Some.ensures c.loop-from.invariant.within c.requires.all c.nth.result
          (Sent c.in-Some.to) c.nth.ensures.first c.nth.ensures.within c.nth.ensures.like count p in
          let b = c.loop-from.invariant.above p in omega arith;
      least = raised_least kinds counts i j c.in-Some.ensures c.loop-from.invariant.within c.requires.all c.nth.result
          (Sent c.in-Some.to) c.nth.ensures.first c.nth.ensures.within c.nth.ensures.like count c.args.counts.now
          c.loop-from.invariant.least;
    }
