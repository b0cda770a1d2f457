use Rattle.std.proofs.Common.{◌≡◌, inl, inr, ℕ, ◌+◌, ◌-◌, ◌≤◌, get_or, set, sum, refl, ap, ◌∙◌, arith}
use Rattle.std.proofs.lemmas.Bool.{cases_Bool}
use Rattle.cut_core.specs.declared.kind.Kind.TheVariants.{Got}
use Rattle.cut_core.specs.Tallies.{sent_by, got_by}
use Rattle.cut_core.proofs.LoweredCutLemmas.{lowered_sum, lowered_by, lowered_none, lowered_more}
use Rattle.cut_core.proofs.tally.Tally.lower_at.Goals as goal

pub loop-from-init : goal.loop-from-init
loop-from-init c = record { kept = lowered_none _ _ c.requires.within; less = λ e. absurd cc; same = λ e. refl }

pub loop-from-smaller : goal.loop-from-smaller
loop-from-smaller c =
    let kinds = c.args.self.now.kinds in
    let counts = c.loop-from.counts in
    let i : ℕ = c.in-Some.from.0 in
    let j : ℕ = c.args.to.0 in
    let sent : c.sent-sent.result ≡ sent_by kinds i j (get_or counts i 0) =
    c.sent-sent.ensures ∙ ap (λ n. sent_by kinds i j n) c.count_of.ensures in
    lowered_sum kinds counts i j c.nth.result (Got c.in-Some.from) c.in-Some.ensures c.loop-from.invariant.kept.within
    c.nth.ensures.first c.nth.ensures.within c.nth.ensures.like (c.nth.ensures.count ∙ ap (λ n. n + 1) sent)

pub loop-from-preserved : goal.loop-from-preserved
loop-from-preserved c =
    let kinds = c.args.self.now.kinds in
    let counts = c.loop-from.counts in
    let i : ℕ = c.in-Some.from.0 in
    let j : ℕ = c.args.to.0 in
    let sent : c.sent-sent.result ≡ sent_by kinds i j (get_or counts i 0) =
    c.sent-sent.ensures ∙ ap (λ n. sent_by kinds i j n) c.count_of.ensures in
    let count : got_by kinds j i c.nth.result ≡ sent_by kinds i j (get_or counts i 0) + 1 =
    c.nth.ensures.count ∙ ap (λ n. n + 1) sent in
    let less = lowered_sum kinds counts i j c.nth.result (Got c.in-Some.from) c.in-Some.ensures c.loop-from.invariant.kept.within
    c.nth.ensures.first c.nth.ensures.within c.nth.ensures.like count in
    let most : sum counts ≤ sum c.args.counts.now = elim (cases_Bool c.loop-from.lowered) [
      | inl lowered ↦ let lt = c.loop-from.invariant.less lowered in omega (arith, lt)
      | inr kept ↦ let same : sum counts ≡ sum c.args.counts.now = ap sum (c.loop-from.invariant.same kept) in omega (arith, same)
    ] in
    record {
      kept = lowered_more kinds c.args.counts.now counts (set counts j (c.nth.result - 1)) c.loop-from.invariant.kept
          (lowered_by kinds counts i j c.nth.result (Got c.in-Some.from) c.in-Some.ensures c.loop-from.invariant.kept.within
          c.nth.ensures.first c.nth.ensures.within c.nth.ensures.like count);
      less = λ e. omega (arith, less, most);
      same = λ e. absurd cc;
    }
