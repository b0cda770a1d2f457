use Rattle.std.proofs.Common.{◌≡◌, ℕ, ◌<◌, ◌≤◌, length, get_or, arith, inl, inr}
use Rattle.std.proofs.lemmas.Bool.{cases_lt}
use Rattle.dbg_base.specs.declared.ids.Pid.{Pid}
use Rattle.cut_core.specs.Tallies.{got_by}
use Rattle.cut_core.specs.ConsistentCuts.{HasOrphan}
use Rattle.cut_core.proofs.CountLemmas.{answer_weaker}
use Rattle.cut_core.proofs.CutBoundLemmas.{orphan_from, orphan_below}
use Rattle.cut_core.proofs.tally.Tally.orphan_of.Goals as goal

pub returns : goal.returns
returns c =
    let kinds = c.args.self.now.kinds in
    let counts = c.args.counts.now in
    let j : ℕ = c.args.to.0 in
    let n : ℕ = get_or counts j 0 in
    answer_weaker ((i : ℕ) → length kinds ≤ i → got_by kinds j i n ≡ 0) ((i : ℕ) → ¬ HasOrphan kinds counts i j)
    (λ (from : Pid). (length kinds ≤ from.0) × (0 < got_by kinds j from.0 n)) (λ (from : Pid). HasOrphan kinds counts from.0 j)
    c.stranger.result
    (λ none i. elim (cases_lt i (length kinds)) [
      | inl lt ↦ c.loop-i.invariant i (omega arith)
      | inr le ↦ λ orphan. orphan_below kinds counts i j orphan (none i le)
    ])
    (λ from some. orphan_from kinds counts from.0 j c.requires some.0 some.1)
    (rw (c.count_of.ensures) at c.stranger.ensures)
