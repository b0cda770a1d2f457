use Rattle.std.proofs.Common.{ℕ, List, ◌++◌, take, drop, set, get_or, max, ap, sym, ◌∙◌, add-one}
use Rattle.clock_rows.specs.Clocks.{join}
use Rattle.clock_rows.proofs.Joins.{join_so_far}
use Rattle.clock_rows.proofs.history.join_rows.Goals as goal

pub loop-at-preserved : goal.loop-at-preserved
loop-at-preserved c =
    let row = c.args.row.now in
    let other = c.args.other.now in
    let joined = c.args.joined.now in
    let at : ℕ = c.loop-at.at in
    ap (λ (m : ℕ). set c.loop-at.joined at m) c.max.ensures
    ∙ ap (λ (now : List ℕ). set now at (max (get_or row at 0) (get_or other at 0))) c.loop-at.invariant
    ∙ join_so_far row other joined at c.loop-at-test.true c.requires.row c.requires.other
    ∙ ap (λ (k : ℕ). join (take k row) (take k other) ++ drop k joined) (sym (add-one at))
