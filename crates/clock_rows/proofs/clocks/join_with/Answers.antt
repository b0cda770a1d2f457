use Rattle.std.proofs.Common.{◌≡◌, ℕ, List, [], get_or, sym, ap, ◌∙◌, rules}
use Rattle.clock_rows.specs.Clocks.{HistoryState, join, last_row}
use Rattle.clock_rows.proofs.Joins.{join_self}
use Rattle.clock_rows.proofs.clocks.join_with.Goals as goal

pub returns-then-is_last : goal.returns-then-is_last
returns-then-is_last c =
    let last : List ℕ = last_row c.args.history.now.rows in
    let own : c.args.given.now ≡ c.args.history.now = search rules in
    let n_last : get_or c.args.history.now.rows c.args.n [] ≡ last = search rules in
    let copied : c.copy_from_slice.new.self ≡ last = search rules in
    let row : get_or c.args.given.now.rows c.args.n [] ≡ last =
    ap (λ (history : HistoryState). get_or history.rows c.args.n []) own ∙ n_last in
    copied ∙ sym (join_self last) ∙ ap (λ (other : List ℕ). join last other) (sym row)
