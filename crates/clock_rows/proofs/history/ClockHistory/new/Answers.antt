use Rattle.std.proofs.Common.{◌≡◌, ℕ}
use Rattle.clock_rows.proofs.Histories.{first_rows}
use Rattle.clock_rows.proofs.history.ClockHistory.new.Goals as goal

pub returns-clause-rows : goal.returns-clause-rows
returns-clause-rows c =
    first_rows c.args.width _ c.in_ok-vec.field-0.items c.requires c.in_ok-vec.ensures.len
    (c.in_ok-vec.ensures.items_if_clones_equal (λ (y : ℕ) (e : y ≡ 0). e))
