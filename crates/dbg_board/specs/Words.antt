-- How a word holds a pair: as one number.
use Rattle.std.specs.Prelude.{ℕ, ◌+◌, ◌*◌, ◌/◌, ◌%◌}
use Rattle.dbg_board.specs.declared.glance.Glance.{Glance}

abbrev pub code_of : Glance → ℕ
code_of pair = 128 * pair.calls + pair.halt

-- the pair of a number
abbrev pub glance_of : ℕ → Glance
glance_of code = record { calls = code / 128; halt = code % 128 }
