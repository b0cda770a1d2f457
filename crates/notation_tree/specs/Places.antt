-- Where a fault of a text is.
use Rattle.std.specs.Prelude.{ℕ, ◌≤◌}
use Rattle.notation_tree.specs.declared.fault.Fault.{Fault}
use Rattle.notation_tree.specs.declared.fault.NotationError.{NotationError}
use Rattle.notation_tree.specs.declared.fault.NotationError.TheVariants.{Bad, Memory}

-- the offset of a fault
abbrev pub offset_of : Fault → ℕ
offset_of fault = fault.at

-- a fault is in a text of so many bytes, or at its end; running out of memory has no place
abbrev pub IsInside : ℕ → NotationError → Type 0
IsInside bytes (Bad fault) = offset_of fault ≤ bytes
IsInside bytes Memory = Unit {0}
