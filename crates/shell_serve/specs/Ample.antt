-- The output of a run on a machine with enough memory.
use Rattle.std.specs.Prelude.{◌≡◌, ℕ, Bool, false, List, codes}
use Rattle.std.specs.List.{list_any}
use Rattle.std.specs.Str.{bytes_eq}
use Rattle.dbg_base.specs.Shell.{lines_of}

-- whether this text is a line of the output
abbrev pub has_line : List ℕ → List ℕ → Bool
has_line text out = list_any (λ line. bytes_eq line text) (lines_of out).whole

-- no call is refused as out of memory
abbrev pub IsAmple : List ℕ → Type 0
IsAmple out = has_line (codes "no 21") out ≡ false
