-- The lines that say how a check or a crew ended.
use Rattle.std.specs.Prelude.{ℕ, List, [], ◌∷◌, ◌++◌, codes, length, sum_by}
use Rattle.std.specs.Fmt.{decimal}
use Rattle.dbg_base.specs.Shell.{as_line, size_text}
use Rattle.dbg_base.specs.Replies.{joined}
use Rattle.dbg_base.specs.Trees.{Program}

-- how many commands all its processes have
abbrev pub command_count : Program → ℕ
command_count P = sum_by (λ process. length process.commands) P

-- how many processes and commands a program has
abbrev pub program_size_text : Program → List ℕ
program_size_text P = size_text (length P) (command_count P)

-- there would be more calls than a session can enter
abbrev pub too_many_turns_text : List ℕ
too_many_turns_text = as_line (codes "too many turns")

-- so many calls were entered, and the journal agrees with the seats
abbrev pub settled_text : ℕ → List ℕ
settled_text calls = as_line (joined (codes "calls" ∷ decimal calls ∷ [])) ++ as_line (codes "journal ok")

-- the journal and the seats differ
abbrev pub differs_text : List ℕ
differs_text = as_line (codes "journal differs")
