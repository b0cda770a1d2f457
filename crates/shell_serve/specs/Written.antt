-- The output is a text of some form, or a prefix of one.
use Rattle.std.specs.Prelude.{ℕ, List}
use Rattle.shell_io.specs.Seen.{Seen, Appended}
use Rattle.shell_print.specs.Writing.{AppendsPrefix}

-- a text of this form was written
abbrev pub WritesSome : Seen → Seen → (List ℕ → Type 0) → Type 0
WritesSome old new IsOut = (out : List ℕ) × IsOut out × Appended old new out

-- a prefix of a text of this form was written
abbrev pub WritesPrefix : Seen → Seen → (List ℕ → Type 0) → Type 0
WritesPrefix old new IsOut = (out : List ℕ) × IsOut out × AppendsPrefix old new out
