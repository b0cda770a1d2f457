-- A line that was read, and the lines that are played for it.
use Rattle.std.specs.Prelude.{◌≡◌, ℕ, suc, ◌<◌, ◌≤◌, Bool, true, false, List, [], length, is_none, if◌then◌else◌}
use Rattle.shell_serve.specs.declared.source.Answer.{Answer}
use Rattle.shell_serve.specs.declared.source.Answer.TheVariants as answers
use Rattle.ui_repl.specs.PlainLines.{PlainLine, IsPlayed}
use Rattle.ui_repl.specs.declared.read_line.ReadLine.{ReadLine}

-- a line that is repeated ends after this answer: a refusal, a halt, or the end of the session
abbrev pub stops : Answer → Bool
stops answers.Nothing = false
stops answers.Refused = true
stops answers.Accepted = false
stops answers.Halted = true
stops answers.Ended = true

-- the line that is played, and how often it may be played again
abbrev pub played_line : List ℕ → ReadLine → PlainLine
played_line written read = record { text = if read.is_as_written then written else read.played.items; again = read.again }

-- A line of a plain session was begun: unless memory ran out, what it stands for is played, and no other line.
pub record IsBegun (written : List ℕ) (read : ReadLine) : Type 0 where
  pub alone : length read.plain.items ≤ read.next
  pub played : read.is_lost ≡ false → IsPlayed written (played_line written read)

-- It is played once more.
pub record IsRepeated (old new : ReadLine) : Type 0 where
  pub fewer : suc new.again ≡ old.again
  pub same : new.played ≡ old.played
  pub is_made : new.is_as_written ≡ false
  pub kept : new.is_lost ≡ old.is_lost
  pub alone : (new.plain ≡ old.plain) × (new.next ≡ old.next)
