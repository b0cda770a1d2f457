-- What was said to a line.
use Rattle.std.specs.Prelude.{ℕ, List}
use Rattle.dbg_base.specs.Calls.{call_of}
use Rattle.dbg_base.specs.Fits.{FitsCall, FitsRefusal}
use Rattle.dbg_base.specs.Replies.{reply_text, refusal_text}
use Rattle.dbg_base.specs.Shell.{as_line}
use Rattle.dbg_base.specs.Trees.{Program}
use Rattle.shell_serve.specs.declared.observer.LineReply.{LineReply}
use Rattle.shell_serve.specs.declared.observer.LineReply.TheVariants.{Said, Refused}

-- it fits the program
abbrev pub FitsReply : Program → LineReply → Type 0
FitsReply P (Said call said) = FitsCall P (call_of call.now) said.now
FitsReply P (Refused refusal) = FitsRefusal P refusal.now

-- the line of a run
abbrev pub reply_line : Program → LineReply → List ℕ
reply_line P (Said call said) = as_line (reply_text P (call_of call.now) said.now)
reply_line P (Refused refusal) = as_line (refusal_text P refusal.now)
