-- Which reply a call has: that of a command, or the answer to a question.
use Rattle.std.specs.Prelude.{Option, Some, None}
use Rattle.dbg_base.specs.declared.said.Said.{Said}
use Rattle.dbg_base.specs.declared.said.Said.TheVariants.{Accepted, Answered, Refused}
use Rattle.dbg_base.specs.Calls.{Call, Query, Ask}
use Rattle.dbg_base.specs.Fits.{FitsDone, FitsAnswer, FitsRefusal}
use Rattle.dbg_base.specs.Trees.{Program}

-- the question of a call that asks one
abbrev pub question_of : Call → Option Query
question_of (Ask query) = Some query
question_of call = None

-- A command is accepted, this question is answered, and each may be refused.
abbrev pub FitsSaid : Program → Option Query → Said → Type 0
FitsSaid P None (Accepted reply) = FitsDone P reply.done
FitsSaid P (Some query) (Answered answer) = FitsAnswer P query answer
FitsSaid P question (Refused refusal) = FitsRefusal P refusal
FitsSaid P question said = ⊥
