-- Which answers fit a call: an answer is of the call's kind, and has only the processes and variables of the program.
use Rattle.std.specs.Prelude.{◌≡◌, ◌<◌, Some, None, Ok, Err, length}
use Rattle.dbg_base.specs.declared.said.Said.{Said}
use Rattle.dbg_base.specs.declared.said.Said.TheVariants.{Accepted, Answered, Refused}
use Rattle.dbg_base.specs.declared.said.Done.{Done}
use Rattle.dbg_base.specs.declared.said.Done.TheVariants.{Played, Undone, Places, Plain}
use Rattle.dbg_base.specs.declared.said.Answer.{Answer}
use Rattle.dbg_base.specs.declared.said.Answer.TheVariants.{Values, Messages, Counts, PlaceOf, CanUndo, CutIs, Frontier, Marks}
use Rattle.dbg_base.specs.declared.refusal.Refusal.{Refusal}
use Rattle.dbg_base.specs.declared.refusal.Refusal.TheVariants.{Consequence}
use Rattle.dbg_base.specs.Trees.{Program, process_of}
use Rattle.dbg_base.specs.Calls.{Query, Vars, Chan, Clock, Place, Can, CutOf, Why, Breaks, Call, Give, Back, Ask}

-- the process that a refusal names exists
abbrev pub FitsRefusal : Program → Refusal → Type 0
FitsRefusal P (Consequence pid) = pid.0 < length P
FitsRefusal P refusal = Unit {0}

-- the process that made an event exists, and there is a place for each process
abbrev pub FitsDone : Program → Done → Type 0
FitsDone P (Played pid choice) = pid.0 < length P
FitsDone P (Undone pid choice) = pid.0 < length P
FitsDone P (Places cut) = length cut ≡ length P
FitsDone P Plain = Unit {0}

-- The processes of a query exist, and its answer has a value for each variable, or a component for each process.
abbrev pub FitsAnswer : Program → Query → Answer → Type 0
FitsAnswer P (Vars p) (Values values) = (p < length P) × (length values ≡ length (process_of P p).variables)
FitsAnswer P (Chan i j) (Messages messages) = (i < length P) × (j < length P)
FitsAnswer P (Clock p) (Counts cut) = (p < length P) × (length cut ≡ length P)
FitsAnswer P (Place p) (PlaceOf at line) = p < length P
FitsAnswer P (Can p) (CanUndo (Ok done)) = p < length P
FitsAnswer P (Can p) (CanUndo (Err refusal)) = (p < length P) × FitsRefusal P refusal
FitsAnswer P (CutOf name) (CutIs None) = Unit {0}
FitsAnswer P (CutOf name) (CutIs (Some cut)) = length cut ≡ length P
FitsAnswer P (Why name) (Frontier heads) = length heads ≡ length P
FitsAnswer P Breaks (Marks marks) = Unit {0}
FitsAnswer P query answer = ⊥

-- A command is accepted, a query is answered, and each call may be refused.
abbrev pub FitsCall : Program → Call → Said → Type 0
FitsCall P (Give order) (Accepted reply) = FitsDone P reply.done
FitsCall P Back (Accepted reply) = FitsDone P reply.done
FitsCall P (Ask query) (Answered answer) = FitsAnswer P query answer
FitsCall P call (Refused refusal) = FitsRefusal P refusal
FitsCall P call said = ⊥
