-- The numbers of refusals.
use Rattle.std.specs.Prelude.{ℕ}
use Rattle.dbg_base.specs.declared.refusal.Refusal.{Refusal}
use Rattle.dbg_base.specs.declared.refusal.Refusal.TheVariants.{UnknownProcess, UnknownChoice, GuardFalse, Fault, ChannelEmpty}
use Rattle.dbg_base.specs.declared.refusal.Refusal.TheVariants.{NothingToUndo, Consequence, NothingToRedo, Halted, BadPlace, BreakTaken}
use Rattle.dbg_base.specs.declared.refusal.Refusal.TheVariants.{UnknownBreak, NoCut, NotArmed, AlreadyArmed, NothingBack, OtherSeat}
use Rattle.dbg_base.specs.declared.refusal.Refusal.TheVariants.{ProcessFull, BreaksFull, JournalFull, Memory, BadLine, BadPredicate}
use Rattle.dbg_base.specs.declared.refusal.Refusal.TheVariants.{NoneEnabled, InBatch}

abbrev pub refusal_number : Refusal → ℕ
refusal_number UnknownProcess = 1
refusal_number UnknownChoice = 2
refusal_number GuardFalse = 3
refusal_number Fault = 4
refusal_number ChannelEmpty = 5
refusal_number NothingToUndo = 6
refusal_number (Consequence q) = 7
refusal_number NothingToRedo = 8
refusal_number (Halted b) = 9
refusal_number BadPlace = 10
refusal_number BreakTaken = 11
refusal_number UnknownBreak = 12
refusal_number NoCut = 13
refusal_number NotArmed = 14
refusal_number AlreadyArmed = 15
refusal_number NothingBack = 16
refusal_number (OtherSeat s) = 17
refusal_number ProcessFull = 18
refusal_number BreaksFull = 19
refusal_number JournalFull = 20
refusal_number Memory = 21
refusal_number BadLine = 22
refusal_number BadPredicate = 23
refusal_number NoneEnabled = 24
refusal_number (InBatch at number) = 25
