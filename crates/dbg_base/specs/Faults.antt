-- The numbers of the kinds of faults.
use Rattle.std.specs.Prelude.{ℕ}
use Rattle.dbg_base.specs.declared.fault.FaultKind.{FaultKind}
use Rattle.dbg_base.specs.declared.fault.FaultKind.TheVariants.{Byte, Token, Grammar, NameTaken, NameUnknown, TypeWrong, Limit, SelfSend}
use Rattle.dbg_base.specs.declared.fault.FaultKind.TheVariants.{SetTwice}

abbrev pub kind_number : FaultKind → ℕ
kind_number Byte = 1
kind_number Token = 2
kind_number Grammar = 3
kind_number NameTaken = 4
kind_number NameUnknown = 5
kind_number TypeWrong = 6
kind_number Limit = 7
kind_number SelfSend = 8
kind_number SetTwice = 9
