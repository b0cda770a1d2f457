-- The output of the check of a program text.
use Rattle.std.proofs.Common.{◌≡◌, ℕ, List, refl, inl, inr}
use Rattle.dbg_base.specs.Trees.{Program}
use Rattle.dbg_base.specs.Checks.{Reads, IsFault}
use Rattle.dbg_base.specs.Shell.{fault_text}
use Rattle.dbg_base.specs.declared.fault.ProgFault.{ProgFault}
use Rattle.shell_print.specs.Closings.{program_size_text}
use Rattle.shell_print.specs.declared.outcome.Served.TheVariants as outcomes
use Rattle.dbg_shell.specs.Checking.{ChecksText}

-- the size of a text that is a program
pub size_here : (P : Program) (text : List ℕ) → Reads text P → ChecksText text outcomes.Done (program_size_text P)
size_here P text reads = inl (P, reads, refl, refl)

-- the fault of a text that has one
pub fault_here : (fault : ProgFault) (text : List ℕ) → IsFault text fault → ChecksText text outcomes.Refused (fault_text fault)
fault_here fault text faulty = inr (fault, faulty, refl, refl)
