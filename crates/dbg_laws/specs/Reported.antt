-- The answers of a session apart from the two that are not entered.
use Rattle.dbg_base.specs.declared.said.Said.{Said}
use Rattle.dbg_base.specs.declared.said.Said.TheVariants.{Refused}
use Rattle.dbg_base.specs.declared.refusal.Refusal.TheVariants.{JournalFull, Memory}

-- the answer is neither "out of memory" nor "journal full"
abbrev pub IsReported : Said → Type 0
IsReported (Refused Memory) = ⊥
IsReported (Refused JournalFull) = ⊥
IsReported said = Unit {0}
