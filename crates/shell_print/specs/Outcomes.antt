-- The exit statuses, and what an outcome says of the devices.
use Rattle.std.specs.Prelude.{ℕ, Result, Ok, Err}
use Rattle.shell_io.specs.declared.health.Health.{Health}
use Rattle.shell_io.specs.declared.health.Health.TheVariants.{Fine, Failed}
use Rattle.shell_print.specs.declared.outcome.Served.{Served}
use Rattle.shell_print.specs.declared.outcome.Served.TheVariants.{Done, Refused, TooLong}
use Rattle.shell_print.specs.declared.outcome.ServeFault.{ServeFault}
use Rattle.shell_print.specs.declared.outcome.ServeFault.TheVariants.{Read, Write, Memory}

abbrev pub status_of : Result Served ServeFault → ℕ
status_of (Ok Done) = 0
status_of (Ok Refused) = 3
status_of (Ok TooLong) = 1
status_of (Err Read) = 1
status_of (Err Write) = 1
status_of (Err Memory) = 4

-- the source has failed, once, exactly if the result is its fault
abbrev pub source_after : {A : Type 0} → Result A ServeFault → Health
source_after (Ok value) = Fine
source_after (Err Read) = Failed
source_after (Err Write) = Fine
source_after (Err Memory) = Fine

-- the same for the sink
abbrev pub sink_after : {A : Type 0} → Result A ServeFault → Health
sink_after (Ok value) = Fine
sink_after (Err Read) = Fine
sink_after (Err Write) = Failed
sink_after (Err Memory) = Fine
