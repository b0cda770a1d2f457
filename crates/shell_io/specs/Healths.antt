-- What a call does to the health of a device.
use Rattle.std.specs.Prelude.{Result, Ok, Err}
use Rattle.shell_io.specs.declared.health.Health.{Health}
use Rattle.shell_io.specs.declared.health.Health.TheVariants.{Fine, Failed, TriedAgain}

-- the health after a call with this result
abbrev pub health_after : {A E : Type 0} → Health → Result A E → Health
health_after Fine (Ok value) = Fine
health_after Fine (Err error) = Failed
health_after Failed result = TriedAgain
health_after TriedAgain result = TriedAgain
