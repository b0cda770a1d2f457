-- What an output holds, and whether it has failed.
use Rattle.std.specs.Prelude.{ℕ, List, Option}
use Rattle.std.specs.Io.KnownBytes.{append_known}
use Rattle.shell_io.specs.Seen.{Seen}
use Rattle.shell_io.specs.declared.output.Output.{Output}

-- the bytes that the writer holds, and then the bytes in the buffer
abbrev pub output_contents : {W : Type 0} → (W → Option (List ℕ)) → Output W → Option (List ℕ)
output_contents contents o = append_known (contents o.inner.device) o.buffer

abbrev pub output_seen : {W : Type 0} → (W → Option (List ℕ)) → Output W → Seen
output_seen contents o = record { contents = output_contents contents o; health = o.inner.health }
