-- What an event did, and with which process.
use Rattle.std.specs.Prelude.{ℕ, Bool, true, false, ◌==◌}
use Rattle.cut_core.specs.declared.kind.Kind.{Kind}
use Rattle.cut_core.specs.declared.kind.Kind.TheVariants.{Sent, Got, Local}

-- whether it sends to process j
abbrev pub sends_to : ℕ → Kind → Bool
sends_to j (Sent to) = to.0 == j
sends_to j (Got from) = false
sends_to j Local = false

-- whether it receives from process i
abbrev pub gets_from : ℕ → Kind → Bool
gets_from i (Sent to) = false
gets_from i (Got from) = from.0 == i
gets_from i Local = false

-- whether it does neither
abbrev pub is_local : Kind → Bool
is_local (Sent to) = false
is_local (Got from) = false
is_local Local = true

-- whether it does the same, with the same process
abbrev pub is_like : Kind → Kind → Bool
is_like (Sent to) = sends_to to.0
is_like (Got from) = gets_from from.0
is_like Local = is_local
