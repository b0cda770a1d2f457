-- What contracts see of a sink, and what writes do to it.
use Rattle.std.specs.Prelude.{◌≡◌, ℕ, List, Option}
use Rattle.std.specs.Io.KnownBytes.{Appends}
use Rattle.shell_io.specs.declared.health.Health.{Health}
use Rattle.shell_io.specs.declared.health.Health.TheVariants.{Fine, Failed}
use Rattle.shell_io.specs.declared.noted.Noted.{Noted}

-- the bytes that it holds, if they are known, and whether it has failed
pub record Seen : Type 0 where
  pub contents : Option (List ℕ)
  pub health : Health

-- these bytes were written, and it has not failed if it had not before
pub record Appended (old new : Seen) (bytes : List ℕ) : Type 0 where
  pub appends : Appends old.contents new.contents bytes
  pub fine : old.health ≡ Fine → new.health ≡ Fine

-- these bytes were written, and then it failed, once, if it had not before
pub record CutShort (old new : Seen) (bytes : List ℕ) : Type 0 where
  pub appends : Appends old.contents new.contents bytes
  pub failed : old.health ≡ Fine → new.health ≡ Failed

-- what contracts see of a noted writer
abbrev pub seen_noted : {W : Type 0} → (W → Option (List ℕ)) → Noted W → Seen
seen_noted contents noted = record { contents = contents noted.device; health = noted.health }
