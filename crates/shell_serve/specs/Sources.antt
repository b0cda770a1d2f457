-- Sources of lines.
use Rattle.std.specs.Prelude.{◌≡◌, ◌<◌, ℕ, List, [], ◌∷◌, Option, Result, Ok, Err}
use Rattle.shell_serve.specs.declared.framing.Span.{Span}
use Rattle.shell_serve.specs.declared.framing.Next.{Next}
use Rattle.shell_serve.specs.declared.framing.Next.TheVariants.{Line, End, TooLong}
use Rattle.shell_print.specs.declared.outcome.ServeFault.{ServeFault}

-- the bytes of a line, or none if memory ran out before it was made
abbrev pub Given : Type 0
Given = Option (List ℕ)

-- A call of a source gave a line, which the source holds now, and fewer lines are left; or it gave none.
abbrev pub Advances : {S R : Type 0} → (S → R → Given → S → R → Type 0) → (S → R → Result Next ServeFault → S → R → Type 0)
    → (S → Span → Given → Type 0) → (S → ℕ) → S → R → Result Next ServeFault → S → R → Type 0
Advances Gives Stops Holds left s r (Ok (Line span)) t u = (line : Given) × Gives s r line t u × Holds t span line × (left t < left s)
Advances Gives Stops Holds left s r (Ok End) t u = Stops s r (Ok End) t u
Advances Gives Stops Holds left s r (Ok TooLong) t u = Stops s r (Ok TooLong) t u
Advances Gives Stops Holds left s r (Err fault) t u = Stops s r (Err fault) t u

-- calls, one after the other, gave these lines
abbrev pub GivesAll : {S R : Type 0} → (S → R → Given → S → R → Type 0) → S → R → List Given → S → R → Type 0
GivesAll Gives s r [] t u = (t ≡ s) × (u ≡ r)
GivesAll {S} {R} Gives s r (line ∷ lines) t u = (m : S) × (k : R) × Gives s r line m k × GivesAll Gives m k lines t u
