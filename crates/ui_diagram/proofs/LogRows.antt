-- The log of an example, by the definition.
use Rattle.std.proofs.Common.{◌≡◌, [], ◌∷◌, refl}
use Rattle.std.specs.Prelude.{codes}
use Rattle.std.specs.Fmt.{digits}
use Rattle.dbg_base.specs.Trees.{Program}
use Rattle.ui_diagram.specs.Logs.{clock_text, entry_text}

abbrev three : Program
three = record { name = codes "a"; variables = []; commands = [] } ∷ record { name = codes "b"; variables = []; commands = [] }
    ∷ record { name = codes "c"; variables = []; commands = [] } ∷ []

two_counts : clock_text three (12 ∷ 0 ∷ 1 ∷ []) ≡ codes "{\"a\":12,\"c\":1}"
unfolding digits
two_counts = refl

one_count : clock_text three (0 ∷ 1 ∷ 0 ∷ []) ≡ codes "{\"b\":1}"
unfolding digits
one_count = refl

entry : entry_text three (record { event = record { pid = record { 0 = 1 }; number = 2; clock = 1 ∷ 2 ∷ 0 ∷ [] }; words = codes "x 0 -> 1" })
    ≡ codes "b {\"a\":1,\"b\":2}\nx 0 -> 1\n"
unfolding digits
entry = refl
