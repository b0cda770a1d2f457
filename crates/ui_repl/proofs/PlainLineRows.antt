-- Lines of plain sessions, and what is played for them.
use Rattle.std.proofs.Common.{◌≡◌, refl, inr}
use Rattle.std.specs.Prelude.{codes, Some}
use Rattle.ui_repl.specs.Expected.{wanted_reply}
use Rattle.ui_repl.specs.PlainLines.{PlainLine, once, repeated, without_comment, IsPlayed}

whole : IsPlayed (codes "1 step a 2") (once (codes "1 step a 2"))
whole = (codes "1 step a 2", refl, refl)

comment_at_the_end : without_comment (codes "undo a  # once") ≡ codes "undo a"
comment_at_the_end = refl

comment_alone : IsPlayed (codes " # next a") (once (codes " # next a"))
comment_alone = refl

repeated_line : repeated (codes "1 next a 3") ≡ record { text = codes "1 next a"; again = 2 }
repeated_line = refl

not_repeated : repeated (codes "next a 0") ≡ once (codes "next a 0")
not_repeated = refl

short_and_repeated : IsPlayed (codes "n a 3 # thrice") (record { text = codes "next a"; again = 2 })
short_and_repeated = (codes "next a 3", inr (codes "next", refl, refl), refl)

expected : wanted_reply (codes " > ok a 0 ") ≡ Some (codes "ok a 0")
expected = refl
