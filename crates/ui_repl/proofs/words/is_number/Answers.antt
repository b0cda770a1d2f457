use Rattle.std.proofs.Common.{◌≡◌, ℕ, ◌<◌, List, [], ◌∷◌, length, get_or, drop, refl, arith}
use Rattle.std.specs.Prelude.{◌&&◌}
use Rattle.std.specs.List.{list_all}
use Rattle.dbg_base.specs.Tokens.{is_digit, is_numeral}
use Rattle.ui_repl.proofs.words.is_number.Goals as goal

numeral_is : (word : List ℕ) → 0 < length word → (is_digit (get_or word 0 0) && list_all is_digit (drop 1 word)) ≡ is_numeral word
numeral_is [] h = absurd (omega arith)
numeral_is (b ∷ bytes) h = refl
