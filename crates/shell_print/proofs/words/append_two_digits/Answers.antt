use Rattle.std.proofs.Common.{List, [], ◌∷◌, ◌++◌, ℕ, ◌+◌, ◌%◌, ◌∙◌, ap}
use Rattle.shell_print.proofs.DigitLemmas.{two_digits}
use Rattle.shell_print.proofs.words.append_two_digits.Goals as goal

pub returns-clause-text : goal.returns-clause-text
returns-clause-text g c =
    let n = c.args.number in
    c.append_digit-2.ensures ∙ ap (λ (t : List ℕ). t ++ (48 + n % 10) ∷ []) c.append_digit.ensures
    ∙ two_digits c.args.text.now n c.requires.number.0 c.requires.number.1
