use Rattle.std.proofs.Common.{◌++◌, ◌∷◌, [], ◌+◌, ◌%◌, List, ℕ, sym, ◌∙◌, ap, arith}
use Rattle.std.proofs.lemmas.Fmt.{decimal_digit}
use Rattle.shell_print.proofs.DigitLemmas.{last_digit}
use Rattle.shell_print.proofs.words.append_count.Goals as goal

pub returns-then-count-lt10-clause-text : goal.returns-then-count-lt10-clause-text
returns-then-count-lt10-clause-text g c =
    c.append_digit.ensures ∙ ap (λ (t : List ℕ). c.args.text.now ++ t) (sym (decimal_digit c.args.count (omega (arith, c.if-count-lt10.true))))

pub returns-then-count-lt1000-clause-text : goal.returns-then-count-lt1000-clause-text
returns-then-count-lt1000-clause-text g c =
    c.append_digit-then-count-lt1000.ensures
    ∙ ap (λ (t : List ℕ). t ++ (48 + c.args.count % 10) ∷ []) c.append_two_digits-then-count-lt1000.ensures.text
    ∙ last_digit c.args.text.now c.args.count (omega (arith, c.if-count-lt100.false)) (omega (arith, c.if-count-lt1000.true))
