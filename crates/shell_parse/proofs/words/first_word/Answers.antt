use Rattle.std.proofs.Common.{◌≡◌, ◌<◌, ◌∷◌, List, ℕ, length, arith, sym, ◌∙◌, ap}
use Rattle.std.proofs.lemmas.Bool.Decides.{nat_tests}
use Rattle.dbg_base.specs.CommandLines.{words_of, next_word, after_word}
use Rattle.shell_parse.proofs.FirstWords.{begins_with_word, no_word}
use Rattle.shell_parse.proofs.words.first_word.Goals as goal

pub returns-then-is_empty : goal.returns-then-is_empty
returns-then-is_empty c =
    let none : length c.next_word.result.0.now ≡ 0 = grind (arith, nat_tests) in
    no_word c.args.bytes.now (ap length (sym c.next_word.ensures.word) ∙ none)

pub returns : goal.returns
returns c =
    let some : 0 < length c.next_word.result.0.now = grind (arith, nat_tests) in
    let length_is : length c.next_word.result.0.now ≡ length (next_word c.args.bytes.now) = ap length c.next_word.ensures.word in
    begins_with_word c.args.bytes.now (omega (arith, some, length_is))
    ∙ ap (λ (word : List ℕ). word ∷ words_of (after_word c.args.bytes.now)) (sym c.next_word.ensures.word)
    ∙ ap (λ (rest : List ℕ). c.next_word.result.0.now ∷ words_of rest) (sym c.next_word.ensures.rest)
