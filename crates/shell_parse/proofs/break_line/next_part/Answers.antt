use Rattle.std.proofs.Common.{◌≡◌, ◌<◌, length, true, Some, arith, sym, ap, ◌∙◌, drop}
use Rattle.std.proofs.lemmas.Bool.Decides.{nat_tests}
use Rattle.std.proofs.lemmas.Grind.{common_steps}
use Rattle.dbg_base.specs.CommandLines.{is_apart, name_word, predicate_prefix, without_blanks}
use Rattle.shell_parse.proofs.BreakLines.{has_part}
use Rattle.shell_parse.proofs.break_line.next_part.Goals as goal

pub returns-clause-part : goal.returns-clause-part
returns-clause-part c =
    let bytes = c.args.bytes.now in
    let word : 0 < length c.next_word.result.0.now = grind (arith, nat_tests) in
    let some : 0 < length c.next_predicate.result.0.now = grind (arith, nat_tests) in
    let named : name_word c.next_word.result.0.now ≡ Some c.in_ok-name.name = grind (arith, common_steps) in
    let apart : is_apart c.next_predicate.result.1.now ≡ true = grind (arith, common_steps) in
    let begun = c.after_blanks.ensures ∙ ap without_blanks c.next_word.ensures.rest in
    has_part bytes c.in_ok-name.name c.next_predicate.result.0.now c.next_predicate.result.1.now
    (omega (arith, word, ap length c.next_word.ensures.word)) (ap name_word (sym c.next_word.ensures.word) ∙ named)
    (c.next_predicate.ensures.text ∙ ap predicate_prefix begun)
    (c.next_predicate.ensures.rest ∙ ap (λ rest. drop (length (predicate_prefix rest)) rest) begun) some apart
