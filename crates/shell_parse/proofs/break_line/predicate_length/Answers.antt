use Rattle.std.proofs.Common.{length, ap, sym, ◌∙◌}
use Rattle.shell_parse.proofs.FirstWords.{word_length_is}
use Rattle.shell_parse.proofs.BreakLines.{predicate_is_word}
use Rattle.shell_parse.proofs.break_line.predicate_length.Goals as goal

pub returns : goal.returns
returns c =
    c.word_length.ensures ∙ sym (word_length_is c.args.bytes.now)
    ∙ sym (ap length (predicate_is_word c.args.bytes.now (λ some same. c.if-first-eq40.false same)))
