use Rattle.std.proofs.Common.{sym}
use Rattle.proc_lang.proofs.FirstTokenLemmas.{word_before, number_before}
use Rattle.proc_lang.proofs.scan.prefix_piece.Goals as goal

pub returns-then-is_ascii_lowercase : goal.returns-then-is_ascii_lowercase
returns-then-is_ascii_lowercase c =
    word_before c.args.bytes.now _ c.word_length.result c.in_ok-first.ensures.value
    (sym c.if-is_ascii_lowercase.ensures.value) c.word_length.ensures

pub returns-then-is_ascii_digit : goal.returns-then-is_ascii_digit
returns-then-is_ascii_digit c =
    number_before c.args.bytes.now _ c.digit_length.result c.in_ok-first.ensures.value
    (sym c.if-is_ascii_digit.ensures.value) c.digit_length.ensures
