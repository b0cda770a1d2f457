use Rattle.std.proofs.Common.{◌≡◌, length, arith, sym, ◌∙◌, ap, take, drop}
use Rattle.std.proofs.lemmas.List.Sums.{prefix_len-le-length}
use Rattle.dbg_base.specs.CommandLines.{word_prefix}
use Rattle.shell_parse.proofs.FirstWords.{is_inner, word_length_is, word_taken}
use Rattle.shell_parse.proofs.words.next_word.Goals as goal

pub split_at-requires : goal.split_at-requires
split_at-requires c = omega (arith, c.word_length.ensures, prefix_len-le-length is_inner c.after_blanks-begun.result.now)

pub returns-clause-word : goal.returns-clause-word
returns-clause-word c =
    let begun = c.after_blanks-begun.result.now in
    let n : c.word_length.result ≡ length (word_prefix begun) = c.word_length.ensures ∙ sym (word_length_is begun) in
    c.split_at.ensures.front ∙ ap (λ k. take k begun) n ∙ word_taken begun ∙ ap word_prefix c.after_blanks-begun.ensures

pub returns-clause-rest : goal.returns-clause-rest
returns-clause-rest c =
    let begun = c.after_blanks-begun.result.now in
    let n : c.word_length.result ≡ length (word_prefix begun) = c.word_length.ensures ∙ sym (word_length_is begun) in
    c.split_at.ensures.back ∙ ap (λ k. drop k begun) n
    ∙ ap (λ rest. drop (length (word_prefix rest)) rest) c.after_blanks-begun.ensures
