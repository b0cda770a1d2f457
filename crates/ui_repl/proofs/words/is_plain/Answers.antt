use Rattle.std.proofs.Common.{sym, ◌∙◌}
use Rattle.ui_repl.proofs.PlainLineLemmas.{plain_played}
use Rattle.ui_repl.proofs.words.is_plain.Goals as goal

pub returns-in-Some : goal.returns-in-Some
returns-in-Some c =
    λ h. plain_played c.args.line.now c.after_seat.result.now c.in-Some.name.now c.after_seat.ensures c.in-Some.ensures
    (sym c.are_word_bytes.ensures ∙ h)
