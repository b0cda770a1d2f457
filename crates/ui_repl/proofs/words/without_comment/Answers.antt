use Rattle.std.proofs.Common.{◌≡◌, ℕ, ◌<◌, List, length, take, arith, ◌∙◌, ap}
use Rattle.std.specs.Prelude.{◌==◌, not}
use Rattle.std.specs.List.{prefix_len}
use Rattle.std.proofs.lemmas.Bool.Decides.{nat_tests}
use Rattle.std.proofs.lemmas.Str.Ascii.{trim_ascii_end_is}
use Rattle.ui_repl.specs.PlainLines.{trimmed, without_comment}
use Rattle.ui_repl.proofs.words.without_comment.Goals as goal

bare_is : (line : List ℕ) (n : ℕ) → n ≡ prefix_len (λ byte. not (byte == 35)) line → n < length line
    → trimmed (take n line) ≡ without_comment line
bare_is line n e h = grind (arith, nat_tests)

pub returns-then-length-line : goal.returns-then-length-line
returns-then-length-line c =
    trim_ascii_end_is _ _ c.trim_ascii_end.ensures.value
    ∙ bare_is c.args.line.now c.length_before-length.result c.length_before-length.ensures c.if-length-line.true
