use Rattle.std.proofs.Common.{◌≡◌, ℕ, List, drop, refl, ap, ◌∙◌}
use Rattle.std.specs.Prelude.{◌==◌, not}
use Rattle.std.specs.List.{prefix_len}
use Rattle.std.proofs.lemmas.Str.Ascii.{trim_ascii_is}
use Rattle.ui_repl.specs.Expected.{trimmed_bytes}
use Rattle.ui_repl.proofs.words.after_mark.Goals as goal

pub returns : goal.returns
returns c =
    trim_ascii_is _ _ _ refl c.trim_ascii.ensures.value
    ∙ ap trimmed_bytes (c.later_bytes.ensures ∙ ap (drop 1) (c.later_bytes-marked.ensures
    ∙ ap (λ (n : ℕ). drop n c.args.line.now) c.length_before.ensures))
