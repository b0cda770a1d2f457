use Rattle.std.proofs.Common.{rules, ◌≡◌, ℕ, ◌-◌, Bool, true, false, List, ◌++◌, length, take, drop, refl, inr, sym, subst}
use Rattle.std.specs.Prelude.{◌==◌}
use Rattle.std.specs.Bool.{MatchBool}
use Rattle.std.specs.List.{list_any, starts_with}
use Rattle.std.specs.Str.{bytes_eq}
use Rattle.dbg_base.specs.CommandLines.{without_return}
use Rattle.ui_repl.specs.PlainLines.{command_words, command_word, arguments, with_command, IsCompleted}
use Rattle.ui_repl.proofs.PlainLineLemmas.{otherwise, refuted}
use Rattle.ui_repl.proofs.words.completed.Goals as goal

longer_word : (head : ℕ) (line part command rest word made : List ℕ) → part ≡ drop head line → command ≡ command_word part
    → rest ≡ arguments part → list_any (bytes_eq command) command_words ≡ false → starts_with (λ a b. a == b) word command ≡ true
    → made ≡ take (length (without_return line) - length rest - length command) line ++ word ++ drop (length (without_return line) - length rest) line
    → IsCompleted head line made
longer_word head line part command rest word made p w r short starts is =
    let same : command ≡ command_word (drop head line) = subst (λ (x : List ℕ). command ≡ command_word x) p w in
    let after : rest ≡ arguments (drop head line) = subst (λ (x : List ℕ). rest ≡ arguments x) p r in
    let whole : made ≡ with_command head line word =
    subst (λ (x : List ℕ). made ≡ take (length (without_return line) - length (arguments (drop head line)) - length x) line ++ word
    ++ drop (length (without_return line) - length (arguments (drop head line))) line) same
    (subst (λ (x : List ℕ). made ≡ take (length (without_return line) - length x - length command) line ++ word
    ++ drop (length (without_return line) - length x) line) after is) in
    otherwise _ _ _ (subst (λ (x : List ℕ). list_any (bytes_eq x) command_words ≡ false) same short)
    (inr (word, subst (λ (x : List ℕ). starts_with (λ a b. a == b) word x ≡ true) same starts, whole))

pub returns : goal.returns
returns c =
    longer_word c.args.head c.args.line.now c.later_bytes.result.now c.of-words.result.command.now c.of-words.result.arguments.now
    c.as_bytes-longer.result.now c.in_ok-with_command.field-0.items c.later_bytes.ensures c.of-words.ensures.command
    c.of-words.ensures.arguments (refuted _ _ c.are_whole.ensures c.if-are_whole.false) (search rules) (search rules)
