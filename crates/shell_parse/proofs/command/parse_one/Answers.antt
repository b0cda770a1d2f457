use Rattle.std.proofs.Common.{◌≡◌, true, false, sym, rules}
use Rattle.std.specs.Prelude.{codes}
use Rattle.std.specs.Str.{bytes_eq}
use Rattle.proc_tree.specs.Programs.{program_of}
use Rattle.shell_parse.proofs.CommandWordLemmas.{by_break, by_words}
use Rattle.shell_parse.proofs.command.parse_one.Goals as goal

pub returns-then-eq : goal.returns-then-eq
returns-then-eq c =
    let is : bytes_eq c.next_word.result.0.now (codes "break") ≡ true = search rules in
    by_break (program_of c.args.program.now) c.args.bytes.now c.next_word.result.0.now c.next_word.result.1.now c.parse_break.result
    (sym c.next_word.ensures.word) (sym c.next_word.ensures.rest) is c.parse_break.ensures

pub returns : goal.returns
returns c =
    let is : bytes_eq c.next_word.result.0.now (codes "break") ≡ false = search rules in
    by_words (program_of c.args.program.now) c.args.bytes.now c.next_word.result.0.now c.next_word.result.1.now c.parse_words.result
    (sym c.next_word.ensures.word) (sym c.next_word.ensures.rest) is c.parse_words.ensures
