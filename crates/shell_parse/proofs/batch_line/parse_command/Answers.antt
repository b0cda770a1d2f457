use Rattle.std.proofs.Common.{◌≡◌, true, false, rules}
use Rattle.std.specs.Prelude.{codes}
use Rattle.std.specs.Str.{bytes_eq}
use Rattle.proc_tree.specs.Programs.{program_of}
use Rattle.shell_parse.proofs.CommandWordLemmas.{by_break, by_words, by_one}
use Rattle.shell_parse.proofs.GivableBatchLemmas.{one_fits}
use Rattle.shell_parse.proofs.batch_line.parse_command.Goals as goal

pub returns-then-eq-2 : goal.returns-then-eq-2
returns-then-eq-2 c bytes first after =
    let P = program_of c.args.program.now in
    let word = c.args.word.now in
    let rest = c.args.rest.now in
    let result = c.parse_break.result in
    let no_batch : bytes_eq word (codes "batch") ≡ false = search rules in
    let is : bytes_eq word (codes "break") ≡ true = search rules in
    let one = by_break P bytes word rest result first after is c.parse_break.ensures in
    (by_one P bytes word rest result first after no_batch one, one_fits P bytes result one)

pub returns : goal.returns
returns c bytes first after =
    let P = program_of c.args.program.now in
    let word = c.args.word.now in
    let rest = c.args.rest.now in
    let result = c.parse_words.result in
    let no_batch : bytes_eq word (codes "batch") ≡ false = search rules in
    let is : bytes_eq word (codes "break") ≡ false = search rules in
    let one = by_words P bytes word rest result first after is c.parse_words.ensures in
    (by_one P bytes word rest result first after no_batch one, one_fits P bytes result one)
