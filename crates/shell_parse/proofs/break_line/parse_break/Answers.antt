use Rattle.std.proofs.Common.{◌≡◌, Some, Ok, true, ap, arith}
use Rattle.std.proofs.lemmas.Grind.{common_steps}
use Rattle.dbg_base.specs.CommandLines.{name_word, parts_in}
use Rattle.proc_tree.specs.Programs.{program_of}
use Rattle.shell_parse.specs.Lines.{has_parts}
use Rattle.shell_parse.proofs.BreakRequestLemmas.{asks_break, break_made}
use Rattle.shell_parse.proofs.break_line.parse_break.Goals as goal

pub returns-in_err-conjuncts : goal.returns-in_err-conjuncts
returns-in_err-conjuncts c =
    let named : name_word c.next_word.result.0.now ≡ Some c.in_ok-name.name = grind (arith, common_steps) in
    let formed : has_parts (parts_in c.next_word.result.1.now) ≡ true = grind (arith, common_steps) in
    let is : c.from_residual-in_err-conjuncts.result ≡ break_made c.in_ok-name.name c.read_parts.result = grind (arith, common_steps) in
    asks_break (program_of c.args.program.now) c.in_ok-name.name c.read_parts.result c.args.bytes.now c.next_word.result.0.now
    c.next_word.result.1.now c.next_word.ensures.word c.next_word.ensures.rest named formed c.read_parts.ensures _ is

pub returns : goal.returns
returns c =
    let named : name_word c.next_word.result.0.now ≡ Some c.in_ok-name.name = grind (arith, common_steps) in
    let formed : has_parts (parts_in c.next_word.result.1.now) ≡ true = grind (arith, common_steps) in
    let was : Ok c.in_ok-conjuncts.conjuncts ≡ c.read_parts.result = grind (arith, common_steps) in
    asks_break (program_of c.args.program.now) c.in_ok-name.name c.read_parts.result c.args.bytes.now c.next_word.result.0.now
    c.next_word.result.1.now c.next_word.ensures.word c.next_word.ensures.rest named formed c.read_parts.ensures _
    (ap (break_made c.in_ok-name.name) was)
