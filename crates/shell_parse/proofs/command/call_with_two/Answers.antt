use Rattle.std.proofs.Common.{◌≡◌, true, false, ◌∙◌, rules}
use Rattle.std.specs.Prelude.{codes}
use Rattle.std.specs.Str.{bytes_eq}
use Rattle.proc_tree.specs.Programs.{program_of}
use Rattle.shell_parse.proofs.TwoArgumentLemmas.{is_rollback, is_chan}
use Rattle.shell_parse.proofs.command.call_with_two.Goals as goal

pub returns-then-eq-2 : goal.returns-then-eq-2
returns-then-eq-2 c =
    let no_step : bytes_eq c.args.word.now (codes "step") ≡ false = search rules in
    let rollback : bytes_eq c.args.word.now (codes "rollback") ≡ true = search rules in
    c.rollback_call.ensures
    ∙ is_rollback (program_of c.args.program.now) c.args.word.now c.args.first.now c.args.second.now no_step rollback

pub returns-then-eq-3 : goal.returns-then-eq-3
returns-then-eq-3 c =
    let no_step : bytes_eq c.args.word.now (codes "step") ≡ false = search rules in
    let no_rollback : bytes_eq c.args.word.now (codes "rollback") ≡ false = search rules in
    let chan : bytes_eq c.args.word.now (codes "chan") ≡ true = search rules in
    c.chan_call.ensures
    ∙ is_chan (program_of c.args.program.now) c.args.word.now c.args.first.now c.args.second.now no_step no_rollback chan
