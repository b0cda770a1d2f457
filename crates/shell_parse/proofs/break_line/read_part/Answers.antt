use Rattle.std.proofs.Common.{◌≡◌, Ok, true, false, arith, inl}
use Rattle.std.proofs.lemmas.Grind.{common_steps}
use Rattle.dbg_base.specs.Trees.{tree_of}
use Rattle.dbg_base.specs.CommandLines.{named_process}
use Rattle.proc_tree.specs.Programs.{program_of}
use Rattle.shell_parse.specs.Lines.{has_part}
use Rattle.shell_parse.proofs.ReadPartLemmas.{stood, stood_not}
use Rattle.shell_parse.proofs.break_line.read_part.Goals as goal

pub returns-then-has_part : goal.returns-then-has_part
returns-then-has_part c =
    let P = program_of c.args.program.now in
    let here : Ok c.in_ok-pid.pid.0 ≡ named_process P c.args.name = grind (arith, common_steps) in
    let twice : has_part c.args.made.now c.in_ok-pid.pid.0 ≡ true = grind (arith, common_steps) in
    inl (stood P (has_part c.args.made.now) (named_process P c.args.name) c.args.text.now c.in_ok-pid.pid.0 here
    (tree_of c.in-Ok.expr) c.in-Ok.ensures.accepted twice)

pub returns : goal.returns
returns c =
    let P = program_of c.args.program.now in
    let here : Ok c.in_ok-pid.pid.0 ≡ named_process P c.args.name = grind (arith, common_steps) in
    let once : has_part c.args.made.now c.in_ok-pid.pid.0 ≡ false = grind (arith, common_steps) in
    inl (stood_not P (has_part c.args.made.now) (named_process P c.args.name) c.args.text.now c.in_ok-pid.pid.0 here
    (tree_of c.in-Ok.expr) c.in-Ok.ensures.accepted once)
