use Rattle.std.proofs.Common.{◌≡◌, ℕ, ◌+◌, ◌*◌, ◌<◌, ◌≤◌, length, take, arith, ap, sym, ◌∙◌}
use Rattle.std.proofs.lemmas.List.{take_all}
use Rattle.dbg_base.specs.declared.limits.TheConstants.{COMMANDS}
use Rattle.dbg_base.specs.Trees.{Program}
use Rattle.proc_tree.specs.Programs.{program_of}
use Rattle.shell_print.specs.Closings.{command_count}
use Rattle.shell_print.proofs.CountLemmas.{count_on}
use Rattle.shell_print.proofs.notices.command_count.Goals as goal

pub loop-p-preserved : goal.loop-p-preserved
loop-p-preserved c =
    let P : Program = program_of c.args.program.now in
    let all : c.processes-p-end.result ≡ length P = c.processes-p-end.ensures.value in
    let test : c.loop-p.p < c.processes-p-end.result = c.loop-p-test.true in
    let few : c.loop-p.count ≤ COMMANDS * c.loop-p.p = c.loop-p.invariant.few in
    let more : c.commands-count.result ≤ COMMANDS = c.commands-count.ensures.few in
    record {
      few = omega arith;
      counted = ap (λ (n : ℕ). n + c.commands-count.result) c.loop-p.invariant.counted
          ∙ ap (λ (n : ℕ). command_count (take c.loop-p.p P) + n) c.commands-count.ensures.value
          ∙ sym (count_on P c.loop-p.p (omega arith));
    }

pub returns : goal.returns
returns c =
    let P : Program = program_of c.args.program.now in
    let all : c.processes-p-end.result ≡ length P = c.processes-p-end.ensures.value in
    let past : c.processes-p-end.result ≤ c.loop-p.p = c.loop-p-test.false in
    c.loop-p.invariant.counted ∙ ap command_count (take_all c.loop-p.p P (omega arith))
