use Rattle.std.proofs.Common.{◌≡◌, ⊎_elim, ◌<◌, ◌∷◌, ◌++◌, [], Err, length, ap, inl, inr, rules}
use Rattle.dbg_base.specs.declared.refusal.Refusal.TheVariants.{Memory}
use Rattle.dbg_base.specs.declared.refusal.Refusal.{Refusal}
use Rattle.dbg_base.specs.CommandLines.{commands_of}
use Rattle.proc_tree.specs.Programs.{program_of}
use Rattle.shell_parse.specs.Lines.{AreRead}
use Rattle.shell_parse.proofs.Batches.{first_of, first_shaped, read_more, refused_next, all_read}
use Rattle.shell_parse.proofs.batch_line.read_commands.Goals as goal

pub read_command-requires : goal.read_command-requires
read_command-requires c =
    let rest = commands_of c.loop-plan.rest.now in
    let command = c.next_command.result.0.now in
    let first =
    first_of rest command c.next_command.result.1 (λ others. length others.now < length c.loop-plan.rest.now)
    (λ others. commands_of others.now) c.next_command.ensures in
    first_shaped (program_of c.args.program.now) (commands_of c.args.bytes.now) rest first.0 command c.loop-plan.plans.items
    c.loop-plan.invariant first.1

pub returns-in-Err : goal.returns-in-Err
returns-in-Err c =
    let P = program_of c.args.program.now in
    let all = commands_of c.args.bytes.now in
    let rest = commands_of c.loop-plan.rest.now in
    let command = c.next_command.result.0.now in
    let first =
    first_of rest command c.next_command.result.1 (λ others. length others.now < length c.loop-plan.rest.now)
    (λ others. commands_of others.now) c.next_command.ensures in
    ⊎_elim (λ (read : AreRead P all (Err c.in-Err.refusal)). inl read)
    (λ (e : c.in-Err.refusal ≡ Memory). inr (ap (λ (refusal : Refusal). Err refusal) e))
    (refused_next P all rest first.0 command c.loop-plan.plans.items c.loop-plan.invariant first.1 c.in-Err.refusal c.in-Err.ensures)

pub loop-plan-preserved : goal.loop-plan-preserved
loop-plan-preserved c =
    let rest = commands_of c.loop-plan.rest.now in
    let first : rest ≡ c.next_command.result.0.now ∷ commands_of c.in-Some.others.now = search rules in
    let pushed : c.push.new.self.items ≡ c.loop-plan.plans.items ++ c.in-Ok.plan ∷ [] = search rules in
    read_more (program_of c.args.program.now) (commands_of c.args.bytes.now) rest (commands_of c.in-Some.others.now)
    c.next_command.result.0.now c.loop-plan.plans.items c.loop-plan.invariant first c.in-Ok.plan c.push.new.self.items pushed
    c.in-Ok.ensures

pub returns-in-None : goal.returns-in-None
returns-in-None c =
    let P = program_of c.args.program.now in
    let all = commands_of c.args.bytes.now in
    let rest = commands_of c.loop-plan.rest.now in
    let first : rest ≡ c.next_command.result.0.now ∷ [] = search rules in
    let pushed : c.push.new.self.items ≡ c.loop-plan.plans.items ++ c.in-Ok.plan ∷ [] = search rules in
    inl (all_read P all c.push.new.self.items
    (read_more P all rest [] c.next_command.result.0.now c.loop-plan.plans.items c.loop-plan.invariant first c.in-Ok.plan
    c.push.new.self.items pushed c.in-Ok.ensures))
