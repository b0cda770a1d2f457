use Rattle.std.proofs.Common.{sym, length, ◌<◌, ◌∙◌}
use Rattle.dbg_base.specs.CommandLines.{commands_of}
use Rattle.proc_tree.specs.Programs.{program_of}
use Rattle.shell_parse.proofs.Batches.{first_of, too_many, shapeless}
use Rattle.shell_parse.proofs.batch_line.are_commands.Goals.{then-count-gt-BATCH-via-then-count-gt-BATCH, then-count-gt-BATCH-via-else-count-gt-BATCH+then-not-has_shape}
use Rattle.shell_parse.proofs.batch_line.are_commands.Goals as goal

pub returns-then-count-gt-BATCH : goal.returns-then-count-gt-BATCH
returns-then-count-gt-BATCH c =
    let P = program_of c.args.program.now in
    let all = commands_of c.args.bytes.now in
    let rest = commands_of c.loop-count.rest.now in
    let command = c.next_command.result.0.now in
    let first =
    first_of rest command c.next_command.result.1 (λ others. length others.now < length c.loop-count.rest.now)
    (λ others. commands_of others.now) c.next_command.ensures in
    elim c.then-count-gt-BATCH.branch [
      | then-count-gt-BATCH-via-then-count-gt-BATCH w ↦
          sym (too_many P all rest first.0 command c.loop-count.count c.loop-count.invariant first.1 w.if-count-gt-BATCH.true)
      | then-count-gt-BATCH-via-else-count-gt-BATCH+then-not-has_shape w ↦
          sym (shapeless P all rest first.0 command c.loop-count.count c.loop-count.invariant first.1
          (sym w.has_shape.ensures ∙ w.if-not-has_shape.true))
    ]
