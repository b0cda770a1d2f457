-- What commands keep may be moved to another thread.
use mathlib.Core.List.{[], ◌∷◌}
use denote.Builtin.{usize}
use denote.Struct.Tuple.{Tuple, tuple_type}
use denote.Param.Send.{IsSend, sendable}
use denote.Param.SendFields.{declared_send}
use Rattle.std.proofs.Crossing.{crosses}
use Rattle.std.proofs.option.Option.TheSendSync as option_sent
use Rattle.dbg_base.proofs.call.Plan.TheLaws.TheKnot.{send-Plan}
use Rattle.dbg_base.proofs.expr.Expr.TheLaws.TheKnot.{send-Expr, hole_send-Expr}
use Rattle.dbg_base.proofs.ids.Pid.TheSendSync as pid_sent
use Rattle.dbg_base.proofs.ids.Choice.TheSendSync as choice_sent
use Rattle.dbg_base.proofs.ids.Cut.TheSendSync as cut_sent
use Rattle.dbg_base.proofs.name.Name.TheSendSync as name_sent
use Rattle.dbg_base.proofs.elimination.Elimination.TheSendSync as elimination_sent
use Rattle.dbg_base.proofs.sequence.Sequence.TheSendSync as sequence_sent
use Rattle.causal_world.proofs.rolled.Rolled.TheSendSync as rolled_sent
use Rattle.causal_world.proofs.world.World.TheSendSync as world_sent
use Rattle.least_cut.proofs.scan.Truths.TheSendSync as truths_sent
use Rattle.dbg_command.proofs.undoing.TakenBack.TheSendSync as taken_sent
use Rattle.dbg_base.specs.contracts.call.Conjunct as conjunct
use Rattle.dbg_base.specs.contracts.call.Plan as plan
use Rattle.dbg_base.specs.contracts.expr.Expr as expr
use Rattle.least_cut.specs.contracts.watch.Watch as watch
use Rattle.least_cut.specs.contracts.watch.Watch.TheInside as watch_inside
use Rattle.least_cut.specs.contracts.detector.Detector as detector
use Rattle.least_cut.specs.contracts.detector.Detector.TheInside as detector_inside
use Rattle.break_book.specs.contracts.breakpoint.Breakpoint as breakpoint
use Rattle.break_book.specs.contracts.breakpoint.Breakpoint.TheInside as breakpoint_inside
use Rattle.break_book.specs.contracts.book.Book as book
use Rattle.break_book.specs.contracts.book.Book.TheInside as book_inside
use Rattle.dbg_command.specs.contracts.table.Table as table
use Rattle.dbg_command.specs.contracts.table.Table.TheInside as table_inside
use Rattle.dbg_command.specs.contracts.kinds.undoing.RollbackCmd as rollback
use Rattle.dbg_command.specs.contracts.kinds.undoing.GotoCmd as goto
use Rattle.dbg_command.specs.contracts.kinds.undoing.UndoCmd as undo
use Rattle.dbg_command.specs.contracts.kinds.breaking.ClearCmd as clear
use Rattle.dbg_command.specs.contracts.kinds.batching.BatchCmd as batch

expr_send : IsSend expr.the_row
expr_send = search (send-Expr, sendable, crosses) depth 20

conjunct_send : IsSend conjunct.the_row
conjunct_send = search (hole_send-Expr, send-Expr, pid_sent.the_field_send, sendable, crosses) depth 20

pub plan_send : IsSend plan.the_row
plan_send =
    search (
      send-Plan,
      conjunct_send,
      sequence_sent.the_send,
      name_sent.the_send,
      pid_sent.the_field_send,
      choice_sent.the_field_send,
      sendable,
      crosses,
    ) depth 20

pub undo_send : IsSend undo.the_row
undo_send = declared_send undo.the_type (plan_send, (pid_sent.the_send, (option_sent.the_send _ rolled_sent.the_send, tt)))

watch_fields : IsSend watch_inside.the_row
watch_fields = declared_send watch_inside.the_type (truths_sent.the_send, (expr_send, ((search (sendable, crosses) depth 20), tt)))

pub watch_send : IsSend watch.the_row
watch_send = search (watch_fields, sendable)

detector_fields : IsSend detector_inside.the_row
detector_fields =
    declared_send detector_inside.the_type (
      (search (watch_send, sendable, crosses)),
      (
        cut_sent.the_send,
        ((search (elimination_sent.the_field_send, sendable, crosses)), tt),
      ),
    )

detector_send : IsSend detector.the_row
detector_send = search (detector_fields, sendable)

breakpoint_fields : IsSend breakpoint_inside.the_row
breakpoint_fields = declared_send breakpoint_inside.the_type (search sendable, (detector_send, tt))

breakpoint_send : IsSend breakpoint.the_row
breakpoint_send = search (breakpoint_fields, sendable)

pub clear_send : IsSend clear.the_row
clear_send =
    declared_send clear.the_type (
      plan_send,
      (
        name_sent.the_send,
        (
          option_sent.the_send (Tuple (usize ∷ breakpoint.the_row ∷ []))
              (declared_send (tuple_type (usize ∷ breakpoint.the_row ∷ [])) (search sendable, (breakpoint_send, tt))),
          tt,
        ),
      ),
    )

book_fields : IsSend book_inside.the_row
book_fields =
    declared_send book_inside.the_type (
      (search (breakpoint_send, name_sent.the_send, sendable, crosses) depth 30),
      ((search sendable), tt),
    )

book_send : IsSend book.the_row
book_send = search (book_fields, sendable)

table_fields : IsSend table_inside.the_row
table_fields = declared_send table_inside.the_type (world_sent.the_send, (book_send, tt))

pub table_send : IsSend table.the_row
table_send = search (table_fields, sendable)

pub batch_send : IsSend batch.the_row
batch_send = declared_send batch.the_type (plan_send, (option_sent.the_send _ table_send, tt))

pub rollback_send : IsSend rollback.the_row
rollback_send =
    declared_send rollback.the_type (plan_send, (pid_sent.the_send, (search sendable, (option_sent.the_send _ taken_sent.the_send, tt))))

pub goto_send : IsSend goto.the_row
goto_send = declared_send goto.the_type (plan_send, (name_sent.the_send, (option_sent.the_send _ taken_sent.the_send, tt)))
