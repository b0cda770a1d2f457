-- Seats and the desk may be sent to other threads.
use denote.RattleType.{RattleType}
use denote.Param.Send.{IsSend, IsSync, sendable}
use denote.Param.SendFields.{declared_send, declared_sync, variants_send}
use Rattle.std.proofs.Crossing.{crosses}
use Rattle.std.proofs.sync.ledger.Book.TheSendSync as book_sent
use Rattle.std.proofs.sync.ledger.Share.TheSendSync as share_sent
use Rattle.std.specs.declared.sync.ledger.Ledger as ledger
use Rattle.dbg_base.proofs.expr.Expr.TheLaws.TheKnot.{send-Expr}
use Rattle.dbg_base.proofs.ids.Pid.TheSendSync as pid_sent
use Rattle.dbg_base.proofs.ids.Choice.TheSendSync as choice_sent
use Rattle.dbg_base.proofs.name.Name.TheSendSync as name_sent
use Rattle.dbg_base.proofs.sequence.Sequence.TheSendSync as sequence_sent
use Rattle.dbg_base.proofs.call.Query.TheSendSync as query_sent
use Rattle.dbg_base.proofs.said.Said.TheSendSync as said_sent
use Rattle.dbg_base.specs.contracts.call.Call as call
use Rattle.dbg_base.specs.contracts.expr.Expr as expr
use Rattle.proc_tree.proofs.process.Variable.TheSendSync as variable_sent
use Rattle.proc_tree.specs.contracts.process.Action as action
use Rattle.proc_tree.specs.contracts.process.Assignment as assignment
use Rattle.proc_tree.specs.contracts.process.Guarded as guarded
use Rattle.proc_tree.specs.contracts.process.Process as process
use Rattle.proc_tree.specs.contracts.program.Program as program
use Rattle.dbg_command.specs.declared.command.Command as command
use Rattle.dbg_command.proofs.SendableCommandLemmas.{plan_send, table_send}
use Rattle.dbg_session.proofs.session.Stacked.TheSendSync as stacked_sent
use Rattle.dbg_session.specs.contracts.session.Stacked as stacked
use Rattle.dbg_session.specs.contracts.session.Session as session
use Rattle.dbg_session.specs.contracts.session.Session.TheInside as session_inside
use Rattle.dbg_records.proofs.small_said.SmallSaid.TheSendSync as small_said_sent
use Rattle.dbg_records.specs.contracts.small_call.SmallCall as small_call
use Rattle.dbg_board.proofs.board.Board.TheSendSync as board_sent
use Rattle.dbg_board.proofs.publisher.Publisher.TheSendSync as publisher_sent
use Rattle.dbg_board.proofs.seat_view.SeatView.TheSendSync as view_sent
use Rattle.dbg_desk.specs.declared.run.Run as run
use Rattle.dbg_desk.proofs.rooms.Reserved.TheSendSync as rooms_sent
use Rattle.dbg_desk.specs.contracts.entry.Entry as entry
use Rattle.dbg_desk.specs.contracts.entry.RecordedCall as own
use Rattle.dbg_desk.specs.contracts.log.CallLog as log
use Rattle.dbg_desk.specs.contracts.locked.Locked as locked
use Rattle.dbg_desk.specs.contracts.locked.Locked.TheInside as locked_inside
use Rattle.dbg_desk.specs.contracts.seat.Seat as seat
use Rattle.dbg_desk.specs.contracts.seat.Seat.TheInside as seat_inside
use Rattle.dbg_desk.specs.contracts.desk.Desk as desk

expr_send : IsSend expr.the_row
expr_send = search (send-Expr, sendable, crosses) depth 20

action_send : IsSend action.the_row
action_send = variants_send action.enum (tt, ((pid_sent.the_send, (expr_send, tt)), ((pid_sent.the_send, ((search sendable), tt)), tt)))

assignment_send : IsSend assignment.the_row
assignment_send = declared_send assignment.the_type (search sendable, (expr_send, tt))

guarded_send : IsSend guarded.the_row
guarded_send = declared_send guarded.the_type (expr_send, (action_send, (sequence_sent.the_send _ assignment_send, tt)))

process_send : IsSend process.the_row
process_send =
    declared_send process.the_type (
      name_sent.the_send,
      (search (variable_sent.the_send, sendable, crosses) depth 20, (search (guarded_send, sendable, crosses) depth 20, tt)),
    )

pub program_send : IsSend program.the_row
program_send = declared_send program.the_type (search (process_send, sendable, crosses) depth 20, tt)

call_send : IsSend call.the_row
call_send = variants_send call.enum ((plan_send, tt), (tt, ((query_sent.the_send, tt), tt)))

entry_send : IsSend entry.the_row
entry_send = declared_send entry.the_type (search sendable, (call_send, (said_sent.the_send, tt)))

small_call_send : IsSend small_call.the_row
small_call_send =
    let pid = pid_sent.the_send in
    variants_send small_call.enum (
      (pid, (choice_sent.the_send, tt)),
      (
        (pid, tt),
        (
          (pid, tt),
          (
            (pid, tt),
            (
              (pid, (search sendable, tt)),
              (
                tt,
                (
                  (pid, tt),
                  (
                    (pid, (pid, tt)),
                    ((pid, tt), ((pid, tt), ((pid, tt), ((search (call_send, sendable, crosses) depth 20, tt), tt)))),
                  ),
                ),
              ),
            ),
          ),
        ),
      ),
    )

own_send : IsSend own.the_row
own_send = declared_send own.the_type (small_call_send, (small_said_sent.the_send, tt))

module _ (C : RattleType) (c : command.Ghosts C.Denot) (sent : IsSend C) where
  stacked_send : IsSend (stacked.the_row C)
  stacked_send = stacked_sent.the_send C sent

  session_fields : IsSend (session_inside.the_row C c)
  session_fields =
      declared_send (session_inside.the_type C c) (
        program_send,
        (table_send, (search (stacked_send, sendable, crosses) depth 20, tt)),
      )

  pub session_send : IsSend (session.the_row C c)
  session_send = search (session_fields, sendable)

module _ (L : RattleType) (r : run.Ghosts L.Denot) (g : ledger.Ghosts L.Denot) where
  seat_fields : IsSend (seat_inside.the_row L r g)
  seat_fields =
      declared_send (seat_inside.the_type L r g) (
        search sendable,
        (search (own_send, sendable, crosses) depth 20, (share_sent.the_send L g, (view_sent.the_send, tt))),
      )

  pub seat_send : IsSend (seat.the_row L r g)
  seat_send = search (seat_fields, sendable)

  log_send : IsSend (log.the_row L r g)
  log_send = declared_send (log.the_type L r g) (search (entry_send, sendable, crosses) depth 20, (book_sent.the_send L g, (publisher_sent.the_send, tt)))

  module _ (C : RattleType) (c : command.Ghosts C.Denot) (sent : IsSend C) where
    locked_fields : IsSend (locked_inside.the_row L C r g c)
    locked_fields = declared_send (locked_inside.the_type L C r g c) (session_send C c sent, (log_send, (rooms_sent.the_send, tt)))

    pub locked_send : IsSend (locked.the_row L C r g c)
    locked_send = search (locked_fields, sendable)

    pub desk_sync : IsSync (desk.the_row L C r c g)
    desk_sync = declared_sync (desk.the_type L C r c g) (search (locked_send, crosses), (board_sent.the_sync, tt))
