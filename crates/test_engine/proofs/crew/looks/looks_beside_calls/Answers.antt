use mathlib.Core.List.{[], ◌∷◌}
use mir.Syntax.{named}
use denote.Exit.{no}
use denote.Ref.{ShrRef, MutRef}
use denote.Param.{param, arg}
use denote.Param.Send.{IsSend, IsSync, param_send, arg_send, shr_send, mut_send, sendable}
use denote.Param.SendFields.{declared_send, as_row_send}
use denote.Struct.Field.{row_field}
use denote.Struct.Tuple.{TupleAt, type_at}
use Rattle.std.proofs.Crossing.{crosses}
use Rattle.dbg_base.proofs.ids.Pid.TheSendSync as pid_sent
use Rattle.dbg_command.specs.contracts.kinds.playing.NextCmd as next
use Rattle.dbg_command.specs.contracts.kinds.playing.NextCmdCommand.TheImpl.{ghosts}
use Rattle.dbg_command.proofs.SendableCommandLemmas.{plan_send}
use Rattle.dbg_desk.proofs.SendableEntryLemmas.{desk_sync, seat_send}
use Rattle.dbg_desk.specs.contracts.desk.Desk as desk
use Rattle.dbg_desk.specs.contracts.seat.Seat as seat
use Rattle.test_engine.proofs.crew.looks.looks_beside_calls.Goals as goal

next_send : IsSend next.the_row
next_send = declared_send next.the_type (plan_send, (pid_sent.the_send, (search (sendable, crosses) depth 20, tt)))

pub join-go_on-requires-send-F : goal.join-go_on-requires-send-F
join-go_on-requires-send-F g c κs within =
    let D = desk.the_row (param 0 g.row.L) next.the_row g.L.Run ghosts g.L.Ledger in
    let S = seat.the_row (param 0 g.row.L) g.L.Run g.L.Ledger in
    let a = κs.1.1.1.1.1.1.0 in
    let b = κs.1.1.1.1.1.1.1.0 in
    let d : IsSync D = desk_sync (param 0 g.row.L) g.L.Run g.L.Ledger next.the_row ghosts next_send in
    let s : IsSend S = seat_send (param 0 g.row.L) g.L.Run g.L.Ledger in
    let M = MutRef (named 7) b S in
    let Ts = ShrRef (named 6) a D ∷ M ∷ [] in
    let f = declared_send (type_at _ Ts) (shr_send (named 6) a D d, (as_row_send (row_field M) (mut_send (named 7) b S s), tt)) in
    param_send 1 (arg _ no (TupleAt _ Ts)) (arg_send _ no (TupleAt _ Ts) f)
