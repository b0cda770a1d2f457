use mathlib.Core.List.{[], ◌∷◌}
use mir.Syntax.{named}
use denote.Exit.{no}
use denote.Ref.{ShrRef}
use denote.Param.{param, arg}
use denote.Param.Send.{IsSync, param_send, arg_send, shr_sync}
use denote.Param.SendFields.{declared_sync}
use denote.Struct.Tuple.{tuple_type}
use Rattle.std.proofs.Crossing.{sync}
use Rattle.std.specs.contracts.alloc.Global as global
use Rattle.dbg_desk.proofs.SendableEntryLemmas.{desk_sync, seat_send}
use Rattle.dbg_desk.specs.contracts.desk.Desk as desk
use Rattle.dbg_desk.specs.contracts.seat.Seat as seat
use Rattle.test_engine.specs.contracts.crew.many.Play as play
use Rattle.test_engine.proofs.crew.many.Play.TheSendSync as play_sent
use Rattle.test_engine.proofs.crew.many.all_take_turns.Goals as goal

pub for_each_mut-requires-send-T : goal.for_each_mut-requires-send-T
for_each_mut-requires-send-T g c κs within =
    let S = seat.the_row (param 0 g.row.L) g.L.Run g.L.Ledger in
    param_send 1 (arg _ no S) (arg_send _ no S (seat_send (param 0 g.row.L) g.L.Run g.L.Ledger))

-- the row of the closure is named after the closure, which the shared values do not determine
pub for_each_mut-requires-sync-F : goal.for_each_mut-requires-sync-F
for_each_mut-requires-sync-F g c κs within =
    let M = param 2 g.row.M in
    let R = param 3 g.row.R in
    let D = desk.the_row (param 0 g.row.L) (param 1 g.row.C) g.L.Run g.C.Command g.L.Ledger in
    let a = κs.1.1.1.1.1.1.0 in
    let b = κs.1.1.1.1.1.1.1.0 in
    let e = κs.1.1.1.1.1.1.1.1.0 in
    let h = κs.1.1.1.1.1.1.1.1.1.0 in
    let k = κs.1.1.1.1.1.1.1.1.1.1.0 in
    let T = tuple_type
    (ShrRef (named 6) a R ∷ ShrRef (named 7) b global.the_row ∷ ShrRef (named 8) e D ∷ ShrRef (named 9) h M
    ∷ ShrRef (named 10) k play.the_row ∷ []) in
    let d : IsSync D = desk_sync (param 0 g.row.L) g.L.Run g.L.Ledger (param 1 g.row.C) g.C.Command c.type_bounds.send-C in
    let s = declared_sync T (
      shr_sync (named 6) a R c.type_bounds.sync-R,
      (
        shr_sync (named 7) b global.the_row sync,
        (
          shr_sync (named 8) e D d,
          (shr_sync (named 9) h M c.type_bounds.sync-M, (shr_sync (named 10) k play.the_row play_sent.the_sync, tt)),
        ),
      ),
    ) in
    record { shared = s.shared }
