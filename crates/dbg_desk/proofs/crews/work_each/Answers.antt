use mathlib.Core.List.{[], ◌∷◌}
use mir.Syntax.{named}
use denote.Exit.{no}
use denote.Ref.{ShrRef}
use denote.Param.{param, arg}
use denote.Param.Send.{IsSync, param_send, arg_send, shr_sync}
use denote.Param.SendFields.{declared_sync}
use denote.Struct.Tuple.{tuple_type}
use Rattle.std.proofs.Crossing.{sync}
use Rattle.std.specs.contracts.alloc.Global as global
use Rattle.dbg_desk.proofs.SendableEntryLemmas.{desk_sync}
use Rattle.dbg_desk.specs.contracts.desk.Desk as desk
use Rattle.dbg_desk.proofs.SendableWorkerLemmas.{worker_send}
use Rattle.dbg_desk.specs.contracts.worker.Worker as worker
use Rattle.dbg_desk.proofs.crews.work_each.Goals as goal

pub for_each_mut-requires-send-T : goal.for_each_mut-requires-send-T
for_each_mut-requires-send-T g c κs within =
    let W = worker.the_row (param 0 g.row.L) (param 1 g.row.C) g.L.Run g.L.Ledger g.C.Command in
    let w = worker_send (param 0 g.row.L) (param 1 g.row.C) g.L.Run g.L.Ledger g.C.Command c.type_bounds.send-C in
    param_send 1 (arg _ no W) (arg_send _ no W w)

-- the row of the closure is named after the closure, which the shared values do not determine
pub for_each_mut-requires-sync-F : goal.for_each_mut-requires-sync-F
for_each_mut-requires-sync-F g c κs within =
    let R = param 2 g.row.R in
    let D = desk.the_row (param 0 g.row.L) (param 1 g.row.C) g.L.Run g.C.Command g.L.Ledger in
    let G = param 3 g.row.G in
    let a = κs.1.1.1.1.1.1.0 in
    let b = κs.1.1.1.1.1.1.1.0 in
    let e = κs.1.1.1.1.1.1.1.1.0 in
    let h = κs.1.1.1.1.1.1.1.1.1.0 in
    let T = tuple_type
    (ShrRef (named 6) a R ∷ ShrRef (named 7) b global.the_row ∷ ShrRef (named 8) e D ∷ ShrRef (named 9) h G ∷ []) in
    let d : IsSync D = desk_sync (param 0 g.row.L) g.L.Run g.L.Ledger (param 1 g.row.C) g.C.Command c.type_bounds.send-C in
    let s = declared_sync T (
      shr_sync (named 6) a R c.type_bounds.sync-R,
      (
        shr_sync (named 7) b global.the_row sync,
        (shr_sync (named 8) e D d, (shr_sync (named 9) h G c.type_bounds.sync-G, tt)),
      ),
    ) in
    record { shared = s.shared }
