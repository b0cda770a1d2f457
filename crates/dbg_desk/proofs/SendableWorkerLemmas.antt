-- A worker may be moved to another thread.
use denote.RattleType.{RattleType}
use denote.Param.Send.{IsSend, sendable}
use denote.Param.SendFields.{declared_send}
use Rattle.std.proofs.Crossing.{crosses}
use Rattle.std.specs.declared.sync.ledger.Ledger as ledger
use Rattle.dbg_command.specs.declared.command.Command as command
use Rattle.dbg_desk.specs.declared.run.Run as run
use Rattle.dbg_desk.proofs.SendableEntryLemmas.{seat_send}
use Rattle.dbg_desk.specs.contracts.worker.Worker as worker
use Rattle.dbg_desk.specs.contracts.worker.Worker.TheInside as worker_inside

module _ (L C : RattleType) (r : run.Ghosts L.Denot) (g : ledger.Ghosts L.Denot) (c : command.Ghosts C.Denot) (sent : IsSend C) where
  worker_fields : IsSend (worker_inside.the_row L C r g c)
  worker_fields =
      declared_send (worker_inside.the_type L C r g c) (
        seat_send L r g,
        (search (sent, sendable, crosses) depth 20, (search (sendable, crosses) depth 20, tt)),
      )

  pub worker_send : IsSend (worker.the_row L C r g c)
  worker_send = search (worker_fields, sendable)
