use Rattle.dbg_base.specs.Calls.{Give}
use Rattle.dbg_command.specs.Tables.{said_of}
use Rattle.dbg_desk.proofs.RecordLemmas.{recorded}
use Rattle.dbg_desk.proofs.desk.Desk.call.Goals as goal

pub returns : goal.returns
returns g c = record {
  records = recorded g.L.Run.program c.deref_mut.result.now c.call.new.self c.args.seat.now c.call.new.seat
      (Give (g.C.Command.order c.args.command)) (said_of c.call.result) c.call.ensures.makes c.call.ensures.notes;
}
