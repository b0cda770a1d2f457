-- Commands that keep much may be moved to another thread, too.
use denote.Param.Send.{sendable}
use denote.Param.Sent.{Sends}
use Rattle.dbg_command.proofs.SendableCommandLemmas.{undo_send, rollback_send, batch_send}
use Rattle.test_engine.proofs.crew.trials.fn.run.make.Hides.{part-1-2, part-1-3, part-1-5}

pub sends-part-1-2 : Sends part-1-2
sends-part-1-2 = search (undo_send, sendable)

pub sends-part-1-3 : Sends part-1-3
sends-part-1-3 = search (rollback_send, sendable)

pub sends-part-1-5 : Sends part-1-5
sends-part-1-5 = search (batch_send, sendable)
