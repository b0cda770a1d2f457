-- Commands may be sent to another thread, with all that they keep.
use denote.Param.Send.{sendable}
use denote.Param.Sent.{Sends}
use Rattle.dbg_command.proofs.SendableCommandLemmas.{undo_send, rollback_send, goto_send, clear_send, batch_send}
use Rattle.shell_serve.proofs.running.fn.play.make.Hides.{part-1-3, part-1-5, part-1-6, part-1-8, part-1-11}

pub sends-part-1-3 : Sends part-1-3
sends-part-1-3 = search (undo_send, sendable)

pub sends-part-1-5 : Sends part-1-5
sends-part-1-5 = search (rollback_send, sendable)

pub sends-part-1-6 : Sends part-1-6
sends-part-1-6 = search (goto_send, sendable)

pub sends-part-1-8 : Sends part-1-8
sends-part-1-8 = search (clear_send, sendable)

pub sends-part-1-11 : Sends part-1-11
sends-part-1-11 = search (batch_send, sendable)
