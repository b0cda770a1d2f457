use Rattle.std.proofs.Common.{ap, ◌∙◌}
use Rattle.dbg_base.specs.Calls.{call_of}
use Rattle.dbg_records.specs.Small.{small_call_of, small_said_of}
use Rattle.dbg_desk.proofs.log.CallLog.enter_command.Goals as goal

pub returns-clause-journal : goal.returns-clause-journal
returns-clause-journal g c = record {
  last = c.new-entry.result;
  pushed = c.enter.ensures.journal;
  of_seat = c.new-entry.ensures.seat;
  of_call = ap call_of c.new-entry.ensures.call ∙ c.in_full.ensures.call;
  of_said = c.new-entry.ensures.said ∙ c.said_to_command.ensures;
}

pub returns-clause-own : goal.returns-clause-own
returns-clause-own g c = record {
  last = c.new-kept.result;
  pushed = c.enter.ensures.own;
  of_call = ap small_call_of c.new-kept.ensures.call;
  of_said = ap small_said_of c.new-kept.ensures.said ∙ c.say-own_said.ensures;
}
