use Rattle.std.proofs.Common.{◌++◌, ℕ, List, ap, sym, ◌∙◌, subst, arith}
use Rattle.std.proofs.Math.Logic.{∥∥₁_map}
use Rattle.dbg_base.specs.SystemStates.{history_of}
use Rattle.dbg_command.specs.Tables.{IsTableOf}
use Rattle.proc_tree.specs.Programs.{program_of}
use Rattle.ui_timeline.specs.TimedEvents.{AreTimedEvents}
use Rattle.ui_diagram.specs.Logs.{entry_text}
use Rattle.ui_diagram.proofs.LogLemmas.{AreWritten, written_more, written_all, written_none}
use Rattle.ui_diagram.proofs.log.write_log.Goals as goal

pub loop-event-init : goal.loop-event-init
loop-event-init c =
    let P = program_of c.args.view.program.now in
    subst (AreWritten P c.items-event-items.result.now 0) (sym c.new-text.ensures.items) (written_none P c.items-event-items.result.now)

pub loop-event-preserved : goal.loop-event-preserved
loop-event-preserved c =
    let P = program_of c.args.view.program.now in
    let put = λ (words : List ℕ). c.loop-event.text.items ++ entry_text P (record { event = c.event-item.result; words = words }) in
    written_more P c.items-event-items.result.now c.loop-event.event-index
    (record { event = c.event-item.result; words = c.in_ok-words.words.items }) c.loop-event.text.items c.put_entry.new.text.items
    c.loop-event.invariant c.loop-event-test.true c.event-item.is c.in_ok-words.ensures
    (c.in_ok-put_entry.ensures ∙ ap put c.as_slice.ensures.value)

pub returns-clause-log : goal.returns-clause-log
returns-clause-log c =
    let P = program_of c.args.view.program.now in
    let H = history_of c.args.view.world.now.state in
    let events = c.items-event-items.result.now in
    ∥∥₁_map c.args.view.of (λ (of : IsTableOf P (record { world = c.args.view.world.now; book = c.args.view.book.now })).
    written_all P H events c.loop-event.event-index c.loop-event.text.items c.loop-event.invariant (omega arith)
    (subst (AreTimedEvents P H) (sym c.items-event-items.ensures) (c.in_ok-events.ensures.events P of.world)))
