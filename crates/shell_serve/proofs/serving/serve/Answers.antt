use Rattle.std.proofs.Common.{◌≤◌, ◌+◌, Err, subst, refl}
use Rattle.std.specs.Prelude.{IfSome}
use Rattle.dbg_base.specs.declared.fault.ProgFault.{ProgFault}
use Rattle.dbg_base.specs.declared.limits.TheConstants.{INPUT_BYTES}
use Rattle.dbg_base.specs.Checks.{IsFault}
use Rattle.dbg_base.specs.Shell.{fault_text, no_end_line_text, too_long_text}
use Rattle.proc_lang.specs.declared.fault.ProgError.{ProgError}
use Rattle.proc_tree.specs.declared.program.Program.{Program}
use Rattle.proc_lang.specs.Answering.{IfBad}
use Rattle.shell_print.specs.declared.outcome.Served.TheVariants as outcomes
use Rattle.shell_print.specs.Writing.{Writes}
use Rattle.shell_serve.specs.ProgramTexts.{ReadsProgram}
use Rattle.shell_serve.proofs.UnfinishedInputLemmas.{where_fault}
use Rattle.shell_serve.proofs.ReadStepLemmas.{reads_then}
use Rattle.shell_serve.proofs.KnownInputLemmas.{known_may, reported_done, reported_cut}
use Rattle.shell_serve.proofs.ProgramTextLemmas.{nothing_read}
use Rattle.shell_serve.specs.Serving.{ServesInput}
use Rattle.shell_serve.proofs.InputSessionLemmas.{says_program, stops_program, breaks_program, fault_here, end_here, too_long_here, breaks_before}
use Rattle.shell_serve.proofs.InputSessionLemmas.{few_read, text_read}
use Rattle.shell_serve.proofs.RunLemmas.{run_lines, untouched_then, never_refused}
use Rattle.shell_serve.proofs.SessionLemmas.{where_served}
use Rattle.shell_serve.proofs.serving.serve.Goals as goal

pub play-requires-clause-quiet : goal.play-requires-clause-quiet
play-requires-clause-quiet g c = record { before = λ line. refl; explains = refl; shows = λ due. refl }

pub returns-in_err-span-clause-broken : goal.returns-in_err-span-clause-broken
returns-in_err-span-clause-broken g c =
    breaks_before _ _ c.read_program_text.new.input.bytes.items _ _ _ _ c.in_ok-input.ensures.bytes c.in_ok-input.ensures.at
    c.read_program_text.ensures.reads.keeps c.in_err-span.ensures.none c.in_err-span.ensures.few

pub returns-in_err-input-clause-begun : goal.returns-in_err-input-clause-begun
returns-in_err-input-clause-begun g c = where_fault _ _ (nothing_read _)

pub returns-in-Ok-clause-served : goal.returns-in-Ok-clause-served
returns-in-Ok-clause-served g c =
    let runs =
    run_lines g.R.Source.remaining _ c.read_program_text.new.input c.read_program_text.new.reader c.read_program_text.ensures.reads.ends _ _
    _ _ _ c.play.ensures.plays in
    let reads = reads_then c.read_program_text.ensures.reads runs.reads in
    says_program c.read_program_text.new.input.bytes.items c.read_program_text.new.input.ended _ c.read_program_text.new.input.at _
    c.in_ok-input.ensures.at c.in_ok-span.ensures.splits _ c.before-text.result.now c.in-Before.span c.in-Before.is c.before-text.ensures
    c.in-Ok.ensures.accepted c.play.new.source.bytes.items c.play.new.source.ended runs.reads.narrows _ _ _ _
    (known_may c.in_ok-input.ensures.bytes reads) runs.served

pub returns-in-Ok-clause-stopped : goal.returns-in-Ok-clause-stopped
returns-in-Ok-clause-stopped g c =
    let runs =
    run_lines g.R.Source.remaining _ c.read_program_text.new.input c.read_program_text.new.reader c.read_program_text.ensures.reads.ends _ _
    _ _ _ c.play.ensures.plays in
    let reads = reads_then c.read_program_text.ensures.reads runs.reads in
    stops_program c.read_program_text.new.input.bytes.items c.read_program_text.new.input.ended _ c.read_program_text.new.input.at _
    c.in_ok-input.ensures.at c.in_ok-span.ensures.splits _ c.before-text.result.now c.in-Before.span c.in-Before.is c.before-text.ensures
    c.in-Ok.ensures.accepted c.play.new.source.bytes.items c.play.new.source.ended runs.reads.narrows _ _ _ _
    (known_may c.in_ok-input.ensures.bytes reads) runs.stopped

pub returns-in-Ok-clause-broken : goal.returns-in-Ok-clause-broken
returns-in-Ok-clause-broken g c =
    let runs =
    run_lines g.R.Source.remaining _ c.read_program_text.new.input c.read_program_text.new.reader c.read_program_text.ensures.reads.ends _ _
    _ _ _ c.play.ensures.plays in
    let reads = reads_then c.read_program_text.ensures.reads runs.reads in
    breaks_program c.read_program_text.new.input.bytes.items c.read_program_text.new.input.ended _ c.read_program_text.new.input.at _
    c.in_ok-input.ensures.at c.in_ok-span.ensures.splits _ c.before-text.result.now c.in-Before.span c.in-Before.is c.before-text.ensures
    c.in-Ok.ensures.accepted c.play.new.source.bytes.items c.play.new.source.ended runs.reads.narrows _ _ _ _ _ _
    c.in_ok-input.ensures.bytes reads.keeps runs.broken

pub returns-in-Ok-clause-memory : goal.returns-in-Ok-clause-memory
returns-in-Ok-clause-memory g c =
    let runs =
    run_lines g.R.Source.remaining _ c.read_program_text.new.input c.read_program_text.new.reader c.read_program_text.ensures.reads.ends _ _
    _ _ _ c.play.ensures.plays in
    let reads = reads_then c.read_program_text.ensures.reads runs.reads in
    runs.memory

pub returns-in-Ok-clause-begun : goal.returns-in-Ok-clause-begun
returns-in-Ok-clause-begun g c =
    let runs =
    run_lines g.R.Source.remaining _ c.read_program_text.new.input c.read_program_text.new.reader c.read_program_text.ensures.reads.ends _ _
    _ _ _ c.play.ensures.plays in
    let reads = reads_then c.read_program_text.ensures.reads runs.reads in
    untouched_then _ _ _ _ (λ r. IfSome (g.R.Source.remaining c.args.reader.now) (λ input. ReadsProgram input (g.R.Source.remaining r))) _ runs.untouched
    (text_read _ _ _ _ _ c.in_ok-input.ensures.bytes c.in_ok-input.ensures.at c.read_program_text.ensures.reads.keeps
    c.read_program_text.ensures.needed)

pub returns-in-Ok-clause-refused : goal.returns-in-Ok-clause-refused
returns-in-Ok-clause-refused g c =
    let runs =
    run_lines g.R.Source.remaining _ c.read_program_text.new.input c.read_program_text.new.reader c.read_program_text.ensures.reads.ends _ _
    _ _ _ c.play.ensures.plays in
    let reads = reads_then c.read_program_text.ensures.reads runs.reads in
    never_refused _ _ runs.accepted

pub returns-in-Ok-clause-few : goal.returns-in-Ok-clause-few
returns-in-Ok-clause-few g c =
    let runs =
    run_lines g.R.Source.remaining _ c.read_program_text.new.input c.read_program_text.new.reader c.read_program_text.ensures.reads.ends _ _
    _ _ _ c.play.ensures.plays in
    let reads = reads_then c.read_program_text.ensures.reads runs.reads in
    few_read _ _ _ _ c.in_ok-input.ensures.bytes reads.keeps
    (subst (λ n. n ≤ INPUT_BYTES + 1) c.play.new.source.bytes.ok.0 c.play.new.source.few)

pub returns-in-Err-Bad-clause-served : goal.returns-in-Err-Bad-clause-served
returns-in-Err-Bad-clause-served g c =
    reported_done c.read_program_text.new.input.bytes.items c.read_program_text.new.input.ended ServesInput (fault_text c.in-Err-Bad.fault) outcomes.Refused
    (fault_here c.read_program_text.new.input.bytes.items c.read_program_text.new.input.ended _ c.read_program_text.new.input.at _
    c.in_ok-input.ensures.at c.in_ok-span.ensures.splits
    c.before-text.result.now c.in-Before.span c.in-Before.is c.before-text.ensures c.in-Err-Bad.fault
    (subst (λ (e : ProgError). IfBad {X = Program} (Err e) (IsFault c.before-text.result.now)) c.in-Err-Bad.field-0-is
    c.in-Err-Bad.ensures.refused)) _ _ _ _ (known_may c.in_ok-input.ensures.bytes c.read_program_text.ensures.reads)
    (subst (λ (f : ProgFault). Writes (g.W.Sink.seen c.args.writer.now) (g.W.Sink.seen c.tell_fault.new.writer) c.tell_fault.result (fault_text f))
    c.in-Err-Bad.fault-is c.tell_fault.ensures.written)
    c.tell_fault.ensures.served

pub returns-in-Err-Bad-clause-stopped : goal.returns-in-Err-Bad-clause-stopped
returns-in-Err-Bad-clause-stopped g c =
    reported_cut c.read_program_text.new.input.bytes.items c.read_program_text.new.input.ended ServesInput (fault_text c.in-Err-Bad.fault) outcomes.Refused
    (fault_here c.read_program_text.new.input.bytes.items c.read_program_text.new.input.ended _ c.read_program_text.new.input.at _
    c.in_ok-input.ensures.at c.in_ok-span.ensures.splits
    c.before-text.result.now c.in-Before.span c.in-Before.is c.before-text.ensures c.in-Err-Bad.fault
    (subst (λ (e : ProgError). IfBad {X = Program} (Err e) (IsFault c.before-text.result.now)) c.in-Err-Bad.field-0-is
    c.in-Err-Bad.ensures.refused)) _ _ _ _ (known_may c.in_ok-input.ensures.bytes c.read_program_text.ensures.reads)
    (subst (λ (f : ProgFault). Writes (g.W.Sink.seen c.args.writer.now) (g.W.Sink.seen c.tell_fault.new.writer) c.tell_fault.result (fault_text f))
    c.in-Err-Bad.fault-is c.tell_fault.ensures.written)

pub returns-in-Err-Bad-clause-refused : goal.returns-in-Err-Bad-clause-refused
returns-in-Err-Bad-clause-refused g c = where_served _ c.tell_fault.result outcomes.Refused (text_read _ _ _ _ _ c.in_ok-input.ensures.bytes c.in_ok-input.ensures.at c.read_program_text.ensures.reads.keeps
    c.read_program_text.ensures.needed)

pub returns-in-End-clause-served : goal.returns-in-End-clause-served
returns-in-End-clause-served g c =
    reported_done c.read_program_text.new.input.bytes.items c.read_program_text.new.input.ended ServesInput no_end_line_text outcomes.Refused
    (end_here c.read_program_text.new.input.bytes.items c.read_program_text.new.input.ended _ c.read_program_text.new.input.at _
    c.in_ok-input.ensures.at c.in_ok-span.ensures.splits c.in-End.is) _ _ _ _ (known_may c.in_ok-input.ensures.bytes c.read_program_text.ensures.reads)
    c.tell_no_end_line.ensures.written c.tell_no_end_line.ensures.served

pub returns-in-End-clause-stopped : goal.returns-in-End-clause-stopped
returns-in-End-clause-stopped g c =
    reported_cut c.read_program_text.new.input.bytes.items c.read_program_text.new.input.ended ServesInput no_end_line_text outcomes.Refused
    (end_here c.read_program_text.new.input.bytes.items c.read_program_text.new.input.ended _ c.read_program_text.new.input.at _
    c.in_ok-input.ensures.at c.in_ok-span.ensures.splits c.in-End.is) _ _ _ _ (known_may c.in_ok-input.ensures.bytes c.read_program_text.ensures.reads)
    c.tell_no_end_line.ensures.written

pub returns-in-End-clause-refused : goal.returns-in-End-clause-refused
returns-in-End-clause-refused g c = where_served _ c.tell_no_end_line.result outcomes.Refused (text_read _ _ _ _ _ c.in_ok-input.ensures.bytes c.in_ok-input.ensures.at c.read_program_text.ensures.reads.keeps
    c.read_program_text.ensures.needed)

pub returns-clause-served : goal.returns-clause-served
returns-clause-served g c =
    reported_done c.read_program_text.new.input.bytes.items c.read_program_text.new.input.ended ServesInput too_long_text outcomes.TooLong
    (too_long_here c.read_program_text.new.input.bytes.items c.read_program_text.new.input.ended _ c.read_program_text.new.input.at _
    c.in_ok-input.ensures.at c.in_ok-span.ensures.splits c.in-TooLong.is) _ _ _ _ (known_may c.in_ok-input.ensures.bytes c.read_program_text.ensures.reads)
    c.tell_too_long.ensures.written c.tell_too_long.ensures.served

pub returns-clause-stopped : goal.returns-clause-stopped
returns-clause-stopped g c =
    reported_cut c.read_program_text.new.input.bytes.items c.read_program_text.new.input.ended ServesInput too_long_text outcomes.TooLong
    (too_long_here c.read_program_text.new.input.bytes.items c.read_program_text.new.input.ended _ c.read_program_text.new.input.at _
    c.in_ok-input.ensures.at c.in_ok-span.ensures.splits c.in-TooLong.is) _ _ _ _ (known_may c.in_ok-input.ensures.bytes c.read_program_text.ensures.reads)
    c.tell_too_long.ensures.written
