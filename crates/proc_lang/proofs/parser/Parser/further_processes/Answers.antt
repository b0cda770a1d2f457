use Rattle.std.proofs.Common.{codes, map, sym, arith, Vec, Global}
use Rattle.std.proofs.lemmas.Result.{err_from_is_err_and}
use Rattle.dbg_base.specs.Grammar.{DerivesProcess}
use Rattle.proc_lang.specs.declared.syntax.WrittenProcess.{WrittenProcess}
use Rattle.proc_lang.specs.Scanning.{placed_of}
use Rattle.proc_lang.specs.Writing.{process_of}
use Rattle.proc_lang.specs.Parsing.{is_word_token, read_process}
use Rattle.proc_lang.proofs.RepetitionLemmas.{reading_more, reading_stops, reading_ends}
use Rattle.proc_lang.proofs.WholeTextLemmas.{process_reader, process_takes}
use Rattle.proc_lang.proofs.parser.Parser.further_processes.Goals as goal

pub returns-in_err-process-clause-read : goal.returns-in_err-process-clause-read
returns-in_err-process-clause-read c =
    let p = err_from_is_err_and c.from_residual.result c.from_residual.ensures.1 in
    rw (p.1, p.2)
    (reading_stops DerivesProcess (is_word_token (codes "process")) read_process process_reader process_takes process_of
    (Vec WrittenProcess Global) (λ v. map process_of v.items)
    c.loop-self.processes.items c.in_err-process.field-0.0 (map placed_of c.loop-self.self.rest.now)
    (map placed_of c.args.self.now.rest.now)
    (map placed_of c.process.new.self.rest.now) (map placed_of c.process.new.self.rest.now) c.loop-self.invariant.reading
    (sym c.loop-self-test.ensures) c.in_err-process.ensures.read)

pub loop-self-preserved : goal.loop-self-preserved
loop-self-preserved c = record {
  shorter = omega (arith, c.in_ok-process.ensures.shorter, c.loop-self.invariant.shorter);
  reading =
      reading_more DerivesProcess
      (is_word_token (codes "process")) read_process process_reader process_takes process_of c.loop-self.processes.items
      c.push.new.self.items c.in_ok-process.process (map placed_of c.loop-self.self.rest.now) _ _ c.loop-self.invariant.reading
      (sym c.loop-self-test.ensures) c.in_ok-process.ensures.read c.in_ok-push.ensures.items;
}

pub returns-clause-read : goal.returns-clause-read
returns-clause-read c =
    reading_ends DerivesProcess
    (is_word_token (codes "process")) read_process process_reader process_takes process_of c.loop-self.processes.items
    (map placed_of c.loop-self.self.rest.now) _ c.loop-self.invariant.reading (sym c.loop-self-test.ensures)
