use Rattle.std.proofs.Common.{◌≤◌, codes, length, map}
use Rattle.dbg_base.specs.Grammar.{DerivesProcess}
use Rattle.proc_lang.specs.Scanning.{placed_of}
use Rattle.proc_lang.specs.Writing.{process_of}
use Rattle.proc_lang.specs.Parsing.{is_word_token, read_process}
use Rattle.proc_lang.proofs.RepetitionLemmas.{IsReading}
use Rattle.proc_lang.proofs.WholeTextLemmas.{process_reader, process_takes}
use Rattle.proc_lang.proofs.parser.Parser.further_processes.Given as goal

abbrev pub invariant-loop-self : goal.invariant-loop-self
invariant-loop-self l = record {
  shorter : length l.self.rest.now ≤ length l.fn.self.rest.now;
  reading : IsReading DerivesProcess
      (is_word_token (codes "process")) read_process process_reader process_takes process_of l.processes.items
      (map placed_of l.self.rest.now) (map placed_of l.fn.self.rest.now);
}

abbrev pub decreases-loop-self : goal.decreases-loop-self
decreases-loop-self l = length l.self.rest.now
