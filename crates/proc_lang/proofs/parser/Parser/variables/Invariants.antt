use Rattle.std.proofs.Common.{◌≤◌, codes, length, map}
use Rattle.dbg_base.specs.Grammar.{DerivesVariable}
use Rattle.proc_lang.specs.Scanning.{placed_of}
use Rattle.proc_lang.specs.Writing.{variable_of}
use Rattle.proc_lang.specs.Parsing.{is_word_token, read_variable}
use Rattle.proc_lang.proofs.RepetitionLemmas.{IsReading}
use Rattle.proc_lang.proofs.Commands.{variable_reader, variable_takes}
use Rattle.proc_lang.proofs.parser.Parser.variables.Given as goal

abbrev pub invariant-loop-self : goal.invariant-loop-self
invariant-loop-self l = record {
  shorter : length l.self.rest.now ≤ length l.fn.self.rest.now;
  reading : IsReading DerivesVariable
      (is_word_token (codes "var")) read_variable variable_reader variable_takes variable_of l.variables.items
      (map placed_of l.self.rest.now) (map placed_of l.fn.self.rest.now);
}

abbrev pub decreases-loop-self : goal.decreases-loop-self
decreases-loop-self l = length l.self.rest.now
