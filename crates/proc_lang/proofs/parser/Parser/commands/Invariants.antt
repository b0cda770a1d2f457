use Rattle.std.proofs.Common.{◌≤◌, codes, length, map}
use Rattle.dbg_base.specs.Grammar.{DerivesCommand}
use Rattle.proc_lang.specs.Scanning.{placed_of}
use Rattle.proc_lang.specs.Writing.{command_of}
use Rattle.proc_lang.specs.Parsing.{is_word_token, read_command}
use Rattle.proc_lang.proofs.RepetitionLemmas.{IsReading}
use Rattle.proc_lang.proofs.Commands.{command_reader, command_takes}
use Rattle.proc_lang.proofs.parser.Parser.commands.Given as goal

abbrev pub invariant-loop-self : goal.invariant-loop-self
invariant-loop-self l = record {
  shorter : length l.self.rest.now ≤ length l.fn.self.rest.now;
  reading : IsReading DerivesCommand (is_word_token (codes "when")) read_command command_reader command_takes command_of l.commands.items
      (map placed_of l.self.rest.now) (map placed_of l.fn.self.rest.now);
}

abbrev pub decreases-loop-self : goal.decreases-loop-self
decreases-loop-self l = length l.self.rest.now
