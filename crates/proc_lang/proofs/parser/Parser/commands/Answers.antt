use Rattle.std.proofs.Common.{codes, map, sym, arith, Vec, Global}
use Rattle.std.proofs.lemmas.Result.{err_from_is_err_and}
use Rattle.dbg_base.specs.Grammar.{DerivesCommand}
use Rattle.proc_lang.specs.declared.syntax.WrittenCommand.{WrittenCommand}
use Rattle.proc_lang.specs.Scanning.{placed_of}
use Rattle.proc_lang.specs.Writing.{command_of}
use Rattle.proc_lang.specs.Parsing.{is_word_token, read_command}
use Rattle.proc_lang.proofs.RepetitionLemmas.{reading_more, reading_stops, reading_ends}
use Rattle.proc_lang.proofs.Commands.{command_reader, command_takes}
use Rattle.proc_lang.proofs.parser.Parser.commands.Goals as goal

pub returns-in_err-command-clause-read : goal.returns-in_err-command-clause-read
returns-in_err-command-clause-read c =
    let p = err_from_is_err_and c.from_residual.result c.from_residual.ensures.1 in
    rw (p.1, p.2)
    (reading_stops DerivesCommand (is_word_token (codes "when")) read_command command_reader command_takes command_of
    (Vec WrittenCommand Global) (λ v. map command_of v.items)
    c.loop-self.commands.items c.in_err-command.field-0.0 (map placed_of c.loop-self.self.rest.now) (map placed_of c.args.self.now.rest.now)
    (map placed_of c.command.new.self.rest.now) (map placed_of c.command.new.self.rest.now) c.loop-self.invariant.reading
    (sym c.loop-self-test.ensures) c.in_err-command.ensures.read)

pub loop-self-preserved : goal.loop-self-preserved
loop-self-preserved c = record {
  shorter = omega (arith, c.in_ok-command.ensures.shorter, c.loop-self.invariant.shorter);
  reading =
      reading_more DerivesCommand
      (is_word_token (codes "when")) read_command command_reader command_takes command_of c.loop-self.commands.items
      c.push.new.self.items c.in_ok-command.command (map placed_of c.loop-self.self.rest.now) _ _ c.loop-self.invariant.reading
      (sym c.loop-self-test.ensures) c.in_ok-command.ensures.read c.in_ok-push.ensures.items;
}

pub returns-clause-read : goal.returns-clause-read
returns-clause-read c =
    reading_ends DerivesCommand
    (is_word_token (codes "when")) read_command command_reader command_takes command_of c.loop-self.commands.items
    (map placed_of c.loop-self.self.rest.now) _ c.loop-self.invariant.reading (sym c.loop-self-test.ensures)
