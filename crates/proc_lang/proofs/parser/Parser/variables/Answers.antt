use Rattle.std.proofs.Common.{codes, map, sym, arith, Vec, Global}
use Rattle.std.proofs.lemmas.Result.{err_from_is_err_and}
use Rattle.dbg_base.specs.Grammar.{DerivesVariable}
use Rattle.proc_lang.specs.declared.syntax.WrittenVariable.{WrittenVariable}
use Rattle.proc_lang.specs.Scanning.{placed_of}
use Rattle.proc_lang.specs.Writing.{variable_of}
use Rattle.proc_lang.specs.Parsing.{is_word_token, read_variable}
use Rattle.proc_lang.proofs.RepetitionLemmas.{reading_more, reading_stops, reading_ends}
use Rattle.proc_lang.proofs.Commands.{variable_reader, variable_takes}
use Rattle.proc_lang.proofs.parser.Parser.variables.Goals as goal

pub returns-in_err-variable-clause-read : goal.returns-in_err-variable-clause-read
returns-in_err-variable-clause-read c =
    let p = err_from_is_err_and c.from_residual.result c.from_residual.ensures.1 in
    rw (p.1, p.2)
    (reading_stops DerivesVariable (is_word_token (codes "var")) read_variable variable_reader variable_takes variable_of
    (Vec WrittenVariable Global) (λ v. map variable_of v.items)
    c.loop-self.variables.items c.in_err-variable.field-0.0 (map placed_of c.loop-self.self.rest.now)
    (map placed_of c.args.self.now.rest.now)
    (map placed_of c.variable.new.self.rest.now) (map placed_of c.variable.new.self.rest.now) c.loop-self.invariant.reading
    (sym c.loop-self-test.ensures) c.in_err-variable.ensures.read)

pub loop-self-preserved : goal.loop-self-preserved
loop-self-preserved c = record {
  shorter = omega (arith, c.in_ok-variable.ensures.shorter, c.loop-self.invariant.shorter);
  reading =
      reading_more DerivesVariable
      (is_word_token (codes "var")) read_variable variable_reader variable_takes variable_of c.loop-self.variables.items
      c.push.new.self.items c.in_ok-variable.variable (map placed_of c.loop-self.self.rest.now) _ _ c.loop-self.invariant.reading
      (sym c.loop-self-test.ensures) c.in_ok-variable.ensures.read c.in_ok-push.ensures.items;
}

pub returns-clause-read : goal.returns-clause-read
returns-clause-read c =
    reading_ends DerivesVariable
    (is_word_token (codes "var")) read_variable variable_reader variable_takes variable_of c.loop-self.variables.items
    (map placed_of c.loop-self.self.rest.now) _ c.loop-self.invariant.reading (sym c.loop-self-test.ensures)
