use Rattle.std.proofs.Common.{map, sym, arith, Vec, Global}
use Rattle.std.proofs.lemmas.Result.{err_from_is_err_and}
use Rattle.dbg_base.specs.declared.sign.Sign.TheVariants.{Comma}
use Rattle.dbg_base.specs.Grammar.{DerivesFurther}
use Rattle.proc_lang.specs.declared.syntax.WrittenAssignment.{WrittenAssignment}
use Rattle.proc_lang.specs.Scanning.{placed_of}
use Rattle.proc_lang.specs.Writing.{assignment_of}
use Rattle.proc_lang.specs.Parsing.{is_sign_token, read_further}
use Rattle.proc_lang.proofs.RepetitionLemmas.{reading_more, reading_stops, reading_ends}
use Rattle.proc_lang.proofs.Commands.{further_reader, further_takes}
use Rattle.proc_lang.proofs.parser.Parser.all_further.Goals as goal

pub returns-in_err-assignment-clause-read : goal.returns-in_err-assignment-clause-read
returns-in_err-assignment-clause-read c =
    let p = err_from_is_err_and c.from_residual.result c.from_residual.ensures.1 in
    rw (p.1, p.2)
    (reading_stops DerivesFurther (is_sign_token Comma) read_further further_reader further_takes assignment_of
    (Vec WrittenAssignment Global) (λ v. map assignment_of v.items)
    c.loop-self.assignments.items c.in_err-assignment.field-0.0 (map placed_of c.loop-self.self.rest.now)
    (map placed_of c.args.self.now.rest.now)
    (map placed_of c.further.new.self.rest.now) (map placed_of c.further.new.self.rest.now) c.loop-self.invariant.reading
    (sym c.loop-self-test.ensures) c.in_err-assignment.ensures.read)

pub loop-self-preserved : goal.loop-self-preserved
loop-self-preserved c = record {
  shorter = omega (arith, c.in_ok-assignment.ensures.shorter, c.loop-self.invariant.shorter);
  reading =
      reading_more DerivesFurther
      (is_sign_token Comma) read_further further_reader further_takes assignment_of c.loop-self.assignments.items
      c.push.new.self.items c.in_ok-assignment.assignment (map placed_of c.loop-self.self.rest.now) _ _ c.loop-self.invariant.reading
      (sym c.loop-self-test.ensures) c.in_ok-assignment.ensures.read c.in_ok-push.ensures.items;
}

pub returns-clause-read : goal.returns-clause-read
returns-clause-read c =
    reading_ends DerivesFurther (is_sign_token Comma) read_further further_reader further_takes assignment_of c.loop-self.assignments.items
    (map placed_of c.loop-self.self.rest.now) _ c.loop-self.invariant.reading (sym c.loop-self-test.ensures)
