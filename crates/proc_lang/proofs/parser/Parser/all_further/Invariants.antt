use Rattle.std.proofs.Common.{◌≤◌, length, map}
use Rattle.dbg_base.specs.declared.sign.Sign.TheVariants.{Comma}
use Rattle.dbg_base.specs.Grammar.{DerivesFurther}
use Rattle.proc_lang.specs.Scanning.{placed_of}
use Rattle.proc_lang.specs.Writing.{assignment_of}
use Rattle.proc_lang.specs.Parsing.{is_sign_token, read_further}
use Rattle.proc_lang.proofs.RepetitionLemmas.{IsReading}
use Rattle.proc_lang.proofs.Commands.{further_reader, further_takes}
use Rattle.proc_lang.proofs.parser.Parser.all_further.Given as goal

abbrev pub invariant-loop-self : goal.invariant-loop-self
invariant-loop-self l = record {
  shorter : length l.self.rest.now ≤ length l.fn.self.rest.now;
  reading : IsReading DerivesFurther (is_sign_token Comma) read_further further_reader further_takes assignment_of l.assignments.items
      (map placed_of l.self.rest.now) (map placed_of l.fn.self.rest.now);
}

abbrev pub decreases-loop-self : goal.decreases-loop-self
decreases-loop-self l = length l.self.rest.now
