use Rattle.std.proofs.Common.{add-one, arith}
use Rattle.notation_meaning.specs.AgreementViews.{model_progress_of}
use Rattle.notation_meaning.proofs.AgreementParts.{declarations_step, declarations_done}
use Rattle.notation_meaning.proofs.programs.declarations.Goals as goal

pub loop-first-preserved : goal.loop-first-preserved
loop-first-preserved c = record {
  passed = grind (arith, c.loop-first.invariant.passed, c.in-Some.ensures.cases.0);
  goes_on =
      declarations_step _ _ _ c.loop-first.rest.now _ c.in-Some.first.now _ (model_progress_of c.args.here.now c.loop-first.progress)
      (model_progress_of c.args.here.now c.in_ok-progress.progress) _ _ c.loop-first.invariant.goes_on c.in-Some.ensures.cases.0
      c.in_ok-progress.ensures (add-one c.loop-first.number);
}

pub returns : goal.returns
returns c = declarations_done _ _ _ c.loop-first.rest.now _ _ _ c.loop-first.invariant.goes_on c.in_default.ensures.cases
