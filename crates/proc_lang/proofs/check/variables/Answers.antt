use Rattle.std.proofs.Common.{◌≡◌, arith, rules, w64, FitsSigned}
use Rattle.std.proofs.lemmas.Int.{to_z-of_z}
use Rattle.std.proofs.lemmas.Result.{err_from_is_err_and}
use Rattle.proc_lang.specs.Writing.{variable_of}
use Rattle.proc_lang.proofs.FirstCheckLemmas.{passed_on}
use Rattle.proc_lang.proofs.ListCheckLemmas.{first_next, goes_on, variables_here, reads_more, length_before}
use Rattle.proc_lang.proofs.check.variables.Goals as goal

pub returns-in_err-name-clause-faults : goal.returns-in_err-name-clause-faults
returns-in_err-name-clause-faults c =
    passed_on c.from_residual.result _ _ _ (err_from_is_err_and c.from_residual.result c.from_residual.ensures.1)
    (first_next _ _ _ _ _ c.loop-i.invariant.left
    (variables_here c.args.names.now c.args.written.now c.loop-i.i c.index-written-i.result c.requires c.loop-i-test.true
    c.index-written-i.is)
    c.in_err-name.ensures.faults)

pub loop-i-preserved : goal.loop-i-preserved
loop-i-preserved c =
    let before =
    length_before (λ variable. variable.name.name) c.args.names.now c.args.written.now c.loop-i.i c.requires c.loop-i-test.true in
    let fits : FitsSigned w64 c.index-written-i.result.start = search rules in
    record {
      len = omega (arith, c.in_ok-push.ensures.len);
      few = omega (arith, before, c.in_ok-name.ensures.few);
      left = goes_on _ _ _ _ c.loop-i.invariant.left
          (variables_here c.args.names.now c.args.written.now c.loop-i.i c.index-written-i.result c.requires c.loop-i-test.true
          c.index-written-i.is)
          c.in_ok-name.ensures.faults.0;
      read = reads_more (λ variable. (variable.name, variable.start)) (λ variable. (variable.name.name, variable.start)) variable_of
          c.loop-i.variables.items c.push.new.self.items _ c.args.written.now c.loop-i.i c.index-written-i.result
          c.in_ok-push.ensures.items c.loop-i.invariant.read c.loop-i-test.true c.index-written-i.is
          (let n : c.in_ok-name.name ≡ c.index-written-i.result.name.name = c.in_ok-name.ensures.faults.1 in
          let z = to_z-of_z w64 c.index-written-i.result.start fits in cc);
    }
