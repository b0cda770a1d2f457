use Rattle.std.proofs.Common.{sym, ◌∙◌, arith}
use Rattle.proc_tree.specs.Programs.{program_of}
use Rattle.dbg_command.proofs.ConjunctFitLemmas.{none_fitting, refused_unknown, refused_unfit, refused_twice, more_fitting, all_fitting}
use Rattle.dbg_command.proofs.conjuncts.fitting.Goals as goal

pub loop-i-init : goal.loop-i-init
loop-i-init c = none_fitting (program_of c.args.program.now) c.args.conjuncts.now

pub returns-then-conjunct-processes-clause-refuses : goal.returns-then-conjunct-processes-clause-refuses
returns-then-conjunct-processes-clause-refuses c =
    refused_unknown (program_of c.args.program.now) c.args.conjuncts.now c.loop-i.i c.loop-i.invariant c.index-conjuncts-i.result
    c.index-conjuncts-i.is c.loop-i-test.true (omega (arith, c.if-conjunct-processes.true, c.processes.ensures.value))

pub returns-then-not-fits-clause-refuses : goal.returns-then-not-fits-clause-refuses
returns-then-not-fits-clause-refuses c =
    refused_unfit (program_of c.args.program.now) c.args.conjuncts.now c.loop-i.i c.loop-i.invariant c.index-conjuncts-i.result
    c.index-conjuncts-i.is c.loop-i-test.true (omega (arith, c.if-conjunct-processes.false, c.processes.ensures.value))
    (sym c.fits.ensures ∙ c.if-not-fits.true)

pub returns-then-is_named-clause-refuses : goal.returns-then-is_named-clause-refuses
returns-then-is_named-clause-refuses c =
    refused_twice (program_of c.args.program.now) c.args.conjuncts.now c.loop-i.i c.loop-i.invariant c.index-conjuncts-i.result
    c.index-conjuncts-i.is c.loop-i-test.true (omega (arith, c.if-conjunct-processes.false, c.processes.ensures.value))
    (sym c.is_named.ensures ∙ c.if-is_named.true)

pub loop-i-preserved : goal.loop-i-preserved
loop-i-preserved c =
    more_fitting (program_of c.args.program.now) c.args.conjuncts.now c.loop-i.i c.loop-i.invariant c.index-conjuncts-i.result
    c.index-conjuncts-i.is c.loop-i-test.true (omega (arith, c.if-conjunct-processes.false, c.processes.ensures.value))
    (sym c.fits.ensures ∙ c.if-not-fits.false) (sym c.is_named.ensures ∙ c.if-is_named.false)

pub returns-clause-fit : goal.returns-clause-fit
returns-clause-fit c =
    all_fitting (program_of c.args.program.now) c.args.conjuncts.now c.loop-i.i c.loop-i.invariant c.loop-i-test.false
