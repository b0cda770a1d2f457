use Rattle.dbg_base.specs.declared.expr.Sort.TheVariants as sort
use Rattle.dbg_base.specs.Trees.{tree_of}
use Rattle.dbg_base.specs.Grammar.{DerivesExpression}
use Rattle.dbg_base.specs.Checks.{scope_of, expression_faults, phrase_tree}
use Rattle.proc_tree.specs.Programs.{program_of}
use Rattle.proc_lang.proofs.WholeTextLemmas.{predicate_once}
use Rattle.proc_lang.proofs.Texts.{accepts, refuses}
use Rattle.proc_lang.proofs.parse.parse_predicate.Goals as goal

pub returns-clause-accepts : goal.returns-clause-accepts
returns-clause-accepts c =
    let scope = scope_of (program_of c.args.program.now) c.args.pid.0 in
    accepts DerivesExpression (expression_faults scope sort.Truth) (phrase_tree scope) predicate_once tree_of c.args.text.now
    c.read_predicate.result c.read_predicate.ensures.accepted c.read_predicate.ensures.refused

pub returns-clause-refuses : goal.returns-clause-refuses
returns-clause-refuses c =
    let scope = scope_of (program_of c.args.program.now) c.args.pid.0 in
    refuses DerivesExpression (expression_faults scope sort.Truth) (phrase_tree scope) predicate_once tree_of c.args.text.now
    c.read_predicate.result c.read_predicate.ensures.accepted c.read_predicate.ensures.refused
