use Rattle.dbg_base.specs.declared.expr.Sort.TheVariants as sort
use Rattle.dbg_base.specs.Grammar.{DerivesExpression}
use Rattle.dbg_base.specs.Checks.{scope_of, expression_faults, phrase_tree}
use Rattle.dbg_base.proofs.FirstFaults.{first_of_expression}
use Rattle.proc_lang.proofs.WholeTextLemmas.{predicate_once, predicate_parses}
use Rattle.proc_lang.proofs.Texts.{each_text, reads_well, reads_once, fault_once}
use Rattle.proc_lang.proofs.laws.predicate_or_fault.Goals as goal

pub returns-clause-some : goal.returns-clause-some
returns-clause-some c P p =
    each_text DerivesExpression (expression_faults (scope_of P p) sort.Truth) (phrase_tree (scope_of P p)) predicate_once
    (first_of_expression (scope_of P p) sort.Truth) predicate_parses

pub returns-clause-not_both : goal.returns-clause-not_both
returns-clause-not_both c P p =
    reads_well DerivesExpression (expression_faults (scope_of P p) sort.Truth) (phrase_tree (scope_of P p)) predicate_once

pub returns-clause-one_predicate : goal.returns-clause-one_predicate
returns-clause-one_predicate c P p =
    reads_once DerivesExpression (expression_faults (scope_of P p) sort.Truth) (phrase_tree (scope_of P p)) predicate_once

pub returns-clause-one_fault : goal.returns-clause-one_fault
returns-clause-one_fault c P p =
    fault_once DerivesExpression (expression_faults (scope_of P p) sort.Truth) (phrase_tree (scope_of P p)) predicate_once
