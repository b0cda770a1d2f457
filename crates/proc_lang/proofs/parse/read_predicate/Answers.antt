use Rattle.std.proofs.lemmas.Result.{err_from_is_err_and}
use Rattle.dbg_base.specs.declared.expr.Sort.TheVariants as sort
use Rattle.dbg_base.specs.declared.expr.Expr.{Expr}
use Rattle.dbg_base.specs.Trees.{tree_of}
use Rattle.dbg_base.specs.Grammar.{DerivesExpression}
use Rattle.dbg_base.specs.Checks.{scope_of, expression_faults, phrase_tree, IsPredicateFault}
use Rattle.dbg_base.proofs.FirstFaults.{first_of_expression}
use Rattle.proc_lang.specs.declared.syntax.Phrase.{Phrase}
use Rattle.proc_tree.specs.Programs.{program_of}
use Rattle.proc_lang.specs.Writing.{phrase_of}
use Rattle.proc_lang.proofs.WholeTextLemmas.{predicate_once}
use Rattle.proc_lang.proofs.Texts.{passed_on, checked_accepted, checked_refused}
use Rattle.proc_lang.proofs.parse.read_predicate.Goals as goal

pub returns-in_err-written-clause-refused : goal.returns-in_err-written-clause-refused
returns-in_err-written-clause-refused c =
    let q = err_from_is_err_and c.from_residual.result c.from_residual.ensures.1 in
    let P = program_of c.args.program.now in
    let p = c.args.pid.0 in
    rw (q.1, q.2)
    (passed_on Phrase Expr c.in_err-written.field-0.0 (IsPredicateFault P p c.args.text.now) (c.in_err-written.ensures.refused P p))

pub returns-clause-accepted : goal.returns-clause-accepted
returns-clause-accepted c =
    let P = program_of c.args.program.now in
    let p = c.args.pid.0 in
    checked_accepted DerivesExpression (expression_faults (scope_of P p) sort.Truth) (phrase_tree (scope_of P p)) predicate_once
    (first_of_expression (scope_of P p) sort.Truth) tree_of c.args.text.now (phrase_of c.in_ok-written.written)
    c.in_ok-written.ensures.written c.predicate.result c.predicate.ensures

pub returns-clause-refused : goal.returns-clause-refused
returns-clause-refused c =
    let P = program_of c.args.program.now in
    let p = c.args.pid.0 in
    checked_refused DerivesExpression (expression_faults (scope_of P p) sort.Truth) (phrase_tree (scope_of P p)) predicate_once
    (first_of_expression (scope_of P p) sort.Truth) tree_of c.args.text.now (phrase_of c.in_ok-written.written)
    c.in_ok-written.ensures.written c.predicate.result c.predicate.ensures
