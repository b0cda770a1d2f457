use Rattle.std.proofs.Common.{List, [], length, map, sym, ◌∙◌, subst}
use Rattle.std.proofs.lemmas.Result.{err_from_is_err_and}
use Rattle.dbg_base.specs.declared.expr.Sort.TheVariants as sort
use Rattle.dbg_base.specs.Tokens.{HasTokens}
use Rattle.dbg_base.specs.Grammar.{DerivesExpression}
use Rattle.dbg_base.specs.Checks.{scope_of, expression_faults, phrase_tree}
use Rattle.proc_lang.specs.declared.token.Placed as code
use Rattle.proc_lang.specs.declared.syntax.Phrase.{Phrase}
use Rattle.proc_lang.specs.Scanning.{placed_of}
use Rattle.proc_lang.specs.Writing.{phrase_of}
use Rattle.proc_lang.specs.Parsing.{read_predicate}
use Rattle.proc_lang.specs.Reading.{IsStop}
use Rattle.proc_lang.proofs.WholeTextLemmas.{predicate_once, predicate_read, predicate_fails}
use Rattle.proc_lang.proofs.Texts.{no_tokens, stopped_refused}
use Rattle.proc_lang.proofs.parse.written_predicate.Goals as goal

pub returns-in_err-tokens-clause-refused : goal.returns-in_err-tokens-clause-refused
returns-in_err-tokens-clause-refused c =
    let q = err_from_is_err_and c.from_residual.result c.from_residual.ensures.1 in
    rw (q.1, q.2)
    (λ P p. no_tokens DerivesExpression (expression_faults (scope_of P p) sort.Truth) (phrase_tree (scope_of P p)) predicate_once
    c.args.text.now c.in_err-tokens.field-0.0 c.in_err-tokens.ensures Phrase)

pub returns-in-Ok-clause-written : goal.returns-in-Ok-clause-written
returns-in-Ok-clause-written c = (
  map placed_of c.as_slice.result.now,
  subst (λ (ps : List code.Placed). HasTokens c.args.text.now (map placed_of ps)) (sym c.as_slice.ensures.value) c.in_ok-tokens.ensures,
  predicate_read (map placed_of c.as_slice.result.now) (phrase_of c.in-Ok.written) c.in-Ok.ensures,
)

pub returns-clause-refused : goal.returns-clause-refused
returns-clause-refused c P p =
    stopped_refused DerivesExpression (expression_faults (scope_of P p) sort.Truth)
    (phrase_tree (scope_of P p)) predicate_once read_predicate
    phrase_of c.args.text.now (map placed_of c.as_slice.result.now) [] c.in-Err.stop c.stopped.result Phrase predicate_fails
    (subst (λ (ps : List code.Placed). HasTokens c.args.text.now (map placed_of ps)) (sym c.as_slice.ensures.value) c.in_ok-tokens.ensures)
    c.in-Err.ensures (subst (λ (ps : List code.Placed). IsStop c.in-Err.stop (map placed_of ps) (length c.args.text.now) c.stopped.result)
    (c.as_slice-in-Err.ensures.value ∙ sym c.as_slice.ensures.value) c.stopped.ensures)
