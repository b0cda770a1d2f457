use Rattle.std.proofs.Common.{List, [], length, map, sym, ◌∙◌, subst, Vec, Global}
use Rattle.std.proofs.lemmas.Result.{err_from_is_err_and}
use Rattle.dbg_base.specs.Tokens.{HasTokens}
use Rattle.dbg_base.specs.Grammar.{DerivesProgram}
use Rattle.dbg_base.specs.Checks.{check_faults, program_tree}
use Rattle.proc_lang.specs.declared.token.Placed as code
use Rattle.proc_lang.specs.declared.syntax.WrittenProcess.{WrittenProcess}
use Rattle.proc_lang.specs.Scanning.{placed_of}
use Rattle.proc_lang.specs.Writing.{process_of, processes_of}
use Rattle.proc_lang.specs.Parsing.{read_program}
use Rattle.proc_lang.specs.Reading.{IsStop}
use Rattle.proc_lang.proofs.WholeTextLemmas.{program_once, program_read, program_fails}
use Rattle.proc_lang.proofs.Texts.{no_tokens, stopped_refused}
use Rattle.proc_lang.proofs.parse.written_program.Goals as goal

pub returns-in_err-tokens-clause-refused : goal.returns-in_err-tokens-clause-refused
returns-in_err-tokens-clause-refused c =
    let p = err_from_is_err_and c.from_residual.result c.from_residual.ensures.1 in
    rw (p.1, p.2)
    (no_tokens DerivesProgram check_faults program_tree program_once c.args.text.now c.in_err-tokens.field-0.0 c.in_err-tokens.ensures
    (Vec WrittenProcess Global))

pub returns-in-Ok-clause-written : goal.returns-in-Ok-clause-written
returns-in-Ok-clause-written c = (
  map placed_of c.as_slice.result.now,
  subst (λ (ps : List code.Placed). HasTokens c.args.text.now (map placed_of ps)) (sym c.as_slice.ensures.value) c.in_ok-tokens.ensures,
  program_read (map placed_of c.as_slice.result.now) (processes_of c.in-Ok.written.items) c.in-Ok.ensures,
)

pub returns-clause-refused : goal.returns-clause-refused
returns-clause-refused c =
    stopped_refused DerivesProgram check_faults program_tree program_once read_program
    (λ (v : Vec WrittenProcess Global). map process_of v.items)
    c.args.text.now (map placed_of c.as_slice.result.now) [] c.in-Err.stop c.stopped.result (Vec WrittenProcess Global) program_fails
    (subst (λ (ps : List code.Placed). HasTokens c.args.text.now (map placed_of ps)) (sym c.as_slice.ensures.value) c.in_ok-tokens.ensures)
    c.in-Err.ensures (subst (λ (ps : List code.Placed). IsStop c.in-Err.stop (map placed_of ps) (length c.args.text.now) c.stopped.result)
    (c.as_slice-in-Err.ensures.value ∙ sym c.as_slice.ensures.value) c.stopped.ensures)
