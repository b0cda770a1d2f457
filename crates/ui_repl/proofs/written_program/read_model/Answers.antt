use Rattle.std.proofs.Common.{[], sym, subst}
use Rattle.dbg_base.specs.Checks.{Reads}
use Rattle.proc_lang.specs.Answering.{Accepts}
use Rattle.proc_tree.specs.Programs.{program_of}
use Rattle.notation.specs.Lines.{played_in}
use Rattle.ui_repl.proofs.written_program.read_model.Goals as goal

pub returns-in-Ok-clause-text : goal.returns-in-Ok-clause-text
returns-in-Ok-clause-text c =
    let P = program_of c.args.expanded.program in
    let reads = subst (λ text. Reads text P) (sym c.plain.ensures.value) c.requires.0 in
    ([], (played_in c.args.expanded, sym (c.in-Ok.ensures.accepts P reads), c.requires.1))
