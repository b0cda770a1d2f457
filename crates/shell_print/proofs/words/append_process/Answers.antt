use Rattle.std.proofs.Common.{◌++◌, List, ℕ, sym, ◌∙◌, ap}
use Rattle.std.proofs.lemmas.List.{append-nil}
use Rattle.proc_tree.specs.Programs.{program_of}
use Rattle.shell_print.proofs.PairLemmas.{unnamed}
use Rattle.shell_print.proofs.words.append_process.Goals as goal

pub returns-in_default-clause-text : goal.returns-in_default-clause-text
returns-in_default-clause-text g c =
    let none = unnamed (program_of c.args.program.now) c.args.pid.0 c.in_default.ensures in
    sym (ap (λ (t : List ℕ). c.args.text.now ++ t) none ∙ append-nil c.args.text.now)
