use Rattle.std.proofs.Common.{◌++◌, List, ℕ, sym, ◌∙◌, ap}
use Rattle.std.proofs.lemmas.List.{append-nil}
use Rattle.proc_tree.specs.Programs.{program_of}
use Rattle.ui_diagram.proofs.LogLemmas.{unnamed}
use Rattle.ui_diagram.proofs.log.put_name.Goals as goal

pub returns-in-None : goal.returns-in-None
returns-in-None c =
    let none = unnamed (program_of c.args.program.now) c.args.pid.0 c.in-None.ensures in
    sym (ap (λ (t : List ℕ). c.args.text.now.items ++ t) none ∙ append-nil c.args.text.now.items)
