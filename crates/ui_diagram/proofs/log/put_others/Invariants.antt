use Rattle.std.proofs.Common.{◌≡◌, ◌++◌, map, take}
use Rattle.proc_tree.specs.Programs.{program_of}
use Rattle.ui_diagram.specs.Logs.{after_commas, count_text}
use Rattle.ui_diagram.proofs.log.put_others.Given as goal

abbrev pub invariant-loop-pid : goal.invariant-loop-pid
invariant-loop-pid l =
    l.text.items ≡ l.fn.text.items
    ++ after_commas (map (count_text (program_of l.program) l.clock) (map (λ pid. pid.0) (take l.pid-index l.pids)))
