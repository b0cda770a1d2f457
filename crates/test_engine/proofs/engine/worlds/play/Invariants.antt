use Rattle.proc_tree.specs.Programs.{program_of}
use Rattle.causal_world.specs.Scenes.{IsWorldOf}
use Rattle.test_engine.proofs.engine.worlds.play.Given as goal

abbrev pub invariant-loop-pid : goal.invariant-loop-pid
invariant-loop-pid l = IsWorldOf (program_of l.program) l.world
