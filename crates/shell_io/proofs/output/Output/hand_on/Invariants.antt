use Rattle.std.proofs.Common.{◌≡◌, length}
use Rattle.std.specs.Io.KnownBytes.{Keeps}
use Rattle.shell_io.specs.declared.health.Health.TheVariants.{Fine}
use Rattle.shell_io.specs.Outputs.{output_contents}
use Rattle.shell_io.proofs.output.Output.hand_on.Given as goal

abbrev pub invariant-loop-self : goal.invariant-loop-self
invariant-loop-self g l =
    (l.self.inner.health ≡ Fine) × Keeps (output_contents g.W.Write.contents l.fn.self) (output_contents g.W.Write.contents l.self)

abbrev pub decreases-loop-self : goal.decreases-loop-self
decreases-loop-self g l = length l.self.buffer
