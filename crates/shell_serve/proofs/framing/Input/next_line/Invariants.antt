use Rattle.std.proofs.Common.{◌≡◌, ◌+◌, ◌-◌, vec_len, cond}
use Rattle.shell_serve.specs.declared.framing.TheConstants.{ROOM}
use Rattle.shell_serve.specs.Spans.{ReadsOn, ReadsAsNeeded}
use Rattle.shell_io.specs.declared.health.Health.TheVariants.{Fine}
use Rattle.shell_serve.proofs.framing.Input.next_line.Given as goal

abbrev pub invariant-loop-next : goal.invariant-loop-next
invariant-loop-next g l = record {
  at : l.self.at ≡ l.fn.self.at;
  reads : ReadsOn l.fn.self.bytes.items l.fn.self.ended (g.R.Source.remaining l.fn.reader) l.self.bytes.items l.self.ended
      (g.R.Source.remaining l.reader);
  needed : ReadsAsNeeded l.fn.self.bytes.items l.fn.self.ended l.self.bytes.items l.fn.self.at;
  reader : g.R.Source.health l.fn.reader ≡ Fine → g.R.Source.health l.reader ≡ Fine;
}

-- the bytes that may still be read, and the end
abbrev pub decreases-loop-next : goal.decreases-loop-next
decreases-loop-next g l = (ROOM - vec_len l.self.bytes) + cond l.self.ended 0 1
