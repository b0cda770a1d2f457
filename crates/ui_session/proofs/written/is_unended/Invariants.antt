use Rattle.std.proofs.Common.{◌≡◌, take}
use Rattle.shell_serve.specs.Spans.{is_unended}
use Rattle.ui_session.proofs.written.is_unended.Given as goal

abbrev pub invariant-loop-byte : goal.invariant-loop-byte
invariant-loop-byte l = l.is_unended ≡ is_unended (take l.byte-index l.line)
