use Rattle.std.proofs.Common.{◌≡◌, ◌++◌, drop}
use Rattle.ui_session.specs.Named.{plain_text}
use Rattle.ui_session.proofs.named_replies.put_plain_text.Given as goal

abbrev pub invariant-loop-byte : goal.invariant-loop-byte
invariant-loop-byte l = l.plain.items ++ plain_text (drop l.byte-index l.text) ≡ l.fn.plain.items ++ plain_text l.text
