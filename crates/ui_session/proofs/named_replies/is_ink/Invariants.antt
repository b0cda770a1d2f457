use Rattle.std.proofs.Common.{◌≡◌, take}
use Rattle.std.specs.List.{list_all}
use Rattle.ui_session.specs.Named.{is_ink}
use Rattle.ui_session.proofs.named_replies.is_ink.Given as goal

abbrev pub invariant-loop-byte : goal.invariant-loop-byte
invariant-loop-byte l = l.is_ink ≡ list_all is_ink (take l.byte-index l.bytes)
