use Rattle.std.proofs.Common.{◌≡◌, take}
use Rattle.std.specs.List.{list_all}
use Rattle.dbg_base.specs.Tokens.{is_word_byte}
use Rattle.ui_session.proofs.named_replies.is_word.Given as goal

abbrev pub invariant-loop-byte : goal.invariant-loop-byte
invariant-loop-byte l = l.is_word ≡ list_all is_word_byte (take l.byte-index l.bytes)
