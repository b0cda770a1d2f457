use Rattle.std.proofs.Common.{refl}
use Rattle.ui_session.proofs.NamedLemmas.{plain_step}
use Rattle.ui_session.proofs.named_replies.put_plain_text.Goals as goal

pub loop-byte-preserved : goal.loop-byte-preserved
loop-byte-preserved c = plain_step c.args.text.now _ _ _ _ _ _ c.loop-byte.invariant c.in_ok-put_plain.ensures c.loop-byte-test.true refl
