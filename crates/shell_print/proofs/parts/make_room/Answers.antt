use Rattle.shell_print.proofs.WriteLemmas.{puts_kept}
use Rattle.std.proofs.Common.{sym}
use Rattle.std.proofs.lemmas.List.{append-nil}
use Rattle.shell_print.proofs.parts.make_room.Goals as goal

pub returns-then-room-ge-PAIR-clause-puts : goal.returns-then-room-ge-PAIR-clause-puts
returns-then-room-ge-PAIR-clause-puts g c = puts_kept _ _ _ _ (sym (append-nil c.args.text.now))
