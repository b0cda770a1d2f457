use Rattle.std.proofs.Common.{◌++◌, drop}
use Rattle.dbg_base.specs.Replies.{spaced, pair_words}
use Rattle.shell_print.specs.Writing.{Progress}
use Rattle.shell_print.specs.Pieces.{names_in, amount_texts}
use Rattle.shell_print.proofs.parts.put_pairs.Given as goal

abbrev pub invariant-loop-place : goal.invariant-loop-place
invariant-loop-place g l =
    Progress (g.W.Sink.seen l.fn.writer) (g.W.Sink.seen l.writer)
    (l.fn.text ++ spaced (pair_words (names_in l.names) (amount_texts l.amounts)))
    (l.text ++ spaced (drop l.place (pair_words (names_in l.names) (amount_texts l.amounts))))
