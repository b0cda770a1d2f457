use Rattle.std.proofs.Common.{take, arith, ◌∙◌, ap}
use Rattle.shell_parse.proofs.BreakLines.{predicate_taken, predicate_within}
use Rattle.shell_parse.proofs.break_line.next_predicate.Goals as goal

pub split_at-requires : goal.split_at-requires
split_at-requires c = omega (arith, c.predicate_length.ensures, predicate_within c.args.bytes.now)

pub returns-clause-text : goal.returns-clause-text
returns-clause-text c =
    c.split_at.ensures.front ∙ ap (λ n. take n c.args.bytes.now) c.predicate_length.ensures ∙ predicate_taken c.args.bytes.now
