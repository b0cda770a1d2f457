use Rattle.std.proofs.lemmas.Bool.Decides.{Decides-eqb}
use Rattle.std.proofs.lemmas.Slice.Eq.{strip_prefix_is}
use Rattle.ui_repl.proofs.PlainLineLemmas.{after_prefix_is}
use Rattle.ui_repl.proofs.words.after_prefix.Goals as goal

pub returns : goal.returns
returns c =
    after_prefix_is c.args.line.now c.args.prefix.now c.strip_prefix.result
    (strip_prefix_is Decides-eqb c.args.line.now c.args.prefix.now c.strip_prefix.result c.strip_prefix.ensures.cases)
