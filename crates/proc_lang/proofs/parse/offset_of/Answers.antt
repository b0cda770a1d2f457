use Rattle.proc_lang.proofs.Offsets.{offset_there}
use Rattle.proc_lang.proofs.parse.offset_of.Goals as goal

pub returns-in-len1-up : goal.returns-in-len1-up
returns-in-len1-up c =
    offset_there c.args.end c.args.left c.saturating_sub.result c.args.tokens.now c.first-item.result _ c.saturating_sub.ensures
    c.in-len1-up.len_at_least c.first-item.is
