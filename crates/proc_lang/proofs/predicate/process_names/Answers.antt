use Rattle.std.proofs.Common.{rules, tests}
use Rattle.std.proofs.lemmas.Iterator.{items_from_collect, YieldsList-from_slice, YieldsList-from_map}
use Rattle.proc_lang.proofs.predicate.process_names.Goals as goal

pub returns : goal.returns
returns c =
    items_from_collect _ c.collect.ensures.ran
    (YieldsList-from_map _ _ (YieldsList-from_slice c.args.processes.now (cc)) c.map.ensures.closure (λ x r q k. search (rules, tests)))
