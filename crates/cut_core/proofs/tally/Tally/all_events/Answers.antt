use Rattle.std.proofs.Common.{◌≡◌, length, sym, ◌∙◌, arith}
use Rattle.std.proofs.lemmas.List.{ext_get_or, length-map}
use Rattle.cut_core.specs.ConsistentCuts.{places}
use Rattle.cut_core.proofs.RaisedCutLemmas.{place_at}
use Rattle.cut_core.proofs.tally.Tally.all_events.Goals as goal

pub returns : goal.returns
returns c =
    let kinds = c.args.self.now.kinds in
    let whole : c.loop-p.p ≡ length kinds =
    omega (arith, c.loop-p-test.false, c.loop-p.auto.p-end, c.processes-p-end.ensures) in
    let sizes : length c.loop-p.counts.items ≡ length (places kinds) =
    c.loop-p.invariant.len ∙ whole ∙ sym (length-map kinds length) in
    c.new.ensures ∙ ext_get_or 0 c.loop-p.counts.items (places kinds) sizes
    (λ p lt. c.loop-p.invariant.counts p (omega (arith, c.loop-p.invariant.len)) ∙ sym (place_at kinds p))
