use Rattle.std.proofs.Common.{◌≢◌, ℕ, ◌+◌, refl, subst, sym, ap, ◌∙◌, arith, rules}
use Rattle.cut_core.specs.declared.kind.Kind.{Kind}
use Rattle.cut_core.specs.Tallies.{got_by}
use Rattle.causal_world.specs.Pasts.{IsWhole, with_kind, IsCause}
use Rattle.causal_world.proofs.ClockLemmas.{has_sender}
use Rattle.causal_world.proofs.ClockRows.{sender, got_few}
use Rattle.causal_world.proofs.past.cause.Goals as goal

pub send_event-requires-clause-enough : goal.send_event-requires-clause-enough
send_event-requires-clause-enough c =
    let kinds = c.args.tally.now.kinds in
    let p = c.args.pid.0 in
    let s = c.in-Got.source.0 in
    let h = has_sender kinds p s c.requires.here (search rules)
    (subst (λ (k : Kind). IsWhole (with_kind kinds p k)) c.in-Got.is c.requires.whole) in
    omega (arith, h.1, c.got-count.ensures ∙ ap (got_by kinds p s) c.len.ensures)

pub overflow_add-count : goal.overflow_add-count
overflow_add-count c =
    omega (arith, got_few c.args.tally.now.kinds c.args.pid.0 c.in-Got.source.0 c.len.result, c.got-count.ensures, c.requires.few)

pub returns-in-Got : goal.returns-in-Got
returns-in-Got c =
    let kinds = c.args.tally.now.kinds in
    let p = c.args.pid.0 in
    let s = c.in-Got.source.0 in
    let apart : s ≢ p = search rules in
    let h = has_sender kinds p s c.requires.here apart
    (subst (λ (k : Kind). IsWhole (with_kind kinds p k)) c.in-Got.is c.requires.whole) in
    let made = sender kinds p s c.send_event.result h.0 c.send_event.ensures.sends
    (c.send_event.ensures.count ∙ ap (λ (n : ℕ). n + 1) (c.got-count.ensures ∙ ap (got_by kinds p s) c.len.ensures)) in
    subst (λ (k : Kind). IsCause kinds p k s c.send_event.result) (sym c.in-Got.is) ((λ same. absurd (apart same)), (λ other. (refl, made)))
