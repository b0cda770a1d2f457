use Rattle.std.proofs.Common.{◌≡◌, ℕ, ◌+◌, ◌<◌, refl, sym, subst, ◌∙◌, arith, inl, inr, ◌⊎◌}
use Rattle.std.proofs.lemmas.Bool.{cases_lt}
use Rattle.dbg_base.specs.SystemStates.{place_at}
use Rattle.ui_causes.proofs.CausalPastLemmas.{NoneBefore, none_more, first_found, first_missing}
use Rattle.ui_causes.proofs.past.first_after.Goals as goal

pub returns-then-is_before-clause-after : goal.returns-then-is_before-clause-after
returns-then-is_before-clause-after c =
    first_found c.args.world.now c.args.event c.args.pid.0 (c.loop-earlier.earlier + 1) _ refl refl (omega arith) c.loop-earlier.invariant
    (λ P E are is. (c.if-is_before.ensures P E are is).0 refl)

pub loop-earlier-preserved : goal.loop-earlier-preserved
loop-earlier-preserved c =
    none_more c.args.world.now c.args.event c.args.pid.0 (c.loop-earlier.earlier + 1) _ refl refl c.loop-earlier.invariant
    (λ P E are is before. let t = (c.if-is_before.ensures P E are is).1 before in cc)

pub returns-clause-after : goal.returns-clause-after
returns-clause-after c =
    let w = c.args.world.now in
    let place = place_at w.state c.args.pid.0 in
    let here = c.loop-earlier.auto.earlier-end in
    let end : c.loop-earlier.earlier ≡ place = omega (arith, c.loop-earlier-test.false, c.place-earlier-end.ensures, here) in
    let beyond : (place < c.saturating_add.result) ⊎ (20000 < c.saturating_add.result) = elim (cases_lt place c.saturating_add.result) [
      | inl lt ↦ inl lt
      | inr le ↦ inr (omega (arith, le, c.saturating_add.ensures, c.place.ensures))
    ] in
    first_missing w c.args.event c.args.pid.0 c.saturating_add.result beyond
    (subst (λ (n : ℕ). NoneBefore w c.args.event c.args.pid.0 (n + 1)) end c.loop-earlier.invariant)
