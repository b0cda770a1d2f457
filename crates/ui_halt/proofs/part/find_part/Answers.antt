use Rattle.std.specs.Prelude.{slice_index}
use Rattle.std.proofs.Common.{◌≡◌, ℕ, Bool, false, List, refl, sym, ◌∙◌, subst}
use Rattle.dbg_base.specs.Predicates.{Conjunct}
use Rattle.dbg_base.specs.Trees.{tree_of}
use Rattle.least_cut.specs.Detectors.{conjunct_with}
use Rattle.ui_halt.specs.Lanes.{true_at, IsSince}
use Rattle.ui_halt.specs.Parts.{AreTruths, FindsEarlier}
use Rattle.ui_halt.proofs.PartLemmas.{computed}
use Rattle.ui_halt.proofs.part.find_part.Goals as goal

pub returns-in_default : goal.returns-in_default
returns-in_default c =
    let truths = c.into_items-truths.result.items in
    let part : Conjunct = conjunct_with c.args.pid.0 (tree_of c.args.expr.now) in (
      truths,
      computed c.args.world.now part truths c.rows.result.now.starts c.rows.result.now.events
          (c.into_items-truths.ensures ∙ c.in_ok-truths.ensures) c.rows.ensures.starts c.rows.ensures.events,
      subst (λ (n : ℕ). true_at truths n ≡ false) c.count.ensures
          (subst (λ (l : List Bool). true_at l c.count.result ≡ false) c.deref.ensures.value c.in_default.ensures),
    )

pub returns : goal.returns
returns c =
    let truths = c.into_items-truths.result.items in
    let w = c.args.world.now in
    let part : Conjunct = conjunct_with c.args.pid.0 (tree_of c.args.expr.now) in
    let are = computed w part truths c.rows.result.now.starts c.rows.result.now.events
    (c.into_items-truths.ensures ∙ c.in_ok-truths.ensures) c.rows.ensures.starts c.rows.ensures.events in
    let since : IsSince truths (slice_index c.args.cut.now c.args.pid.0) c.in-Some.since =
    subst (λ (n : ℕ). IsSince truths n c.in-Some.since) c.count.ensures
    (subst (λ (l : List Bool). IsSince l c.count.result c.in-Some.since) c.deref.ensures.value c.in-Some.ensures) in
    record {
      process = refl;
      truths = are;
      since = since;
      earlier = subst (λ (l : List Bool). FindsEarlier w part c.args.cut.now l c.in-Some.since c.find_earlier-earlier.result)
          c.deref-2.ensures.value
          (c.find_earlier-earlier.ensures part refl (subst (λ (l : List Bool). AreTruths w part l) (sym c.deref-2.ensures.value) are) since.within);
    }
