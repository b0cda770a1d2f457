use Rattle.std.proofs.Common.{rules}
use Rattle.std.proofs.lemmas.Int.{to_z-of_z}
use mir.Syntax.{w64}
use mir.Val.{SFits}
use Rattle.notation_meaning.proofs.LineLemmas.{family_step}
use Rattle.notation_meaning.proofs.predicates.family_members.Goals as goal

pub loop-binder-preserved : goal.loop-binder-preserved
loop-binder-preserved c =
    let f : SFits w64 c.in-Some-split_first.value.now = search rules in
    family_step c.args.ranges.now c.loop-binder.rest.now _ c.args.values.now c.loop-binder.left.now _ c.in-Some.binder.now c.in-Some-split_first.value.now
    c.loop-binder.members.items c.push.new.self.items c.loop-binder.invariant c.in-Some.ensures.cases.0 c.in-Some-split_first.ensures.cases.0
    (simp to_z-of_z at c.in_ok-push.ensures.items)
