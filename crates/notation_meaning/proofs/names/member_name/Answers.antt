use Rattle.std.proofs.Common.{rules}
use Rattle.std.proofs.lemmas.Int.{to_z-of_z}
use mir.Syntax.{w64}
use mir.Val.{SFits}
use Rattle.notation_meaning.proofs.AgreementFamilies.{name_step, name_done}
use Rattle.notation_meaning.proofs.names.member_name.Goals as goal

pub loop-first-preserved : goal.loop-first-preserved
loop-first-preserved c =
    let f : SFits w64 c.in-Some.first.now.value = search rules in
    name_step _ c.loop-first.whole.items _ _ c.loop-first.rest.now _ c.in-Some.first.now _ c.loop-first.invariant
    c.in-Some.ensures.cases.0 (simp to_z-of_z at c.in_ok-index.ensures) c.in_ok-whole-2.ensures

pub returns : goal.returns
returns c = name_done _ _ _ c.loop-first.rest.now c.loop-first.invariant c.in_default.ensures.cases
