use Rattle.std.proofs.Common.{sym, ap, rules}
use Rattle.std.proofs.lemmas.Int.{to_z-of_z}
use mir.Syntax.{w64}
use mir.Val.{SFits}
use Rattle.notation_tree.specs.declared.syntax.Expression.{out-Expression}
use Rattle.notation_meaning.specs.ModelValues as v
use Rattle.notation_meaning.proofs.simple.simple_value.Goals as goal

pub returns-in-Number : goal.returns-in-Number
unfolding out-Expression denote.Hole.Carrier.out
returns-in-Number c =
    let f : SFits w64 c.in-Number.number = search rules in simp to_z-of_z (v.number (ap out-Expression c.in-Number.is))

pub returns-in-Truth : goal.returns-in-Truth
unfolding out-Expression denote.Hole.Carrier.out
returns-in-Truth c = v.truth (ap out-Expression c.in-Truth.is)

pub returns-in_ok-found-in-Constant : goal.returns-in_ok-found-in-Constant
unfolding out-Expression denote.Hole.Carrier.out
returns-in_ok-found-in-Constant c = v.constant (ap out-Expression c.in-Constant.is) c.in_ok-found-in-Constant.ensures

pub returns-in_ok-held-in-Member : goal.returns-in_ok-held-in-Member
unfolding out-Expression denote.Hole.Carrier.out
returns-in_ok-held-in-Member c =
    let f : SFits w64 c.in_ok-held-in-Member.held = search rules in
    simp to_z-of_z (v.member (ap out-Expression c.in-Member.is) (sym c.in_ok-held-in-Member.ensures))
