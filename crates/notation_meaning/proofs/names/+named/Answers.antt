use Rattle.std.proofs.Common.{rules}
use Rattle.std.proofs.lemmas.Int.{to_z-of_z}
use mir.Syntax.{w64}
use mir.Val.{SFits}
use Rattle.notation_meaning.proofs.Outcomes.{on_ok}
use Rattle.notation_meaning.proofs.AgreementPlain as lemma
use Rattle.notation_meaning.proofs.names.+named.Goals as goal

pub returns-in-None : goal.returns-in-None
returns-in-None t c =
    lemma.name_end _ _ _ c.in-None.ensures.cases

pub returns-in_ok-longer-in-Some : goal.returns-in_ok-longer-in-Some
returns-in_ok-longer-in-Some t c =
    let f : SFits w64 c.in_ok-value-in-Some.value = search rules in
    on_ok c.named.result c.named.ensures (λ x h. lemma.name_goes_on _ _ h c.in_ok-longer-in-Some.ensures c.in_ok-value-in-Some.ensures
    (simp to_z-of_z at c.in_ok-index-in-Some.ensures) c.in-Some.ensures.cases.0)
