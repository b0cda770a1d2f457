use Rattle.std.proofs.Common.{rules}
use Rattle.std.proofs.lemmas.Int.{to_z-of_z}
use mir.Syntax.{w64}
use mir.Val.{SFits}
use Rattle.notation_meaning.proofs.Outcomes.{on_ok}
use Rattle.notation_meaning.proofs.LineLemmas as lemma
use Rattle.notation_meaning.proofs.pieces.+labelled.Goals as goal

pub returns-in-None : goal.returns-in-None
returns-in-None t c = lemma.label_end _ _ _ c.in-None.ensures.cases

pub returns-in_ok-longer-in-Some : goal.returns-in_ok-longer-in-Some
returns-in_ok-longer-in-Some t c =
    let f : SFits w64 c.in_ok-value-in-Some.value = search rules in
    on_ok c.labelled.result c.labelled.ensures (λ x h. lemma.label_goes_on _ _ h (simp to_z-of_z at c.in_ok-longer-in-Some.ensures)
    c.in_ok-value-in-Some.ensures c.in-Some.ensures.cases.0)
