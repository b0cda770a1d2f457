use Rattle.notation_meaning.proofs.Outcomes.{on_ok}
use Rattle.notation_meaning.proofs.LineLemmas as lemma
use Rattle.notation_meaning.proofs.pieces.replacement.Goals as goal

pub returns-in-Name : goal.returns-in-Name
returns-in-Name c = on_ok c.name.result c.name.ensures (λ x h. lemma.name_replaces _ _ _ c.in-Name.is h)

pub returns-in-Number : goal.returns-in-Number
returns-in-Number c = on_ok c.computed.result c.computed.ensures (λ x h. lemma.number_replaces _ _ _ c.in-Number.is h)
