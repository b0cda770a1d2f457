use Rattle.std.proofs.Common.{rules}
use Rattle.notation_meaning.proofs.Outcomes.{on_ok}
use Rattle.notation_meaning.proofs.LineLemmas as lemma
use Rattle.notation_meaning.proofs.pieces.label.Goals as goal

pub returns-in-Some : goal.returns-in-Some
returns-in-Some c =
    on_ok c.digits.result c.digits.ensures (λ x h. lemma.label_replaces _ _ _ c.in_ok-place.ensures c.in-Some.is h)

pub returns-in-Some-number : goal.returns-in-Some-number
returns-in-Some-number c =
    on_ok c.computed.result c.computed.ensures (λ x h. lemma.number_labels _ _ _ c.in_ok-place.ensures c.in_default.is c.in-Some-number.is h)

pub returns-in_ok-from_slice-in-None : goal.returns-in_ok-from_slice-in-None
returns-in_ok-from_slice-in-None c =
    lemma.word_replaces _ _ _ c.in_ok-place.ensures c.in_default.is c.in-None.is (search rules) (search rules)
