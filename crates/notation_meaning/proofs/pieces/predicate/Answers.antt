use Rattle.std.proofs.Common.{◌∙◌, refl, sym}
use Rattle.notation_meaning.proofs.LineLemmas.{predicate_replaces}
use Rattle.notation_meaning.proofs.pieces.predicate.Goals as goal

pub returns : goal.returns
returns c =
    predicate_replaces _ _ _ (sym c.predicate_length-2.ensures ∙ c.if-predicate_length-text.false) c.in_ok-check_predicate.ensures refl
    c.as_slice.ensures.value c.in_ok-from_slice.ensures.items
