use Rattle.std.proofs.Common.{◌∙◌, ap}
use Rattle.notation_meaning.specs.AgreementViews.{constants_of}
use Rattle.notation_meaning.proofs.Outcomes.{on_ok}
use Rattle.notation_meaning.proofs.AgreementParts.{constant_set}
use Rattle.notation_meaning.proofs.AgreementPrograms.{constant_done}
use Rattle.notation_meaning.proofs.items.constant.Goals as goal

pub returns : goal.returns
returns c =
    on_ok c.set_constant.result c.set_constant.ensures (λ x h item is. constant_done _ _ _ _ _ _ _ _ _ _ is (rw (c.known-known.ensures, c.as_slice.ensures.value) at c.in_ok-held.ensures)
    (ap constants_of h ∙ constant_set c.args.progress.now.constants.items c.args.node.now.number c.in_ok-held.held))
