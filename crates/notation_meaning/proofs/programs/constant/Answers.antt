use Rattle.std.proofs.Common.{◌∙◌, ap}
use Rattle.notation_meaning.specs.AgreementViews.{constants_of}
use Rattle.notation_meaning.proofs.AgreementParts.{constant_set}
use Rattle.notation_meaning.proofs.AgreementPrograms.{declared_constant}
use Rattle.notation_meaning.proofs.programs.constant.Goals as goal

pub returns : goal.returns
returns c n =
    declared_constant _ _ n _ _ _ _ _ _ (rw (c.known-known.ensures, c.as_slice.ensures.value) at c.in_ok-held.ensures)
    (ap constants_of c.in_ok-set_constant.ensures ∙ constant_set c.args.start.constants.items c.args.node.now.number c.in_ok-held.held)
