use Rattle.std.proofs.Common.{◌∙◌, ap, sym, take, Some}
use Rattle.notation_meaning.specs.AgreementViews.{own_process, texts_of}
use Rattle.notation_meaning.proofs.AgreementParts.{take_next}
use Rattle.notation_meaning.proofs.AgreementPrograms.{command_done}
use Rattle.notation_meaning.proofs.items.command.Goals as goal

pub returns : goal.returns
returns c item is =
    let commands = (own_process c.args.here.now).commands in
    let labels = texts_of c.args.here.now.copy.now.commands.items in
    command_done _ _ _ _ _ _ _ _ _ _ _ is (rw (c.setting-setting.ensures, c.as_slice.ensures.value) at c.in_ok-is_command.ensures)
    (ap (λ k. take k commands) c.in_ok-end.ensures ∙ take_next commands c.args.progress.now.commands _ (sym c.in-Some.ensures))
    (ap (λ k. take k labels) c.in_ok-end.ensures ∙ take_next labels c.args.progress.now.commands _
    (c.in_ok-noted.ensures ∙ ap Some c.in_ok-check_label.ensures))
