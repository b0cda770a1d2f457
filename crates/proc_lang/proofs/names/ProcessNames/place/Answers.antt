use Rattle.std.proofs.Common.{Some, None, ◌∙◌}
use Rattle.proc_lang.proofs.NamePositionLemmas.{found_first}
use Rattle.proc_lang.proofs.names.ProcessNames.place.Goals as goal

pub returns-in_err-get-in-Some : goal.returns-in_err-get-in-Some
returns-in_err-get-in-Some c =
    c.from_residual.ensures
    ∙ found_first c.in-Some.index c.args.self.now.all.now (c.args.self.now.finds c.in-Some.index c.in-Some.is)
    c.bytes.result.now c.args.name.now c.bytes.ensures.value None c.in_err-get-in-Some.ensures.value

pub returns-in_ok-get-in-Some : goal.returns-in_ok-get-in-Some
returns-in_ok-get-in-Some c =
    found_first c.in-Some.index c.args.self.now.all.now (c.args.self.now.finds c.in-Some.index c.in-Some.is)
    c.bytes.result.now c.args.name.now c.bytes.ensures.value (Some c.in_ok-get-in-Some.field-0.now) c.in_ok-get-in-Some.ensures.value
