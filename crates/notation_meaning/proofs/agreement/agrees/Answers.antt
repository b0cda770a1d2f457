use Rattle.std.proofs.Common.{◌∙◌, ap}
use Rattle.notation_meaning.specs.AgreementViews.{constants_of}
use Rattle.notation_meaning.proofs.AgreementPrograms.{constants_unknown, program_done}
use Rattle.notation_meaning.proofs.agreement.agrees.Goals as goal

pub returns-in-Ok : goal.returns-in-Ok
returns-in-Ok c same =
    let rule = rw (c.as_slice.ensures.value, c.as_slice-2.ensures.value) at c.in-Ok.ensures in
    let whole = c.is_whole.ensures same in
    record {
      declarations =
          program_done _ _ _ _ _ _ _ _ _ _ rule
          (ap constants_of c.in_ok-unknown.ensures ∙ constants_unknown c.args.played.now.model.now.tables.constants)
          whole.0 whole.1 whole.2;
    }
