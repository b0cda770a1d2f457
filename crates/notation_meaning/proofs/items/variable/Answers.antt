use Rattle.notation_meaning.specs.ModelPrograms.{variable_item}
use Rattle.notation_meaning.proofs.items.variable.Goals as goal

pub returns : goal.returns
returns c item is =
    let h = rw (c.setting-setting.ensures, c.as_slice.ensures.value) at c.in_ok-end.ensures in
    variable_item _ is h.1 h.2
