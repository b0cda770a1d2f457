use Rattle.dbg_base.specs.Shell.{parts_of, read_lines}
use Rattle.shell_serve.proofs.OneOutput.{text_once}
use Rattle.shell_serve.proofs.laws.one_output.Goals as goal

pub returns : goal.returns
returns c input out other = text_once input (parts_of (read_lines input)) out other
