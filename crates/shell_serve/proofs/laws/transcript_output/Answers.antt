use Rattle.dbg_base.specs.Shell.{parts_of, read_lines}
use Rattle.shell_serve.proofs.TranscriptOutput.{transcript_in}
use Rattle.shell_serve.proofs.laws.transcript_output.Goals as goal

pub returns : goal.returns
returns c input out text = transcript_in input (parts_of (read_lines input)) out text
