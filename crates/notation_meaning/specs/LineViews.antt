-- What the definition of a command line's meaning sees of the values of the code.
use Rattle.std.specs.Prelude.{ℕ, List, map}
use Rattle.std.specs.declared.vec.Vec.{Vec}
use Rattle.std.specs.declared.alloc.Global.{Global}
use Rattle.notation_meaning.specs.declared.lines.LineOutput.{LineOutput}
use Rattle.notation_meaning.specs.CommandLines.{Output}

-- what is written of a line
abbrev pub output_of : LineOutput → Output
output_of output = record { text = output.text.items; process = output.process.items; at = output.at }

-- the bytes of lines
abbrev pub lines_of : List (Vec ℕ Global) → List (List ℕ)
lines_of = map (λ line. line.items)
