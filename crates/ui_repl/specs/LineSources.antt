-- The lines of a session as its author writes them, as a source.
use Rattle.std.specs.Prelude.{◌≡◌, ◌<◌, ◌-◌, ◌&&◌, ℕ, nat_le, List, [], length, slice_range, Some, None, if◌then◌else◌}
use Rattle.dbg_base.specs.declared.limits.TheConstants.{INPUT_BYTES}
use Rattle.shell_serve.specs.declared.framing.Span.{Span}
use Rattle.shell_serve.specs.declared.framing.Next.{Next}
use Rattle.shell_serve.specs.declared.framing.Next.TheVariants.{Line, End, TooLong}
use Rattle.shell_serve.specs.Sources.{Given}
use Rattle.ui_repl.specs.declared.session_lines.SessionLines.{SessionLines}

-- the line that was read last, as it is written
abbrev pub written_line : SessionLines → List ℕ
written_line lines =
    let span = lines.line.span in
    let bytes = lines.input.bytes.items in
    if nat_le span.from span.to && nat_le span.to (length bytes) then slice_range bytes span.from span.to else []

-- the line that is played
abbrev pub HoldsLine : SessionLines → Span → Given → Type 0
HoldsLine lines span line = line ≡ (if lines.line.is_lost then None
    else if lines.line.is_as_written then Some (written_line lines)
    else Some lines.line.played.items)

-- how many bytes the plain session may still have
abbrev pub lines_left : SessionLines → ℕ
lines_left lines = INPUT_BYTES - lines.used

-- a line was given, and fewer are left
abbrev pub FewerIfLine : SessionLines → SessionLines → Next → Type 0
FewerIfLine old new (Line span) = lines_left new < lines_left old
FewerIfLine old new End = Unit {0}
FewerIfLine old new TooLong = Unit {0}
