use Rattle.std.proofs.Common.{◌≤◌, ◌+◌, ◌∷◌, ◌++◌, Option, Result, length, codes, sym, subst, rules}
use Rattle.dbg_base.specs.declared.limits.TheConstants.{LINE_BYTES}
use Rattle.dbg_base.specs.CommandLines.{without_return}
use Rattle.proc_tree.specs.Programs.{program_of}
use Rattle.dbg_base.specs.declared.refusal.Refusal.{Refusal}
use Rattle.shell_parse.specs.declared.line.Line.{Line}
use Rattle.shell_parse.specs.Lines.{IsParsed}
use Rattle.shell_parse.proofs.LineRefusals.{line_refused}
use Rattle.shell_parse.proofs.SeatlessLines.{seatless}
use Rattle.shell_parse.proofs.line.parse_seatless_line.Goals as goal
use Rattle.shell_parse.proofs.line.parse_seatless_line.Goals.{After-seat_line}

parsed : (c : After-seat_line) → IsParsed (program_of c.args.program.now) (codes "1 " ++ c.args.bytes.now) c.seat_line.result
parsed c =
    let P = program_of c.args.program.now in
    let rest = without_return c.args.bytes.now in
    let short : length c.args.bytes.now + 2 ≤ LINE_BYTES = search rules in
    subst (λ (line : Result (Option Line) Refusal). IsParsed P (codes "1 " ++ c.args.bytes.now) line) (sym c.seat_line.ensures)
    (seatless P c.args.bytes.now short c.parse_command.result (c.parse_command.ensures (32 ∷ rest) (search rules) (search rules)).0)

pub returns-clause-asks : goal.returns-clause-asks
returns-clause-asks c = parsed (goal.at.returns-clause-asks c).After-seat_line

pub returns-clause-refuses : goal.returns-clause-refuses
returns-clause-refuses c =
    let at = (goal.at.returns-clause-refuses c).After-seat_line in
    line_refused (program_of c.args.program.now) (codes "1 " ++ c.args.bytes.now) at.seat_line.result (parsed at)
