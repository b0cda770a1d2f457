use Rattle.std.proofs.Common.{rules}
use Rattle.proc_tree.specs.Programs.{program_of}
use Rattle.shell_parse.specs.Lines.{IsParsed}
use Rattle.shell_parse.proofs.LineRefusals.{line_refused}
use Rattle.shell_parse.proofs.line.parse_line.Goals as goal

pub returns-clause-refuses : goal.returns-clause-refuses
returns-clause-refuses c =
    let P = program_of c.args.program.now in
    let parsed : IsParsed P c.args.bytes.now c.seat_line.result = search rules in
    line_refused P c.args.bytes.now c.seat_line.result parsed
