use Rattle.std.proofs.Common.{◌≤◌, arith}
use Rattle.dbg_base.specs.declared.limits.TheConstants.{INPUT_BYTES}
use Rattle.shell_serve.proofs.InputSourceLemmas.{input_advances}
use Rattle.shell_serve.proofs.source.InputLineSourceUnit.advance.Goals as goal

pub returns-clause-advances : goal.returns-clause-advances
returns-clause-advances g c =
    let begun = c.next_line.new.self.begun in
    let within = c.next_line.new.self.within in
    let few : c.next_line.new.self.at ≤ INPUT_BYTES = omega (arith, begun, within) in
    input_advances g.R.Source.remaining _ _ _ _ _ c.next_line.ensures.reads c.next_line.ensures.advances c.next_line.ensures.tells
    c.next_line.ensures.under_way few
