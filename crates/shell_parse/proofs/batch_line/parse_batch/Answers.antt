use Rattle.std.proofs.Common.{◌≡◌, true, false, Ok, sym, ◌∙◌, inl, arith}
use Rattle.std.proofs.lemmas.Grind.{common_steps}
use Rattle.proc_tree.specs.Programs.{program_of}
use Rattle.shell_parse.specs.Lines.{are_commands}
use Rattle.shell_parse.proofs.Batches.{no_batch}
use Rattle.shell_parse.proofs.GivableBatchLemmas.{batch_call, batch_parsed, made_fits}
use Rattle.shell_parse.proofs.batch_line.parse_batch.Goals as goal

pub returns-then-not-are_commands-clause-asks : goal.returns-then-not-are_commands-clause-asks
returns-then-not-are_commands-clause-asks c =
    let P = program_of c.args.program.now in
    let none : are_commands P c.args.bytes.now ≡ false = sym c.are_commands.ensures ∙ c.if-not-are_commands.true in
    inl (no_batch P c.args.bytes.now none)

pub returns-in_err-plans-clause-asks : goal.returns-in_err-plans-clause-asks
returns-in_err-plans-clause-asks c =
    let P = program_of c.args.program.now in
    let few : are_commands P c.args.bytes.now ≡ true = sym c.are_commands.ensures ∙ c.if-not-are_commands.false in
    let is : c.from_residual.result ≡ batch_call c.read_commands.result = grind (arith, common_steps) in
    batch_parsed P c.args.bytes.now few c.read_commands.result c.read_commands.ensures _ is

pub returns-clause-asks : goal.returns-clause-asks
returns-clause-asks c =
    let P = program_of c.args.program.now in
    let few : are_commands P c.args.bytes.now ≡ true = sym c.are_commands.ensures ∙ c.if-not-are_commands.false in
    batch_parsed P c.args.bytes.now few (Ok c.in_ok-plans.plans) c.in_ok-plans.ensures _ (λ i. batch_call (Ok c.in_ok-plans.plans))

pub returns-clause-fits : goal.returns-clause-fits
returns-clause-fits c =
    let P = program_of c.args.program.now in
    let few : are_commands P c.args.bytes.now ≡ true = sym c.are_commands.ensures ∙ c.if-not-are_commands.false in
    made_fits P c.args.bytes.now few c.in_ok-plans.plans c.in_ok-plans.ensures
