use Rattle.std.proofs.Common.{rules, arith}
use Rattle.std.proofs.lemmas.Grind.{common_steps}
use Rattle.std.proofs.lemmas.List.{nil_from_length}
use Rattle.shell_io.proofs.AppendLemmas.{stays_fine}
use Rattle.shell_print.proofs.WriteLemmas.{progress_begins, progress_goes_on, progress_ends}
use Rattle.shell_print.proofs.parts.write_whole.Goals as goal

pub loop-rest-init : goal.loop-rest-init
loop-rest-init g c = progress_begins _ _

pub loop-rest-preserved : goal.loop-rest-preserved
loop-rest-preserved g c = progress_goes_on _ _ _ _ c.loop-rest.rest.now _ c.in-Ok.n c.loop-rest.invariant
    (record { appends = c.in-Ok.ensures.bytes; fine = stays_fine c.in-Ok.is c.write.ensures.health })
    (grind (arith, common_steps))

pub returns : goal.returns
returns g c = progress_ends _ _ _ _ c.loop-rest.invariant (search (rules, nil_from_length))
