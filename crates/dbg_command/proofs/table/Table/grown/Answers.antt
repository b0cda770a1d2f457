use Rattle.std.proofs.Common.{ap, sym, subst}
use Rattle.causal_world.specs.Scenes.{IsWorldOf}
use Rattle.dbg_command.specs.Tables.{TableState}
use Rattle.dbg_command.proofs.table.Table.grown.Goals as goal

pub returns-clause-replies : goal.returns-clause-replies
returns-clause-replies c = λ P is.
    c.reply.ensures P (record {
      world = subst (IsWorldOf P) (ap (λ (t : TableState). t.world) (sym c.self.view_is)) is;
      detectors = c.grow.ensures.of;
    })
