use Rattle.dbg_desk.proofs.SettleLemmas.{all_calls}
use Rattle.dbg_desk.proofs.desk.Desk.settle.Goals as goal

pub returns-clause-all : goal.returns-clause-all
returns-clause-all g c =
    all_calls g.L.Run.program g.L.Run.seats c.deref.result.now.journal c.args.seats.now c.settle.result c.settle.ensures.run
    c.settle.ensures.calls c.settle.ensures.kept
