use Rattle.dbg_desk.proofs.BarredWorkerLemmas.{bars}
use Rattle.dbg_desk.proofs.crews.crew.Goals as goal

pub returns-clause-bars : goal.returns-clause-bars
returns-clause-bars g c =
    bars (g.G.Gate.may_bar c.args.gate.now) c.args.workers.now c.work_each.new.workers c.first_barred.result c.work_each.ensures.length
    c.work_each.ensures.works c.first_barred.ensures.first
