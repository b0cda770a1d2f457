use Rattle.dbg_desk.proofs.ScanLemmas.{scans_anywhere}
use Rattle.dbg_desk.proofs.locked.Locked.scan.Goals as goal

pub returns-clause-scan : goal.returns-clause-scan
returns-clause-scan g c =
    scans_anywhere g.L.Run.program g.L.Run.seats c.self.inside.session c.args.self.now c.self.inside.log.publisher.pairs _
    (g.C.Command.order c.args.command.now) _ c.scan.result c.self.invariant c.self.view_is c.plan.ensures c.scan.ensures.scans
