use Rattle.dbg_base.specs.Calls.{query_of}
use Rattle.dbg_session.proofs.AnswerFitLemmas.{query_fits}
use Rattle.dbg_session.proofs.session.Session.ask.Goals as goal

pub returns-clause-fits : goal.returns-clause-fits
returns-clause-fits g c =
    rw (← c.self.view_is) (query_fits c.self.inside.program.well_formed c.self.invariant.table (query_of c.args.query.now)
    c.ask.result c.ask.ensures.answers)
