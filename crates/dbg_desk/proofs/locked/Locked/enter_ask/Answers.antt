use Rattle.dbg_base.specs.Calls.{query_of}
use Rattle.dbg_desk.proofs.ScanLemmas.{answers_anywhere}
use Rattle.dbg_desk.proofs.locked.Locked.enter_ask.Goals as goal

pub log_answer-requires-clause-answers : goal.log_answer-requires-clause-answers
log_answer-requires-clause-answers g c κs within = λ N other.
    answers_anywhere g.L.Run.program g.L.Run.seats c.self.inside.session c.args.self.now c.self.inside.log.publisher.pairs _
    (query_of c.args.query) c.ask-answered.result c.self.invariant c.self.view_is c.ask-answered.ensures.answers N other
