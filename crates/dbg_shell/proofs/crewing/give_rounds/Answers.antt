use Rattle.std.proofs.Common.{◌≡◌, List, length, map, ap, ◌∙◌, arith, rules}
use Rattle.std.proofs.lemmas.Result.{IfOk-weaker}
use Rattle.dbg_desk.specs.Crews.{WorkerState}
use Rattle.dbg_shell.proofs.CrewLemmas.{is_crew}
use Rattle.dbg_shell.proofs.Lists.{lent_back}
use Rattle.dbg_shell.proofs.crewing.give_rounds.Goals as goal

pub returns-clause-crew : goal.returns-clause-crew
returns-clause-crew g c =
    let same : length c.crew.new.workers ≡ length c.deref_mut.result.now = search rules in
    let kept : length c.crew.new.workers ≡ length c.in_ok-workers.workers.items = same ∙ ap length c.deref_mut.ensures.value in
    let back = lent_back c.in_ok-workers.workers.len c.in_ok-workers.workers.items c.crew.new.workers
    (omega (arith, c.in_ok-workers.workers.ok.0)) kept in
    IfOk-weaker c.seats_of.result _ _ (λ seats came.
    is_crew (λ worker turn. ⊥) c.args.processes c.args.turns g.L.Run.seats c.deref_mut.result.now c.crew.new.workers seats.items c.requires.all
    (c.deref_mut.ensures.value ∙ c.in_ok-workers.ensures.workers) same c.crew.ensures.works c.in-Ok.ensures.all
    (came ∙ ap (λ (workers : List WorkerState). map (λ worker. worker.seat) workers) back)) c.seats_of.ensures.seats
