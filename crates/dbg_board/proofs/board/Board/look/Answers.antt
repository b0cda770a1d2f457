use Rattle.std.proofs.Common.{rules, arith, ap, ◌∙◌}
use Rattle.dbg_board.specs.declared.glance.Glance.{Glance}
use Rattle.dbg_board.proofs.PairListLemmas.{last_calls, last_halt}
use Rattle.dbg_board.proofs.WordStepLemmas.{looks}
use Rattle.dbg_board.proofs.board.Board.look.Goals as goal

pub load-requires : goal.load-requires
load-requires c = (search rules, search rules, looks _ _ _ c.view.invariant)

pub returns-clause-calls : goal.returns-clause-calls
returns-clause-calls c =
    let sees = c.load.ensures.2 in
    ap (λ (pair : Glance). pair.calls) (c.glance.ensures ∙ sees.3) ∙ last_calls _ sees.2

pub returns-clause-halt : goal.returns-clause-halt
returns-clause-halt c =
    let sees = c.load.ensures.2 in
    omega (arith, ap (λ (pair : Glance). pair.halt) (c.glance.ensures ∙ sees.3), last_halt _ sees.2)
