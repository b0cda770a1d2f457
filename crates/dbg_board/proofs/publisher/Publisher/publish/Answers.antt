use Rattle.std.proofs.Common.{rules, ◌+◌, length, sym, ap, ◌∙◌}
use Rattle.dbg_board.specs.Boards.{Listing}
use Rattle.dbg_board.proofs.WordStepLemmas.{publishes}
use Rattle.dbg_board.proofs.publisher.Publisher.publish.Goals as goal

pub store-requires : goal.store-requires
store-requires c =
    let next = c.requires.next ∙ ap (λ (own : Listing). length own.pairs + 1) (sym c.self.view_is) in (
      search rules,
      search rules,
      publishes _ _ _ record { calls = c.args.calls; halt = c.args.halt } _ c.self.invariant.2 c.code-code.ensures next c.requires.halt,
    )
