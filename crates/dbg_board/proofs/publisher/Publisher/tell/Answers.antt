use Rattle.std.proofs.Common.{rules, ap, ◌∙◌}
use Rattle.dbg_board.specs.Rules.{Sat, hosting}
use Rattle.dbg_board.proofs.WordStepLemmas.{shows, hosts, compares}
use Rattle.dbg_board.proofs.publisher.Publisher.tell.Goals as goal

pub split_seat-knows_all-requires : goal.split_seat-knows_all-requires
split_seat-knows_all-requires c = (search rules, search rules, shows _ _)

pub join_seat-requires : goal.join_seat-requires
join_seat-requires c =
    let own = c.split_seat-knows_all.ensures.2 ∙ c.self.invariant.2 in (
      search rules,
      search rules,
      search rules,
      search rules,
      hosts _ _ _ _ _ (ap (λ (me : Sat). me.0) own),
    )

pub load-requires : goal.load-requires
load-requires c =
    let own = c.split_seat-knows_all.ensures.2 ∙ c.self.invariant.2 in
    let guest = c.replace-before.result.me.0.pairs in (
      search rules,
      search rules,
      compares _ _ _ _ guest (c.join_seat.ensures.2 ∙ ap (λ (me : Sat). (hosting me.0.pairs guest, me.1)) own),
    )
