use Rattle.std.proofs.Common.{◌≡◌, ◌<◌, length, refl, sym, ◌∙◌, arith}
use Rattle.std.specs.Prelude.{IsSome}
use Rattle.std.specs.Option.{option_to_list}
use Rattle.event_rows.proofs.GatheredListLemmas.{made_here, lists_more, next_taken}
use Rattle.event_rows.proofs.rows.Rows.gathered.Goals as goal

pub list_or-requires : goal.list_or-requires
list_or-requires c =
    let some : IsSome c.next.result = c.next.ensures.variant.1 (omega (arith, c.loop-one.invariant.count, c.loop-one-test.true)) in
    let size : length c.args.made.items ≡ length c.args.named.now = omega (arith, c.requires.len, c.args.made.ok.0) in
    rw c.flatten.ensures (made_here c.args.self.now c.args.named.now c.loop-one.one-index c.one-item.result c.one-item.is
    c.loop-one-test.true c.args.made.items c.next.new.self.rest.items c.next.result size some
    (sym c.loop-one.invariant.rest ∙ c.next.ensures.items) c.requires.each)

pub loop-one-preserved : goal.loop-one-preserved
loop-one-preserved c =
    let some : IsSome c.next.result = c.next.ensures.variant.1 (omega (arith, c.loop-one.invariant.count, c.loop-one-test.true)) in
    let there : c.loop-one.one-index < length c.args.made.items = omega (arith, c.requires.len, c.args.made.ok.0, c.loop-one-test.true) in
    let taken = next_taken c.args.made.items c.loop-one.one-index c.next.result c.next.new.self.rest.items there some
    (sym c.loop-one.invariant.rest ∙ c.next.ensures.items) in
    let one : length (option_to_list c.next.result) ≡ 1 = rw taken.is refl in
    record {
      lists = c.in_ok-push.ensures.items
          ∙ lists_more c.args.self.now c.args.named.now c.loop-one.one-index c.one-item.result c.one-item.is c.loop-one-test.true
          c.loop-one.lists.items c.in_ok-list.list c.loop-one.invariant.lists c.in_ok-list.ensures;
      rest = taken.rest;
      count = omega (arith, c.next.ensures.len, one, c.loop-one.invariant.count);
    }
