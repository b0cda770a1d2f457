use Rattle.std.proofs.Common.{◌≡◌, ◌+◌, length, take, drop}
use Rattle.event_rows.specs.Truths.{lists_in}
use Rattle.event_rows.proofs.rows.Rows.gathered.Given as goal

abbrev pub invariant-loop-one : goal.invariant-loop-one
invariant-loop-one l = record {
  lists : l.lists.items ≡ take l.one-index (lists_in l.self l.named);
  rest : l.made.rest.items ≡ drop l.one-index l.fn.made.items;
  count : l.made.rest.len + l.one-index ≡ length l.named;
}
