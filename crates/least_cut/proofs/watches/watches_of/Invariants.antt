use Rattle.std.proofs.Common.{◌≡◌, length}
use Rattle.least_cut.proofs.WatchPairLemmas.{ArePaired}
use Rattle.least_cut.proofs.watches.watches_of.Given as goal

abbrev pub invariant-loop-conjunct : goal.invariant-loop-conjunct
invariant-loop-conjunct l = record {
  paired : ArePaired l.world l.fn.conjuncts l.watches.items l.conjunct-iterator.a.rest.items l.conjunct-iterator.b.rest.items;
  first : l.conjunct-iterator.a.rest.len ≡ length l.conjunct-iterator.a.rest.items;
  second : l.conjunct-iterator.b.rest.len ≡ length l.conjunct-iterator.b.rest.items;
}
