use Rattle.std.proofs.Common.{◌≡◌, ◌+◌, ◌++◌, length, map, drop}
use Rattle.dbg_base.specs.Calls.{conjunct_of}
use Rattle.least_cut.specs.Watches.{lines_with}
use Rattle.least_cut.proofs.scan.lines_of.Given as goal

abbrev pub invariant-loop-conjunct : goal.invariant-loop-conjunct
invariant-loop-conjunct l = record {
  lines : map (λ t. t.line) l.lines.items ++ lines_with (map conjunct_of (drop l.conjunct-index l.conjuncts)) l.left.rest.items
      ≡ lines_with (map conjunct_of l.conjuncts) l.fn.lists.items;
  count : l.left.rest.len + l.conjunct-index ≡ length l.conjuncts;
}
