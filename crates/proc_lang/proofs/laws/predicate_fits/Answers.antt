use Rattle.std.proofs.Common.{true, ◌≡◌, subst, sym}
use Rattle.dbg_base.specs.declared.expr.Sort.TheVariants as sort
use Rattle.dbg_base.specs.Trees.{Tree}
use Rattle.dbg_base.specs.WellFormed.{is_fit, bounds_of}
use Rattle.dbg_base.proofs.WellFormedTrees.{says_fit}
use Rattle.proc_lang.proofs.laws.predicate_fits.Goals as goal

pub returns : goal.returns
returns c P p text tree reads =
    subst (λ (t : Tree). is_fit (bounds_of P p) sort.Truth t ≡ true) (sym reads.said) (says_fit P p reads.written reads.checks)
