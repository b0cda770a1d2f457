use Rattle.std.proofs.Common.{true, ◌≡◌, subst, sym}
use Rattle.dbg_base.specs.Trees.{Program}
use Rattle.dbg_base.specs.WellFormed.{is_well_formed}
use Rattle.dbg_base.proofs.WellFormedTrees.{says_well_formed}
use Rattle.proc_lang.proofs.laws.reads_well_formed.Goals as goal

pub returns : goal.returns
returns c text P reads =
    subst (λ (Q : Program). is_well_formed Q ≡ true) (sym reads.said) (says_well_formed reads.written reads.checks)
