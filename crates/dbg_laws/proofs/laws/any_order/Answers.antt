use Rattle.std.proofs.Common.{length, subst, sym}
use Rattle.dbg_base.specs.Configurations.{start_of}
use Rattle.dbg_base.specs.Histories.{History}
use Rattle.dbg_base.specs.Orders.{choices_of}
use Rattle.dbg_laws.proofs.OrderSwapLemmas.{IsOrderOf, joined, takes}
use Rattle.dbg_laws.proofs.PlayLemmas.{possible, same_states}
use Rattle.dbg_laws.proofs.laws.any_order.Goals as goal

pub returns-clause-played : goal.returns-clause-played
returns-clause-played c P E d legal = possible P (choices_of (length P) E) E d legal (takes P (start_of P) d E legal)

pub returns-clause-states : goal.returns-clause-states
returns-clause-states c P E legal =
    let order = takes P (start_of P) legal.0 E legal.1 in
    same_states P (choices_of (length P) E) E legal.0 legal.1 order (possible P (choices_of (length P) E) E legal.0 legal.1 order).0

pub returns-clause-swapped : goal.returns-clause-swapped
returns-clause-swapped c P E F legal other same =
    joined P (start_of P) legal.0 other.0 (choices_of (length P) E) E F legal.1 other.1 (takes P (start_of P) legal.0 E legal.1)
    (subst (λ (H : History). IsOrderOf H F) (sym same) (takes P (start_of P) other.0 F other.1))
