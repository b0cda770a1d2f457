use Rattle.std.proofs.Common.{sym, subst, List}
use Rattle.dbg_base.specs.Journals.{Given, effective, IsDue}
use Rattle.dbg_laws.proofs.EffectiveOrderLemmas.{legal_leads_to_once, remaining_alone}
use Rattle.dbg_laws.proofs.OneAnswer.{due_once}
use Rattle.dbg_laws.proofs.laws.never_given.Goals as goal

pub returns-clause-leads_to : goal.returns-clause-leads_to
returns-clause-leads_to c P J legal = legal_leads_to_once P J legal

pub returns-clause-same : goal.returns-clause-same
returns-clause-same c P J J' legal too same seat call said said' is other =
    due_once P (effective J) seat call said said' is
    (subst (λ (given : List Given). IsDue P given seat call said') (sym same) other)

pub returns-clause-remaining : goal.returns-clause-remaining
returns-clause-remaining c P J legal = remaining_alone P J legal
