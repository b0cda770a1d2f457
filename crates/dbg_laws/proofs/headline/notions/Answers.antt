use Rattle.std.proofs.Common.{length, subst, sym, ◌↔◌, ◌≡◌, ℕ, suc, List, slice_index}
use Rattle.dbg_base.specs.Trees.{Program}
use Rattle.dbg_base.specs.Configurations.{Configuration, start_of, state_in}
use Rattle.dbg_base.specs.Histories.{History, IsPossible, local_state}
use Rattle.dbg_base.specs.Orders.{Event, choices_of}
use Rattle.dbg_base.specs.ModelStates.{ModelState}
use Rattle.dbg_base.specs.Journals.{Journal}
use Rattle.dbg_base.specs.Reversal.{MayUndo, IsRollback}
use Rattle.dbg_base.specs.Clocks.{IsClock}
use Rattle.dbg_base.specs.Predicates.{IsLeast, NoCut}
use Rattle.dbg_base.specs.Cuts.{IsConsistent}
use Rattle.dbg_base.specs.Reference.{IsClosed, IsMet, IsLeastMet, IsMaximal, IsGreatest}
use Rattle.dbg_base.specs.Sessions.{IsReplay}
use Rattle.dbg_laws.proofs.OrderSwapLemmas.{takes}
use Rattle.dbg_laws.proofs.PlayLemmas.{possible}
use Rattle.dbg_laws.proofs.ClosedSetLemmas.{closed, consistent}
use Rattle.dbg_laws.proofs.LastEventLemmas.{may_undo, undoable}
use Rattle.dbg_laws.proofs.CausalPastLemmas.{clock_knows, clock_has}
use Rattle.dbg_laws.proofs.ReplayLemmas.{least_is_met, least_is_least, none_is_met, none_satisfies, closed_replays, closed_states}
use Rattle.dbg_laws.proofs.AloneLemmas.{only_closed}
use Rattle.dbg_laws.proofs.ShownAnswers.{ends}
use Rattle.dbg_laws.proofs.headline.notions.Goals as goal

all : (P : Program) (J : Journal) (M : ModelState) (E : List Event) (c : Configuration) → IsReplay P J M E c
    → IsPossible P (choices_of (length P) E)
all P J M E c is = (possible P (choices_of (length P) E) E c is.replayed (takes P (start_of P) c E is.replayed)).0

pub returns-clause-state : goal.returns-clause-state
returns-clause-state k P J M E c is = ends P J M E c is

pub returns-clause-cuts : goal.returns-clause-cuts
returns-clause-cuts k P J M E c is cut =
    subst (λ (H : History). IsConsistent P H cut ↔ IsClosed P E cut) is.remain
    (closed P E cut, consistent P E (all P J M E c is) cut)

pub returns-clause-alone : goal.returns-clause-alone
returns-clause-alone k P J M E c is cut sizes within =
    (closed_replays P E c is.replayed cut, λ legal. only_closed P E cut sizes within legal.0 legal.1)

pub returns-clause-judged : goal.returns-clause-judged
returns-clause-judged k P J M E c is cut set d ends p =
    subst (λ (H : History). local_state P H p (slice_index cut p) ≡ state_in d p) is.remain
    (closed_states P E c is.replayed cut set d ends p)

pub returns-clause-clock : goal.returns-clause-clock
returns-clause-clock k P J M E c is p n cut there clock q m =
    let here : IsClock P (choices_of (length P) E) p (suc n) cut =
    subst (λ (H : History). IsClock P H p (suc n) cut) (sym is.remain) clock in
    (clock_knows P E (all P J M E c is) p n cut there here q m, clock_has P E p n cut here q m)

pub returns-clause-least : goal.returns-clause-least
returns-clause-least k P J M E c is conjuncts cut =
    subst (λ (H : History). IsLeast P H conjuncts cut ↔ IsLeastMet P E conjuncts cut) is.remain
    (least_is_met P E c is.replayed conjuncts cut, least_is_least P E c is.replayed conjuncts cut)

pub returns-clause-none : goal.returns-clause-none
returns-clause-none k P J M E c is conjuncts =
    subst (λ (H : History). NoCut P H conjuncts ↔ ((cut : List ℕ) → ¬ IsMet P E conjuncts cut)) is.remain
    (none_is_met P E c is.replayed conjuncts, none_satisfies P E c is.replayed conjuncts)

pub returns-clause-undo : goal.returns-clause-undo
returns-clause-undo k P J M E c is p =
    subst (λ (H : History). MayUndo P H p ↔ IsMaximal P E p) is.remain
    (may_undo P E p (all P J M E c is), undoable P E p (all P J M E c is))

pub returns-clause-rollback : goal.returns-clause-rollback
returns-clause-rollback k P J M E c is p n cut =
    subst (λ (H : History). IsRollback P H p n cut ↔ IsGreatest P E p n cut) is.remain (
      λ back. record {
        closed = closed P E cut back.consistent;
        below = back.below;
        greatest = λ other set few. back.greatest other (consistent P E (all P J M E c is) other set) few;
      },
      λ back. record {
        consistent = consistent P E (all P J M E c is) cut back.closed;
        below = back.below;
        greatest = λ other set few. back.greatest other (closed P E other set) few;
      },
    )
