use Rattle.std.proofs.Common.{List, sym, subst}
use Rattle.dbg_base.specs.Journals.{Given, effective, LeadsTo}
use Rattle.dbg_laws.proofs.EffectiveOrderLemmas.{legal_leads_to_once}
use Rattle.dbg_laws.proofs.OneAnswer.{due_once}
use Rattle.dbg_laws.proofs.NextJournalLemmas.{after_command, after_batch}
use Rattle.dbg_laws.proofs.ForwardLemmas as forwards
use Rattle.dbg_laws.proofs.SomeReplay as replays
use Rattle.dbg_laws.proofs.MessageLemmas.{handed}
use Rattle.dbg_laws.proofs.SomeAnswer.{some_due}
use Rattle.dbg_laws.proofs.ShownAnswers.{shows}
use Rattle.dbg_laws.proofs.headline.headline.Goals as goal

pub returns-clause-one_state : goal.returns-clause-one_state
returns-clause-one_state k P J legal = legal_leads_to_once P J legal

pub returns-clause-some_replay : goal.returns-clause-some_replay
returns-clause-some_replay k P J legal = replays.some_replay P J legal

pub returns-clause-one_answer : goal.returns-clause-one_answer
returns-clause-one_answer k P J legal seat call =
    let some = some_due P J legal seat call in
    (some.0, some.1, λ said is. due_once P (effective J) seat call said some.0 is some.1)

pub returns-clause-forward : goal.returns-clause-forward
returns-clause-forward k P J M A B e c is i m before = forwards.stands_before P A B e c is.replayed i m before

pub returns-clause-command : goal.returns-clause-command
returns-clause-command k P J M E c is seat plan reply legal = after_command P J M E c is seat plan reply legal

pub returns-clause-back : goal.returns-clause-back
returns-clause-back k P J J' M E c is legal same = record {
  legal = legal;
  leads_to = subst (λ (given : List Given). LeadsTo P given M) (sym same) is.leads_to;
  remain = is.remain;
  replayed = is.replayed;
}

pub returns-clause-batch : goal.returns-clause-batch
returns-clause-batch k P J M E c is seat plans reply legal = after_batch P J M E c is seat plans reply legal

pub returns-clause-message : goal.returns-clause-message
returns-clause-message k P J M E c is i m j n x = handed P E c is.replayed i m j n x

pub returns-clause-shown : goal.returns-clause-shown
returns-clause-shown k P J M E c is seat query said due = shows P J M E c is seat query said due
