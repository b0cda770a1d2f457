use Rattle.shell_print.proofs.WriteLemmas.{writes_then}
use Rattle.shell_serve.proofs.SessionLemmas.{flushed, form_ok, form_err}
use Rattle.ui_repl.proofs.TalkLemmas.{refusal_unmarked, refusal_stopped, refusal_explained, refusal_talks, fault_talks}
use Rattle.ui_repl.proofs.fault_places.write_refusal.Goals as goal

pub returns-in_err-set_style-clause-talks : goal.returns-in_err-set_style-clause-talks
returns-in_err-set_style-clause-talks g c =
    let same = c.from_residual.ensures.1 in
    fault_talks _ (refusal_unmarked c.in_err-set_style.ensures same) same

pub returns-in_err-served-clause-talks : goal.returns-in_err-served-clause-talks
returns-in_err-served-clause-talks g c =
    let same = c.from_residual-in_err-served.ensures.1 in
    let told = c.in_err-served.ensures.written in
    fault_talks _ (refusal_stopped told.text told.form (writes_then c.in_ok-set_style.ensures told.written) same) same

pub returns-in_err-hand_on-clause-talks : goal.returns-in_err-hand_on-clause-talks
returns-in_err-hand_on-clause-talks g c =
    let same = c.from_residual-in_err-hand_on.ensures.1 in
    let told = c.in_ok-served.ensures.written in
    let reported = flushed c.explain-explained.ensures.written c.in_err-hand_on.ensures in
    let explained = refusal_explained told.text told.form (writes_then c.in_ok-set_style.ensures told.written) reported in
    fault_talks _ (form_err explained same) same

pub returns-clause-talks : goal.returns-clause-talks
returns-clause-talks g c =
    let told = c.in_ok-served.ensures.written in
    let reported = flushed c.explain-explained.ensures.written c.in_ok-hand_on.ensures in
    let explained = refusal_explained told.text told.form (writes_then c.in_ok-set_style.ensures told.written) reported in
    refusal_talks (form_ok explained) c.in_ok-served.ensures.served
