use Rattle.std.proofs.Common.{sym, ◌∙◌, ap, Some}
use Rattle.std.proofs.lemmas.Option.{slice_get-map}
use Rattle.dbg_base.specs.Trees.{Process}
use Rattle.proc_tree.specs.Programs.{program_of}
use Rattle.notation_meaning.proofs.Outcomes.{on_ok}
use Rattle.notation_meaning.proofs.AgreementPlain as lemma
use Rattle.notation_meaning.proofs.written.names_process.Goals as goal

pub returns : goal.returns
returns c =
    on_ok c.check_name.result c.check_name.ensures (λ x h. lemma.names_element _ _ c.in_ok-name.ensures
    (slice_get-map (λ (q : Process). q.name) (program_of c.args.setting.now.program.now) c.args.pid.0 ∙ sym c.process_name.ensures
    ∙ h ∙ ap Some c.as_slice.ensures.value))
