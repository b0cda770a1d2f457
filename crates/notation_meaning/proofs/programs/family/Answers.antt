use Rattle.std.proofs.Common.{◌∙◌, ap, map, take}
use Rattle.proc_tree.specs.Programs.{program_of}
use Rattle.notation_meaning.specs.AgreementViews.{copy_of, model_progress_of}
use Rattle.notation_meaning.proofs.AgreementParts.{take_next, processes_step, processes_done}
use Rattle.notation_meaning.proofs.programs.family.Goals as goal

pub loop-place-preserved : goal.loop-place-preserved
loop-place-preserved c =
    let h = rw c.as_slice-members.ensures.value at c.in_ok-constants.ensures in
    let P = program_of c.args.here.now.program.now in
    let copies = map copy_of c.args.here.now.copies.now in
    processes_step _ _ _ _ _ _ c.loop-place.rest.now _ c.in-Some.place.now _ (model_progress_of c.args.here.now c.loop-place.progress)
    (model_progress_of c.args.here.now (record { constants = c.in_ok-constants.constants; processes = c.in_ok-processes.processes })) h.0 h.1
    c.loop-place.invariant c.in-Some.ensures.cases.0 h.4
    (ap (λ k. take k P) c.in_ok-processes.ensures ∙ take_next P c.loop-place.progress.processes h.0 h.2)
    (ap (λ k. take k copies) c.in_ok-processes.ensures ∙ take_next copies c.loop-place.progress.processes h.1 h.3)

pub returns : goal.returns
returns c = processes_done _ _ _ _ _ _ c.loop-place.rest.now _ _ c.loop-place.invariant c.in_default.ensures.cases
