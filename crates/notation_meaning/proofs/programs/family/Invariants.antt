use Rattle.std.proofs.Common.{length}
use Rattle.dbg_base.specs.Trees.{names_of}
use Rattle.proc_tree.specs.Programs.{program_of}
use Rattle.notation_meaning.specs.ModelScopes.{Top}
use Rattle.notation_meaning.specs.AgreementViews.{model_progress_of}
use Rattle.notation_meaning.proofs.AgreementParts.{ProcessesGo}
use Rattle.notation_meaning.proofs.programs.family.Given as goal

-- the processes that are left belong after those so far
abbrev pub invariant-loop-place : goal.invariant-loop-place
invariant-loop-place l =
    ProcessesGo l.here.definitions.now (names_of (program_of l.here.program.now)) l.declaration l.node Top l.places
    (model_progress_of l.here l.initial.progress) (model_progress_of l.here l.progress) l.rest

abbrev pub decreases-loop-place : goal.decreases-loop-place
decreases-loop-place l = length l.rest
