use Rattle.std.proofs.Common.{length}
use Rattle.dbg_base.specs.Trees.{process_of}
use Rattle.proc_tree.specs.Programs.{program_of}
use Rattle.notation_meaning.specs.AgreementViews.{context_of, scope_of}
use Rattle.notation_meaning.proofs.AgreementParts.{VariablesGo}
use Rattle.notation_meaning.proofs.variables.variables_at.Given as goal

-- the variables that are left belong after those so far
abbrev pub invariant-loop-place : goal.invariant-loop-place
invariant-loop-place l =
    VariablesGo (context_of l.setting.known) l.node (scope_of l.scope)
    (process_of (program_of l.setting.program.now) l.setting.own.0).variables l.places l.start l.index l.rest

abbrev pub decreases-loop-place : goal.decreases-loop-place
decreases-loop-place l = length l.rest
