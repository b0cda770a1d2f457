use Rattle.std.proofs.Common.{◌≡◌, ◌+◌, length}
use Rattle.dbg_base.specs.Trees.{names_of}
use Rattle.proc_tree.specs.Programs.{program_of}
use Rattle.notation_meaning.specs.AgreementViews.{model_progress_of}
use Rattle.notation_meaning.proofs.AgreementParts.{DeclarationsGo}
use Rattle.notation_meaning.proofs.programs.declarations.Given as goal

-- the declarations that are left belong after those so far
abbrev pub invariant-loop-first : goal.invariant-loop-first
invariant-loop-first l = record {
  passed : l.number + length l.rest ≡ length l.nodes;
  goes_on :
      DeclarationsGo l.here.definitions.now (names_of (program_of l.here.program.now)) l.nodes (model_progress_of l.here l.initial.progress)
      (model_progress_of l.here l.progress) l.number l.rest;
}

abbrev pub decreases-loop-first : goal.decreases-loop-first
decreases-loop-first l = length l.rest
