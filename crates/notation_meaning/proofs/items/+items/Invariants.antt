use Rattle.std.proofs.Common.{length}
use Rattle.notation_meaning.specs.AgreementViews.{frame_of, scope_of, progress_of}
use Rattle.notation_meaning.proofs.AgreementParts.{ItemsGo, CopiesGo}
use Rattle.notation_meaning.proofs.items.+items.Given as goal

abbrev pub decreases-item : goal.decreases-item
decreases-item l = l.depth

abbrev pub decreases-items : goal.decreases-items
decreases-items l = l.depth

abbrev pub decreases-copies : goal.decreases-copies
decreases-copies l = l.depth

-- the items that are left belong after those so far
abbrev pub invariant-items-loop-first : goal.invariant-items-loop-first
invariant-items-loop-first l =
    ItemsGo (frame_of l.here) (scope_of l.scope) l.nodes (progress_of l.here l.initial.progress) (progress_of l.here l.progress) l.rest

abbrev pub decreases-items-loop-first : goal.decreases-items-loop-first
decreases-items-loop-first l = length l.rest

-- the members that are left belong after those so far
abbrev pub invariant-copies-loop-first : goal.invariant-copies-loop-first
invariant-copies-loop-first l =
    CopiesGo (frame_of l.here) (scope_of l.scope) l.binder l.nodes l.members (progress_of l.here l.initial.progress)
    (progress_of l.here l.progress) l.rest

abbrev pub decreases-copies-loop-first : goal.decreases-copies-loop-first
decreases-copies-loop-first l = length l.rest
