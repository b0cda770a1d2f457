use Rattle.std.proofs.Common.{length}
use Rattle.notation_tree.specs.ComputedValues.{value_of}
use Rattle.notation_meaning.specs.AgreementViews.{context_of, scope_of}
use Rattle.notation_meaning.proofs.AgreementLemmas.{Continues, LinksGo, EnoughGo}
use Rattle.notation_meaning.proofs.values.+values.Given as goal

abbrev pub decreases-value : goal.decreases-value
decreases-value l = l.depth

abbrev pub decreases-form_value : goal.decreases-form_value
decreases-form_value l = l.depth

abbrev pub decreases-number : goal.decreases-number
decreases-number l = l.depth

abbrev pub decreases-truth : goal.decreases-truth
decreases-truth l = l.depth

abbrev pub decreases-linked : goal.decreases-linked
decreases-linked l = l.depth

abbrev pub decreases-one_link : goal.decreases-one_link
decreases-one_link l = l.depth

abbrev pub decreases-condition : goal.decreases-condition
decreases-condition l = l.depth

abbrev pub decreases-members : goal.decreases-members
decreases-members l = l.depth

abbrev pub decreases-between : goal.decreases-between
decreases-between l = l.depth

abbrev pub decreases-sum : goal.decreases-sum
decreases-sum l = l.depth

abbrev pub decreases-enough : goal.decreases-enough
decreases-enough l = l.depth

-- what is left of the range belongs after the members so far
abbrev pub invariant-between-loop : goal.invariant-between-loop
invariant-between-loop l = Continues (context_of l.known) (scope_of l.scope) l.binder l.low l.high l.next l.found.items

-- the operators that are left belong after those so far
abbrev pub invariant-linked-loop-link : goal.invariant-linked-loop-link
invariant-linked-loop-link l =
    LinksGo (context_of l.known) (scope_of l.scope) (value_of l.fn.left) l.links (value_of l.held) l.rest

abbrev pub decreases-linked-loop-link : goal.decreases-linked-loop-link
decreases-linked-loop-link l = length l.rest

-- the members that are left belong after those so far
abbrev pub invariant-enough-loop-first : goal.invariant-enough-loop-first
invariant-enough-loop-first l = EnoughGo (context_of l.known) (scope_of l.scope) l.each l.least l.members l.missing l.rest

abbrev pub decreases-enough-loop-first : goal.decreases-enough-loop-first
decreases-enough-loop-first l = length l.rest
