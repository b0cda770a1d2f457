-- Predicates of a global state: conjunctions of local predicates.
use Rattle.std.specs.Prelude.{◌≡◌, ℕ, List, Bool, true, false, ◌&&◌, Option, Some, None, length, nat_lt, slice_index}
use Rattle.std.specs.List.{AllByRecursion}
use Rattle.dbg_base.specs.declared.expr.Sort.TheVariants as sort
use Rattle.dbg_base.specs.Trees.{Tree, Program}
use Rattle.dbg_base.specs.WellFormed.{is_fit, bounds_of}
use Rattle.dbg_base.specs.LocalStates.{LocalState}
use Rattle.dbg_base.specs.Evaluation.{evaluate}
use Rattle.dbg_base.specs.Firing.{truth_of}
use Rattle.dbg_base.specs.Histories.{History, local_state}
use Rattle.dbg_base.specs.Cuts.{IsConsistent, IsAtMost}

-- one part of a predicate: a truth expression of one process
pub record Conjunct : Type 0 where
  pub process : ℕ
  pub expression : Tree

-- the expression is a predicate of process p: p exists, the expression is a truth expression, and all that it names exists
abbrev pub is_predicate : Program → ℕ → Tree → Bool
is_predicate P p tree = nat_lt p (length P) && is_fit (bounds_of P p) sort.Truth tree

-- a truth value that is known and true
abbrev pub is_known_true : Option Bool → Bool
is_known_true None = false
is_known_true (Some truth) = truth

-- whether an expression holds in a local state; one whose evaluation faults does not
abbrev pub holds : Tree → LocalState → Bool
holds tree state = is_known_true (truth_of (evaluate tree state))

-- the conjunct is true after the n-th choice of its process
abbrev pub is_true : Program → History → Conjunct → ℕ → Bool
is_true P H conjunct n = holds conjunct.expression (local_state P H conjunct.process n)

-- A consistent cut satisfies conjuncts if each is true in the local state of its process in that cut.
pub record Satisfies (P : Program) (H : History) (conjuncts : List Conjunct) (cut : List ℕ) : Type 0 where
  pub consistent : IsConsistent P H cut
  pub all : AllByRecursion (λ conjunct. is_true P H conjunct (slice_index cut conjunct.process) ≡ true) conjuncts

-- The cut is the least of those that satisfy the conjuncts.
pub record IsLeast (P : Program) (H : History) (conjuncts : List Conjunct) (cut : List ℕ) : Type 0 where
  pub satisfies : Satisfies P H conjuncts cut
  pub least : (other : List ℕ) → Satisfies P H conjuncts other → IsAtMost cut other

-- no cut satisfies them
abbrev pub NoCut : Program → History → List Conjunct → Type 0
NoCut P H conjuncts = (cut : List ℕ) → ¬ Satisfies P H conjuncts cut
