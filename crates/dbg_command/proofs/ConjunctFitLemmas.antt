-- Conjuncts that are checked from left to right.
use Rattle.std.proofs.Common.{◌≡◌, ℕ, ◌+◌, ◌<◌, ◌≤◌, Bool, true, false, List, [], ◌∷◌, length, get_or, take, drop, map}
use Rattle.std.proofs.Common.{Some, None, refl, sym, ap, ◌∙◌}
use Rattle.std.specs.Prelude.{◌==◌, ◌||◌, ◌&&◌, not, nat_lt, Option, if◌then◌else◌}
use Rattle.std.specs.List.{list_any, AllByRecursion}
use Rattle.std.proofs.lemmas.Bool.{ltb-true}
use Rattle.dbg_base.specs.declared.refusal.Refusal.{Refusal}
use Rattle.dbg_base.specs.Predicates.{Conjunct, is_predicate}
use Rattle.std.proofs.Common.{rules, drop_of_length-le}
use Rattle.std.proofs.lemmas.Bool.{lt-ltb, le-ltb}
use Rattle.std.proofs.lemmas.List.{drop_more}
use Rattle.std.proofs.lemmas.List.Folds.{list_any_more}
use Rattle.dbg_base.specs.declared.call.Conjunct as given
use Rattle.dbg_base.specs.declared.expr.Sort.TheVariants as sort
use Rattle.dbg_base.specs.declared.refusal.Refusal.TheVariants.{UnknownProcess, BadPredicate}
use Rattle.dbg_base.specs.Trees.{Program, tree_of}
use Rattle.dbg_base.specs.WellFormed.{is_fit, bounds_of}
use Rattle.dbg_base.specs.Calls.{conjunct_of}
use Rattle.dbg_base.specs.Acts.{conjuncts_refusal}

-- the conjuncts before this position are not refused
pub record AreFitting (P : Program) (cs : List given.Conjunct) (i : ℕ) : Type 0 where
  pub before : List ℕ
  pub seen : (p : ℕ) → list_any (λ (q : ℕ). q == p) before ≡ list_any (λ (c : given.Conjunct). c.pid.0 == p) (take i cs)
  pub rest : conjuncts_refusal P before (map conjunct_of (drop i cs)) ≡ conjuncts_refusal P [] (map conjunct_of cs)

pub none_fitting : (P : Program) (cs : List given.Conjunct) → AreFitting P cs 0
none_fitting P cs = record { before = []; seen = λ p. refl; rest = refl }

or_turned : (a b : Bool) → (a || b) ≡ (b || a)
or_turned true true = refl
or_turned true false = refl
or_turned false true = refl
or_turned false false = refl

module _ (P : Program) (cs : List given.Conjunct) (i : ℕ) (are : AreFitting P cs i) (x : given.Conjunct) (here : x ≡ get_or cs i x)
    (lt : i < length cs) where
  -- the rest of the conjuncts, with the next one first
  is_before : conjuncts_refusal P are.before (map conjunct_of (x ∷ drop (i + 1) cs)) ≡ conjuncts_refusal P [] (map conjunct_of cs)
  is_before =
      ap (λ (c : given.Conjunct). conjuncts_refusal P are.before (map conjunct_of (c ∷ drop (i + 1) cs))) here
      ∙ ap (λ (l : List given.Conjunct). conjuncts_refusal P are.before (map conjunct_of l)) (sym (drop_more cs i x lt)) ∙ are.rest

  pub refused_unknown : length P ≤ x.pid.0 → conjuncts_refusal P [] (map conjunct_of cs) ≡ Some UnknownProcess
  refused_unknown none = sym is_before ∙ search (le-ltb x.pid.0 (length P) none, rules)

  module _ (known : x.pid.0 < length P) where
    -- its process exists, so it is a predicate if it fits
    fit : is_predicate P x.pid.0 (tree_of x.expr) ≡ is_fit (bounds_of P x.pid.0) sort.Truth (tree_of x.expr)
    fit = ap (λ (b : Bool). b && is_fit (bounds_of P x.pid.0) sort.Truth (tree_of x.expr)) (lt-ltb x.pid.0 (length P) known)

    pub refused_unfit : is_predicate P x.pid.0 (tree_of x.expr) ≡ false → conjuncts_refusal P [] (map conjunct_of cs) ≡ Some BadPredicate
    refused_unfit is =
        let unfit = sym fit ∙ is in sym is_before ∙ search (lt-ltb x.pid.0 (length P) known, unfit, rules)

    pub refused_twice : list_any (λ (c : given.Conjunct). c.pid.0 == x.pid.0) (take i cs) ≡ true
        → conjuncts_refusal P [] (map conjunct_of cs) ≡ Some BadPredicate
    refused_twice twice =
        let seen = are.seen x.pid.0 ∙ twice in sym is_before ∙ search (lt-ltb x.pid.0 (length P) known, seen, rules)

    pub more_fitting : is_predicate P x.pid.0 (tree_of x.expr) ≡ true
        → list_any (λ (c : given.Conjunct). c.pid.0 == x.pid.0) (take i cs) ≡ false → AreFitting P cs (i + 1)
    more_fitting is once =
        let fits = sym fit ∙ is in
        let seen = are.seen x.pid.0 ∙ once in
        record {
          before = x.pid.0 ∷ are.before;
          seen = λ p.
              ap (λ (b : Bool). (x.pid.0 == p) || b) (are.seen p) ∙ or_turned (x.pid.0 == p) _
              ∙ ap (λ (c : given.Conjunct). list_any (λ (d : given.Conjunct). d.pid.0 == p) (take i cs) || (c.pid.0 == p)) here
              ∙ sym (list_any_more (λ (d : given.Conjunct). d.pid.0 == p) cs i x lt);
          rest = search (lt-ltb x.pid.0 (length P) known, seen, fits, is_before, rules);
        }

pub all_fitting : (P : Program) (cs : List given.Conjunct) (i : ℕ) → AreFitting P cs i → length cs ≤ i
    → conjuncts_refusal P [] (map conjunct_of cs) ≡ None
all_fitting P cs i are past =
    sym are.rest ∙ ap (λ (l : List given.Conjunct). conjuncts_refusal P are.before (map conjunct_of l)) (drop_of_length-le cs past)

-- if it is not refused, its process exists, and the conjuncts after it are not refused
known_first : (known fit : Bool) (rest : Option Refusal)
    → (if known then (if fit then rest else Some BadPredicate) else Some UnknownProcess) ≡ None → (known ≡ true) × (rest ≡ None)
known_first true true rest h = (refl, h)
known_first true false rest h = cc
known_first false fit rest h = cc

pub all_known : (P : Program) (before : List ℕ) (cs : List Conjunct) → conjuncts_refusal P before cs ≡ None
    → AllByRecursion (λ (c : Conjunct). c.process < length P) cs
all_known P before [] none = tt
all_known P before (c ∷ cs) none =
    let first = known_first (nat_lt c.process (length P))
    (is_fit (bounds_of P c.process) sort.Truth c.expression && not (list_any (λ p. p == c.process) before))
    (conjuncts_refusal P (c.process ∷ before) cs) none in
    (ltb-true c.process (length P) first.0, all_known P (c.process ∷ before) cs first.1)
