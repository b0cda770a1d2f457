-- Commands that are not batches, one more at a time.
use Rattle.std.proofs.Common.{◌≡◌, ℕ, ◌+◌, ◌<◌, Bool, true, false, ◌&&◌, List, [], ◌∷◌, ◌++◌, length, map, take, get_or, refl, subst, sym, ap, ◌∙◌, append_assoc}
use Rattle.std.proofs.lemmas.List.{map_push, flat_map_more, take_more}
use Rattle.std.specs.declared.alloc.Global.{Global}
use Rattle.std.specs.Prelude.{Vec}
use Rattle.dbg_base.specs.declared.call.Plan as plan
use Rattle.dbg_base.specs.declared.call.Plan.TheOpen as shape
use Rattle.dbg_base.specs.declared.call.Plan.TheVariants as plans
use Rattle.dbg_base.specs.declared.call.Plan.TheFolds.{fold-roll-Plan}
use Rattle.dbg_base.specs.declared.call.Plan.TheViews.{out-Plan, roll-Plan, roll-out-Plan}
use Rattle.std.specs.List.{flat_map}
use Rattle.dbg_base.specs.Calls as model
use Rattle.dbg_base.specs.Calls.{Order, order_of, plans_of, plans_in}
use Rattle.dbg_records.specs.Flat.{is_one, are_ones, one_order}

pub plans_push : (xs : List plan.Plan) (x : plan.Plan) → plans_in (xs ++ x ∷ []) ≡ plans_in xs ++ plans_of (order_of x)
plans_push xs x =
    ap (λ (orders : List Order). flat_map plans_of orders) (map_push order_of xs x)
    ∙ sym (flat_map_more plans_of [] (map order_of xs) (order_of x))

pub ones_push : (xs : List plan.Plan) (x : plan.Plan) → are_ones xs ≡ true → is_one x ≡ true → are_ones (xs ++ x ∷ []) ≡ true
ones_push [] x all one = ap (λ (b : Bool). b && true) one
ones_push (first ∷ xs) x all one = by (is_one first) (are_ones xs) all (λ rest. ones_push xs x rest one)
  where
    by : (b c : Bool) → (b && c) ≡ true → (c ≡ true → are_ones (xs ++ x ∷ []) ≡ true) → (b && are_ones (xs ++ x ∷ [])) ≡ true
    by true c e more = more e
    by false c e more = e

-- the next of the commands is appended to the copies so far
pub plans_more : (xs ones made more : List plan.Plan) (i : ℕ) (x : plan.Plan) → i < length xs → x ≡ get_or xs i x
    → plans_in made ≡ plans_in ones ++ plans_in (take i xs) → plans_in more ≡ plans_in made ++ plans_of (order_of x)
    → plans_in more ≡ plans_in ones ++ plans_in (take (i + 1) xs)
plans_more xs ones made more i x within is before added =
    added ∙ ap (λ (l : List model.Plan). l ++ plans_of (order_of x)) before
    ∙ append_assoc (plans_in ones) (plans_in (take i xs)) (plans_of (order_of x))
    ∙ ap (λ (l : List model.Plan). plans_in ones ++ l)
    (sym (plans_push (take i xs) x) ∙ ap (λ (y : plan.Plan). plans_in (take i xs ++ y ∷ [])) is
    ∙ ap (λ (l : List plan.Plan). plans_in l) (sym (take_more xs i x within)))

-- a plan that is not a batch gives one command
layer_one : (layer : shape.Plan-F plan.Plan) → ((batch : Vec plan.Plan Global) → layer ≡ shape.Batch batch → ⊥)
    → is_one (roll-Plan layer) ≡ true
layer_one (shape.Batch batch) none = absurd (none batch refl)
layer_one (shape.Step pid choice) none = ap one_order (fold-roll-Plan Order _ (shape.Step pid choice))
layer_one (shape.Next pid) none = ap one_order (fold-roll-Plan Order _ (shape.Next pid))
layer_one (shape.Undo pid) none = ap one_order (fold-roll-Plan Order _ (shape.Undo pid))
layer_one (shape.Redo pid) none = ap one_order (fold-roll-Plan Order _ (shape.Redo pid))
layer_one (shape.Rollback pid place) none = ap one_order (fold-roll-Plan Order _ (shape.Rollback pid place))
layer_one (shape.Goto name) none = ap one_order (fold-roll-Plan Order _ (shape.Goto name))
layer_one (shape.Break name conjuncts) none = ap one_order (fold-roll-Plan Order _ (shape.Break name conjuncts))
layer_one (shape.Clear name) none = ap one_order (fold-roll-Plan Order _ (shape.Clear name))
layer_one (shape.Arm name) none = ap one_order (fold-roll-Plan Order _ (shape.Arm name))
layer_one (shape.Pass name) none = ap one_order (fold-roll-Plan Order _ (shape.Pass name))

pub one_if : (given : plan.Plan) → ((batch : Vec plan.Plan Global) → given ≡ plans.Batch batch → ⊥) → is_one given ≡ true
one_if given none =
    subst (λ (p : plan.Plan). is_one p ≡ true) (roll-out-Plan given)
    (layer_one (out-Plan given) (λ batch e. none batch (sym (roll-out-Plan given) ∙ ap roll-Plan e ∙ plans.rolls-Batch batch)))
