-- Lists that threads made are taken one after the other.
use Rattle.std.proofs.Common.{◌≡◌, ℕ, suc, ◌+◌, ◌<◌, Bool, List, [], ◌∷◌, ◌++◌, length, get_or, take, drop, drop-cons, Option, Some, None}
use Rattle.std.proofs.Common.{refl, sym, ap, ◌∙◌, subst, arith}
use Rattle.std.specs.Prelude.{IsSome, Result}
use Rattle.std.specs.Option.{option_flatten, option_to_list}
use Rattle.std.specs.Borrow.{Bor}
use Rattle.std.specs.declared.alloc.AllocError.{AllocError}
use Rattle.std.proofs.lemmas.List.{get_or-map, take_more, length-map}
use Rattle.dbg_base.specs.declared.expr.Expr.{Expr}
use Rattle.dbg_base.specs.declared.ids.Pid.{Pid}
use Rattle.event_rows.specs.EventValues.{RowsState}
use Rattle.event_rows.specs.Truths.{list_in, lists_in, IsMade, IsMadeAt}

-- the element at this position was taken, and these are left
pub record HasNext {A : Type 0} (all : List A) (k : ℕ) (next : Option A) (left : List A) : Type 0 where
  pub item : A
  pub is : next ≡ Some item
  pub here : get_or all k item ≡ item
  pub rest : left ≡ drop (k + 1) all

pub next_taken : {A : Type 0} (all : List A) (k : ℕ) (next : Option A) (left : List A) → k < length all → IsSome next
    → drop k all ≡ option_to_list next ++ left → HasNext all k next left
next_taken all k None left lt some is = absurd cc
next_taken all k (Some x) left lt some is =
    let whole : get_or all k x ∷ drop (suc k) all ≡ x ∷ left = sym (drop-cons all k x lt) ∙ is in
    let more : suc k ≡ k + 1 = omega arith in
    record {
      item = x;
      is = refl;
      here = ap (λ l. get_or l 0 x) whole;
      rest = sym (ap (drop 1) whole) ∙ ap (λ (n : ℕ). drop n all) more;
    }

module _ (rows : RowsState) (named : List (Pid × Bor Expr)) (k : ℕ) (one : Pid × Bor Expr) (here : one ≡ get_or named k one)
    (lt : k < length named) where
  -- the next list
  pub list_here : get_or (lists_in rows named) k [] ≡ list_in rows one
  list_here = get_or-map (list_in rows) named k one [] lt ∙ ap (list_in rows) (sym here)

  -- if the next list was made, it is the right one
  pub made_here : (made left : List (Option (Result (List Bool) AllocError))) (next : Option (Option (Result (List Bool) AllocError)))
      → length made ≡ length named → IsSome next → drop k made ≡ option_to_list next ++ left
      → ((place : ℕ) (d : _) → place < length named → IsMadeAt (lists_in rows named) place (get_or made place d))
      → IsMade (list_in rows one) (option_flatten next)
  made_here made left next size some is each =
      let taken = next_taken made k next left (omega (arith, size, lt)) some is in
      rw taken.is
      (subst (IsMade (list_in rows one)) taken.here
      (subst (λ (truths : List Bool). IsMade truths (get_or made k taken.item)) list_here (each k taken.item lt)))

  -- one more list
  pub lists_more : (lists : List (List Bool)) (list : List Bool) → lists ≡ take k (lists_in rows named) → list ≡ list_in rows one
      → lists ++ list ∷ [] ≡ take (k + 1) (lists_in rows named)
  lists_more lists list before is =
      let within : k < length (lists_in rows named) = omega (arith, length-map named (list_in rows), lt) in
      ap (λ (l : List (List Bool)). l ++ list ∷ []) before
      ∙ ap (λ (t : List Bool). take k (lists_in rows named) ++ t ∷ []) (is ∙ sym list_here)
      ∙ sym (take_more (lists_in rows named) k [] within)
