-- The pairs that were published for the calls of a journal.
use Rattle.std.proofs.Common.{List, [], ◌∷◌, ◌++◌, sym, subst}
use Rattle.std.specs.List.{AllByRecursion}
use Rattle.std.proofs.lemmas.List.{append_assoc}
use Rattle.dbg_base.specs.Trees.{Program}
use Rattle.dbg_base.specs.Journals.{Entry, Journal}
use Rattle.dbg_board.specs.declared.glance.Glance.{Glance}
use Rattle.dbg_desk.specs.Desks.{Shows, ArePairs}

-- one more call, and one more pair
pub pairs_more : (P : Program) (J others : Journal) (pairs : List Glance) (entry : Entry) (pair : Glance) → ArePairs P J others pairs
    → Shows P (J ++ (others ++ entry ∷ [])) pair → ArePairs P J (others ++ entry ∷ []) (pairs ++ pair ∷ [])
pairs_more P J [] [] entry pair are shows = (shows, tt)
pairs_more P J [] (first ∷ pairs) entry pair are shows = absurd are
pairs_more P J (call ∷ others) [] entry pair are shows = absurd are
pairs_more P J (call ∷ others) (first ∷ pairs) entry pair are shows = (
  are.0,
  pairs_more P (J ++ call ∷ []) others pairs entry pair are.1
      (subst (λ (K : Journal). Shows P K pair) (sym (append_assoc J (call ∷ []) (others ++ entry ∷ []))) shows),
)

-- what holds of all holds of one more
pub all_more : {A : Type 0} (Is : A → Type 0) (xs : List A) (x : A) → AllByRecursion Is xs → Is x → AllByRecursion Is (xs ++ x ∷ [])
all_more Is [] x all is = (is, tt)
all_more Is (first ∷ xs) x all is = (all.0, all_more Is xs x all.1 is)
