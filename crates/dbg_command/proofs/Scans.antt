-- The result of scanning the conjuncts of an order.
use Rattle.std.proofs.Common.{◌≡◌, ℕ, ◌<◌, List, [], ◌∷◌, length, Option, Some, None, refl, ap, sym, ◌∙◌, arith}
use Rattle.std.specs.Prelude.{IfSome, OnOk, Result, Ok, Err, false, is_err}
use Rattle.dbg_base.specs.declared.refusal.Refusal.{Refusal}
use Rattle.dbg_base.specs.Trees.{Program}
use Rattle.dbg_base.specs.Predicates.{Conjunct}
use Rattle.dbg_base.specs.ModelStates.{ModelState}
use Rattle.dbg_base.specs.Calls.{Order, One, Break}
use Rattle.dbg_base.specs.Acts.{conjuncts_refusal}
use Rattle.causal_world.specs.Scenes.{Scene}
use Rattle.causal_world.proofs.SameWorldLemmas.{same_world}
use Rattle.least_cut.specs.Watches.{TruthLine, scan_of}
use Rattle.dbg_command.specs.Tables.{TableState, IsTableOf, state_of}
use Rattle.dbg_command.specs.Boxes.{IsScanFor, ScansFor, ScansUnless}

unless_refused : (refused : Option Refusal) (order : Order) (P : Program) (M : ModelState) (found : Option (List TruthLine))
    → ScansUnless refused order P M found → IfSome found (IsScanFor order P M)
unless_refused refused order P M None is = tt
unless_refused (Some refusal) order P M (Some scan) is = absurd cc
unless_refused None order P M (Some scan) is = is

-- the scan for an order may be passed with it
pub scan_for : (order : Order) (P : Program) (M : ModelState) (found : Option (List TruthLine)) → ScansFor order P M found
    → IfSome found (IsScanFor order P M)
scan_for order P M None is = tt
scan_for (One (Break name [])) P M (Some scan) is = absurd cc
scan_for (One (Break name (c ∷ conjuncts))) P M (Some scan) is =
    unless_refused (conjuncts_refusal P [] (c ∷ conjuncts)) (One (Break name (c ∷ conjuncts))) P M (Some scan) is
scan_for order P M (Some scan) is = tt

-- there is no scan for no conjuncts, and none for refused ones
pub scans_none : (P : Program) (M : ModelState) (name : List ℕ) (conjuncts : List Conjunct) → conjuncts ≡ []
    → ScansFor (One (Break name conjuncts)) P M None
scans_none P M name conjuncts none = rw none refl

pub scans_refused : (P : Program) (M : ModelState) (name : List ℕ) (conjuncts : List Conjunct) (refusal : Refusal)
    → conjuncts_refusal P [] conjuncts ≡ Some refusal → ScansFor (One (Break name conjuncts)) P M None
scans_refused P M name [] refusal is = refl
scans_refused P M name (c ∷ conjuncts) refusal is = rw is refl

-- what holds if nothing was refused
pub not_refused : {A : Type 0} (result : Result (Unit {0}) Refusal) → false ≡ is_err result → OnOk result A → A
not_refused (Ok done) none holds = holds
not_refused (Err refusal) none holds = absurd cc

-- other conjuncts have the scan in the world of the table
pub scans_fitting : (P : Program) (t : TableState) (name : List ℕ) (conjuncts : List Conjunct) (scan : List TruthLine) → IsTableOf P t
    → 0 < length conjuncts → conjuncts_refusal P [] conjuncts ≡ None → scan ≡ scan_of t.world conjuncts
    → ScansFor (One (Break name conjuncts)) P (state_of t) (Some scan)
scans_fitting P t name [] scan is some fit of = absurd (omega arith)
scans_fitting P t name (c ∷ conjuncts) scan is some fit of =
    rw fit (λ w other state. of ∙ ap (λ (v : Scene). scan_of v (c ∷ conjuncts)) (sym (same_world P w t.world other is.world state)))
