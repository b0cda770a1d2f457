-- Parts of a plain program that follow one another.
use Rattle.std.proofs.Common.{◌≡◌, ℕ, suc, ◌<◌, ℤ, List, [], ◌∷◌, ◌++◌, length, set, take, sym, ◌∙◌, ap, subst, add-one, Option, Some}
use Rattle.std.proofs.lemmas.List.{nil_from_length, take_more, map-set}
use Rattle.std.proofs.lemmas.Option.{slice_get_within, get_or_from_slice_get}
use Rattle.std.specs.Prelude.{slice_get}
use Rattle.std.specs.Option.{option_map}
use Rattle.dbg_base.specs.Evaluation.{Num}
use Rattle.dbg_base.specs.Trees as tree
use Rattle.notation_tree.specs.declared.arithmetic.ConstantValue.{ConstantValue}
use Rattle.notation_meaning.specs.declared.families.FamilyPlace.{FamilyPlace}
use Rattle.notation_tree.specs.declared.syntax.Binder.{Binder, out-Binder}
use Rattle.notation_tree.specs.declared.syntax.Definition.{Definition}
use Rattle.notation_tree.specs.declared.syntax.VariableNode.{VariableNode}
use Rattle.notation_tree.specs.declared.syntax.ItemNode.{ItemNode}
use Rattle.notation_tree.specs.declared.syntax.ProcessNode.{ProcessNode}
use Rattle.notation_tree.specs.declared.syntax.DeclarationNode.{DeclarationNode}
use Rattle.notation_meaning.specs.ModelScopes.{Context, Scope, Member}
use Rattle.notation_meaning.specs.ModelValues.{HasValue}
use Rattle.notation_meaning.specs.ModelFamilies.{IsIndexed}
use Rattle.notation_meaning.specs.ModelPrograms.{Variable, VariablesOf, no_variables, more_variables, Frame, Progress, ItemOf, ItemsOf, no_items, more_items}
use Rattle.notation_meaning.specs.ModelPrograms.{Copy, CopiesOf, no_copies, more_copies, ModelProgress, ProcessOf, ProcessesOf, no_processes, more_processes}
use Rattle.notation_meaning.specs.ModelPrograms.{DeclarationOf, DeclarationsOf, no_declarations, more_declarations}
use Rattle.notation_tree.specs.ComputedValues.{value_of}
use Rattle.notation_meaning.specs.AgreementViews.{constants_of, place_of, places_of, members_of}

-- up to an element, and with it
pub take_next : {A : Type 0} (all : List A) (k : ℕ) (x : A) → slice_get all k ≡ Some x → take (suc k) all ≡ take k all ++ (x ∷ [])
take_next all k x e =
    let first = get_or_from_slice_get all k x x e in
    let within : k < length all = slice_get_within all k x e in
    ap (λ n. take n all) (sym (add-one k)) ∙ take_more all k x within ∙ ap (λ y. take k all ++ (y ∷ [])) first

-- the constants, where one more has a value
pub constant_set : (constants : List (Option ConstantValue)) (number : ℕ) (v : ConstantValue)
    → constants_of (set constants number (Some v)) ≡ set (constants_of constants) number (Some (value_of v))
constant_set constants number v = map-set (option_map value_of) constants number (Some v)

-- the variables that are left belong after those so far
abbrev pub VariablesGo : Context → VariableNode → Scope → List Variable → List FamilyPlace → ℕ → ℕ → List FamilyPlace → Type 0
VariablesGo K node s all places start now rest =
    (after : List Variable) → VariablesOf K node (places_of s rest) (take now all) after
    → VariablesOf K node (places_of s places) (take start all) after

pub variables_step : (K : Context) (node : VariableNode) (s : Scope) (all : List Variable) (places rest others : List FamilyPlace)
    (p : FamilyPlace) (start now next : ℕ) (name : List ℕ) (z : ℤ) → VariablesGo K node s all places start now rest → rest ≡ p ∷ others
    → HasValue K (place_of s (members_of p)).scope node.value (Num z) → IsIndexed node.name (place_of s (members_of p)).indices name
    → slice_get all now ≡ Some (name, z) → next ≡ suc now → VariablesGo K node s all places start next others
variables_step K node s all places rest others p start now next name z go e h i there n after rule =
    let here : take next all ≡ take now all ++ ((name, z) ∷ []) = ap (λ k. take k all) n ∙ take_next all now (name, z) there in
    let left : VariablesOf K node (places_of s others) (take now all ++ ((name, z) ∷ [])) after =
    subst (λ vs. VariablesOf K node (places_of s others) vs after) here rule in
    let step : VariablesOf K node (places_of s (p ∷ others)) (take now all) after = more_variables h i left in
    go after (subst (λ ps. VariablesOf K node (places_of s ps) (take now all) after) (sym e) step)

pub variables_done : (K : Context) (node : VariableNode) (s : Scope) (all : List Variable) (places rest : List FamilyPlace)
    (start now : ℕ) → VariablesGo K node s all places start now rest → length rest ≡ 0
    → VariablesOf K node (places_of s places) (take start all) (take now all)
variables_done K node s all places rest start now go e =
    go (take now all) (rw (nil_from_length rest e) no_variables)

-- the items that are left belong after those so far
abbrev pub ItemsGo : Frame → Scope → List ItemNode → Progress → Progress → List ItemNode → Type 0
ItemsGo F s nodes start now rest = (after : Progress) → ItemsOf F s rest now after → ItemsOf F s nodes start after

pub items_step : (F : Frame) (s : Scope) (nodes rest others : List ItemNode) (node : ItemNode) (start now next : Progress)
    → ItemsGo F s nodes start now rest → rest ≡ node ∷ others → ItemOf F s node now next → ItemsGo F s nodes start next others
items_step F s nodes rest others node start now next go e one after rule =
    go after (subst (λ z. ItemsOf F s z now after) (sym e) (more_items one rule))

pub items_done : (F : Frame) (s : Scope) (nodes rest : List ItemNode) (start now : Progress) → ItemsGo F s nodes start now rest
    → length rest ≡ 0 → ItemsOf F s nodes start now
items_done F s nodes rest start now go e = go now (rw (nil_from_length rest e) no_items)

-- the members that are left belong after those so far
abbrev pub CopiesGo : Frame → Scope → Binder → List ItemNode → List ℤ → Progress → Progress → List ℤ → Type 0
CopiesGo F s b nodes members start now rest =
    (after : Progress) → CopiesOf F s b nodes rest now after → CopiesOf F s b nodes members start after

pub copies_step : (F : Frame) (s : Scope) (b : Binder) (nodes : List ItemNode) (members rest others : List ℤ) (m : ℤ)
    (start now next : Progress) → CopiesGo F s b nodes members start now rest → rest ≡ m ∷ others
    → ItemsOf F (Member (out-Binder b).member m s) nodes now next → CopiesGo F s b nodes members start next others
copies_step F s b nodes members rest others m start now next go e one after rule =
    go after (subst (λ z. CopiesOf F s b nodes z now after) (sym e) (more_copies one rule))

pub copies_done : (F : Frame) (s : Scope) (b : Binder) (nodes : List ItemNode) (members rest : List ℤ) (start now : Progress)
    → CopiesGo F s b nodes members start now rest → length rest ≡ 0 → CopiesOf F s b nodes members start now
copies_done F s b nodes members rest start now go e = go now (rw (nil_from_length rest e) no_copies)

-- the processes that are left belong after those so far
abbrev pub ProcessesGo : List Definition → List (List ℕ) → ℕ → ProcessNode → Scope → List FamilyPlace → ModelProgress → ModelProgress
    → List FamilyPlace → Type 0
ProcessesGo D names n node s places start now rest =
    (after : ModelProgress) → ProcessesOf D names n node (places_of s rest) now after
    → ProcessesOf D names n node (places_of s places) start after

pub processes_step : (D : List Definition) (names : List (List ℕ)) (n : ℕ) (node : ProcessNode) (s : Scope)
    (places rest others : List FamilyPlace) (p : FamilyPlace) (start now next : ModelProgress) (q : tree.Process) (copy : Copy)
    → ProcessesGo D names n node s places start now rest → rest ≡ p ∷ others
    → ProcessOf D names n node (place_of s (members_of p)) now.constants next.constants q copy
    → next.processes ≡ now.processes ++ (q ∷ []) → next.copies ≡ now.copies ++ (copy ∷ [])
    → ProcessesGo D names n node s places start next others
processes_step D names n node s places rest others p start now next q copy go e one more known after rule =
    let left : ProcessesOf D names n node (places_of s others)
    (record { constants = next.constants; processes = now.processes ++ (q ∷ []); copies = now.copies ++ (copy ∷ []) }) after =
    subst
    (λ z. ProcessesOf D names n node (places_of s others)
    (record { constants = next.constants; processes = z; copies = now.copies ++ (copy ∷ []) }) after) more
    (subst
    (λ z. ProcessesOf D names n node (places_of s others) (record { constants = next.constants; processes = next.processes; copies = z }) after)
    known rule) in
    let step : ProcessesOf D names n node (places_of s (p ∷ others)) now after = more_processes one left in
    go after (subst (λ ps. ProcessesOf D names n node (places_of s ps) now after) (sym e) step)

pub processes_done : (D : List Definition) (names : List (List ℕ)) (n : ℕ) (node : ProcessNode) (s : Scope) (places rest : List FamilyPlace)
    (start now : ModelProgress) → ProcessesGo D names n node s places start now rest → length rest ≡ 0
    → ProcessesOf D names n node (places_of s places) start now
processes_done D names n node s places rest start now go e = go now (rw (nil_from_length rest e) no_processes)

-- the declarations that are left, from the one of a number on, belong after those so far
abbrev pub DeclarationsGo : List Definition → List (List ℕ) → List DeclarationNode → ModelProgress → ModelProgress → ℕ
    → List DeclarationNode → Type 0
DeclarationsGo D names nodes start now n rest =
    (after : ModelProgress) → DeclarationsOf D names n rest now after → DeclarationsOf D names 0 nodes start after

pub declarations_step : (D : List Definition) (names : List (List ℕ)) (nodes rest others : List DeclarationNode) (node : DeclarationNode)
    (start now next : ModelProgress) (n m : ℕ) → DeclarationsGo D names nodes start now n rest → rest ≡ node ∷ others
    → DeclarationOf D names n node now next → m ≡ suc n → DeclarationsGo D names nodes start next m others
declarations_step D names nodes rest others node start now next n m go e one more after rule =
    let left : DeclarationsOf D names (suc n) others next after = subst (λ z. DeclarationsOf D names z others next after) more rule in
    go after (subst (λ z. DeclarationsOf D names n z now after) (sym e) (more_declarations one left))

pub declarations_done : (D : List Definition) (names : List (List ℕ)) (nodes rest : List DeclarationNode) (start now : ModelProgress) (n : ℕ)
    → DeclarationsGo D names nodes start now n rest → length rest ≡ 0 → DeclarationsOf D names 0 nodes start now
declarations_done D names nodes rest start now n go e = go now (rw (nil_from_length rest e) no_declarations)
