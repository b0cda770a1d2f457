-- The first fault of a whole from those of its parts, and positions of names.
use Rattle.std.proofs.Common.{◌≡◌, ℕ, ◌+◌, ◌<◌, Bool, true, false, cond, not, ◌||◌, List, [], ◌∷◌, ◌++◌, length, Option, Some, None, refl}
use Rattle.std.proofs.Common.{sym, ap, ◌∙◌, subst}
use Rattle.std.specs.Prelude.{unwrap_or, slice_get, Result, Err}
use Rattle.std.specs.Option.{is_some}
use Rattle.std.specs.List.{position, position_from}
use Rattle.std.specs.Str.{bytes_eq}
use Rattle.std.proofs.lemmas.Cmp.{nat_list_eq_equiv}
use Rattle.std.proofs.lemmas.Iterator.Adapters.{position_from-zero}
use Rattle.std.proofs.lemmas.List.Quantifiers.{position-Some}
use Rattle.dbg_base.specs.Names.{place_from, place_of, is_among}
use Rattle.dbg_base.specs.declared.fault.FaultKind.TheVariants.{NameUnknown}
use Rattle.dbg_base.specs.declared.fault.ProgFault.{ProgFault}
use Rattle.dbg_base.specs.Grammar.{Named}
use Rattle.dbg_base.specs.Checks.{fault_where, unknown, index_of}
use Rattle.proc_lang.specs.declared.fault.ProgError.{ProgError}
use Rattle.proc_lang.specs.declared.fault.ProgError.TheVariants.{Bad, Memory}
use Rattle.proc_lang.specs.Checking.{IsFirst, Checks}

first_of_two : (xs ys : List ProgFault) (fault : ProgFault) → slice_get xs 0 ≡ Some fault → slice_get (xs ++ ys) 0 ≡ Some fault
first_of_two [] ys fault here = absurd (let e : ◌≡◌ {A = Option ProgFault} None (Some fault) = here in cc)
first_of_two (x ∷ xs) ys fault here = here

-- the first fault of the first part is the first of the whole
pub first_left : (e : ProgError) (xs ys : List ProgFault) → IsFirst e xs → IsFirst e (xs ++ ys)
first_left (Bad fault) xs ys here = first_of_two xs ys fault here
first_left Memory xs ys here = tt

-- so is that of the second part, if the first part has none
pub first_right : (e : ProgError) (xs ys : List ProgFault) → xs ≡ [] → IsFirst e ys → IsFirst e (xs ++ ys)
first_right e xs ys none here = subst (λ (l : List ProgFault). IsFirst e (l ++ ys)) (sym none) here

-- the only fault
pub first_one : (e : ProgError) (fault : ProgFault) (faults : List ProgFault) → e ≡ Bad fault → faults ≡ fault ∷ [] → IsFirst e faults
first_one e fault faults is same =
    subst (λ (x : ProgError). IsFirst x faults) (sym is) (ap (λ (l : List ProgFault). slice_get l 0) same)

-- an error that is forwarded
pub passed_on : {X : Type 0} (r : Result X ProgError) (e : ProgError) (faults : List ProgFault) (is_so : X → Type 0)
    → (x : ProgError) × (r ≡ Err x) × (x ≡ e) → IsFirst e faults → Checks r faults is_so
passed_on {X} r e faults is_so passed first =
    subst (λ (q : Result X ProgError). Checks q faults is_so) (sym (passed.1 ∙ ap (λ (x : ProgError). Err x) passed.2)) first

-- no fault in either part
pub none_in_both : (xs ys : List ProgFault) → xs ≡ [] → ys ≡ [] → xs ++ ys ≡ []
none_in_both xs ys first second = ap (λ (l : List ProgFault). l ++ ys) first ∙ second

among_turn : (b t : Bool) (k : ℕ) (o : Option ℕ) → t ≡ is_some o → (b || t) ≡ is_some (cond b (Some k) o)
among_turn true t k o same = refl
among_turn false t k o same = same

-- a name is among these exactly if it has a position
among_by_place : (first : ℕ) (name : List ℕ) (names : List (List ℕ)) → is_among name names ≡ is_some (place_from first name names)
among_by_place first name [] = refl
among_by_place first name (n ∷ names) =
    ap (λ (b : Bool). b || is_among name names) (nat_list_eq_equiv.symm name n)
    ∙ among_turn (bytes_eq n name) (is_among name names) first (place_from (first + 1) name names) (among_by_place (first + 1) name names)

place_from_position : (first : ℕ) (name : List ℕ) (names : List (List ℕ))
    → position_from (λ other. bytes_eq other name) first names ≡ place_from first name names
place_from_position first name [] = refl
place_from_position first name (n ∷ names) =
    ap (λ (o : Option ℕ). cond (bytes_eq n name) (Some first) o) (place_from_position (first + 1) name names)

pub place_by_position : (name : List ℕ) (names : List (List ℕ)) → position (λ other. bytes_eq other name) names ≡ place_of name names
place_by_position name names = position_from-zero (λ other. bytes_eq other name) names ∙ place_from_position 0 name names

-- a name that was found among these
pub found_there : (names : List (List ℕ)) (named : Named) (i : ℕ) → Some i ≡ position (λ other. bytes_eq other named.name) names
    → (unknown names named ≡ []) × ((i ≡ index_of names named.name) × (i < length names))
found_there names named i here =
    let place : Some i ≡ place_of named.name names = here ∙ place_by_position named.name names in
    let among : is_among named.name names ≡ true = among_by_place 0 named.name names ∙ ap is_some (sym place) in (
      ap (λ (b : Bool). fault_where (not b) NameUnknown named.at) among,
      (
        ap (λ (o : Option ℕ). unwrap_or o 0) place,
        (position-Some (λ other. bytes_eq other named.name) names i [] (sym here)).0,
      ),
    )

-- a name that was not found among these
pub found_nowhere : (names : List (List ℕ)) (named : Named) → None ≡ position (λ other. bytes_eq other named.name) names
    → unknown names named ≡ record { kind = NameUnknown; at = named.at } ∷ []
found_nowhere names named here =
    let place : None ≡ place_of named.name names = here ∙ place_by_position named.name names in
    let among : is_among named.name names ≡ false = among_by_place 0 named.name names ∙ ap is_some (sym place) in
    ap (λ (b : Bool). fault_where (not b) NameUnknown named.at) among
