-- Places of families, one range and one member after another.
use Rattle.std.proofs.Common.{◌≡◌, ℕ, ℤ, pos, List, [], ◌∷◌, ◌++◌, length, map, refl, sym, ap, ◌∙◌, subst, append_assoc}
use Rattle.std.proofs.lemmas.List.{append-nil, nil_from_length, map-append}
use Rattle.notation_tree.specs.declared.syntax.Binder.{Binder, out-Binder}
use Rattle.notation_meaning.specs.declared.scopes.MemberHere.{MemberHere}
use Rattle.notation_meaning.specs.declared.families.FamilyPlace.{FamilyPlace}
use Rattle.notation_meaning.specs.ModelScopes.{Context, Scope, Member}
use Rattle.notation_meaning.specs.ModelValues.{HasMembers}
use Rattle.notation_meaning.specs.ModelFamilies.{Place, place_of_member, PlacesOfRange, no_places, more_places, PlacesOf, no_ranges, more_ranges}
use Rattle.notation_meaning.specs.ModelFamilies.{IsIndexed, not_indexed, once_more}
use Rattle.notation_meaning.specs.PlainExpressions.{indexed}
use Rattle.notation_meaning.specs.AgreementViews.{with_members, place_of, places_of, members_of, longer_members}

-- the members that are left belong after the name so far
abbrev pub NameGoes : List ℕ → List MemberHere → List ℕ → List MemberHere → Type 0
NameGoes name members now rest =
    (whole : List ℕ) → IsIndexed now (map (λ m. m.value) rest) whole → IsIndexed name (map (λ m. m.value) members) whole

pub name_step : (name now longer : List ℕ) (members rest others : List MemberHere) (m : MemberHere) (n : ℕ)
    → NameGoes name members now rest → rest ≡ m ∷ others → m.value ≡ pos n → longer ≡ indexed now n → NameGoes name members longer others
name_step name now longer members rest others m n go e v l whole h =
    let there : IsIndexed (indexed now n) (map (λ m. m.value) others) whole =
    subst (λ z. IsIndexed z (map (λ m. m.value) others) whole) l h in
    let step : IsIndexed now (m.value ∷ map (λ m. m.value) others) whole =
    subst (λ z. IsIndexed now (z ∷ map (λ m. m.value) others) whole) (sym v) (once_more there) in
    go whole (subst (λ z. IsIndexed now (map (λ m. m.value) z) whole) (sym e) step)

pub name_done : (name now : List ℕ) (members rest : List MemberHere) → NameGoes name members now rest → length rest ≡ 0
    → IsIndexed name (map (λ m. m.value) members) now
name_done name now members rest go e = go now (rw (nil_from_length rest e) not_indexed)

pub members_more : (ms : List MemberHere) (m : MemberHere) (s : Scope)
    → with_members (ms ++ (m ∷ [])) s ≡ Member m.member m.value (with_members ms s)
members_more [] m s = refl
members_more (k ∷ ms) m s = members_more ms m (Member k.member k.value s)

-- a place with one member more
pub place_more : (ms : List MemberHere) (number : ℕ) (z : ℤ) (s : Scope)
    → place_of s (ms ++ (record { member = number; value = z } ∷ [])) ≡ place_of_member number (place_of s ms) z
place_more ms number z s =
    let m : MemberHere = record { member = number; value = z } in
    rw (members_more ms m s, map-append (λ (k : MemberHere). k.value) ms (m ∷ [])) refl

pub places_more : (ms : List MemberHere) (number : ℕ) (s : Scope) (values : List ℤ)
    → map (place_of s) (longer_members ms number values) ≡ map (place_of_member number (place_of s ms)) values
places_more ms number s [] = refl
places_more ms number s (z ∷ values) =
    rw (place_more ms number z s, places_more ms number s values) refl

pub places_are : (s : Scope) (places : List FamilyPlace) → places_of s places ≡ map (place_of s) (map members_of places)
places_are s [] = refl
places_are s (p ∷ places) = ap (λ ps. place_of s (members_of p) ∷ ps) (places_are s places)

-- the places that are left belong after those found so far
abbrev pub PlacesGo : Context → Binder → Scope → List FamilyPlace → List FamilyPlace → List FamilyPlace → Type 0
PlacesGo K b s places found rest =
    (longer : List Place) → PlacesOfRange K b (places_of s rest) longer → PlacesOfRange K b (places_of s places) (places_of s found ++ longer)

pub places_step : (K : Context) (b : Binder) (s : Scope) (places found longer rest others : List FamilyPlace) (p : FamilyPlace)
    (values : List ℤ) → PlacesGo K b s places found rest → rest ≡ p ∷ others → HasMembers K (with_members (members_of p) s) b values
    → map members_of longer ≡ map members_of found ++ longer_members (members_of p) (out-Binder b).member values
    → PlacesGo K b s places longer others
places_step K b s places found longer rest others p values go e h l more rule =
    let number : ℕ = (out-Binder b).member in
    let first : List Place = map (place_of_member number (place_of s (members_of p))) values in
    let step : PlacesOfRange K b (places_of s (p ∷ others)) (first ++ more) = more_places h rule in
    let whole : PlacesOfRange K b (places_of s places) (places_of s found ++ (first ++ more)) =
    go (first ++ more) (subst (λ z. PlacesOfRange K b (places_of s z) (first ++ more)) (sym e) step) in
    let now : places_of s longer ≡ places_of s found ++ first =
    places_are s longer ∙ ap (map (place_of s)) l ∙ map-append (place_of s) (map members_of found) (longer_members (members_of p) number values)
    ∙ ap (λ z. z ++ map (place_of s) (longer_members (members_of p) number values)) (sym (places_are s found))
    ∙ ap (λ z. places_of s found ++ z) (places_more (members_of p) number s values) in
    let same : places_of s found ++ (first ++ more) ≡ places_of s longer ++ more =
    sym (append_assoc (places_of s found) first more) ∙ ap (λ z. z ++ more) (sym now) in
    subst (λ z. PlacesOfRange K b (places_of s places) z) same whole

pub places_done : (K : Context) (b : Binder) (s : Scope) (places found rest : List FamilyPlace) → PlacesGo K b s places found rest
    → length rest ≡ 0 → PlacesOfRange K b (places_of s places) (places_of s found)
places_done K b s places found rest go e =
    let none : PlacesOfRange K b (places_of s rest) [] = rw (nil_from_length rest e) no_places in
    rw append-nil at (go [] none)

-- the ranges that are left belong after the places so far
abbrev pub RangesGo : Context → List Place → List Binder → List Place → List Binder → Type 0
RangesGo K start ranges now rest = (whole : List Place) → PlacesOf K now rest whole → PlacesOf K start ranges whole

pub ranges_step : (K : Context) (start now longer : List Place) (ranges rest others : List Binder) (b : Binder)
    → RangesGo K start ranges now rest → rest ≡ b ∷ others → PlacesOfRange K b now longer → RangesGo K start ranges longer others
ranges_step K start now longer ranges rest others b go e h whole rule =
    go whole (subst (λ z. PlacesOf K now z whole) (sym e) (more_ranges h rule))

pub ranges_done : (K : Context) (start now : List Place) (ranges rest : List Binder) → RangesGo K start ranges now rest → length rest ≡ 0
    → PlacesOf K start ranges now
ranges_done K start now ranges rest go e = go now (rw (nil_from_length rest e) no_ranges)
