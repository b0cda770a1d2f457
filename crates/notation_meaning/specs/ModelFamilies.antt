-- The places of a model at which the members of a family are meant.
use Rattle.std.specs.Prelude.{ℕ, ℤ, pos, List, [], ◌∷◌, ◌++◌, map}
use Rattle.notation_tree.specs.declared.syntax.Binder.{Binder, out-Binder}
use Rattle.notation_meaning.specs.ModelScopes.{Context, Scope, Member}
use Rattle.notation_meaning.specs.ModelValues.{HasMembers}
use Rattle.notation_meaning.specs.PlainExpressions.{indexed}

-- a place: its scope, and the values of the members of the ranges of the family, which are the indices of the name
pub record Place : Type 0 where
  pub scope : Scope
  pub indices : List ℤ

-- the place of something that is in no family yet
abbrev pub place_in : Scope → Place
place_in s = record { scope = s; indices = [] }

-- the place for a member of one more range
abbrev pub place_of_member : ℕ → Place → ℤ → Place
place_of_member number place value = record { scope = Member number value place.scope; indices = place.indices ++ (value ∷ []) }

-- the places for the members of one more range, in order
pub data PlacesOfRange (K : Context) (b : Binder) : List Place → List Place → Type 0 where
  no_places : PlacesOfRange K b [] []
  more_places : {place : Place} {places longer : List Place} {ms : List ℤ} → HasMembers K place.scope b ms
      → PlacesOfRange K b places longer
      → PlacesOfRange K b (place ∷ places) (map (place_of_member (out-Binder b).member place) ms ++ longer)

-- the places for the members of these ranges, in order: those of the first range vary slowest
pub data PlacesOf (K : Context) : List Place → List Binder → List Place → Type 0 where
  no_ranges : {places : List Place} → PlacesOf K places [] places
  more_ranges : {places longer whole : List Place} {b : Binder} {ranges : List Binder} → PlacesOfRange K b places longer
      → PlacesOf K longer ranges whole → PlacesOf K places (b ∷ ranges) whole

-- the name of a member of a family: the name, and after it each index, which is not below 0
pub data IsIndexed : List ℕ → List ℤ → List ℕ → Type 0 where
  not_indexed : {name : List ℕ} → IsIndexed name [] name
  once_more : {name whole : List ℕ} {n : ℕ} {indices : List ℤ} → IsIndexed (indexed name n) indices whole
      → IsIndexed name (pos n ∷ indices) whole
