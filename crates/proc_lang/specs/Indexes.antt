-- An index of names.
use Rattle.std.specs.Prelude.{◌≡◌, ℕ, List}
use Rattle.std.specs.Borrow.{Bor}
use Rattle.std.specs.Ordering.{nat_cmp}
use Rattle.std.specs.Cmp.Lexicographic.{slice_cmp}
use Rattle.std.specs.BTreeMap.{BTreeMap, get_by}
use Rattle.dbg_base.specs.Names.{place_of}

-- a look-up in the index gives the first position of each name among these, or none
abbrev pub Finds : BTreeMap (Bor (List ℕ)) ℕ → List (List ℕ) → Type 0
Finds index names = (name : List ℕ) → get_by (λ key. slice_cmp nat_cmp name key.now) index ≡ place_of name names
