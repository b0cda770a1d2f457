-- Names: their bytes in memory, padded with zeros to the longest length, and the position of a name in a list.
use Rattle.std.specs.Prelude.{◌≡◌, ℕ, ◌+◌, ◌-◌, ◌≤◌, Bool, List, [], ◌∷◌, ◌++◌, length, take, replicate, Option, Some, None, if◌then◌else◌}
use Rattle.std.specs.List.{list_any}
use Rattle.std.specs.Str.{bytes_eq}
use Rattle.dbg_base.specs.declared.limits.TheConstants.{NAME_BYTES}

-- the bytes of the name, then zeros
abbrev pub padded_name : List ℕ → List ℕ
padded_name bytes = bytes ++ replicate (NAME_BYTES - length bytes) 0

-- the first `len` bytes are the name, at least one, and the others are 0
pub record IsPadded (bytes : List ℕ) (len : ℕ) : Type 0 where
  pub some : 1 ≤ len
  pub few : len ≤ NAME_BYTES
  pub whole : length bytes ≡ NAME_BYTES
  pub zeros : bytes ≡ padded_name (take len bytes)

-- the position of the first of these names that equals the given one, if the first name has the position `first`
abbrev pub place_from : ℕ → List ℕ → List (List ℕ) → Option ℕ
place_from first name [] = None
place_from first name (n ∷ names) = if bytes_eq n name then Some first else place_from (first + 1) name names

-- the position of the first of these names that equals the given one, from 0, or none
abbrev pub place_of : List ℕ → List (List ℕ) → Option ℕ
place_of = place_from 0

-- whether the name is among these
abbrev pub is_among : List ℕ → List (List ℕ) → Bool
is_among name names = list_any (bytes_eq name) names
