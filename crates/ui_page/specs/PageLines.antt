-- The data of a page: lines, each of which is JSON.
use Rattle.std.specs.Prelude.{◌≡◌, ◌≤◌, ◌==◌, ◌&&◌, not, ℕ, Bool, true, List, [], ◌∷◌, ◌++◌, Some}
use Rattle.std.specs.List.{list_all}
use Rattle.std.specs.Str.{IsUtf8}
use Rattle.serde_json.specs.Data.{Data, depth}
use Rattle.serde_json.specs.Read.{read, max_depth}

-- the byte is neither `<` nor a line end
abbrev pub is_plain_byte : ℕ → Bool
is_plain_byte byte = not (byte == 60) && not (byte == 10)

abbrev pub is_plain : List ℕ → Bool
is_plain = list_all is_plain_byte

-- A text of JSON, in UTF-8, that is read as this value, unless the value nests deeper than a reader goes. It has no `<` and no line end.
pub record IsTextOf (value : Data) (text : List ℕ) : Type 0 where
  pub reads_back : depth value ≤ max_depth → read text ≡ Some value
  pub utf8 : IsUtf8 text
  pub plain : is_plain text ≡ true

-- the text of a value, with a line end
abbrev pub IsLineOf : Data → List ℕ → Type 0
IsLineOf value line = (text : List ℕ) × IsTextOf value text × (line ≡ text ++ 10 ∷ [])

-- lines, each of which is that of a value
pub data ArePageLines : List ℕ → Type 0 where
  no_lines : ArePageLines []
  one_more : {lines line : List ℕ} {value : Data} → ArePageLines lines → IsLineOf value line → ArePageLines (lines ++ line)
