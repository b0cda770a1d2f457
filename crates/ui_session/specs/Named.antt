-- What a session in the model notation shows for a reply: the line of a run, with the names that the author gave.
use Rattle.std.specs.Prelude.{◌≡◌, ◌<◌, ◌⊎◌, ◌==◌, ℕ, ℤ, nat_lt, Bool, true, false, not, List, [], ◌∷◌, ◌++◌, length, codes, if◌then◌else◌}
use Rattle.std.specs.List.{flat_map, list_all}
use Rattle.std.specs.Fmt.{decimal, signed_decimal}
use Rattle.dbg_base.specs.Tokens.{is_word_byte}
use Rattle.shell_serve.specs.Sessions.{Showing, exactly}

-- The text with plain names: `server[3]` becomes `server_3`.
abbrev pub plain_byte : ℕ → List ℕ
plain_byte byte = if byte == 93 then [] else if byte == 91 then 95 ∷ [] else byte ∷ []

abbrev pub plain_text : List ℕ → List ℕ
plain_text text = flat_map plain_byte text

-- the text before the number of the command, in the reply to one that made or undid an event
abbrev pub IsHead : List ℕ → Type 0
IsHead head = (name : List ℕ) × (list_all is_word_byte name ≡ true) × (head ≡ codes "ok " ++ name ++ codes " ")

-- a byte that is neither a blank nor a line end
abbrev pub is_ink : ℕ → Bool
is_ink byte = nat_lt 32 byte

-- the line of a run with the author's names, and with a label, which is one word, in place of the number of the command
pub record IsLabelled (due shown : List ℕ) : Type 0 where
  pub before : List ℕ
  pub label : List ℕ
  pub after : List ℕ
  pub choice : ℕ
  pub head : IsHead (plain_text before)
  pub some : 0 < length label
  pub word : list_all is_ink label ≡ true
  pub reads : due ≡ plain_text before ++ (decimal choice ++ plain_text after)
  pub shows : shown ≡ before ++ (label ++ after)

-- a word ends here: before a blank or a line end
abbrev pub is_word_end : List ℕ → Bool
is_word_end [] = false
is_word_end (byte ∷ bytes) = not (is_ink byte)

-- its last byte is this one
abbrev pub EndsIn : ℕ → List ℕ → Type 0
EndsIn byte text = (front : List ℕ) × (text ≡ front ++ byte ∷ [])

-- a whole word that is after this byte
pub record IsWordAfter (mark : ℕ) (before word after : List ℕ) : Type 0 where
  pub marked : EndsIn mark before
  pub some : 0 < length word
  pub whole : list_all is_ink word ≡ true
  pub ends : is_word_end after ≡ true

-- A text from any place on, and the same with the author's names, and with words in place of some of the numbers after this byte.
pub data HasWords (mark : ℕ) : List ℕ → List ℕ → Type 0 where
  Plainly : (text : List ℕ) → HasWords mark (plain_text text) text
  InPlaceOf : (value : ℤ) (before word : List ℕ) {due shown : List ℕ} → IsWordAfter mark before word shown → HasWords mark due shown
      → HasWords mark (plain_text before ++ (signed_decimal value ++ due)) (before ++ (word ++ shown))

-- The line shows the values of variables, which are after `=`, or the messages of a channel, which are after blanks.
abbrev pub HasValuesAfter : List ℕ → ℕ → Type 0
HasValuesAfter line mark = ((rest : List ℕ) × (line ≡ codes "vars " ++ rest) × (mark ≡ 61))
    ⊎ ((rest : List ℕ) × (line ≡ codes "chan " ++ rest) × (mark ≡ 32))

-- the line of a run that shows values, with the author's names, and with words in place of some of the values
pub record HasValueWords (due shown : List ℕ) : Type 0 where
  pub mark : ℕ
  pub values : HasValuesAfter due mark
  pub words : HasWords mark due shown

-- the line of a run, or the same with the author's names
abbrev pub named : Showing
named due shown = (shown ≡ due) ⊎ (plain_text shown ≡ due) ⊎ IsLabelled due shown ⊎ HasValueWords due shown

-- how replies are shown, in a session that is in the notation or is not
abbrev pub showing : Bool → Showing
showing true = named
showing false = exactly
