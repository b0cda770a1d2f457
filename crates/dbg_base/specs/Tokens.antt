-- The tokens of a program text, each with the offset of its first byte, and the faults of a text without tokens.
use Rattle.std.specs.Prelude.{◌≡◌, ℕ, ◌+◌, ◌-◌, ◌^◌, ◌<◌, ◌≤◌, Bool, false, ◌&&◌, ◌||◌, ◌==◌, List, [], ◌∷◌, ◌++◌, length, nat_le, IsTrue}
use Rattle.std.specs.Prelude.{codes}
use Rattle.std.specs.List.{list_all, AllByRecursion}
use Rattle.std.specs.Str.Parse.{digits_value}
use Rattle.dbg_base.specs.declared.limits.TheConstants.{NAME_BYTES, OPEN_PARENTHESES, INPUT_BYTES}
use Rattle.dbg_base.specs.declared.sign.Sign.{Sign}
use Rattle.dbg_base.specs.declared.sign.Sign.TheVariants.{OpenBrace, CloseBrace, OpenParenthesis, CloseParenthesis, Semicolon, Colon}
use Rattle.dbg_base.specs.declared.sign.Sign.TheVariants.{Becomes, Comma, Equals, NotEquals, LessThan, AtMost, GreaterThan, AtLeast, Plus}
use Rattle.dbg_base.specs.declared.sign.Sign.TheVariants.{Minus, Star, Slash, Percent}
use Rattle.dbg_base.specs.declared.fault.ProgFault.{ProgFault}
use Rattle.dbg_base.specs.declared.fault.FaultKind.{FaultKind}
use Rattle.dbg_base.specs.declared.fault.FaultKind.TheVariants as fault

-- a word, a number or a sign
pub data Token : Type 0 where
  Word : (bytes : List ℕ) → Token
  Number : (value : ℕ) → Token
  Symbol : (sign : Sign) → Token

-- a token with the offset of its first byte
pub record Placed : Type 0 where
  pub at : ℕ
  pub token : Token

-- the bytes of a sign
abbrev pub sign_bytes : Sign → List ℕ
sign_bytes OpenBrace = codes "{"
sign_bytes CloseBrace = codes "}"
sign_bytes OpenParenthesis = codes "("
sign_bytes CloseParenthesis = codes ")"
sign_bytes Semicolon = codes ";"
sign_bytes Colon = codes ":"
sign_bytes Becomes = codes ":="
sign_bytes Comma = codes ","
sign_bytes Equals = codes "="
sign_bytes NotEquals = codes "!="
sign_bytes LessThan = codes "<"
sign_bytes AtMost = codes "<="
sign_bytes GreaterThan = codes ">"
sign_bytes AtLeast = codes ">="
sign_bytes Plus = codes "+"
sign_bytes Minus = codes "-"
sign_bytes Star = codes "*"
sign_bytes Slash = codes "/"
sign_bytes Percent = codes "%"

-- a blank, a tab, a line end or a carriage return, which separate tokens and have no other meaning
abbrev pub is_space : ℕ → Bool
is_space b = (b == 32) || (b == 9) || (b == 10) || (b == 13)

-- `a` to `z`
abbrev pub is_letter : ℕ → Bool
is_letter b = nat_le 97 b && nat_le b 122

-- `0` to `9`
abbrev pub is_digit : ℕ → Bool
is_digit b = nat_le 48 b && nat_le b 57

-- a letter, a digit or `_`
abbrev pub is_word_byte : ℕ → Bool
is_word_byte b = is_letter b || is_digit b || (b == 95)

-- a letter, and then letters, digits and `_`
abbrev pub is_word : List ℕ → Bool
is_word [] = false
is_word (b ∷ bytes) = is_letter b && list_all is_word_byte bytes

-- one digit or more
abbrev pub is_numeral : List ℕ → Bool
is_numeral [] = false
is_numeral (b ∷ bytes) = is_digit b && list_all is_digit bytes

-- these bytes are the text of the token; a number may have leading zeros
abbrev pub Spells : Token → List ℕ → Type 0
Spells (Word word) bytes = (bytes ≡ word) × IsTrue (is_word word)
Spells (Number value) bytes = IsTrue (is_numeral bytes) × (value ≡ digits_value 10 bytes)
Spells (Symbol sign) bytes = bytes ≡ sign_bytes sign

-- no longer prefix of the same text is the text of a token
abbrev pub IsLongest : List ℕ → List ℕ → Type 0
IsLongest piece rest =
    (longer more : List ℕ) (other : Token) → Spells other longer → longer ++ more ≡ piece ++ rest → length longer ≤ length piece

-- From the offset `at` on the text begins with these tokens, each the longest at its offset, with spaces before and between them. `rest`,
-- at the offset `end`, is the text after them and after some of the spaces that follow.
abbrev pub BeginsWith : ℕ → List ℕ → List Placed → ℕ → List ℕ → Type 0
BeginsWith at text [] end rest =
    (gap : List ℕ) × IsTrue (list_all is_space gap) × (text ≡ gap ++ rest) × (end ≡ at + length gap)
BeginsWith at text (p ∷ tokens) end rest =
    (gap piece more : List ℕ) × IsTrue (list_all is_space gap) × (text ≡ gap ++ piece ++ more) × (p.at ≡ at + length gap)
    × Spells p.token piece × IsLongest piece more × BeginsWith (p.at + length piece) more tokens end rest

-- a word is within the length of a name, and a number is at most the largest signed number of 64 bits
abbrev pub IsWithinLimits : Token → Type 0
IsWithinLimits (Word bytes) = length bytes ≤ NAME_BYTES
IsWithinLimits (Number value) = value < 2 ^ 63
IsWithinLimits (Symbol sign) = Unit {0}

-- how many parentheses are open after a token; the count never goes below 0
abbrev pub still_open : ℕ → Token → ℕ
still_open depth (Symbol OpenParenthesis) = depth + 1
still_open depth (Symbol CloseParenthesis) = depth - 1
still_open depth token = depth

-- the same after several tokens
abbrev pub open_after : ℕ → List Placed → ℕ
open_after depth [] = depth
open_after depth (p ∷ tokens) = open_after (still_open depth p.token) tokens

-- the number of open parentheses is always within its limit
abbrev pub StaysShallow : ℕ → List Placed → Type 0
StaysShallow depth [] = Unit {0}
StaysShallow depth (p ∷ tokens) = (still_open depth p.token ≤ OPEN_PARENTHESES) × StaysShallow (still_open depth p.token) tokens

-- tokens that meet the limits
abbrev pub AreWithinLimits : List Placed → Type 0
AreWithinLimits tokens = AllByRecursion (λ p. IsWithinLimits p.token) tokens × StaysShallow 0 tokens

-- these are the text's tokens
abbrev pub HasTokens : List ℕ → List Placed → Type 0
HasTokens text tokens =
    (length text ≤ INPUT_BYTES) × BeginsWith 0 text tokens (length text) [] × AreWithinLimits tokens

-- the first byte is not a space
abbrev pub BeginsWithNoSpace : List ℕ → Type 0
BeginsWithNoSpace [] = ⊥
BeginsWithNoSpace (b ∷ bytes) = is_space b ≡ false

-- the bytes do not begin with a token
abbrev pub BeginsWithNoToken : List ℕ → Type 0
BeginsWithNoToken bytes = (piece more : List ℕ) (token : Token) → Spells token piece → bytes ≡ piece ++ more → ⊥

-- the longest token at the beginning exceeds its limit
abbrev pub BeginsWithTooLarge : List ℕ → Type 0
BeginsWithTooLarge bytes =
    (piece more : List ℕ) × (token : Token) × Spells token piece × IsLongest piece more × (bytes ≡ piece ++ more) × ¬ IsWithinLimits token

-- a parenthesis opens at the beginning while the limit of open parentheses is reached
abbrev pub OpensTooDeep : ℕ → List ℕ → Type 0
OpensTooDeep depth bytes = (depth ≡ OPEN_PARENTHESES) × (more : List ℕ) × (bytes ≡ sign_bytes OpenParenthesis ++ more)

-- the fault at the beginning, while so many parentheses are open
abbrev pub FaultsBefore : FaultKind → ℕ → List ℕ → Type 0
FaultsBefore fault.Byte depth bytes = BeginsWithNoSpace bytes × BeginsWithNoToken bytes
FaultsBefore fault.Token depth bytes = BeginsWithTooLarge bytes
FaultsBefore fault.Limit depth bytes = OpensTooDeep depth bytes
FaultsBefore kind depth bytes = ⊥

-- the first fault of the tokens: the tokens before it have none
abbrev pub IsTokenFault : List ℕ → ProgFault → Type 0
IsTokenFault text found =
    (tokens : List Placed) × (rest : List ℕ) × BeginsWith 0 text tokens found.at rest × AreWithinLimits tokens
    × FaultsBefore found.kind (open_after 0 tokens) rest
