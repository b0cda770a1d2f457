-- Tokens of the code as those of the model, and what one step of the lexer does.
use Rattle.std.specs.Prelude.{◌≡◌, ℕ, ◌+◌, ◌≤◌, List, ◌++◌, length, take, drop, IsTrue, Result, Ok, Err, ◌⊎◌, ◌<◌}
use Rattle.std.specs.List.{list_all}
use Rattle.std.specs.Str.Parse.{digits_value}
use Rattle.dbg_base.specs.declared.sign.Sign.TheVariants as sign
use Rattle.dbg_base.specs.Tokens as model
use Rattle.dbg_base.specs.Tokens.{Spells, IsLongest, IsWithinLimits, is_space, sign_bytes, still_open, BeginsWithNoToken}
use Rattle.dbg_base.specs.Tokens.{BeginsWithTooLarge, FaultsBefore, IsTokenFault}
use Rattle.dbg_base.specs.declared.limits.TheConstants.{INPUT_BYTES, OPEN_PARENTHESES}
use Rattle.dbg_base.specs.declared.fault.ProgFault.{ProgFault}
use Rattle.proc_lang.specs.declared.fault.ProgError.{ProgError}
use Rattle.proc_lang.specs.declared.fault.ProgError.TheVariants.{Bad, Memory}
use Rattle.dbg_base.specs.declared.fault.FaultKind.{FaultKind}
use Rattle.dbg_base.specs.declared.fault.FaultKind.TheVariants.{Byte}
use Rattle.dbg_base.specs.declared.fault.FaultKind.TheVariants as fault
use Rattle.dbg_base.specs.declared.sign.Sign.{Sign}
use Rattle.proc_lang.specs.declared.token.Token.{Token}
use Rattle.proc_lang.specs.declared.token.Token.TheVariants.{Word, Number, Symbol}
use Rattle.proc_lang.specs.declared.token.Placed.{Placed}
use Rattle.proc_lang.specs.declared.scan.TokenKind.{TokenKind}
use Rattle.proc_lang.specs.declared.scan.TokenKind.TheVariants as kind
use Rattle.proc_lang.specs.declared.scan.ScannedToken.{ScannedToken}

abbrev pub token_of : Token → model.Token
token_of (Word name) = model.Word name
token_of (Number number) = model.Number number.value
token_of (Symbol sign) = model.Symbol sign

abbrev pub placed_of : Placed → model.Placed
placed_of p = record { at = p.at; token = token_of p.token }

-- these bytes are not the text of a sign
abbrev pub IsNoSign : List ℕ → Type 0
IsNoSign bytes = (sign : Sign) → sign_bytes sign ≡ bytes → ⊥

-- the bytes do not begin with a sign
abbrev pub BeginsWithNoSign : List ℕ → Type 0
BeginsWithNoSign bytes = (sign : Sign) (more : List ℕ) → sign_bytes sign ++ more ≡ bytes → ⊥

-- the token of so many bytes begins the bytes, and no longer one does
pub record IsBefore (token : model.Token) (n : ℕ) (bytes : List ℕ) : Type 0 where
  pub within : n ≤ length bytes
  pub spelled : Spells token (take n bytes)
  pub longest : IsLongest (take n bytes) (drop n bytes)

-- the sign begins the bytes, and no longer one does
pub record IsSignBefore (sign : Sign) (n : ℕ) (bytes : List ℕ) : Type 0 where
  pub within : n ≤ length bytes
  pub spelled : take n bytes ≡ sign_bytes sign
  pub longest : (other : Sign) (more : List ℕ) → sign_bytes other ++ more ≡ bytes → length (sign_bytes other) ≤ n

-- the token of these bytes, by its kind
abbrev pub token_by : TokenKind → List ℕ → model.Token
token_by kind.Word bytes = model.Word bytes
token_by kind.Number bytes = model.Number (digits_value 10 bytes)
token_by (kind.Symbol sign) bytes = model.Symbol sign

abbrev pub token_in : ScannedToken → List ℕ → model.Token
token_in piece bytes = token_by piece.kind (take piece.length bytes)

-- the piece is a sign that begins the bytes
abbrev pub IsSignPiece : ScannedToken → List ℕ → Type 0
IsSignPiece piece bytes = (sign : Sign) × (piece.kind ≡ kind.Symbol sign) × IsSignBefore sign piece.length bytes

-- the token begins the bytes, has so many bytes and is within its limit
abbrev pub IsPrefixToken : Token → ℕ → List ℕ → Type 0
IsPrefixToken token n bytes = IsBefore (token_of token) n bytes × IsWithinLimits (token_of token)

-- the kind of the fault at the beginning
abbrev pub IsPrefixFault : FaultKind → List ℕ → Type 0
IsPrefixFault Byte bytes = BeginsWithNoToken bytes
IsPrefixFault fault.Token bytes = BeginsWithTooLarge bytes
IsPrefixFault kind bytes = ⊥

-- The lexer had `left` left of the text, at this offset and with so many parentheses open. It skipped spaces, passed a token, and has
-- `rest` left.
pub record TakesToken (left : List ℕ) (at depth : ℕ) (p : model.Placed) (rest : List ℕ) (end beyond : ℕ) : Type 0 where
  pub gap : List ℕ
  pub piece : List ℕ
  pub spaces : IsTrue (list_all is_space gap)
  pub whole : left ≡ gap ++ piece ++ rest
  pub place : p.at ≡ at + length gap
  pub spelled : Spells p.token piece
  pub longest : IsLongest piece rest
  pub within : IsWithinLimits p.token
  pub passed : end ≡ p.at + length piece
  pub counted : beyond ≡ still_open depth p.token
  pub shallow : beyond ≤ OPEN_PARENTHESES

-- there the lexer skipped spaces and met a fault
pub record MeetsFault (left : List ℕ) (at depth : ℕ) (found : ProgFault) : Type 0 where
  pub gap : List ℕ
  pub rest : List ℕ
  pub spaces : IsTrue (list_all is_space gap)
  pub whole : left ≡ gap ++ rest
  pub place : found.at ≡ at + length gap
  pub faults : FaultsBefore found.kind depth rest

-- the parentheses that are open after a token were counted, or they are too many
abbrev pub Counts : ℕ → model.Token → ℕ → Result (Unit {0}) ProgFault → ℕ → Type 0
Counts depth token at (Ok done) beyond = (beyond ≡ still_open depth token) × (beyond ≤ OPEN_PARENTHESES)
Counts depth token at (Err found) beyond =
    (found ≡ record { kind = fault.Limit; at = at }) × (token ≡ model.Symbol sign.OpenParenthesis) × (depth ≡ OPEN_PARENTHESES)

-- why a text has no tokens, unless memory ran out
abbrev pub HasNoTokens : List ℕ → ProgError → Type 0
HasNoTokens text Memory = Unit {0}
HasNoTokens text (Bad found) =
    ((INPUT_BYTES < length text) × (found ≡ record { kind = fault.Limit; at = INPUT_BYTES }))
    ⊎ ((length text ≤ INPUT_BYTES) × IsTokenFault text found)
