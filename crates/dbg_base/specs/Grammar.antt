-- The grammar: which tokens derive which parsed program. A parsed program keeps the offsets that a fault may name.
use Rattle.std.specs.Prelude.{◌≡◌, ℕ, ℤ, pos, neg_ℤ, Bool, true, false, List, [], ◌∷◌, ◌++◌, codes, ◌⊎◌, IsFalse}
use Rattle.std.specs.List.{list_any}
use Rattle.std.specs.Str.{bytes_eq}
use Rattle.dbg_base.specs.declared.expr.Operator.{Operator}
use Rattle.dbg_base.specs.declared.expr.Operator.TheVariants.{Add, Subtract, Multiply, Divide, Remainder, Equal, NotEqual, Less}
use Rattle.dbg_base.specs.declared.expr.Operator.TheVariants.{LessOrEqual, Greater, GreaterOrEqual, And, Or}
use Rattle.dbg_base.specs.declared.expr.Direction.{Direction}
use Rattle.dbg_base.specs.declared.expr.Direction.TheVariants.{Sent, Got}
use Rattle.dbg_base.specs.declared.sign.Sign.{Sign}
use Rattle.dbg_base.specs.declared.sign.Sign.TheVariants.{OpenBrace, CloseBrace, OpenParenthesis, CloseParenthesis, Semicolon, Colon}
use Rattle.dbg_base.specs.declared.sign.Sign.TheVariants.{Becomes, Comma, Equals, NotEquals, LessThan, AtMost, GreaterThan, AtLeast, Plus}
use Rattle.dbg_base.specs.declared.sign.Sign.TheVariants.{Minus, Star, Slash, Percent}
use Rattle.dbg_base.specs.declared.fault.ProgFault.{ProgFault}
use Rattle.dbg_base.specs.declared.fault.FaultKind.TheVariants as fault
use Rattle.dbg_base.specs.Tokens.{Token, Word, Symbol, Placed}
use Rattle.dbg_base.specs.Tokens as token

-- a name with its offset
pub record Named : Type 0 where
  pub at : ℕ
  pub name : List ℕ

-- an expression, with the offset of each part
pub data Phrase : Type 0 where
  Number : (at value : ℕ) → Phrase
  Name : (at : ℕ) (name : List ℕ) → Phrase
  Truth : (at : ℕ) (value : Bool) → Phrase
  Count : (at : ℕ) (direction : Direction) (other : Named) → Phrase
  Not : (at : ℕ) (operand : Phrase) → Phrase
  Negate : (at : ℕ) (operand : Phrase) → Phrase
  Binary : (at : ℕ) (operator : Operator) (left right : Phrase) → Phrase

pub record WrittenVariable : Type 0 where
  pub name : Named
  pub start : ℤ

pub data WrittenAction : Type 0 where
  Local : WrittenAction
  Sends : (target : Named) (value : Phrase) → WrittenAction
  Receives : (source variable : Named) → WrittenAction

pub record WrittenAssignment : Type 0 where
  pub variable : Named
  pub value : Phrase

-- a command, with the offset of its word `when`
pub record WrittenCommand : Type 0 where
  pub at : ℕ
  pub guard : Phrase
  pub action : WrittenAction
  pub assignments : List WrittenAssignment

pub record WrittenProcess : Type 0 where
  pub name : Named
  pub variables : List WrittenVariable
  pub commands : List WrittenCommand

-- the words that cannot be names
abbrev pub reserved_words : List (List ℕ)
reserved_words =
    codes "process" ∷ codes "var" ∷ codes "when" ∷ codes "send" ∷ codes "recv" ∷ codes "true" ∷ codes "false" ∷ codes "and"
    ∷ codes "or" ∷ codes "not" ∷ codes "sent" ∷ codes "got" ∷ []

abbrev pub IsName : List ℕ → Type 0
IsName word = IsFalse (list_any (bytes_eq word) reserved_words)

-- a token at an offset
abbrev pub word_at : ℕ → List ℕ → Placed
word_at at word = record { at = at; token = Word word }

abbrev pub number_at : ℕ → ℕ → Placed
number_at at value = record { at = at; token = token.Number value }

abbrev pub sign_at : ℕ → Sign → Placed
sign_at at sign = record { at = at; token = Symbol sign }

-- the token of an operator
abbrev pub operator_token : Operator → Token
operator_token Add = Symbol Plus
operator_token Subtract = Symbol Minus
operator_token Multiply = Symbol Star
operator_token Divide = Symbol Slash
operator_token Remainder = Symbol Percent
operator_token Equal = Symbol Equals
operator_token NotEqual = Symbol NotEquals
operator_token Less = Symbol LessThan
operator_token LessOrEqual = Symbol AtMost
operator_token Greater = Symbol GreaterThan
operator_token GreaterOrEqual = Symbol AtLeast
operator_token And = Word (codes "and")
operator_token Or = Word (codes "or")

abbrev pub truth_word : Bool → List ℕ
truth_word true = codes "true"
truth_word false = codes "false"

-- the word of a count
abbrev pub direction_word : Direction → List ℕ
direction_word Sent = codes "sent"
direction_word Got = codes "got"

-- name
abbrev pub DerivesName : List Placed → Named → Type 0
DerivesName tokens named = (tokens ≡ word_at named.at named.name ∷ []) × IsName named.name

-- expr: a number, a name, `true`, `false`, `sent ( name )`, `got ( name )`, `( not e )`, `( - e )` or `( e op e )`
abbrev pub DerivesExpression : List Placed → Phrase → Type 0
DerivesExpression tokens (Number at value) = tokens ≡ number_at at value ∷ []
DerivesExpression tokens (Name at name) = (tokens ≡ word_at at name ∷ []) × IsName name
DerivesExpression tokens (Truth at value) = tokens ≡ word_at at (truth_word value) ∷ []
DerivesExpression tokens (Count at direction other) =
    (open_at close_at : ℕ) × IsName other.name
    × (tokens ≡ word_at at (direction_word direction) ∷ sign_at open_at OpenParenthesis ∷ word_at other.at other.name
    ∷ sign_at close_at CloseParenthesis ∷ [])
DerivesExpression tokens (Not at operand) =
    (inner : List Placed) × (not_at close_at : ℕ) × DerivesExpression inner operand
    × (tokens ≡ sign_at at OpenParenthesis ∷ word_at not_at (codes "not") ∷ inner ++ sign_at close_at CloseParenthesis ∷ [])
DerivesExpression tokens (Negate at operand) =
    (inner : List Placed) × (minus_at close_at : ℕ) × DerivesExpression inner operand
    × (tokens ≡ sign_at at OpenParenthesis ∷ sign_at minus_at Minus ∷ inner ++ sign_at close_at CloseParenthesis ∷ [])
DerivesExpression tokens (Binary at operator left right) =
    (first second : List Placed) × (operator_at close_at : ℕ) × DerivesExpression first left × DerivesExpression second right
    × (tokens ≡ sign_at at OpenParenthesis ∷ first ++ record { at = operator_at; token = operator_token operator } ∷ second
    ++ sign_at close_at CloseParenthesis ∷ [])

-- an initial value: a number, perhaps with a minus before it
abbrev pub DerivesStart : List Placed → ℤ → Type 0
DerivesStart tokens start =
    ((at value : ℕ) × (tokens ≡ number_at at value ∷ []) × (start ≡ pos value))
    ⊎ ((minus_at at value : ℕ) × (tokens ≡ sign_at minus_at Minus ∷ number_at at value ∷ []) × (start ≡ neg_ℤ (pos value)))

-- var: `var` name `=` [ `-` ] number `;`
abbrev pub DerivesVariable : List Placed → WrittenVariable → Type 0
DerivesVariable tokens variable =
    (name start : List Placed) × (var_at equals_at end_at : ℕ) × DerivesName name variable.name × DerivesStart start variable.start
    × (tokens ≡ word_at var_at (codes "var") ∷ name ++ sign_at equals_at Equals ∷ start ++ sign_at end_at Semicolon ∷ [])

-- assign: name `:=` expr
abbrev pub DerivesAssignment : List Placed → WrittenAssignment → Type 0
DerivesAssignment tokens assignment =
    (name value : List Placed) × (becomes_at : ℕ) × DerivesName name assignment.variable × DerivesExpression value assignment.value
    × (tokens ≡ name ++ sign_at becomes_at Becomes ∷ value)

-- each part of the tokens derives one element, in order
abbrev pub DeriveInTurn : {A : Type 0} → (List Placed → A → Type 0) → List Placed → List A → Type 0
DeriveInTurn Derives tokens [] = tokens ≡ []
DeriveInTurn Derives tokens (x ∷ xs) =
    (first others : List Placed) × Derives first x × DeriveInTurn Derives others xs × (tokens ≡ first ++ others)

-- `,` assign
abbrev pub DerivesFurther : List Placed → WrittenAssignment → Type 0
DerivesFurther tokens assignment =
    (first : List Placed) × (comma_at : ℕ) × DerivesAssignment first assignment × (tokens ≡ sign_at comma_at Comma ∷ first)

-- body: action { `,` assign } | assign { `,` assign }
abbrev pub DerivesBody : List Placed → WrittenAction → List WrittenAssignment → Type 0
DerivesBody tokens Local [] = ⊥
DerivesBody tokens Local (assignment ∷ assignments) =
    (first others : List Placed) × DerivesAssignment first assignment × DeriveInTurn DerivesFurther others assignments
    × (tokens ≡ first ++ others)
DerivesBody tokens (Sends target value) assignments =
    (to sent others : List Placed) × (send_at : ℕ) × DerivesName to target × DerivesExpression sent value
    × DeriveInTurn DerivesFurther others assignments × (tokens ≡ word_at send_at (codes "send") ∷ to ++ sent ++ others)
DerivesBody tokens (Receives source variable) assignments =
    (from into others : List Placed) × (recv_at : ℕ) × DerivesName from source × DerivesName into variable
    × DeriveInTurn DerivesFurther others assignments × (tokens ≡ word_at recv_at (codes "recv") ∷ from ++ into ++ others)

-- when: `when` expr `:` body `;`
abbrev pub DerivesCommand : List Placed → WrittenCommand → Type 0
DerivesCommand tokens command =
    (guard body : List Placed) × (colon_at end_at : ℕ) × DerivesExpression guard command.guard
    × DerivesBody body command.action command.assignments
    × (tokens ≡ word_at command.at (codes "when") ∷ guard ++ sign_at colon_at Colon ∷ body ++ sign_at end_at Semicolon ∷ [])

-- process: `process` name `{` { var } { when } `}`
abbrev pub DerivesProcess : List Placed → WrittenProcess → Type 0
DerivesProcess tokens process =
    (name variables commands : List Placed) × (process_at open_at close_at : ℕ) × DerivesName name process.name
    × DeriveInTurn DerivesVariable variables process.variables × DeriveInTurn DerivesCommand commands process.commands
    × (tokens ≡ word_at process_at (codes "process") ∷ name ++ sign_at open_at OpenBrace ∷ variables ++ commands
    ++ sign_at close_at CloseBrace ∷ [])

-- program: process { process }
abbrev pub DerivesProgram : List Placed → List WrittenProcess → Type 0
DerivesProgram tokens [] = ⊥
DerivesProgram tokens (process ∷ processes) = DeriveInTurn DerivesProcess tokens (process ∷ processes)

-- The tokens can be continued to tokens that derive something. The start symbol is a parameter, since a text may be a program or something
-- else.
abbrev pub Begins : {A : Type 0} → (List Placed → A → Type 0) → List Placed → Type 0
Begins {A} Derives tokens = (more : List Placed) × (written : A) × Derives (tokens ++ more) written

-- these tokens derive nothing
abbrev pub DerivesNothing : {A : Type 0} → (List Placed → A → Type 0) → List Placed → Type 0
DerivesNothing {A} Derives tokens = (written : A) → Derives tokens written → ⊥

-- the first token after which the tokens so far cannot be continued, or the end of the text if all prefixes can be continued
abbrev pub IsGrammarFault : {A : Type 0} → (List Placed → A → Type 0) → ℕ → List Placed → ProgFault → Type 0
IsGrammarFault Derives text_length tokens found =
    (found.kind ≡ fault.Grammar)
    × (((prefix others : List Placed) × (p : Placed) × (tokens ≡ prefix ++ p ∷ others) × Begins Derives prefix
    × ¬ Begins Derives (prefix ++ p ∷ []) × (found.at ≡ p.at))
    ⊎ (Begins Derives tokens × DerivesNothing Derives tokens × (found.at ≡ text_length)))
