-- What the parser reads at the beginning of some tokens: the value and the tokens after it. If the tokens cannot be read, the result is how
-- many are left from the first that cannot follow, or none if they end too early.
use Rattle.std.specs.Prelude.{ℕ, zero, suc, ℤ, pos, neg_ℤ, Bool, true, false, List, [], ◌∷◌, length, Option, Some, None, codes}
use Rattle.std.specs.Prelude.{if◌then◌else◌, Result, Ok, Err}
use Rattle.std.specs.Option.{option_map, is_some}
use Rattle.std.specs.List.{list_any}
use Rattle.std.specs.Str.{bytes_eq}
use Rattle.dbg_base.specs.declared.expr.Operator.{Operator}
use Rattle.dbg_base.specs.declared.expr.Operator.TheVariants.{Add, Subtract, Multiply, Divide, Remainder, Equal, NotEqual, Less}
use Rattle.dbg_base.specs.declared.expr.Operator.TheVariants.{LessOrEqual, Greater, GreaterOrEqual, And, Or}
use Rattle.dbg_base.specs.declared.expr.Direction.{Direction}
use Rattle.dbg_base.specs.declared.expr.Direction.TheVariants.{Sent, Got}
use Rattle.dbg_base.specs.Tokens.{Token, Word, Symbol, Placed}
use Rattle.dbg_base.specs.declared.sign.Sign.{Sign}
use Rattle.dbg_base.specs.declared.sign.Sign.TheVariants.{OpenBrace, CloseBrace, OpenParenthesis, CloseParenthesis, Semicolon, Colon}
use Rattle.dbg_base.specs.declared.sign.Sign.TheVariants.{Becomes, Comma, Equals, NotEquals, LessThan, AtMost, GreaterThan, AtLeast, Plus}
use Rattle.dbg_base.specs.declared.sign.Sign.TheVariants.{Minus, Star, Slash, Percent}
use Rattle.dbg_base.specs.Tokens as token
use denote.Enum.Bare.{sameb}
use Rattle.dbg_base.specs.contracts.sign.Sign.{the_type}
use Rattle.dbg_base.specs.Grammar.{Named, Phrase, Name, Truth, Count, Not, Negate, Binary, WrittenVariable, WrittenAction, Local, Sends}
use Rattle.dbg_base.specs.Grammar.{Receives, WrittenAssignment, WrittenCommand, WrittenProcess, reserved_words}
use Rattle.dbg_base.specs.Grammar as phrase

-- the value and the tokens after it, or how many tokens are left when reading fails
abbrev pub Read : Type 0 → Type 0
Read A = Result (A × List Placed) ℕ

-- continues after a value was read
infixl 10 ◌>>=◌
abbrev pub ◌>>=◌ : {A B : Type 0} → Result A ℕ → (A → Result B ℕ) → Result B ℕ
Ok x >>= f = f x
Err left >>= f = Err left

-- one token, if it has a value
abbrev pub picked : {A : Type 0} → Option A → List Placed → Read A
picked (Some x) tokens = Ok (x, tokens)
picked None tokens = Err (suc (length tokens))

abbrev pub read_one : {A : Type 0} → (Placed → Option A) → List Placed → Read A
read_one pick [] = Err 0
read_one pick (p ∷ tokens) = picked (pick p) tokens

-- a test of the first token
abbrev pub begins : (Token → Bool) → List Placed → Bool
begins test [] = false
begins test (p ∷ tokens) = test p.token

-- So many turns of a reader that calls itself for parts of what it reads.
abbrev pub unrolled : {A : Type 0} → ((List Placed → Read A) → List Placed → Read A) → ℕ → List Placed → Read A
unrolled step zero tokens = Err (length tokens)
unrolled step (suc n) tokens = step (unrolled step n) tokens

-- such a reader: its parts have fewer tokens, so the turns suffice
unfoldable pub fixed : {A : Type 0} → ((List Placed → Read A) → List Placed → Read A) → List Placed → Read A
fixed step tokens = unrolled step (suc (length tokens)) tokens

-- the test of `==` on signs
abbrev pub same_sign : Sign → Sign → Bool
same_sign = sameb the_type

-- whether the token is this word
abbrev pub is_word_token : List ℕ → Token → Bool
is_word_token word (Word found) = bytes_eq found word
is_word_token word token = false

-- whether the token is this sign
abbrev pub is_sign_token : Sign → Token → Bool
is_sign_token sign (Symbol found) = same_sign found sign
is_sign_token sign token = false

-- whether this word is the first token
abbrev pub begins_word : List ℕ → List Placed → Bool
begins_word word = begins (is_word_token word)

abbrev pub begins_sign : Sign → List Placed → Bool
begins_sign sign = begins (is_sign_token sign)

-- the offset of the token, if the test passes
abbrev pub place_where : (Token → Bool) → Placed → Option ℕ
place_where test p = if test p.token then Some p.at else None

-- this word, with its offset as the value
unfoldable pub read_word : List ℕ → List Placed → Read ℕ
read_word word = read_one (place_where (is_word_token word))

unfoldable pub read_sign : Sign → List Placed → Read ℕ
read_sign sign = read_one (place_where (is_sign_token sign))

-- the name of a token, if it is one
abbrev pub name_in : Token → Option (List ℕ)
name_in (Word word) = if list_any (bytes_eq word) reserved_words then None else Some word
name_in token = None

abbrev pub named_in : Placed → Option Named
named_in p = option_map (λ name. record { at = p.at; name = name }) (name_in p.token)

unfoldable pub read_name : List Placed → Read Named
read_name = read_one named_in

abbrev pub number_in : Token → Option ℕ
number_in (token.Number value) = Some value
number_in token = None

unfoldable pub read_number : List Placed → Read ℕ
read_number = read_one (λ p. number_in p.token)

-- the operator of a sign, if it is one
abbrev pub sign_operator : Sign → Option Operator
sign_operator Plus = Some Add
sign_operator Minus = Some Subtract
sign_operator Star = Some Multiply
sign_operator Slash = Some Divide
sign_operator Percent = Some Remainder
sign_operator Equals = Some Equal
sign_operator NotEquals = Some NotEqual
sign_operator LessThan = Some Less
sign_operator AtMost = Some LessOrEqual
sign_operator GreaterThan = Some Greater
sign_operator AtLeast = Some GreaterOrEqual
sign_operator sign = None

abbrev pub word_operator : List ℕ → Option Operator
word_operator word =
    if bytes_eq word (codes "and") then Some And else (if bytes_eq word (codes "or") then Some Or else None)

-- the operator of a token, if it is one
abbrev pub operator_in : Token → Option Operator
operator_in (Symbol sign) = sign_operator sign
operator_in (Word word) = word_operator word
operator_in token = None

unfoldable pub read_operator : List Placed → Read Operator
read_operator = read_one (λ p. operator_in p.token)

-- what a word counts, if it is the word of a count
abbrev pub word_direction : List ℕ → Option Direction
word_direction word =
    if bytes_eq word (codes "sent") then Some Sent else (if bytes_eq word (codes "got") then Some Got else None)

abbrev pub direction_in : Token → Option Direction
direction_in (Word word) = word_direction word
direction_in token = None

-- the word of a count, with its offset
unfoldable pub read_direction : List Placed → Read (ℕ × Direction)
read_direction = read_one (λ p. option_map (λ direction. (p.at, direction)) (direction_in p.token))

-- whether a count begins here
abbrev pub begins_count : List Placed → Bool
begins_count = begins (λ token. is_some (direction_in token))

-- the expression of a word at this offset
abbrev pub word_phrase : ℕ → List ℕ → Option Phrase
word_phrase at word =
    if bytes_eq word (codes "true") then Some (Truth at true)
    else (if bytes_eq word (codes "false") then Some (Truth at false)
    else option_map (Name at) (name_in (Word word)))

abbrev pub phrase_by : ℕ → Token → Option Phrase
phrase_by at (Word word) = word_phrase at word
phrase_by at (token.Number value) = Some (phrase.Number at value)
phrase_by at (Symbol sign) = None

-- the expression of a single token, if it is one
abbrev pub phrase_in : Placed → Option Phrase
phrase_in p = phrase_by p.at p.token

unfoldable pub read_operand : List Placed → Read Phrase
read_operand = read_one phrase_in

-- a count: its word, and the name of a process in parentheses
unfoldable pub read_count : List Placed → Read Phrase
read_count tokens = do
  word ← read_direction tokens
  begin ← read_sign OpenParenthesis word.1
  other ← read_name begin.1
  close ← read_sign CloseParenthesis other.1
  Ok (Count word.0.0 word.0.1 other.0, close.1)

-- an expression in parentheses, of which the first opened at this offset: `not e`, `- e` or `e op e`, and the closing one
unfoldable pub read_not : (List Placed → Read Phrase) → ℕ → List Placed → Read Phrase
read_not inner at tokens = do
  word ← read_word (codes "not") tokens
  operand ← inner word.1
  close ← read_sign CloseParenthesis operand.1
  Ok (Not at operand.0, close.1)

unfoldable pub read_negate : (List Placed → Read Phrase) → ℕ → List Placed → Read Phrase
read_negate inner at tokens = do
  minus ← read_sign Minus tokens
  operand ← inner minus.1
  close ← read_sign CloseParenthesis operand.1
  Ok (Negate at operand.0, close.1)

unfoldable pub read_binary : (List Placed → Read Phrase) → ℕ → List Placed → Read Phrase
read_binary inner at tokens = do
  left ← inner tokens
  operator ← read_operator left.1
  right ← inner operator.1
  close ← read_sign CloseParenthesis right.1
  Ok (Binary at operator.0 left.0 right.0, close.1)

abbrev pub read_group : (List Placed → Read Phrase) → ℕ → List Placed → Read Phrase
read_group inner at tokens =
    if begins_word (codes "not") tokens then read_not inner at tokens
    else (if begins_sign Minus tokens then read_negate inner at tokens
    else read_binary inner at tokens)

-- the first parenthesis, and the expression in it
unfoldable pub read_parentheses : (List Placed → Read Phrase) → List Placed → Read Phrase
read_parentheses inner tokens = read_sign OpenParenthesis tokens >>= λ first. read_group inner first.0 first.1

-- an expression; `inner` reads the expressions in its parentheses
abbrev pub read_by : (List Placed → Read Phrase) → List Placed → Read Phrase
read_by inner tokens =
    if begins_sign OpenParenthesis tokens then read_parentheses inner tokens
    else (if begins_count tokens then read_count tokens
    else read_operand tokens)

abbrev pub read_expression : List Placed → Read Phrase
read_expression = fixed read_by

-- the end of the tokens
abbrev pub read_end : List Placed → Read (Unit {0})
read_end [] = Ok (tt, [])
read_end (p ∷ tokens) = Err (suc (length tokens))

-- what one reader reads, and then the end
unfoldable pub read_whole : {A : Type 0} → (List Placed → Read A) → List Placed → Read A
read_whole one tokens = do
  found ← one tokens
  end ← read_end found.1
  Ok (found.0, end.1)

-- an initial value
unfoldable pub read_negative : List Placed → Read ℤ
read_negative tokens = do
  minus ← read_sign Minus tokens
  number ← read_number minus.1
  Ok (neg_ℤ (pos number.0), number.1)

unfoldable pub read_positive : List Placed → Read ℤ
read_positive tokens = read_number tokens >>= λ number. Ok (pos number.0, number.1)

abbrev pub read_start : List Placed → Read ℤ
read_start tokens = if begins_sign Minus tokens then read_negative tokens else read_positive tokens

unfoldable pub read_variable : List Placed → Read WrittenVariable
read_variable tokens = do
  word ← read_word (codes "var") tokens
  name ← read_name word.1
  equals ← read_sign Equals name.1
  start ← read_start equals.1
  end ← read_sign Semicolon start.1
  Ok (record { name = name.0; start = start.0 }, end.1)

unfoldable pub read_assignment : List Placed → Read WrittenAssignment
read_assignment tokens = do
  variable ← read_name tokens
  becomes ← read_sign Becomes variable.1
  value ← read_expression becomes.1
  Ok (record { variable = variable.0; value = value.0 }, value.1)

-- one element, and then the others
unfoldable pub read_several : {A : Type 0} → (List Placed → Read A) → (List Placed → Read (List A)) → List Placed → Read (List A)
read_several one rest tokens = do
  first ← one tokens
  others ← rest first.1
  Ok (first.0 ∷ others.0, others.1)

-- elements one after the other, as long as the test passes
abbrev pub many_by : {A : Type 0} → (Token → Bool) → (List Placed → Read A) → (List Placed → Read (List A)) → List Placed → Read (List A)
many_by test one rest tokens = if begins test tokens then read_several one rest tokens else Ok ([], tokens)

abbrev pub read_many : {A : Type 0} → (Token → Bool) → (List Placed → Read A) → List Placed → Read (List A)
read_many test one = fixed (many_by test one)

-- an assignment after a comma
unfoldable pub read_further : List Placed → Read WrittenAssignment
read_further tokens = read_sign Comma tokens >>= λ comma. read_assignment comma.1

abbrev pub read_all_further : List Placed → Read (List WrittenAssignment)
read_all_further = read_many (is_sign_token Comma) read_further

-- a body: the action, and the assignments
abbrev pub Body : Type 0
Body = WrittenAction × List WrittenAssignment

unfoldable pub read_send : List Placed → Read Body
read_send tokens = do
  word ← read_word (codes "send") tokens
  target ← read_name word.1
  value ← read_expression target.1
  others ← read_all_further value.1
  Ok ((Sends target.0 value.0, others.0), others.1)

unfoldable pub read_receive : List Placed → Read Body
read_receive tokens = do
  word ← read_word (codes "recv") tokens
  source ← read_name word.1
  variable ← read_name source.1
  others ← read_all_further variable.1
  Ok ((Receives source.0 variable.0, others.0), others.1)

unfoldable pub read_local : List Placed → Read Body
read_local tokens = do
  first ← read_assignment tokens
  others ← read_all_further first.1
  Ok ((Local, first.0 ∷ others.0), others.1)

abbrev pub read_body : List Placed → Read Body
read_body tokens =
    if begins_word (codes "send") tokens then read_send tokens
    else (if begins_word (codes "recv") tokens then read_receive tokens
    else read_local tokens)

unfoldable pub read_command : List Placed → Read WrittenCommand
read_command tokens = do
  word ← read_word (codes "when") tokens
  guard ← read_expression word.1
  colon ← read_sign Colon guard.1
  body ← read_body colon.1
  end ← read_sign Semicolon body.1
  Ok (record { at = word.0; guard = guard.0; action = body.0.0; assignments = body.0.1 }, end.1)

abbrev pub read_variables : List Placed → Read (List WrittenVariable)
read_variables = read_many (is_word_token (codes "var")) read_variable

abbrev pub read_commands : List Placed → Read (List WrittenCommand)
read_commands = read_many (is_word_token (codes "when")) read_command

unfoldable pub read_process : List Placed → Read WrittenProcess
read_process tokens = do
  word ← read_word (codes "process") tokens
  name ← read_name word.1
  start ← read_sign OpenBrace name.1
  variables ← read_variables start.1
  commands ← read_commands variables.1
  end ← read_sign CloseBrace commands.1
  Ok (record { name = name.0; variables = variables.0; commands = commands.0 }, end.1)

-- at least one process
abbrev pub read_processes : List Placed → Read (List WrittenProcess)
read_processes = read_several read_process (read_many (is_word_token (codes "process")) read_process)

abbrev pub read_program : List Placed → Read (List WrittenProcess)
read_program = read_whole read_processes

abbrev pub read_predicate : List Placed → Read Phrase
read_predicate = read_whole read_expression
