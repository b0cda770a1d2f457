-- Each text has tokens or a fault among them, found one step after the other.
use Rattle.std.proofs.Common.{◌≡◌, ℕ, zero, suc, ◌+◌, ◌<◌, ◌≤◌, ◌^◌, true, false, List, [], ◌∷◌, ◌++◌, length, take, drop, Option, Some}
use Rattle.std.proofs.Common.{None, refl, sym, ap, ◌∙◌, subst, arith, ◌⊎◌, inl, inr, append_assoc, take-append-drop, length-append}
use Rattle.std.proofs.lemmas.List.{length-drop, length-take-le}
use Rattle.std.specs.List.{list_all, prefix_len}
use Rattle.std.proofs.lemmas.Bool.{cases_lt, false≢true}
use Rattle.dbg_base.specs.declared.limits.TheConstants.{NAME_BYTES, OPEN_PARENTHESES, INPUT_BYTES}
use Rattle.dbg_base.specs.declared.sign.Sign.{Sign}
use Rattle.dbg_base.specs.declared.sign.Sign.TheVariants.{OpenBrace, CloseBrace, OpenParenthesis, CloseParenthesis, Semicolon, Colon}
use Rattle.dbg_base.specs.declared.sign.Sign.TheVariants.{Becomes, Comma, Equals, NotEquals, LessThan, AtMost, GreaterThan, AtLeast, Plus}
use Rattle.dbg_base.specs.declared.sign.Sign.TheVariants.{Minus, Star, Slash, Percent}
use Rattle.dbg_base.specs.declared.fault.ProgFault.{ProgFault}
use Rattle.dbg_base.specs.declared.fault.FaultKind.TheVariants as fault
use Rattle.dbg_base.specs.Tokens.{Token, Word, Number, Symbol, Placed, sign_bytes, is_space, is_letter, is_digit, is_word_byte, is_word}
use Rattle.dbg_base.specs.Tokens.{Spells}
use Rattle.dbg_base.specs.Tokens.{IsWithinLimits, BeginsWithNoToken, HasTokens, IsTokenFault, still_open}
use Rattle.proc_lang.specs.Scanning.{BeginsWithNoSign, IsBefore, TakesToken, MeetsFault}
use Rattle.proc_lang.proofs.PassingPrefixLemmas.{and_first}
use Rattle.proc_lang.proofs.FirstTokenLemmas.{word_is_first, number_is_first, is_first, clash, same_first, word_first}
use Rattle.dbg_base.proofs.FirstFaults.{token_takes}
use Rattle.proc_lang.proofs.TokenLaws.{sign_from, sign_known, sign_written}
use Rattle.proc_lang.proofs.TokenLists.{IsAfter, after_more, has_tokens, has_fault}
use Rattle.proc_lang.proofs.LexerStepLemmas.{only_spaces, takes_token, meets_fault, meets_limit}

-- a sign has one byte or two
sign_size : (sign : Sign) → (length (sign_bytes sign) ≡ 1) ⊎ (length (sign_bytes sign) ≡ 2)
sign_size OpenBrace = inl refl
sign_size CloseBrace = inl refl
sign_size OpenParenthesis = inl refl
sign_size CloseParenthesis = inl refl
sign_size Semicolon = inl refl
sign_size Colon = inl refl
sign_size Becomes = inr refl
sign_size Comma = inl refl
sign_size Equals = inl refl
sign_size NotEquals = inr refl
sign_size LessThan = inl refl
sign_size AtMost = inr refl
sign_size GreaterThan = inl refl
sign_size AtLeast = inr refl
sign_size Plus = inl refl
sign_size Minus = inl refl
sign_size Star = inl refl
sign_size Slash = inl refl
sign_size Percent = inl refl

-- the text of a token at the beginning is a prefix
taken : (piece more : List ℕ) (n : ℕ) → length piece ≡ n → take n (piece ++ more) ≡ piece
taken [] more n same = ap (λ (k : ℕ). take k more) (sym same) ∙ refl
taken (b ∷ piece) more zero same = absurd (omega (arith, same))
taken (b ∷ piece) more (suc n) same = ap (λ (l : List ℕ). b ∷ l) (taken piece more n (omega (arith, same)))

-- if the first byte is neither a letter nor a digit, only a sign can begin there
module _ (b : ℕ) (bytes : List ℕ) (no_letter : is_letter b ≡ false) (no_digit : is_digit b ≡ false) where
  abbrev prefix : List ℕ
  prefix = b ∷ bytes

  no_word : {A : Type 0} (word piece more : List ℕ) → Spells (Word word) piece → piece ++ more ≡ prefix → A
  no_word word [] more writes e = absurd (let h : is_word [] ≡ true = subst (λ w. is_word w ≡ true) (sym writes.0) writes.1 in false≢true h)
  no_word word (c ∷ piece) more writes e =
      let h = word_first c piece word writes.0 writes.1 in
      clash (is_letter b) (subst (λ (x : ℕ). is_letter x ≡ true) (same_first b c bytes piece more e)
      (and_first (is_letter c) (list_all is_word_byte piece) h)) no_letter

  no_number : {A : Type 0} (value : ℕ) (piece more : List ℕ) → Spells (Number value) piece → piece ++ more ≡ prefix → A
  no_number value [] more writes e = absurd (false≢true writes.0)
  no_number value (c ∷ piece) more writes e =
      clash (is_digit b) (subst (λ (x : ℕ). is_digit x ≡ true) (same_first b c bytes piece more e)
      (and_first (is_digit c) (list_all is_digit piece) writes.0)) no_digit

  no_sign_no_token : BeginsWithNoSign prefix → BeginsWithNoToken prefix
  no_sign_no_token none piece more (Word word) writes e = no_word word piece more writes (sym e)
  no_sign_no_token none piece more (Number value) writes e = no_number value piece more writes (sym e)
  no_sign_no_token none piece more (Symbol sign) writes e = none sign more (ap (λ (l : List ℕ). l ++ more) (sym writes) ∙ sym e)

  sign_is_first : (sign : Sign) (n : ℕ) → n ≤ length prefix → take n prefix ≡ sign_bytes sign
      → ((other : Sign) (more : List ℕ) → sign_bytes other ++ more ≡ prefix → length (sign_bytes other) ≤ n)
      → IsBefore (Symbol sign) n prefix
  sign_is_first sign n within spelled longest = is_first (Symbol sign) n prefix within spelled no_longer
    where
      no_longer : (longer more : List ℕ) (other : Token) → Spells other longer → longer ++ more ≡ prefix → length longer ≤ n
      no_longer longer more (Word word) writes e = no_word word longer more writes e
      no_longer longer more (Number value) writes e = no_number value longer more writes e
      no_longer longer more (Symbol other) writes e =
          omega (arith, ap length writes, longest other more (ap (λ (l : List ℕ). l ++ more) (sym writes) ∙ e))

  -- a sign of two bytes at the beginning is the first two bytes
  two_at_start : (sign : Sign) (more : List ℕ) → sign_bytes sign ++ more ≡ prefix → length (sign_bytes sign) ≡ 2
      → sign_from (take 2 prefix) ≡ Some sign
  two_at_start sign more e two =
      ap sign_from (ap (take 2) (sym e) ∙ taken (sign_bytes sign) more 2 two) ∙ sign_known sign

  one_at_start : (sign : Sign) (more : List ℕ) → sign_bytes sign ++ more ≡ prefix → length (sign_bytes sign) ≡ 1
      → sign_from (take 1 prefix) ≡ Some sign
  one_at_start sign more e one =
      ap sign_from (ap (take 1) (sym e) ∙ taken (sign_bytes sign) more 1 one) ∙ sign_known sign

  abbrev Decided : Type 0
  Decided = ((token : Token) × (n : ℕ) × IsBefore token n prefix) ⊎ BeginsWithNoToken prefix

  at_most_two : (sign : Sign) → length (sign_bytes sign) ≤ 2
  at_most_two sign = elim (sign_size sign) as (λ _. length (sign_bytes sign) ≤ 2) [
    | inl one ↦ omega (arith, one)
    | inr two ↦ omega (arith, two)
  ]

  no_two : (o : Option Sign) → sign_from (take 2 prefix) ≡ o → o ≡ None → (other : Sign) (more : List ℕ) → sign_bytes other ++ more ≡ prefix
      → length (sign_bytes other) ≡ 1
  no_two o is none other more e = elim (sign_size other) as (λ _. length (sign_bytes other) ≡ 1) [
    | inl one ↦ one
    | inr two ↦ absurd (let bad : Some other ≡ None = sym (two_at_start other more e two) ∙ is ∙ none in cc)
  ]

  by_one : sign_from (take 2 prefix) ≡ None → (o : Option Sign) → sign_from (take 1 prefix) ≡ o → Decided
  by_one no_longer (Some sign) is = inl (
    Symbol sign,
    1,
    sign_is_first sign 1 (omega arith) (sign_written (take 1 prefix) sign is)
        (λ other more e. omega (arith, no_two None no_longer refl other more e)),
  )
  by_one no_longer None is =
      inr (no_sign_no_token (λ sign more e.
      let bad : Some sign ≡ None = sym (one_at_start sign more e (no_two None no_longer refl sign more e)) ∙ is in cc))

  by_two : (o : Option Sign) → sign_from (take 2 prefix) ≡ o → Decided
  by_two None is = by_one is (sign_from (take 1 prefix)) refl
  by_two (Some sign) is =
      let whole : prefix ≡ sign_bytes sign ++ drop 2 prefix =
      sym (take-append-drop 2 prefix) ∙ ap (λ (l : List ℕ). l ++ drop 2 prefix) (sign_written (take 2 prefix) sign is) in
      let sizes = ap length whole in
      inl (
        Symbol sign,
        length (sign_bytes sign),
        sign_is_first sign (length (sign_bytes sign)) (omega (arith, sizes, length-append (sign_bytes sign) (drop 2 prefix)))
            (ap (take (length (sign_bytes sign))) whole ∙ taken (sign_bytes sign) (drop 2 prefix) (length (sign_bytes sign)) refl)
            (λ other more e. omega (
              arith,
              sizes,
              length-append (sign_bytes sign) (drop 2 prefix),
              length-drop 2 prefix,
              at_most_two other,
              ap length e,
              length-append (sign_bytes other) more,
            )),
      )

  sign_decided : Decided
  sign_decided = by_two (sign_from (take 2 prefix)) refl

-- the longest token at the beginning, or there is none
decided : (b : ℕ) (bytes : List ℕ) → ((token : Token) × (n : ℕ) × IsBefore token n (b ∷ bytes)) ⊎ BeginsWithNoToken (b ∷ bytes)
decided b bytes =
    elim (is_letter b) as (λ t. is_letter b ≡ t →
    ((token : Token) × (n : ℕ) × IsBefore token n (b ∷ bytes)) ⊎ BeginsWithNoToken (b ∷ bytes)) [
      | true ↦ λ letter. inl (_, _, word_is_first b bytes letter)
      | false ↦ λ no_letter. elim (is_digit b)
          as (λ t. is_digit b ≡ t → ((token : Token) × (n : ℕ) × IsBefore token n (b ∷ bytes)) ⊎ BeginsWithNoToken (b ∷ bytes)) [
            | true ↦ λ digit. inl (_, _, number_is_first b bytes digit)
            | false ↦ λ no_digit. sign_decided b bytes no_letter no_digit
          ] refl
    ] refl

limited : (token : Token) → IsWithinLimits token ⊎ (¬ IsWithinLimits token)
limited (Word bytes) = elim (cases_lt NAME_BYTES (length bytes)) as (λ _. (length bytes ≤ NAME_BYTES) ⊎ ¬ (length bytes ≤ NAME_BYTES)) [
  | inl lt ↦ inr (λ le. omega (arith, lt, le))
  | inr le ↦ inl le
]
limited (Number value) = elim (cases_lt value (2 ^ 63)) as (λ _. (value < 2 ^ 63) ⊎ ¬ (value < 2 ^ 63)) [
  | inl lt ↦ inl lt
  | inr ge ↦ inr (λ lt. omega (arith, ge, lt))
]
limited (Symbol sign) = inl tt

-- a token other than an opening parenthesis leaves at most as many open as before
opens_or_not : (depth : ℕ) (token : Token) → (token ≡ Symbol OpenParenthesis) ⊎ (still_open depth token ≤ depth)
opens_or_not depth (Word bytes) = inr (omega arith)
opens_or_not depth (Number value) = inr (omega arith)
opens_or_not depth (Symbol OpenParenthesis) = inl refl
opens_or_not depth (Symbol sign) = inr (omega arith)

deep_or_not : (depth : ℕ) (token : Token) → depth ≤ OPEN_PARENTHESES
    → ((token ≡ Symbol OpenParenthesis) × (depth ≡ OPEN_PARENTHESES)) ⊎ (still_open depth token ≤ OPEN_PARENTHESES)
deep_or_not depth token shallow =
    elim (opens_or_not depth token) as (λ _. ((token ≡ Symbol OpenParenthesis) × (depth ≡ OPEN_PARENTHESES))
    ⊎ (still_open depth token ≤ OPEN_PARENTHESES)) [
      | inl opens ↦ elim (cases_lt depth OPEN_PARENTHESES) as (λ _. ((token ≡ Symbol OpenParenthesis) × (depth ≡ OPEN_PARENTHESES))
          ⊎ (still_open depth token ≤ OPEN_PARENTHESES)) [
            | inl lt ↦ inr (omega (arith, lt, ap (still_open depth) opens))
            | inr ge ↦ inl (opens, omega (arith, ge, shallow))
          ]
      | inr le ↦ inr (omega (arith, le, shallow))
    ]

-- one step: only spaces are left, or a token is passed, or a fault is met
record Step (left : List ℕ) (at depth : ℕ) : Type 0 where
  p : Placed
  rest : List ℕ
  end : ℕ
  beyond : ℕ
  takes : TakesToken left at depth p rest end beyond
  fewer : length rest < length left

abbrev Stepped : List ℕ → ℕ → ℕ → Type 0
Stepped left at depth = (list_all is_space left ≡ true) ⊎ (Step left at depth ⊎ ((f : ProgFault) × MeetsFault left at depth f))

module _ (left : List ℕ) (at depth : ℕ) (shallow : depth ≤ OPEN_PARENTHESES) where
  abbrev gap : ℕ
  gap = prefix_len is_space left

  standing_step : (rest : List ℕ) (token : Token) (n : ℕ) → rest ≡ drop gap left → IsBefore token n rest → Stepped left at depth
  standing_step rest token n cut first_so =
      elim (limited token) as (λ _. Stepped left at depth) [
        | inl within ↦ elim (deep_or_not depth token shallow) as (λ _. Stepped left at depth) [
          | inl deep ↦ inr (inr (
            record { kind = fault.Limit; at = at + gap },
            meets_limit left rest gap refl cut at (at + gap) depth n token refl first_so deep.0 deep.1,
          ))
          | inr fits ↦ let takes =
              takes_token left rest gap refl cut at (at + gap) depth (at + gap + n) (still_open depth token) n token (drop n rest) refl
              first_so within refl fits refl refl in
              inr (inl (record {
                p = record { at = at + gap; token = token };
                rest = drop n rest;
                end = at + gap + n;
                beyond = still_open depth token;
                takes = takes;
                fewer = omega (
                  arith,
                  ap length takes.whole,
                  length-append (takes.gap ++ takes.piece) (drop n rest),
                  length-append takes.gap takes.piece,
                  ap length (append_assoc takes.gap takes.piece (drop n rest)),
                  token_takes token takes.piece takes.spelled,
                );
              }))
        ]
        | inr large ↦ inr (inr (
          record { kind = fault.Token; at = at + gap },
          meets_fault left rest gap refl cut at (at + gap) depth fault.Token refl
              (omega (arith, token_takes token (take n rest) first_so.spelled, length-take-le n rest first_so.within, first_so.within))
              (take n rest, drop n rest, token, first_so.spelled, first_so.longest, sym (take-append-drop n rest), large),
        ))
      ]

  step_by : (rest : List ℕ) → rest ≡ drop gap left → Stepped left at depth
  step_by [] cut = inl (only_spaces left [] gap refl cut refl)
  step_by (b ∷ bytes) cut = elim (decided b bytes) as (λ _. Stepped left at depth) [
    | inl found ↦ standing_step (b ∷ bytes) found.0 found.1 cut found.2
    | inr none ↦ inr (inr (
      record { kind = fault.Byte; at = at + gap },
      meets_fault left (b ∷ bytes) gap refl cut at (at + gap) depth fault.Byte refl (omega arith) none,
    ))
  ]

  step : Stepped left at depth
  step = step_by (drop gap left) refl

abbrev pub Lexed : List ℕ → Type 0
Lexed text = ((tokens : List Placed) × HasTokens text tokens) ⊎ ((f : ProgFault) × IsTokenFault text f)

-- step after step
lexed_by : (n : ℕ) (text : List ℕ) (tokens : List Placed) (at depth : ℕ) (left : List ℕ) → length text ≤ INPUT_BYTES → length left < n
    → IsAfter text tokens at depth left → depth ≤ OPEN_PARENTHESES → Lexed text
lexed_by zero text tokens at depth left few less is shallow = absurd (omega (arith, less))
lexed_by (suc n) text tokens at depth left few less is shallow =
    elim (step left at depth shallow) as (λ _. Lexed text) [
      | inl spaces ↦ inl (tokens, has_tokens text tokens at depth left few is spaces)
      | inr more ↦ elim more as (λ _. Lexed text) [
        | inl s ↦ lexed_by n text (tokens ++ s.p ∷ []) s.end s.beyond s.rest few (omega (arith, less, s.fewer))
            (after_more text tokens at depth left s.p s.rest s.end s.beyond is s.takes) s.takes.shallow
        | inr met ↦ inr (met.0, has_fault text tokens at depth left met.0 is met.1)
      ]
    ]

-- a text that is not too long has tokens or a fault among them
pub lexed : (text : List ℕ) → length text ≤ INPUT_BYTES → Lexed text
lexed text few =
    lexed_by (suc (length text)) text [] 0 0 text few (omega arith)
    (record { begins = ([], refl, refl, omega arith); within = tt; shallow = tt; counted = refl }) (omega arith)
