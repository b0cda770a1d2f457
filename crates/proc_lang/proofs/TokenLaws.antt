-- A text has at most one list of tokens, and no fault among them if it has one.
use Rattle.std.proofs.Common.{◌≡◌, ℕ, ◌+◌, ◌≤◌, true, false, cond, List, [], ◌∷◌, ◌++◌, length, Option, Some, None, refl, sym, ap, ◌∙◌}
use Rattle.std.proofs.Common.{subst, arith, append_assoc, append-nil}
use Rattle.std.specs.Prelude.{nat_le, slice_index}
use Rattle.std.specs.List.{list_all, AllByRecursion}
use Rattle.std.specs.Str.{bytes_eq}
use Rattle.std.proofs.lemmas.Bool.{false≢true, leb-true}
use Rattle.std.proofs.lemmas.Bool.Decides.{nat_tests}
use Rattle.std.proofs.lemmas.Slice.Eq.{bytes_eq-Decides}
use Rattle.dbg_base.specs.declared.limits.TheConstants.{OPEN_PARENTHESES}
use Rattle.dbg_base.specs.Tokens.{Token, Word, Number, Symbol, Placed, sign_bytes, is_space, is_letter, is_digit, is_word_byte, is_word}
use Rattle.dbg_base.specs.Tokens.{is_numeral, Spells, IsLongest, BeginsWith, IsWithinLimits, StaysShallow, HasTokens, IsTokenFault}
use Rattle.dbg_base.specs.Tokens.{FaultsBefore, open_after, still_open}
use Rattle.dbg_base.specs.declared.sign.Sign.{Sign}
use Rattle.dbg_base.specs.declared.sign.Sign.TheVariants.{OpenBrace, CloseBrace, OpenParenthesis, CloseParenthesis, Semicolon, Colon}
use Rattle.dbg_base.specs.declared.sign.Sign.TheVariants.{Becomes, Comma, Equals, NotEquals, LessThan, AtMost, GreaterThan, AtLeast, Plus}
use Rattle.dbg_base.specs.declared.sign.Sign.TheVariants.{Minus, Star, Slash, Percent}
use Rattle.dbg_base.specs.declared.fault.ProgFault.{ProgFault}
use Rattle.dbg_base.specs.declared.fault.FaultKind.{FaultKind}
use Rattle.dbg_base.specs.declared.fault.FaultKind.TheVariants as kinds
use Rattle.proc_lang.proofs.PassingPrefixLemmas.{and_first, and_second}
use Rattle.proc_lang.proofs.FirstTokenLemmas.{sign_first, letter_is_no_digit, word_first}

-- the bytes of a sign determine it
pub all_signs : List Sign
all_signs =
    OpenBrace ∷ CloseBrace ∷ OpenParenthesis ∷ CloseParenthesis ∷ Semicolon ∷ Colon ∷ Becomes ∷ Comma ∷ Equals ∷ NotEquals ∷ LessThan
    ∷ AtMost ∷ GreaterThan ∷ AtLeast ∷ Plus ∷ Minus ∷ Star ∷ Slash ∷ Percent ∷ []

sign_among : List Sign → List ℕ → Option Sign
sign_among [] bytes = None
sign_among (sign ∷ signs) bytes = cond (bytes_eq bytes (sign_bytes sign)) (Some sign) (sign_among signs bytes)

pub sign_from : List ℕ → Option Sign
sign_from = sign_among all_signs

pub sign_known : (sign : Sign) → sign_from (sign_bytes sign) ≡ Some sign
unfolding sign_from all_signs sign_among
sign_known OpenBrace = refl
sign_known CloseBrace = refl
sign_known OpenParenthesis = refl
sign_known CloseParenthesis = refl
sign_known Semicolon = refl
sign_known Colon = refl
sign_known Becomes = refl
sign_known Comma = refl
sign_known Equals = refl
sign_known NotEquals = refl
sign_known LessThan = refl
sign_known AtMost = refl
sign_known GreaterThan = refl
sign_known AtLeast = refl
sign_known Plus = refl
sign_known Minus = refl
sign_known Star = refl
sign_known Slash = refl
sign_known Percent = refl

same_sign : (a b : Sign) → sign_bytes a ≡ sign_bytes b → a ≡ b
same_sign a b e = let known : Some a ≡ Some b = sym (sign_known a) ∙ ap sign_from e ∙ sign_known b in cc

no_sign_empty : {A : Type 0} (sign : Sign) → sign_from [] ≡ Some sign → A
unfolding sign_from all_signs sign_among
no_sign_empty sign e = cc

among_written : (signs : List Sign) (bytes : List ℕ) (sign : Sign) → sign_among signs bytes ≡ Some sign → bytes ≡ sign_bytes sign
unfolding sign_among
among_written [] bytes sign e = cc
among_written (s ∷ signs) bytes sign e =
    elim (bytes_eq bytes (sign_bytes s)) as (λ b. bytes_eq bytes (sign_bytes s) ≡ b
    → cond b (Some s) (sign_among signs bytes) ≡ Some sign → bytes ≡ sign_bytes sign) [
      | true ↦ λ same h. (bytes_eq-Decides bytes (sign_bytes s)).0 same ∙ ap sign_bytes (let is : s ≡ sign = cc in is)
      | false ↦ λ other h. among_written signs bytes sign h
    ] refl e

pub sign_written : (bytes : List ℕ) (sign : Sign) → sign_from bytes ≡ Some sign → bytes ≡ sign_bytes sign
unfolding sign_from
sign_written bytes sign e = among_written all_signs bytes sign e

word_is_no_number : {A : Type 0} (piece word : List ℕ) → (piece ≡ word) × (is_word word ≡ true) → is_numeral piece ≡ true → A
word_is_no_number [] word x y = absurd (false≢true y)
word_is_no_number (b ∷ bytes) word x y =
    absurd (letter_is_no_digit b (and_first (is_letter b) (list_all is_word_byte bytes) (word_first b bytes word x.0 x.1))
    (and_first (is_digit b) (list_all is_digit bytes) y))

word_is_no_sign : {A : Type 0} (piece word : List ℕ) (sign : Sign) → (piece ≡ word) × (is_word word ≡ true) → piece ≡ sign_bytes sign → A
word_is_no_sign [] word sign x y = let h : is_word [] ≡ true = subst (λ w. is_word w ≡ true) (sym x.0) x.1 in absurd (false≢true h)
word_is_no_sign (b ∷ bytes) word sign x y =
    let letter = and_first (is_letter b) (list_all is_word_byte bytes) (word_first b bytes word x.0 x.1) in
    absurd (false≢true (sym (sign_first sign b bytes [] (append-nil (sign_bytes sign) ∙ sym y)).0 ∙ letter))

number_is_no_sign : {A : Type 0} (piece : List ℕ) (sign : Sign) → is_numeral piece ≡ true → piece ≡ sign_bytes sign → A
number_is_no_sign [] sign x y = absurd (false≢true x)
number_is_no_sign (b ∷ bytes) sign x y =
    let digit = and_first (is_digit b) (list_all is_digit bytes) x in
    absurd (false≢true (sym (sign_first sign b bytes [] (append-nil (sign_bytes sign) ∙ sym y)).1 ∙ digit))

-- the text of a token has a first byte, which is not a space
abbrev pub BeginsOther : List ℕ → Type 0
BeginsOther [] = ⊥
BeginsOther (b ∷ bytes) = is_space b ≡ false

not_space : (b : ℕ) → 33 ≤ b → is_space b ≡ false
not_space b le = grind (arith, nat_tests)

pub spells_first : (token : Token) (piece : List ℕ) → Spells token piece → BeginsOther piece
spells_first (Word word) [] writes = let h : is_word [] ≡ true = subst (λ w. is_word w ≡ true) (sym writes.0) writes.1 in false≢true h
spells_first (Word word) (b ∷ bytes) writes =
    let h = word_first b bytes word writes.0 writes.1 in
    let low : 97 ≤ b = leb-true 97 b (and_first (nat_le 97 b) (nat_le b 122) (and_first (is_letter b) (list_all is_word_byte bytes) h)) in
    not_space b (omega arith)
spells_first (Number value) [] writes = false≢true writes.0
spells_first (Number value) (b ∷ bytes) writes =
    let low : 48 ≤ b = leb-true 48 b (and_first (nat_le 48 b) (nat_le b 57) (and_first (is_digit b) (list_all is_digit bytes) writes.0)) in
    not_space b (omega arith)
spells_first (Symbol sign) [] writes = let e : sign_from [] ≡ Some sign = ap sign_from writes ∙ sign_known sign in no_sign_empty sign e
spells_first (Symbol sign) (b ∷ bytes) writes = (sign_first sign b bytes [] (append-nil (sign_bytes sign) ∙ sym writes)).2

-- bytes are the text of at most one token
spells_once : (a b : Token) (piece : List ℕ) → Spells a piece → Spells b piece → a ≡ b
spells_once (Word v) (Word w) piece x y = ap Word (sym x.0 ∙ y.0)
spells_once (Number v) (Number w) piece x y = ap Number (x.1 ∙ sym y.1)
spells_once (Symbol s) (Symbol t) piece x y = ap Symbol (same_sign s t (sym x ∙ y))
spells_once (Word v) (Number w) piece x y = word_is_no_number piece v x y.0
spells_once (Number w) (Word v) piece x y = word_is_no_number piece v y x.0
spells_once (Word v) (Symbol t) piece x y = word_is_no_sign piece v t x y
spells_once (Symbol t) (Word v) piece x y = word_is_no_sign piece v t y x
spells_once (Number v) (Symbol t) piece x y = number_is_no_sign piece t x.0 y
spells_once (Symbol t) (Number v) piece x y = number_is_no_sign piece t y.0 x

-- two runs of spaces before the same bytes, which begin with another byte, are the same
pub gap_once : (gap other left right : List ℕ) → list_all is_space gap ≡ true → list_all is_space other ≡ true → BeginsOther left
    → BeginsOther right
    → gap ++ left ≡ other ++ right → (gap ≡ other) × (left ≡ right)
gap_once [] [] left right x y p q e = (refl, e)
gap_once [] (b ∷ other) [] right x y p q e = absurd p
gap_once [] (b ∷ other) (c ∷ left) right x y p q e =
    let same : c ≡ b = cc in
    absurd (false≢true (sym p ∙ subst (λ z. is_space z ≡ true) (sym same) (and_first (is_space b) (list_all is_space other) y)))
gap_once (b ∷ gap) [] left [] x y p q e = absurd q
gap_once (b ∷ gap) [] left (c ∷ right) x y p q e =
    let same : b ≡ c = cc in
    absurd (false≢true (sym q ∙ subst (λ z. is_space z ≡ true) same (and_first (is_space b) (list_all is_space gap) x)))
gap_once (b ∷ gap) (c ∷ other) left right x y p q e =
    let heads : b ≡ c = cc in
    let tails : gap ++ left ≡ other ++ right = cc in
    let rest =
    gap_once gap other left right (and_second (is_space b) (list_all is_space gap) x)
    (and_second (is_space c) (list_all is_space other) y) p q tails in
    (cc, rest.1)

pub begins_append : (piece more : List ℕ) → BeginsOther piece → BeginsOther (piece ++ more)
begins_append [] more h = absurd h
begins_append (b ∷ piece) more h = h

-- two prefixes of the same length are equal
prefix_once : (a b more others : List ℕ) → length a ≡ length b → a ++ more ≡ b ++ others → (a ≡ b) × (more ≡ others)
prefix_once [] [] more others l e = (refl, e)
prefix_once [] (y ∷ b) more others l e = absurd (omega arith)
prefix_once (x ∷ a) [] more others l e = absurd (omega arith)
prefix_once (x ∷ a) (y ∷ b) more others l e =
    let heads : x ≡ y = cc in
    let tails : a ++ more ≡ b ++ others = cc in
    let rest = prefix_once a b more others (omega arith) tails in
    (cc, rest.1)

-- the first token of a text, and what is before and after it, are determined
pub record IsSameStep (gap other piece second more others : List ℕ) (a b : Token) : Type 0 where
  pub gaps : gap ≡ other
  pub pieces : piece ≡ second
  pub rests : more ≡ others
  pub tokens : a ≡ b

pub step_once : (text gap other piece second more others : List ℕ) (a b : Token) → list_all is_space gap ≡ true →
    list_all is_space other ≡ true
    → text ≡ gap ++ piece ++ more → text ≡ other ++ second ++ others → Spells a piece → Spells b second → IsLongest piece more
    → IsLongest second others
    → IsSameStep gap other piece second more others a b
step_once text gap other piece second more others a b x y whole also writes too longest largest =
    let split =
    gap_once gap other (piece ++ more) (second ++ others) x y (begins_append piece more (spells_first a piece writes))
    (begins_append second others (spells_first b second too))
    (sym (append_assoc gap piece more) ∙ sym whole ∙ also ∙ append_assoc other second others) in
    let sizes : length piece ≡ length second =
    omega (arith, longest second others b too (sym split.1), largest piece more a writes split.1) in
    let prefixes = prefix_once piece second more others sizes split.1 in
    record {
      gaps = split.0;
      pieces = prefixes.0;
      rests = prefixes.1;
      tokens = spells_once a b second (subst (λ z. Spells a z) prefixes.0 writes) too;
    }

no_other : (gap rest : List ℕ) → list_all is_space (gap ++ rest) ≡ true → BeginsOther rest → ⊥
no_other [] [] all begins = begins
no_other [] (b ∷ rest) all begins = false≢true (sym begins ∙ and_first (is_space b) (list_all is_space rest) all)
no_other (b ∷ gap) rest all begins = no_other gap rest (and_second (is_space b) (list_all is_space (gap ++ rest)) all) begins

-- a text of only spaces has no token
no_token : {A : Type 0} (gap text left piece more : List ℕ) → list_all is_space left ≡ true → text ≡ left ++ []
    → text ≡ gap ++ piece ++ more → list_all is_space gap ≡ true → BeginsOther piece → A
no_token gap text left piece more all same whole spaces begins =
    absurd (no_other gap (piece ++ more) (subst (λ z. list_all is_space z ≡ true)
    (sym (append-nil left) ∙ sym same ∙ whole ∙ append_assoc gap piece more) all) (begins_append piece more begins))

placed_same : (p q : Placed) → p.at ≡ q.at → p.token ≡ q.token → p ≡ q
placed_same p q place token = λ i. record { at = place i; token = token i }

pub moved_begins : (tokens : List Placed) (at other : ℕ) (text same : List ℕ) (end : ℕ) (rest : List ℕ) → at ≡ other → text ≡ same
    → BeginsWith at text tokens end rest → BeginsWith other same tokens end rest
moved_begins tokens at other text same end rest places texts begins =
    subst (λ t. BeginsWith other t tokens end rest) texts (subst (λ k. BeginsWith k text tokens end rest) places begins)

-- a text has at most one list of tokens
one_list : (tokens others : List Placed) (at : ℕ) (text : List ℕ) (end stop : ℕ) → BeginsWith at text tokens end []
    → BeginsWith at text others stop [] → tokens ≡ others
one_list [] [] at text end stop x y = refl
one_list [] (q ∷ others) at text end stop x y = no_token y.0 text x.0 y.1 y.2 x.1 x.2 y.4 y.3 (spells_first q.token y.1 y.6)
one_list (p ∷ tokens) [] at text end stop x y = no_token x.0 text y.0 x.1 x.2 y.1 y.2 x.4 x.3 (spells_first p.token x.1 x.6)
one_list (p ∷ tokens) (q ∷ others) at text end stop x y =
    let same = step_once text x.0 y.0 x.1 y.1 x.2 y.2 p.token q.token x.3 y.3 x.4 y.4 x.6 y.6 x.7 y.7 in
    let places : p.at ≡ q.at = omega (arith, x.5, y.5, ap length same.gaps) in
    let ends : q.at + length y.1 ≡ p.at + length x.1 = omega (arith, places, ap length same.pieces) in
    let rest =
    one_list tokens others (p.at + length x.1) x.2 end stop x.8
    (moved_begins others (q.at + length y.1) (p.at + length x.1) y.2 x.2 stop [] ends (sym same.rests) y.8) in
    λ i. placed_same p q places same.tokens i ∷ rest i

pub one_token_list : (text : List ℕ) (tokens others : List Placed) → HasTokens text tokens → HasTokens text others → tokens ≡ others
one_token_list text tokens others x y = one_list tokens others 0 text (length text) (length text) x.1 y.1

-- bytes with a fault do not begin with a space
pub fault_begins : (kind : FaultKind) (depth : ℕ) (rest : List ℕ) → FaultsBefore kind depth rest → BeginsOther rest
fault_begins kinds.Byte depth [] found = found.0
fault_begins kinds.Byte depth (b ∷ rest) found = found.0
fault_begins kinds.Token depth rest found =
    subst BeginsOther (sym found.5) (begins_append found.0 found.1 (spells_first found.2 found.0 found.3))
fault_begins kinds.Grammar depth rest found = absurd found
fault_begins kinds.NameTaken depth rest found = absurd found
fault_begins kinds.NameUnknown depth rest found = absurd found
fault_begins kinds.TypeWrong depth rest found = absurd found
fault_begins kinds.Limit depth rest found = subst BeginsOther (sym found.2) refl
fault_begins kinds.SelfSend depth rest found = absurd found
fault_begins kinds.SetTwice depth rest found = absurd found

open_only : (sign : Sign) (more others : List ℕ) → sign_bytes sign ++ more ≡ 40 ∷ others → sign ≡ OpenParenthesis
open_only OpenBrace more others e = let h : ◌≡◌ {A = ℕ} 123 40 = ap (λ z. slice_index z 0) e in absurd (omega arith)
open_only CloseBrace more others e = let h : ◌≡◌ {A = ℕ} 125 40 = ap (λ z. slice_index z 0) e in absurd (omega arith)
open_only OpenParenthesis more others e = refl
open_only CloseParenthesis more others e = let h : ◌≡◌ {A = ℕ} 41 40 = ap (λ z. slice_index z 0) e in absurd (omega arith)
open_only Semicolon more others e = let h : ◌≡◌ {A = ℕ} 59 40 = ap (λ z. slice_index z 0) e in absurd (omega arith)
open_only Colon more others e = let h : ◌≡◌ {A = ℕ} 58 40 = ap (λ z. slice_index z 0) e in absurd (omega arith)
open_only Becomes more others e = let h : ◌≡◌ {A = ℕ} 58 40 = ap (λ z. slice_index z 0) e in absurd (omega arith)
open_only Comma more others e = let h : ◌≡◌ {A = ℕ} 44 40 = ap (λ z. slice_index z 0) e in absurd (omega arith)
open_only Equals more others e = let h : ◌≡◌ {A = ℕ} 61 40 = ap (λ z. slice_index z 0) e in absurd (omega arith)
open_only NotEquals more others e = let h : ◌≡◌ {A = ℕ} 33 40 = ap (λ z. slice_index z 0) e in absurd (omega arith)
open_only LessThan more others e = let h : ◌≡◌ {A = ℕ} 60 40 = ap (λ z. slice_index z 0) e in absurd (omega arith)
open_only AtMost more others e = let h : ◌≡◌ {A = ℕ} 60 40 = ap (λ z. slice_index z 0) e in absurd (omega arith)
open_only GreaterThan more others e = let h : ◌≡◌ {A = ℕ} 62 40 = ap (λ z. slice_index z 0) e in absurd (omega arith)
open_only AtLeast more others e = let h : ◌≡◌ {A = ℕ} 62 40 = ap (λ z. slice_index z 0) e in absurd (omega arith)
open_only Plus more others e = let h : ◌≡◌ {A = ℕ} 43 40 = ap (λ z. slice_index z 0) e in absurd (omega arith)
open_only Minus more others e = let h : ◌≡◌ {A = ℕ} 45 40 = ap (λ z. slice_index z 0) e in absurd (omega arith)
open_only Star more others e = let h : ◌≡◌ {A = ℕ} 42 40 = ap (λ z. slice_index z 0) e in absurd (omega arith)
open_only Slash more others e = let h : ◌≡◌ {A = ℕ} 47 40 = ap (λ z. slice_index z 0) e in absurd (omega arith)
open_only Percent more others e = let h : ◌≡◌ {A = ℕ} 37 40 = ap (λ z. slice_index z 0) e in absurd (omega arith)

-- the token that begins with an opening parenthesis
pub opens : (token : Token) (piece more others : List ℕ) → Spells token piece → piece ++ more ≡ 40 ∷ others → token ≡ Symbol OpenParenthesis
opens (Word word) [] more others writes e = absurd (spells_first (Word word) [] writes)
opens (Word word) (b ∷ piece) more others writes e =
    let letter = and_first (is_letter b) (list_all is_word_byte piece) (word_first b piece word writes.0 writes.1) in
    let here : b ≡ 40 = cc in
    let bad : is_letter 40 ≡ true = subst (λ x. is_letter x ≡ true) here letter in
    absurd (false≢true bad)
opens (Number value) [] more others writes e = absurd (spells_first (Number value) [] writes)
opens (Number value) (b ∷ piece) more others writes e =
    let digit = and_first (is_digit b) (list_all is_digit piece) writes.0 in
    let here : b ≡ 40 = cc in
    let bad : is_digit 40 ≡ true = subst (λ x. is_digit x ≡ true) here digit in
    absurd (false≢true bad)
opens (Symbol sign) piece more others writes e = ap Symbol (open_only sign more others (ap (λ z. z ++ more) (sym writes) ∙ e))

-- bytes with a fault do not begin with a token without a fault
pub clear_prefix : (kind : FaultKind) (depth : ℕ) (token : Token) (piece more rest : List ℕ) → rest ≡ piece ++ more → Spells token piece
    → IsLongest piece more → IsWithinLimits token
    → still_open depth token ≤ OPEN_PARENTHESES → FaultsBefore kind depth rest → ⊥
clear_prefix kinds.Byte depth token piece more rest whole writes longest within shallow found = found.1 piece more token writes whole
clear_prefix kinds.Token depth token piece more rest whole writes longest within shallow found =
    let same : found.0 ++ found.1 ≡ piece ++ more = sym found.5 ∙ whole in
    let sizes : length piece ≡ length found.0 =
    omega (arith, longest found.0 found.1 found.2 found.3 same, found.4 piece more token writes (sym same)) in
    let prefixes = prefix_once piece found.0 more found.1 sizes (sym same) in
    let tokens = spells_once token found.2 found.0 (subst (λ z. Spells token z) prefixes.0 writes) found.3 in
    found.6 (subst IsWithinLimits tokens within)
clear_prefix kinds.Limit depth token piece more rest whole writes longest within shallow found =
    let is = opens token piece more found.1 writes (sym whole ∙ found.2) in
    let count : still_open depth token ≡ depth + 1 = ap (still_open depth) is in
    omega (arith, count, shallow, found.0)
clear_prefix kinds.Grammar depth token piece more rest whole writes longest within shallow found = found
clear_prefix kinds.NameTaken depth token piece more rest whole writes longest within shallow found = found
clear_prefix kinds.NameUnknown depth token piece more rest whole writes longest within shallow found = found
clear_prefix kinds.TypeWrong depth token piece more rest whole writes longest within shallow found = found
clear_prefix kinds.SelfSend depth token piece more rest whole writes longest within shallow found = found
clear_prefix kinds.SetTwice depth token piece more rest whole writes longest within shallow found = found

-- a text with tokens has no fault among them
no_fault : (tokens before : List Placed) (at depth : ℕ) (text : List ℕ) (end stop : ℕ) (rest : List ℕ) (kind : FaultKind)
    → BeginsWith at text tokens end []
    → AllByRecursion (λ p. IsWithinLimits p.token) tokens → StaysShallow depth tokens → BeginsWith at text before stop rest
    → FaultsBefore kind (open_after depth before) rest → ⊥
no_fault [] [] at depth text end stop rest kind x within shallow y found =
    no_other y.0 rest (subst (λ z. list_all is_space z ≡ true) (sym (append-nil x.0) ∙ sym x.2 ∙ y.2) x.1)
    (fault_begins kind depth rest found)
no_fault (p ∷ tokens) [] at depth text end stop rest kind x within shallow y found =
    let split =
    gap_once y.0 x.0 rest (x.1 ++ x.2) y.1 x.3 (fault_begins kind depth rest found)
    (begins_append x.1 x.2 (spells_first p.token x.1 x.6)) (sym y.2 ∙ x.4 ∙ append_assoc x.0 x.1 x.2) in
    clear_prefix kind depth p.token x.1 x.2 rest split.1 x.6 x.7 within.0 shallow.0 found
no_fault [] (q ∷ before) at depth text end stop rest kind x within shallow y found =
    no_token y.0 text x.0 y.1 y.2 x.1 x.2 y.4 y.3 (spells_first q.token y.1 y.6)
no_fault (p ∷ tokens) (q ∷ before) at depth text end stop rest kind x within shallow y found =
    let same = step_once text x.0 y.0 x.1 y.1 x.2 y.2 p.token q.token x.3 y.3 x.4 y.4 x.6 y.6 x.7 y.7 in
    let places : p.at ≡ q.at = omega (arith, x.5, y.5, ap length same.gaps) in
    let ends : q.at + length y.1 ≡ p.at + length x.1 = omega (arith, places, ap length same.pieces) in
    no_fault tokens before (p.at + length x.1) (still_open depth p.token) x.2 end stop rest kind x.8 within.1 shallow.1
    (moved_begins before (q.at + length y.1) (p.at + length x.1) y.2 x.2 stop rest ends (sym same.rests) y.8)
    (subst (λ t. FaultsBefore kind (open_after (still_open depth t) before) rest) (sym same.tokens) found)

pub no_token_fault : (text : List ℕ) (tokens : List Placed) (fault : ProgFault) → HasTokens text tokens → IsTokenFault text fault → ⊥
no_token_fault text tokens fault x y =
    no_fault tokens y.0 0 0 text (length text) fault.at y.1 fault.kind x.1 x.2.0 x.2.1 y.2 y.4
