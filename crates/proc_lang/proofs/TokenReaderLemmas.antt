-- Readers of one token: a word, a sign, a name, a number, an operator, the word of a count, an expression of one token; and of none.
use Rattle.std.proofs.Common.{◌≡◌, ℕ, suc, Bool, true, false, cond, List, [], ◌∷◌, length, Option, Some, None, Ok, Err, refl, sym, ap}
use Rattle.std.proofs.Common.{◌∙◌, subst, codes, ◌⊎◌, inl, inr}
use Rattle.std.specs.Option.{option_map}
use Rattle.std.specs.List.{list_any}
use Rattle.std.specs.Str.{bytes_eq}
use Rattle.std.proofs.lemmas.Slice.Eq.{bytes_eq-Decides}
use Rattle.dbg_base.specs.declared.expr.Operator.{Operator}
use Rattle.dbg_base.specs.declared.expr.Operator.TheVariants.{Add, Subtract, Multiply, Divide, Remainder, Equal, NotEqual, Less}
use Rattle.dbg_base.specs.declared.expr.Operator.TheVariants.{LessOrEqual, Greater, GreaterOrEqual, And, Or}
use Rattle.dbg_base.specs.declared.expr.Direction.{Direction}
use Rattle.dbg_base.specs.declared.expr.Direction.TheVariants.{Sent, Got}
use Rattle.dbg_base.specs.Tokens.{Token, Word, Symbol, Placed}
use Rattle.dbg_base.specs.declared.sign.Sign.{Sign}
use Rattle.dbg_base.specs.declared.sign.Sign.TheVariants.{Equals, NotEquals, LessThan, AtMost, GreaterThan, AtLeast, Plus, Minus, Star}
use Rattle.dbg_base.specs.declared.sign.Sign.TheVariants.{Slash, Percent}
use Rattle.dbg_base.specs.Tokens as token
use Rattle.dbg_base.specs.Grammar.{Named, Phrase, Name, Truth, IsName, reserved_words, word_at, number_at, sign_at, operator_token}
use Rattle.dbg_base.specs.Grammar.{direction_word, DerivesName, DerivesExpression}
use Rattle.dbg_base.specs.Grammar as phrase
use denote.Enum.Bare.{same_true, true_same}
use Rattle.dbg_base.specs.contracts.sign.Sign.{the_type}
use Rattle.proc_lang.specs.Parsing.{Read, same_sign, is_word_token, is_sign_token, place_where, read_one, read_word, read_sign, name_in}
use Rattle.proc_lang.specs.Parsing.{named_in, read_name, number_in, read_number, sign_operator, operator_in, read_operator}
use Rattle.proc_lang.specs.Parsing.{direction_in, read_direction, word_phrase, phrase_in, read_operand, read_end}
use Rattle.proc_lang.proofs.ReaderLemmas.{SameFirst, Success, Failure, IsReader, Completes, Anything, Takes, One, ok_is, derives_more}
use Rattle.proc_lang.proofs.ReaderLemmas.{one_reader, one_completes, one_takes}

-- what one token derives, by its kind
abbrev pub WordAt : List ℕ → List Placed → ℕ → Type 0
WordAt word tokens at = tokens ≡ word_at at word ∷ []

abbrev pub SignAt : Sign → List Placed → ℕ → Type 0
SignAt sign tokens at = tokens ≡ sign_at at sign ∷ []

abbrev pub NumberAt : List Placed → ℕ → Type 0
NumberAt tokens value = (at : ℕ) × (tokens ≡ number_at at value ∷ [])

abbrev pub OperatorAt : List Placed → Operator → Type 0
OperatorAt tokens operator = (at : ℕ) × (tokens ≡ record { at = at; token = operator_token operator } ∷ [])

abbrev pub DirectionAt : List Placed → ℕ × Direction → Type 0
DirectionAt tokens word = tokens ≡ word_at word.0 (direction_word word.1) ∷ []

-- an expression of one token
abbrev pub Operand : List Placed → Phrase → Type 0
Operand tokens e = (p : Placed) × (tokens ≡ p ∷ []) × (phrase_in p ≡ Some e)

map_some : {A B : Type 0} (o : Option A) (f : A → B) (y : B) → option_map f o ≡ Some y → (x : A) × (o ≡ Some x) × (f x ≡ y)
map_some None f y e = cc
map_some (Some x) f y e = (x, refl, cc)

if_some : {A : Type 0} (b : Bool) (x y : A) → cond b (Some x) None ≡ Some y → (b ≡ true) × (x ≡ y)
if_some true x y e = (refl, cc)
if_some false x y e = cc

bytes_eq_itself : (word : List ℕ) → bytes_eq word word ≡ true
bytes_eq_itself word = (bytes_eq-Decides word word).1 refl

bytes_equal : (a b : List ℕ) → bytes_eq a b ≡ true → a ≡ b
bytes_equal a b same = (bytes_eq-Decides a b).0 same

-- a token that is found by a test
module _ (test : Token → Bool) (t : Token) (only : (u : Token) → test u ≡ true → u ≡ t) (passes : test t ≡ true) where
  abbrev Standing : List Placed → ℕ → Type 0
  Standing tokens at = tokens ≡ record { at = at; token = t } ∷ []

  standing : (tokens : List Placed) (at : ℕ) → One (place_where test) tokens at → Standing tokens at
  standing tokens at d =
      let found = if_some (test d.0.token) d.0.at at d.2 in
      d.1 ∙ ap (λ (u : Token). record { at = d.0.at; token = u } ∷ []) (only d.0.token found.0)
      ∙ ap (λ (n : ℕ). record { at = n; token = t } ∷ []) found.1

  token_reader : IsReader Standing (read_one (place_where test))
  token_reader =
      derives_more (One (place_where test)) Standing (read_one (place_where test)) standing
      (one_reader (place_where test) (record { at = 0; token = t }) 0 (ap (λ (b : Bool). cond b (Some 0) None) passes))

  token_completes : Completes Standing Anything (read_one (place_where test))
  token_completes prefix rest at d any =
      one_completes (place_where test) prefix rest at
      (record { at = at; token = t }, d, ap (λ (b : Bool). cond b (Some at) None) passes) any

-- a word
module _ (word : List ℕ) where
  token_is_word : (t : Token) → is_word_token word t ≡ true → t ≡ Word word
  token_is_word (Word found) e = ap Word (bytes_equal found word e)
  token_is_word (token.Number value) e = cc
  token_is_word (Symbol sign) e = cc

  pub word_reader : IsReader (WordAt word) (read_word word)
  unfolding read_word
  word_reader = token_reader (is_word_token word) (Word word) token_is_word (bytes_eq_itself word)

  word_completes : Completes (WordAt word) Anything (read_word word)
  unfolding read_word
  word_completes = token_completes (is_word_token word) (Word word) token_is_word (bytes_eq_itself word)

  pub word_here : (at : ℕ) (rest : List Placed) → read_word word (word_at at word ∷ rest) ≡ Ok (at, rest)
  word_here at rest = word_completes (word_at at word ∷ []) rest at refl tt

  pub word_takes : Takes (read_word word)
  unfolding read_word
  word_takes = one_takes (place_where (is_word_token word))

-- a sign
module _ (sign : Sign) where
  same_sign_itself : same_sign sign sign ≡ true
  same_sign_itself = true_same the_type sign sign refl

  token_is_sign : (t : Token) → is_sign_token sign t ≡ true → t ≡ Symbol sign
  token_is_sign (Word found) e = cc
  token_is_sign (token.Number value) e = cc
  token_is_sign (Symbol found) e = ap Symbol (same_true the_type tt found sign e)

  pub sign_reader : IsReader (SignAt sign) (read_sign sign)
  unfolding read_sign
  sign_reader = token_reader (is_sign_token sign) (Symbol sign) token_is_sign same_sign_itself

  sign_completes : Completes (SignAt sign) Anything (read_sign sign)
  unfolding read_sign
  sign_completes = token_completes (is_sign_token sign) (Symbol sign) token_is_sign same_sign_itself

  pub sign_here : (at : ℕ) (rest : List Placed) → read_sign sign (sign_at at sign ∷ rest) ≡ Ok (at, rest)
  sign_here at rest = sign_completes (sign_at at sign ∷ []) rest at refl tt

  pub sign_takes : Takes (read_sign sign)
  unfolding read_sign
  sign_takes = one_takes (place_where (is_sign_token sign))

-- a name
name_chosen : (b : Bool) (word name : List ℕ) → cond b None (Some word) ≡ Some name → (b ≡ false) × (word ≡ name)
name_chosen true word name e = cc
name_chosen false word name e = (refl, cc)

name_is : (t : Token) (name : List ℕ) → name_in t ≡ Some name → (t ≡ Word name) × IsName name
name_is (Word word) name e =
    let h = name_chosen (list_any (bytes_eq word) reserved_words) word name e in
    (ap Word h.1, subst IsName h.1 h.0)
name_is (token.Number value) name e = cc
name_is (Symbol sign) name e = cc

name_found : (name : List ℕ) → IsName name → name_in (Word name) ≡ Some name
name_found name is = ap (λ (b : Bool). cond b None (Some name)) is

named : (tokens : List Placed) (x : Named) → One named_in tokens x → DerivesName tokens x
named tokens x d =
    let h = map_some (name_in d.0.token) (λ name. record { at = d.0.at; name = name }) x d.2 in
    let n = name_is d.0.token h.0 h.1 in (
      d.1 ∙ ap (λ (t : Token). record { at = d.0.at; token = t } ∷ []) n.0 ∙ ap (λ (y : Named). word_at y.at y.name ∷ []) h.2,
      subst (λ (y : Named). IsName y.name) h.2 n.1,
    )

pub name_reader : IsReader DerivesName read_name
unfolding read_name
name_reader =
    derives_more (One named_in) DerivesName (read_one named_in) named
    (one_reader named_in (word_at 0 (codes "a")) (record { at = 0; name = codes "a" }) refl)

pub name_completes : Completes DerivesName Anything read_name
unfolding read_name
name_completes prefix rest x d any =
    one_completes named_in prefix rest x
    (word_at x.at x.name, d.0, ap (option_map (λ name. record { at = x.at; name = name })) (name_found x.name d.1)) any

-- a name is not a reserved word
pub name_is_not : (word name : List ℕ) → list_any (bytes_eq word) reserved_words ≡ true → IsName name → bytes_eq name word ≡ false
name_is_not word name reserved is_name =
    elim (bytes_eq name word) as (λ b. bytes_eq name word ≡ b → b ≡ false) [
      | true ↦ λ same. absurd (let clash : true ≡ false = sym reserved ∙ subst IsName (bytes_equal name word same) is_name in cc)
      | false ↦ λ same. refl
    ] refl

-- a number
number_is : (t : Token) (value : ℕ) → number_in t ≡ Some value → t ≡ token.Number value
number_is (Word word) value e = cc
number_is (token.Number found) value e = ap token.Number (let same : found ≡ value = cc in same)
number_is (Symbol sign) value e = cc

pub number_reader : IsReader NumberAt read_number
unfolding read_number
number_reader =
    derives_more (One (λ p. number_in p.token)) NumberAt (read_one (λ p. number_in p.token))
    (λ tokens value d. (d.0.at, d.1 ∙ ap (λ (t : Token). record { at = d.0.at; token = t } ∷ []) (number_is d.0.token value d.2)))
    (one_reader (λ p. number_in p.token) (number_at 0 0) 0 refl)

pub number_completes : Completes NumberAt Anything read_number
unfolding read_number
number_completes prefix rest value d any =
    one_completes (λ p. number_in p.token) prefix rest value (number_at d.0 value, d.1, refl) any

-- an operator
sign_is : (sign : Sign) (operator : Operator) → sign_operator sign ≡ Some operator → Symbol sign ≡ operator_token operator
sign_is Plus operator e = let h : Add ≡ operator = cc in ap operator_token h
sign_is Minus operator e = let h : Subtract ≡ operator = cc in ap operator_token h
sign_is Star operator e = let h : Multiply ≡ operator = cc in ap operator_token h
sign_is Slash operator e = let h : Divide ≡ operator = cc in ap operator_token h
sign_is Percent operator e = let h : Remainder ≡ operator = cc in ap operator_token h
sign_is Equals operator e = let h : Equal ≡ operator = cc in ap operator_token h
sign_is NotEquals operator e = let h : NotEqual ≡ operator = cc in ap operator_token h
sign_is LessThan operator e = let h : Less ≡ operator = cc in ap operator_token h
sign_is AtMost operator e = let h : LessOrEqual ≡ operator = cc in ap operator_token h
sign_is GreaterThan operator e = let h : Greater ≡ operator = cc in ap operator_token h
sign_is AtLeast operator e = let h : GreaterOrEqual ≡ operator = cc in ap operator_token h
sign_is sign operator e = absurd cc

-- one of two words
chosen_word : {A : Type 0} (a b : Bool) (x y z : A) → cond a (Some x) (cond b (Some y) None) ≡ Some z
    → ((a ≡ true) × (x ≡ z)) ⊎ ((b ≡ true) × (y ≡ z))
chosen_word true b x y z e = inl (refl, cc)
chosen_word false true x y z e = inr (refl, cc)
chosen_word false false x y z e = cc

operator_is : (t : Token) (operator : Operator) → operator_in t ≡ Some operator → t ≡ operator_token operator
operator_is (Symbol sign) operator e = sign_is sign operator e
operator_is (token.Number value) operator e = cc
operator_is (Word word) operator e =
    elim (chosen_word (bytes_eq word (codes "and")) (bytes_eq word (codes "or")) And Or operator e) as
    (λ _. Word word ≡ operator_token operator) [
      | inl h ↦ ap Word (bytes_equal word (codes "and") h.0) ∙ ap operator_token h.1
      | inr h ↦ ap Word (bytes_equal word (codes "or") h.0) ∙ ap operator_token h.1
    ]

operator_found : (operator : Operator) → operator_in (operator_token operator) ≡ Some operator
operator_found Add = refl
operator_found Subtract = refl
operator_found Multiply = refl
operator_found Divide = refl
operator_found Remainder = refl
operator_found Equal = refl
operator_found NotEqual = refl
operator_found Less = refl
operator_found LessOrEqual = refl
operator_found Greater = refl
operator_found GreaterOrEqual = refl
operator_found And = refl
operator_found Or = refl

pub operator_reader : IsReader OperatorAt read_operator
unfolding read_operator
operator_reader =
    derives_more (One (λ p. operator_in p.token)) OperatorAt (read_one (λ p. operator_in p.token))
    (λ tokens operator d. (d.0.at, d.1 ∙ ap (λ (t : Token). record { at = d.0.at; token = t } ∷ []) (operator_is d.0.token operator d.2)))
    (one_reader (λ p. operator_in p.token) (sign_at 0 Plus) Add refl)

pub operator_completes : Completes OperatorAt Anything read_operator
unfolding read_operator
operator_completes prefix rest operator d any =
    one_completes (λ p. operator_in p.token) prefix rest operator
    (record { at = d.0; token = operator_token operator }, d.1, operator_found operator) any

pub operator_takes : Takes read_operator
unfolding read_operator
operator_takes = one_takes (λ p. operator_in p.token)

-- the word of a count
direction_is : (t : Token) (direction : Direction) → direction_in t ≡ Some direction → t ≡ Word (direction_word direction)
direction_is (Symbol sign) direction e = cc
direction_is (token.Number value) direction e = cc
direction_is (Word word) direction e =
    elim (chosen_word (bytes_eq word (codes "sent")) (bytes_eq word (codes "got")) Sent Got direction e)
    as (λ _. Word word ≡ Word (direction_word direction)) [
      | inl h ↦ ap Word (bytes_equal word (codes "sent") h.0 ∙ ap direction_word h.1)
      | inr h ↦ ap Word (bytes_equal word (codes "got") h.0 ∙ ap direction_word h.1)
    ]

pub direction_found : (direction : Direction) → direction_in (Word (direction_word direction)) ≡ Some direction
direction_found Sent = refl
direction_found Got = refl

abbrev directed : Placed → Option (ℕ × Direction)
directed p = option_map (λ direction. (p.at, direction)) (direction_in p.token)

pub direction_reader : IsReader DirectionAt read_direction
unfolding read_direction
direction_reader =
    derives_more (One directed) DirectionAt (read_one directed)
    (λ tokens word d. let h = map_some (direction_in d.0.token) (λ direction. (d.0.at, direction)) word d.2 in
    d.1 ∙ ap (λ (t : Token). record { at = d.0.at; token = t } ∷ []) (direction_is d.0.token h.0 h.1)
    ∙ ap (λ (w : ℕ × Direction). word_at w.0 (direction_word w.1) ∷ []) h.2)
    (one_reader directed (word_at 0 (codes "sent")) (0, Sent) refl)

pub direction_completes : Completes DirectionAt Anything read_direction
unfolding read_direction
direction_completes prefix rest word d any =
    one_completes directed prefix rest word
    (word_at word.0 (direction_word word.1), d, ap (option_map (λ direction. (word.0, direction))) (direction_found word.1)) any

-- an expression of one token
phrase_chosen : (a b : Bool) (at : ℕ) (o : Option (List ℕ)) (e : Phrase)
    → cond a (Some (Truth at true)) (cond b (Some (Truth at false)) (option_map (Name at) o)) ≡ Some e
    → ((a ≡ true) × (Truth at true ≡ e)) ⊎ ((b ≡ true) × (Truth at false ≡ e)) ⊎ ((name : List ℕ) × (o ≡ Some name) × (Name at name ≡ e))
phrase_chosen true b at o e is = inl (refl, cc)
phrase_chosen false true at o e is = inr (inl (refl, cc))
phrase_chosen false false at o e is = inr (inr (map_some o (Name at) e is))

operand_derives : (at : ℕ) (t : Token) (e : Phrase) → phrase_in (record { at = at; token = t }) ≡ Some e
    → DerivesExpression (record { at = at; token = t } ∷ []) e
operand_derives at (token.Number value) e is =
    let same : phrase.Number at value ≡ e = cc in subst (λ (x : Phrase). DerivesExpression (number_at at value ∷ []) x) same refl
operand_derives at (Symbol sign) e is = cc
operand_derives at (Word word) e is =
    elim (phrase_chosen (bytes_eq word (codes "true")) (bytes_eq word (codes "false")) at (name_in (Word word)) e is)
    as (λ _. DerivesExpression (word_at at word ∷ []) e) [
      | inl h ↦ subst (λ (x : Phrase). DerivesExpression (word_at at word ∷ []) x) h.1
          (ap (λ (w : List ℕ). word_at at w ∷ []) (bytes_equal word (codes "true") h.0))
      | inr h ↦ elim h as (λ _. DerivesExpression (word_at at word ∷ []) e) [
        | inl g ↦ subst (λ (x : Phrase). DerivesExpression (word_at at word ∷ []) x) g.1
            (ap (λ (w : List ℕ). word_at at w ∷ []) (bytes_equal word (codes "false") g.0))
        | inr g ↦ let n = name_is (Word word) g.0 g.1 in
            subst (λ (x : Phrase). DerivesExpression (word_at at word ∷ []) x) g.2
            (ap (λ (t : Token). record { at = at; token = t } ∷ []) n.0, n.1)
      ]
    ]

pub operand_reader : IsReader DerivesExpression read_operand
unfolding read_operand
operand_reader =
    derives_more (One phrase_in) DerivesExpression (read_one phrase_in)
    (λ tokens e d. subst (λ (l : List Placed). DerivesExpression l e) (sym d.1) (operand_derives d.0.at d.0.token e d.2))
    (one_reader phrase_in (number_at 0 0) (phrase.Number 0 0) refl)

-- a name is an expression
pub name_phrase : (at : ℕ) (name : List ℕ) → IsName name → word_phrase at name ≡ Some (Name at name)
name_phrase at name is =
    ap (λ (b : Bool). cond b (Some (Truth at true))
    (cond (bytes_eq name (codes "false")) (Some (Truth at false)) (option_map (Name at) (name_in (Word name)))))
    (name_is_not (codes "true") name refl is)
    ∙ ap (λ (b : Bool). cond b (Some (Truth at false)) (option_map (Name at) (name_in (Word name))))
    (name_is_not (codes "false") name refl is)
    ∙ ap (option_map (Name at)) (name_found name is)

pub operand_completes : Completes Operand Anything read_operand
unfolding read_operand
operand_completes prefix rest e d any = one_completes phrase_in prefix rest e d any

-- the end of the tokens
abbrev pub Nothing : List Placed → Unit {0} → Type 0
Nothing tokens end = tokens ≡ []

at_end : (other : List Placed) → SameFirst [] other → read_end other ≡ Ok (tt, other)
at_end [] same = refl
at_end (q ∷ qs) bad = absurd bad

no_end : (p : Placed) (ps other : List Placed) → SameFirst (p ∷ ps) other → read_end other ≡ Err (length other)
no_end p ps [] bad = absurd bad
no_end p ps (q ∷ qs) same = refl

end_succeeds : (tokens rest : List Placed) (x : Unit {0}) → read_end tokens ≡ Ok (x, rest) → Success Nothing read_end tokens rest x
end_succeeds [] rest x e =
    let same : [] ≡ rest = (ok_is tt x [] rest e).1 in
    record {
      prefix = [];
      derived = refl;
      whole = same;
      again = λ other is. at_end other (subst (λ (l : List Placed). SameFirst l other) (sym same) is);
    }
end_succeeds (p ∷ tokens) rest x e = cc

end_fails : (tokens : List Placed) (n : ℕ) → read_end tokens ≡ Err n → Failure Nothing read_end tokens n
end_fails [] n e = cc
end_fails (p ∷ tokens) n e = record {
  prefix = [];
  left = p ∷ tokens;
  viable = ([], tt, refl);
  whole = refl;
  size = let same : ◌≡◌ {A = Read (Unit {0})} (Err (suc (length tokens))) (Err n) = e in cc;
  again = no_end p tokens;
}

pub end_reader : IsReader Nothing read_end
end_reader = record { some = ([], tt, refl); succeeds = end_succeeds; fails = end_fails }
