-- Expressions: what is read is what the grammar derives, and conversely.
use Rattle.std.proofs.Common.{◌≡◌, ℕ, ◌<◌, ◌≤◌, Bool, true, false, cond, List, [], ◌∷◌, ◌++◌, length, Some, None, Ok, refl, sym, ap, ◌∙◌}
use Rattle.std.proofs.Common.{subst, codes, arith, append_assoc}
use Rattle.std.specs.Option.{is_some}
use Rattle.std.specs.Str.{bytes_eq}
use Rattle.dbg_base.specs.declared.expr.Operator.{Operator}
use Rattle.dbg_base.specs.declared.expr.Direction.{Direction}
use Rattle.dbg_base.specs.declared.expr.Direction.TheVariants.{Sent, Got}
use Rattle.dbg_base.specs.Tokens.{Word, Placed}
use Rattle.dbg_base.specs.declared.sign.Sign.TheVariants.{OpenParenthesis, CloseParenthesis, Minus}
use Rattle.dbg_base.specs.Grammar.{Named, Phrase, Number, Name, Truth, Count, Not, Negate, Binary, word_at, number_at, sign_at}
use Rattle.dbg_base.specs.Grammar.{operator_token, direction_word, DerivesName, DerivesExpression, Begins, IsName}
use Rattle.proc_lang.specs.Parsing.{Read, ◌>>=◌, is_word_token, is_sign_token, begins_word, begins_sign, begins_count, direction_in}
use Rattle.proc_lang.specs.Parsing.{read_word, read_sign, read_name, read_operator, read_direction, phrase_in, read_operand, read_count}
use Rattle.proc_lang.specs.Parsing.{read_not, read_negate, read_binary, read_group, read_parentheses, read_by, read_expression}
use Rattle.proc_lang.proofs.ReaderLemmas.{IsReader, Completes, Anything, Then, Last, bind_to, bind_same, bind_agree, leaves, derives_more}
use Rattle.proc_lang.proofs.ReaderLemmas.{both_reader}
use Rattle.proc_lang.proofs.ReaderLemmas.{last_reader, either_reader, either_first, either_second}
use Rattle.proc_lang.proofs.RecursiveReaderLemmas.{fixed_parts, fixed_reader}
use Rattle.proc_lang.proofs.TokenReaderLemmas.{WordAt, SignAt, OperatorAt, DirectionAt, word_reader, word_here, word_takes, sign_reader}
use Rattle.proc_lang.proofs.TokenReaderLemmas.{sign_here, sign_takes, name_reader, name_completes, name_is_not, operator_reader, operator_completes}
use Rattle.proc_lang.proofs.TokenReaderLemmas.{operator_takes, direction_reader, direction_completes, direction_found, name_phrase, operand_reader}
use Rattle.proc_lang.proofs.TokenReaderLemmas.{operand_completes}

-- tokens that consist of several parts
four : (tokens a r b s c t : List Placed) (p q x y : Placed) → tokens ≡ a ++ r → a ≡ p ∷ [] → r ≡ b ++ s → b ≡ q ∷ [] → s ≡ c ++ t
    → c ≡ x ∷ [] → t ≡ y ∷ [] → tokens ≡ p ∷ q ∷ x ∷ y ∷ []
four tokens a r b s c t p q x y e f g h i j k = rw (e, f, g, h, i, j, k) refl

around : (tokens a r b s : List Placed) (p q : Placed) → tokens ≡ a ++ r → a ≡ p ∷ [] → r ≡ b ++ s → s ≡ q ∷ []
    → tokens ≡ p ∷ b ++ q ∷ []
around tokens a r b s p q e f g h = rw (e, f, g, h) refl

between : (tokens a r b s c t : List Placed) (p q : Placed) → tokens ≡ a ++ r → r ≡ b ++ s → b ≡ p ∷ [] → s ≡ c ++ t → t ≡ q ∷ []
    → tokens ≡ a ++ p ∷ c ++ q ∷ []
between tokens a r b s c t p q e f g h i = rw (e, f, g, h, i) (simp append_assoc)

-- a count
abbrev Counted : List Placed → Phrase → Type 0
Counted = Then DirectionAt (λ word. Then (SignAt OpenParenthesis) (λ begin. Then DerivesName
    (λ other. Last (λ close. Count word.0 word.1 other) (SignAt CloseParenthesis))))

counted_derives : (tokens : List Placed) (e : Phrase) → Counted tokens e → DerivesExpression tokens e
counted_derives tokens e d =
    let begin = d.4 in
    let other = begin.4 in
    let close = other.4 in
    subst (λ (x : Phrase). DerivesExpression tokens x) close.2 (
      begin.0,
      close.0,
      other.3.1,
      four tokens d.1 d.2 begin.1 begin.2 other.1 other.2 _ _ _ _ d.5 d.3 begin.5 begin.3 other.5 other.3.0 close.1,
    )

pub count_reader : IsReader DerivesExpression read_count
unfolding read_count
count_reader =
    derives_more Counted DerivesExpression read_count counted_derives
    (both_reader _ _ read_direction _ direction_reader (λ word.
    both_reader _ _ (read_sign OpenParenthesis) _ (sign_reader OpenParenthesis) (λ begin.
    both_reader _ _ read_name _ name_reader (λ other.
    last_reader (λ close. Count word.0 word.1 other) (SignAt CloseParenthesis) (read_sign CloseParenthesis)
    (sign_reader CloseParenthesis)))))

count_completes : (at : ℕ) (direction : Direction) (other : Named) (prefix rest : List Placed)
    → DerivesExpression prefix (Count at direction other) → read_count (prefix ++ rest) ≡ Ok (Count at direction other, rest)
unfolding read_count
count_completes at direction other prefix rest d =
    ap (λ (l : List Placed). read_count (l ++ rest)) d.3
    ∙ bind_to _ _ _ _ (direction_completes (word_at at (direction_word direction) ∷ []) _ (at, direction) refl tt)
    (bind_to _ _ _ _ (sign_here OpenParenthesis d.0 _)
    (bind_to _ _ _ _ (name_completes (word_at other.at other.name ∷ []) _ other (refl, d.2) tt)
    (bind_to _ _ _ _ (sign_here CloseParenthesis d.1 rest) refl)))

-- what derives an expression in parentheses, after the first parenthesis, which opened at this offset
abbrev Group : ℕ → List Placed → Phrase → Type 0
Group at tokens e = DerivesExpression (sign_at at OpenParenthesis ∷ tokens) e

abbrev Negation : ℕ → List Placed → Phrase → Type 0
Negation at = Then (WordAt (codes "not"))
    (λ word. Then DerivesExpression (λ operand. Last (λ close. Not at operand) (SignAt CloseParenthesis)))

abbrev Negative : ℕ → List Placed → Phrase → Type 0
Negative at = Then (SignAt Minus) (λ minus. Then DerivesExpression (λ operand. Last (λ close. Negate at operand) (SignAt CloseParenthesis)))

abbrev Two : ℕ → List Placed → Phrase → Type 0
Two at = Then DerivesExpression (λ left. Then OperatorAt (λ operator. Then DerivesExpression
    (λ right. Last (λ close. Binary at operator left right) (SignAt CloseParenthesis))))

module _ (at : ℕ) (tokens : List Placed) (e : Phrase) where
  negation_derives : Negation at tokens e → Group at tokens e
  negation_derives d =
      let operand = d.4 in
      let close = operand.4 in
      subst (λ (x : Phrase). Group at tokens x) close.2 (
        operand.1,
        d.0,
        close.0,
        operand.3,
        ap (λ (l : List Placed). sign_at at OpenParenthesis ∷ l)
            (around tokens d.1 d.2 operand.1 operand.2 _ _ d.5 d.3 operand.5 close.1),
      )

  negative_derives : Negative at tokens e → Group at tokens e
  negative_derives d =
      let operand = d.4 in
      let close = operand.4 in
      subst (λ (x : Phrase). Group at tokens x) close.2 (
        operand.1,
        d.0,
        close.0,
        operand.3,
        ap (λ (l : List Placed). sign_at at OpenParenthesis ∷ l)
            (around tokens d.1 d.2 operand.1 operand.2 _ _ d.5 d.3 operand.5 close.1),
      )

  two_derive : Two at tokens e → Group at tokens e
  two_derive d =
      let operator = d.4 in
      let right = operator.4 in
      let close = right.4 in
      subst (λ (x : Phrase). Group at tokens x) close.2 (
        d.1,
        right.1,
        operator.3.0,
        close.0,
        d.3,
        right.3,
        ap (λ (l : List Placed). sign_at at OpenParenthesis ∷ l)
            (between tokens d.1 d.2 operator.1 operator.2 right.1 right.2 _ _ d.5 operator.5 operator.3.1 right.5 close.1),
      )

-- an expression in parentheses, if `inner` reads expressions
module _ (inner : List Placed → Read Phrase) (reader : IsReader DerivesExpression inner) where
  closes : (f : ℕ → Phrase) →
      IsReader (Last f (SignAt CloseParenthesis)) (λ tokens. read_sign CloseParenthesis tokens >>= λ x. Ok (f x.0, x.1))
  closes f = last_reader f (SignAt CloseParenthesis) (read_sign CloseParenthesis) (sign_reader CloseParenthesis)

  not_reader : (at : ℕ) → IsReader (Group at) (read_not inner at)
  unfolding read_not
  not_reader at =
      derives_more (Negation at) (Group at) (read_not inner at) (negation_derives at)
      (both_reader _ _ (read_word (codes "not")) _ (word_reader (codes "not")) (λ word.
      both_reader _ _ inner _ reader (λ operand. closes (λ close. Not at operand))))

  negate_reader : (at : ℕ) → IsReader (Group at) (read_negate inner at)
  unfolding read_negate
  negate_reader at =
      derives_more (Negative at) (Group at) (read_negate inner at) (negative_derives at)
      (both_reader _ _ (read_sign Minus) _ (sign_reader Minus) (λ minus.
      both_reader _ _ inner _ reader (λ operand. closes (λ close. Negate at operand))))

  binary_reader : (at : ℕ) → IsReader (Group at) (read_binary inner at)
  unfolding read_binary
  binary_reader at =
      derives_more (Two at) (Group at) (read_binary inner at) (two_derive at)
      (both_reader _ _ inner _ reader (λ left.
      both_reader _ _ read_operator _ operator_reader (λ operator.
      both_reader _ _ inner _ reader (λ right. closes (λ close. Binary at operator left right)))))

  group_reader : (at : ℕ) → IsReader (Group at) (read_group inner at)
  group_reader at =
      either_reader (Group at) (is_word_token (codes "not")) (read_not inner at) _ (not_reader at)
      (either_reader (Group at) (is_sign_token Minus) (read_negate inner at) (read_binary inner at) (negate_reader at) (binary_reader at))

  parentheses_reader : IsReader DerivesExpression (read_parentheses inner)
  unfolding read_parentheses
  parentheses_reader =
      derives_more (Then (SignAt OpenParenthesis) Group) DerivesExpression (read_parentheses inner)
      (λ tokens e d. subst (λ (l : List Placed). DerivesExpression l e) (sym (d.5 ∙ ap (λ (l : List Placed). l ++ d.2) d.3)) d.4)
      (both_reader _ _ (read_sign OpenParenthesis) (read_group inner) (sign_reader OpenParenthesis) group_reader)

  by_reader : IsReader DerivesExpression (read_by inner)
  by_reader =
      either_reader DerivesExpression (is_sign_token OpenParenthesis) (read_parentheses inner) _ parentheses_reader
      (either_reader DerivesExpression (λ token. is_some (direction_in token)) read_count read_operand count_reader operand_reader)

  -- what is in parentheses has fewer tokens
  module _ (other : List Placed → Read Phrase) (tokens : List Placed) where
    not_agree : (at : ℕ) → ((us : List Placed) → length us < length tokens → inner us ≡ other us)
        → read_not inner at tokens ≡ read_not other at tokens
    unfolding read_not
    not_agree at same =
        bind_agree (read_word (codes "not") tokens) _ _ (λ a e. bind_same _ _ _ (same a.1 (word_takes (codes "not") tokens a e)))

    negate_agree : (at : ℕ) → ((us : List Placed) → length us < length tokens → inner us ≡ other us)
        → read_negate inner at tokens ≡ read_negate other at tokens
    unfolding read_negate
    negate_agree at same = bind_agree (read_sign Minus tokens) _ _ (λ a e. bind_same _ _ _ (same a.1 (sign_takes Minus tokens a e)))

    binary_agree : (at : ℕ) → ((us : List Placed) → length us ≤ length tokens → inner us ≡ other us)
        → read_binary inner at tokens ≡ read_binary other at tokens
    unfolding read_binary
    binary_agree at same =
        bind_agree (inner tokens) _ _ (λ a e. bind_agree (read_operator a.1) _ _
        (λ b f. bind_same _ _ _ (same b.1 (omega (arith, leaves DerivesExpression inner reader tokens a e, operator_takes a.1 b f)))))
        ∙ bind_same _ _ _ (same tokens (omega arith))

    group_agree : (at : ℕ) → ((us : List Placed) → length us ≤ length tokens → inner us ≡ other us)
        → read_group inner at tokens ≡ read_group other at tokens
    group_agree at same =
        ap (λ x. cond (begins_word (codes "not") tokens) x
        (cond (begins_sign Minus tokens) (read_negate inner at tokens) (read_binary inner at tokens)))
        (not_agree at (λ us lt. same us (omega (arith, lt))))
        ∙ ap (λ x. cond (begins_word (codes "not") tokens) (read_not other at tokens)
        (cond (begins_sign Minus tokens) x (read_binary inner at tokens)))
        (negate_agree at (λ us lt. same us (omega (arith, lt))))
        ∙ ap (λ x. cond (begins_word (codes "not") tokens) (read_not other at tokens)
        (cond (begins_sign Minus tokens) (read_negate other at tokens) x))
        (binary_agree at same)

  by_agree : (other : List Placed → Read Phrase) (tokens : List Placed)
      → ((us : List Placed) → length us < length tokens → inner us ≡ other us) → read_by inner tokens ≡ read_by other tokens
  unfolding read_parentheses
  by_agree other tokens same =
      ap (λ x. cond (begins_sign OpenParenthesis tokens) x (cond (begins_count tokens) (read_count tokens) (read_operand tokens)))
      (bind_agree (read_sign OpenParenthesis tokens) (λ first. read_group inner first.0 first.1) (λ first. read_group other first.0 first.1)
      (λ a e. group_agree other a.1 a.0 (λ us le. same us (omega (arith, le, sign_takes OpenParenthesis tokens a e)))))

some_expression : Begins DerivesExpression []
some_expression = (number_at 0 0 ∷ [], Number 0 0, refl)

pub expression_reader : IsReader DerivesExpression read_expression
expression_reader = fixed_reader DerivesExpression read_by some_expression by_reader (λ read other reader. by_agree read reader other)

-- an expression is read by its parts
pub expression_parts : (tokens : List Placed) → read_expression tokens ≡ read_by read_expression tokens
expression_parts = fixed_parts DerivesExpression read_by some_expression by_reader (λ read other reader. by_agree read reader other)

-- an expression that is not in parentheses
abbrev read_bare : List Placed → Read Phrase
read_bare tokens = cond (begins_count tokens) (read_count tokens) (read_operand tokens)

-- after an opening parenthesis, if `not` does not follow
abbrev read_signed : ℕ → List Placed → Read Phrase
read_signed at tokens = cond (begins_sign Minus tokens) (read_negate read_expression at tokens) (read_binary read_expression at tokens)

-- an expression begins neither with `not` nor with a minus
first_of_expression : (e : Phrase) (prefix more : List Placed) → DerivesExpression prefix e
    → (begins_word (codes "not") (prefix ++ more) ≡ false) × (begins_sign Minus (prefix ++ more) ≡ false)
first_of_expression (Number at value) prefix more d =
    (ap (λ (l : List Placed). begins_word (codes "not") (l ++ more)) d, ap (λ (l : List Placed). begins_sign Minus (l ++ more)) d)
first_of_expression (Name at name) prefix more d = (
  ap (λ (l : List Placed). begins_word (codes "not") (l ++ more)) d.0 ∙ name_is_not (codes "not") name refl d.1,
  ap (λ (l : List Placed). begins_sign Minus (l ++ more)) d.0,
)
first_of_expression (Truth at true) prefix more d =
    (ap (λ (l : List Placed). begins_word (codes "not") (l ++ more)) d, ap (λ (l : List Placed). begins_sign Minus (l ++ more)) d)
first_of_expression (Truth at false) prefix more d =
    (ap (λ (l : List Placed). begins_word (codes "not") (l ++ more)) d, ap (λ (l : List Placed). begins_sign Minus (l ++ more)) d)
first_of_expression (Count at Sent other) prefix more d =
    (ap (λ (l : List Placed). begins_word (codes "not") (l ++ more)) d.3, ap (λ (l : List Placed). begins_sign Minus (l ++ more)) d.3)
first_of_expression (Count at Got other) prefix more d =
    (ap (λ (l : List Placed). begins_word (codes "not") (l ++ more)) d.3, ap (λ (l : List Placed). begins_sign Minus (l ++ more)) d.3)
first_of_expression (Not at operand) prefix more d =
    (ap (λ (l : List Placed). begins_word (codes "not") (l ++ more)) d.4, ap (λ (l : List Placed). begins_sign Minus (l ++ more)) d.4)
first_of_expression (Negate at operand) prefix more d =
    (ap (λ (l : List Placed). begins_word (codes "not") (l ++ more)) d.4, ap (λ (l : List Placed). begins_sign Minus (l ++ more)) d.4)
first_of_expression (Binary at operator left right) prefix more d =
    (ap (λ (l : List Placed). begins_word (codes "not") (l ++ more)) d.6, ap (λ (l : List Placed). begins_sign Minus (l ++ more)) d.6)

-- an expression in parentheses, read by its parts
module _ (inner : List Placed → Read Phrase) (at : ℕ) (tokens : List Placed) where
  complete_not : (not_at close_at : ℕ) (operand : Phrase) (a rest : List Placed) → tokens ≡ word_at not_at (codes "not") ∷ a
      → inner a ≡ Ok (operand, sign_at close_at CloseParenthesis ∷ rest) → read_not inner at tokens ≡ Ok (Not at operand, rest)
  unfolding read_not
  complete_not not_at close_at operand a rest begins_so reads =
      bind_to _ _ (not_at, a) _
      (ap (read_word (codes "not")) begins_so ∙ word_here (codes "not") not_at a)
      (bind_to _ _ _ _ reads
      (bind_to _ _ _ _ (sign_here CloseParenthesis close_at rest) refl))

  complete_negate : (minus_at close_at : ℕ) (operand : Phrase) (a rest : List Placed) → tokens ≡ sign_at minus_at Minus ∷ a
      → inner a ≡ Ok (operand, sign_at close_at CloseParenthesis ∷ rest) → read_negate inner at tokens ≡ Ok (Negate at operand, rest)
  unfolding read_negate
  complete_negate minus_at close_at operand a rest begins_so reads =
      bind_to _ _ (minus_at, a) _ (ap (read_sign Minus) begins_so ∙ sign_here Minus minus_at a)
      (bind_to _ _ _ _ reads
      (bind_to _ _ _ _ (sign_here CloseParenthesis close_at rest) refl))

  complete_binary : (operator_at close_at : ℕ) (operator : Operator) (left right : Phrase) (a rest : List Placed)
      → inner tokens ≡ Ok (left, record { at = operator_at; token = operator_token operator } ∷ a)
      → inner a ≡ Ok (right, sign_at close_at CloseParenthesis ∷ rest)
      → read_binary inner at tokens ≡ Ok (Binary at operator left right, rest)
  unfolding read_binary
  complete_binary operator_at close_at operator left right a rest first second =
      bind_to _ _ _ _ first
      (bind_to _ _ _ _ (operator_completes (record { at = operator_at; token = operator_token operator } ∷ []) a operator
      (operator_at, refl) tt)
      (bind_to _ _ _ _ second
      (bind_to _ _ _ _ (sign_here CloseParenthesis close_at rest) refl)))

-- the first parenthesis
opens : (at : ℕ) (tokens : List Placed)
    → read_expression (sign_at at OpenParenthesis ∷ tokens) ≡ read_group read_expression at tokens
unfolding read_parentheses
opens at tokens =
    expression_parts (sign_at at OpenParenthesis ∷ tokens)
    ∙ bind_to _ _ (at, tokens) _ (sign_here OpenParenthesis at tokens) refl

-- an expression of one token
alone : (p : Placed) (e : Phrase) (rest : List Placed) → is_sign_token OpenParenthesis p.token ≡ false
    → is_some (direction_in p.token) ≡ false → phrase_in p ≡ Some e → read_expression (p ∷ rest) ≡ Ok (e, rest)
alone p e rest no_sign no_count reads =
    expression_parts (p ∷ rest)
    ∙ either_second DerivesExpression (is_sign_token OpenParenthesis) (read_parentheses read_expression) read_bare (p ∷ rest) _ no_sign
    (either_second DerivesExpression (λ token. is_some (direction_in token)) read_count read_operand (p ∷ rest) _ no_count
    (operand_completes (p ∷ []) rest e (p, refl, reads) tt))

-- a name does not begin a count
name_counts_not : (name : List ℕ) → IsName name → is_some (direction_in (Word name)) ≡ false
name_counts_not name is =
    ap (λ (b : Bool). is_some (cond b (Some Sent) (cond (bytes_eq name (codes "got")) (Some Got) None)))
    (name_is_not (codes "sent") name refl is)
    ∙ ap (λ (b : Bool). is_some (cond b (Some Got) None)) (name_is_not (codes "got") name refl is)

-- an expression that is derived is read
complete_phrase : (e : Phrase) (prefix rest : List Placed) → DerivesExpression prefix e → read_expression (prefix ++ rest) ≡ Ok (e, rest)
complete_phrase (Number at value) prefix rest d =
    ap (λ (l : List Placed). read_expression (l ++ rest)) d ∙ alone (number_at at value) _ rest refl refl refl
complete_phrase (Name at name) prefix rest d =
    ap (λ (l : List Placed). read_expression (l ++ rest)) d.0
    ∙ alone (word_at at name) _ rest refl (name_counts_not name d.1) (name_phrase at name d.1)
complete_phrase (Truth at true) prefix rest d =
    ap (λ (l : List Placed). read_expression (l ++ rest)) d ∙ alone (word_at at (codes "true")) _ rest refl refl refl
complete_phrase (Truth at false) prefix rest d =
    ap (λ (l : List Placed). read_expression (l ++ rest)) d ∙ alone (word_at at (codes "false")) _ rest refl refl refl
complete_phrase (Count at direction other) prefix rest d =
    let no_sign : begins_sign OpenParenthesis (prefix ++ rest) ≡ false =
    ap (λ (l : List Placed). begins_sign OpenParenthesis (l ++ rest)) d.3 in
    let count : begins_count (prefix ++ rest) ≡ true =
    ap (λ (l : List Placed). begins_count (l ++ rest)) d.3 ∙ ap is_some (direction_found direction) in
    expression_parts (prefix ++ rest)
    ∙ either_second DerivesExpression (is_sign_token OpenParenthesis) (read_parentheses read_expression) read_bare (prefix ++ rest) _ no_sign
    (either_first DerivesExpression (λ token. is_some (direction_in token)) read_count read_operand (prefix ++ rest) _ count
    (count_completes at direction other prefix rest d))
complete_phrase (Not at operand) prefix rest d =
    let tail : List Placed = (d.0 ++ sign_at d.2 CloseParenthesis ∷ []) ++ rest in
    let reads : read_expression tail ≡ Ok (operand, sign_at d.2 CloseParenthesis ∷ rest) =
    ap read_expression (append_assoc d.0 (sign_at d.2 CloseParenthesis ∷ []) rest)
    ∙ complete_phrase operand d.0 (sign_at d.2 CloseParenthesis ∷ rest) d.3 in
    ap (λ (l : List Placed). read_expression (l ++ rest)) d.4 ∙ opens at (word_at d.1 (codes "not") ∷ tail)
    ∙ complete_not read_expression at (word_at d.1 (codes "not") ∷ tail) d.1 d.2 operand tail rest refl reads
complete_phrase (Negate at operand) prefix rest d =
    let tail : List Placed = (d.0 ++ sign_at d.2 CloseParenthesis ∷ []) ++ rest in
    let reads : read_expression tail ≡ Ok (operand, sign_at d.2 CloseParenthesis ∷ rest) =
    ap read_expression (append_assoc d.0 (sign_at d.2 CloseParenthesis ∷ []) rest)
    ∙ complete_phrase operand d.0 (sign_at d.2 CloseParenthesis ∷ rest) d.3 in
    ap (λ (l : List Placed). read_expression (l ++ rest)) d.4 ∙ opens at (sign_at d.1 Minus ∷ tail)
    ∙ complete_negate read_expression at (sign_at d.1 Minus ∷ tail) d.1 d.2 operand tail rest refl reads
complete_phrase (Binary at operator left right) prefix rest d =
    let sign : Placed = record { at = d.2; token = operator_token operator } in
    let last : List Placed = d.1 ++ sign_at d.3 CloseParenthesis ∷ rest in
    let tail : List Placed = d.0 ++ (sign ∷ last) in
    let same : (d.0 ++ sign ∷ d.1 ++ sign_at d.3 CloseParenthesis ∷ []) ++ rest ≡ tail = simp append_assoc in
    let first : read_expression tail ≡ Ok (left, sign ∷ last) = complete_phrase left d.0 (sign ∷ last) d.4 in
    let second : read_expression last ≡ Ok (right, sign_at d.3 CloseParenthesis ∷ rest) =
    complete_phrase right d.1 (sign_at d.3 CloseParenthesis ∷ rest) d.5 in
    let begins_so = first_of_expression left d.0 (sign ∷ last) d.4 in
    ap (λ (l : List Placed). read_expression (l ++ rest)) d.6
    ∙ ap (λ (l : List Placed). read_expression (sign_at at OpenParenthesis ∷ l)) same ∙ opens at tail
    ∙ either_second (Group at) (is_word_token (codes "not")) (read_not read_expression at) (read_signed at) tail _ begins_so.0
    (either_second (Group at) (is_sign_token Minus) (read_negate read_expression at) (read_binary read_expression at) tail _ begins_so.1
    (complete_binary read_expression at tail d.2 d.3 operator left right last rest first second))

pub expression_completes : Completes DerivesExpression Anything read_expression
expression_completes prefix rest e d any = complete_phrase e prefix rest d
