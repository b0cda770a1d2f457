-- Initial values, variables, assignments, bodies and commands: what is read is what the grammar derives, and conversely.
use Rattle.std.proofs.Common.{◌≡◌, ℕ, ℤ, pos, neg_ℤ, false, cond, List, [], ◌∷◌, ◌++◌, length, Ok, refl, sym, ap, ◌∙◌}
use Rattle.std.proofs.Common.{subst, codes, arith, append_assoc, length-append, inl, inr}
use Rattle.std.specs.Str.{bytes_eq}
use Rattle.dbg_base.specs.Tokens.{Placed}
use Rattle.dbg_base.specs.declared.sign.Sign.TheVariants.{Equals, Semicolon, Colon, Becomes, Minus, Comma}
use Rattle.dbg_base.specs.Grammar.{Named, Phrase, WrittenVariable, WrittenAction, Local, Sends, Receives, WrittenAssignment}
use Rattle.dbg_base.specs.Grammar.{WrittenCommand, IsName, word_at, number_at, sign_at, DerivesName, DerivesExpression, DerivesStart}
use Rattle.dbg_base.specs.Grammar.{DerivesVariable, DerivesAssignment, DerivesFurther, DeriveInTurn, DerivesBody, DerivesCommand}
use Rattle.proc_lang.specs.Parsing.{Read, Body, is_word_token, is_sign_token, begins_word, begins_sign, read_word, read_sign}
use Rattle.proc_lang.specs.Parsing.{read_name, read_number, read_expression, read_negative, read_positive, read_start, read_variable}
use Rattle.proc_lang.specs.Parsing.{read_assignment, read_further, read_all_further, read_send, read_receive, read_local, read_body}
use Rattle.proc_lang.specs.Parsing.{read_command}
use Rattle.proc_lang.proofs.ReaderLemmas.{IsReader, Completes, Anything, Takes, Then, Last, bind_to, derives_more, both_reader, last_reader}
use Rattle.proc_lang.proofs.ReaderLemmas.{either_reader, either_second}
use Rattle.proc_lang.proofs.TokenReaderLemmas.{WordAt, SignAt, NumberAt, word_reader, word_here, sign_reader, sign_here, name_reader, name_completes}
use Rattle.proc_lang.proofs.TokenReaderLemmas.{name_is_not, number_reader, number_completes}
use Rattle.proc_lang.proofs.Phrases.{expression_reader, expression_completes}
use Rattle.proc_lang.proofs.RepetitionLemmas.{many_reader, many_complete}

-- a relation that derives only nonempty tokens has a reader that takes a token
pub takes_by : {A : Type 0} (Derives : List Placed → A → Type 0) (read : List Placed → Read A) → IsReader Derives read
    → ((prefix : List Placed) (x : A) → Derives prefix x → (p : Placed) × (more : List Placed) × (prefix ≡ p ∷ more)) → Takes read
takes_by Derives read reader first tokens found e =
    let s = reader.succeeds tokens found.1 found.0 e in
    let begins_so = first s.prefix found.0 s.derived in
    omega (
      arith,
      ap length (s.whole ∙ ap (λ (l : List Placed). l ++ found.1) begins_so.2),
      length-append begins_so.1 found.1,
    )

-- an initial value
negative_reader : IsReader DerivesStart read_negative
unfolding read_negative
negative_reader =
    derives_more (Then (SignAt Minus) (λ minus. Last (λ value. neg_ℤ (pos value)) NumberAt)) DerivesStart read_negative
    (λ tokens start d. inr (
      d.0,
      d.4.1.0,
      d.4.0,
      d.5 ∙ ap (λ (l : List Placed). l ++ d.2) d.3 ∙ ap (λ (l : List Placed). sign_at d.0 Minus ∷ l) d.4.1.1,
      sym d.4.2,
    ))
    (both_reader _ _ (read_sign Minus) _ (sign_reader Minus)
    (λ minus. last_reader (λ value. neg_ℤ (pos value)) NumberAt read_number number_reader))

positive_reader : IsReader DerivesStart read_positive
unfolding read_positive
positive_reader =
    derives_more (Last pos NumberAt) DerivesStart read_positive (λ tokens start d. inl (d.1.0, d.0, d.1.1, sym d.2))
    (last_reader pos NumberAt read_number number_reader)

start_reader : IsReader DerivesStart read_start
start_reader = either_reader DerivesStart (is_sign_token Minus) read_negative read_positive negative_reader positive_reader

start_of_number : (at value : ℕ) (rest : List Placed) → read_start (number_at at value ∷ rest) ≡ Ok (pos value, rest)
unfolding read_positive
start_of_number at value rest = bind_to _ _ (value, rest) _ (number_completes (number_at at value ∷ []) rest value (at, refl) tt) refl

start_of_minus : (minus_at at value : ℕ) (rest : List Placed)
    → read_start (sign_at minus_at Minus ∷ number_at at value ∷ rest) ≡ Ok (neg_ℤ (pos value), rest)
unfolding read_negative
start_of_minus minus_at at value rest =
    bind_to _ _ _ _ (sign_here Minus minus_at (number_at at value ∷ rest))
    (bind_to _ _ (value, rest) _ (number_completes (number_at at value ∷ []) rest value (at, refl) tt) refl)

start_completes : Completes DerivesStart Anything read_start
start_completes prefix rest x (inl d) any =
    ap (λ (l : List Placed). read_start (l ++ rest)) d.2 ∙ start_of_number d.0 d.1 rest ∙ ap (λ (s : ℤ). Ok (s, rest)) (sym d.3)
start_completes prefix rest x (inr d) any =
    ap (λ (l : List Placed). read_start (l ++ rest)) d.3 ∙ start_of_minus d.0 d.1 d.2 rest ∙ ap (λ (s : ℤ). Ok (s, rest)) (sym d.4)

-- a variable
parts_whole : (tokens a r b s c t d u : List Placed) (p q x : Placed) → tokens ≡ a ++ r → a ≡ p ∷ [] → r ≡ b ++ s → s ≡ c ++ t
    → c ≡ q ∷ [] → t ≡ d ++ u → u ≡ x ∷ [] → tokens ≡ p ∷ b ++ q ∷ d ++ x ∷ []
parts_whole tokens a r b s c t d u p q x f g h i j k l = rw (f, g, h, i, j, k, l) (simp append_assoc)

pub variable_reader : IsReader DerivesVariable read_variable
unfolding read_variable
variable_reader =
    derives_more (Then (WordAt (codes "var")) (λ word. Then DerivesName (λ name. Then (SignAt Equals) (λ equals. Then DerivesStart
    (λ start. Last (λ end. record { name = name; start = start }) (SignAt Semicolon)))))) DerivesVariable read_variable
    (λ tokens variable d. let name = d.4 in
    let equals = name.4 in
    let start = equals.4 in
    let end = start.4 in
    subst (λ (v : WrittenVariable). DerivesVariable tokens v) end.2 (
      name.1,
      start.1,
      d.0,
      equals.0,
      end.0,
      name.3,
      start.3,
      parts_whole tokens d.1 d.2 name.1 name.2 equals.1 equals.2 start.1 start.2 _ _ _ d.5 d.3 name.5 equals.5 equals.3 start.5 end.1,
    ))
    (both_reader _ _ (read_word (codes "var")) _ (word_reader (codes "var")) (λ word.
    both_reader _ _ read_name _ name_reader (λ name.
    both_reader _ _ (read_sign Equals) _ (sign_reader Equals) (λ equals.
    both_reader _ _ read_start _ start_reader (λ start.
    last_reader (λ end. record { name = name; start = start }) (SignAt Semicolon) (read_sign Semicolon) (sign_reader Semicolon))))))

pub variable_completes : Completes DerivesVariable Anything read_variable
unfolding read_variable
variable_completes prefix rest x d any =
    let last : List Placed = d.1 ++ sign_at d.4 Semicolon ∷ rest in
    let same : prefix ++ rest ≡ word_at d.2 (codes "var") ∷ (d.0 ++ (sign_at d.3 Equals ∷ last)) =
    ap (λ (l : List Placed). l ++ rest) d.7 ∙ simp append_assoc in
    ap read_variable same
    ∙ bind_to _ _ _ _ (word_here (codes "var") d.2 (d.0 ++ (sign_at d.3 Equals ∷ last)))
    (bind_to _ _ _ _ (name_completes d.0 (sign_at d.3 Equals ∷ last) x.name d.5 tt)
    (bind_to _ _ _ _ (sign_here Equals d.3 last)
    (bind_to _ _ _ _ (start_completes d.1 (sign_at d.4 Semicolon ∷ rest) x.start d.6 tt)
    (bind_to _ _ _ _ (sign_here Semicolon d.4 rest) refl))))

pub variable_takes : Takes read_variable
variable_takes = takes_by DerivesVariable read_variable variable_reader (λ prefix x d. (_, _, d.7))

-- an assignment
assignment_whole : (tokens a r b s : List Placed) (p : Placed) → tokens ≡ a ++ r → r ≡ b ++ s → b ≡ p ∷ [] → tokens ≡ a ++ p ∷ s
assignment_whole tokens a r b s p e f g = rw (e, f, g) refl

assignment_reader : IsReader DerivesAssignment read_assignment
unfolding read_assignment
assignment_reader =
    derives_more (Then DerivesName (λ variable. Then (SignAt Becomes)
    (λ becomes. Last (λ value. record { variable = variable; value = value }) DerivesExpression))) DerivesAssignment read_assignment
    (λ tokens assignment d. let becomes = d.4 in
    let value = becomes.4 in
    subst (λ (a : WrittenAssignment). DerivesAssignment tokens a) value.2 (
      d.1,
      becomes.2,
      becomes.0,
      d.3,
      value.1,
      assignment_whole tokens d.1 d.2 becomes.1 becomes.2 _ d.5 becomes.5 becomes.3,
    ))
    (both_reader _ _ read_name _ name_reader (λ variable.
    both_reader _ _ (read_sign Becomes) _ (sign_reader Becomes) (λ becomes.
    last_reader (λ value. record { variable = variable; value = value }) DerivesExpression read_expression expression_reader)))

assignment_completes : Completes DerivesAssignment Anything read_assignment
unfolding read_assignment
assignment_completes prefix rest x d any =
    let same : prefix ++ rest ≡ d.0 ++ (sign_at d.2 Becomes ∷ (d.1 ++ rest)) = ap (λ (l : List Placed). l ++ rest) d.5 ∙ simp append_assoc in
    ap read_assignment same
    ∙ bind_to _ _ _ _ (name_completes d.0 (sign_at d.2 Becomes ∷ (d.1 ++ rest)) x.variable d.3 tt)
    (bind_to _ _ _ _ (sign_here Becomes d.2 (d.1 ++ rest)) (bind_to _ _ _ _ (expression_completes d.1 rest x.value d.4 tt) refl))

-- an assignment after a comma
pub further_reader : IsReader DerivesFurther read_further
unfolding read_further
further_reader =
    derives_more (Then (SignAt Comma) (λ comma. DerivesAssignment)) DerivesFurther read_further
    (λ tokens x d. (d.2, d.0, d.4, d.5 ∙ ap (λ (l : List Placed). l ++ d.2) d.3))
    (both_reader _ _ (read_sign Comma) (λ comma. read_assignment) (sign_reader Comma) (λ comma. assignment_reader))

further_completes : Completes DerivesFurther Anything read_further
unfolding read_further
further_completes prefix rest x d any =
    ap (λ (l : List Placed). read_further (l ++ rest)) d.3
    ∙ bind_to _ _ _ _ (sign_here Comma d.1 (d.0 ++ rest)) (assignment_completes d.0 rest x d.2 tt)

pub further_takes : Takes read_further
further_takes = takes_by DerivesFurther read_further further_reader (λ prefix x d. (_, _, d.3))

all_further_reader : IsReader (DeriveInTurn DerivesFurther) read_all_further
all_further_reader = many_reader DerivesFurther (is_sign_token Comma) read_further further_reader further_takes

all_further_completes : Completes (DeriveInTurn DerivesFurther) (λ rest. begins_sign Comma rest ≡ false) read_all_further
all_further_completes =
    many_complete DerivesFurther (is_sign_token Comma) read_further further_reader further_takes further_completes
    (λ prefix rest x d. ap (λ (l : List Placed). begins_sign Comma (l ++ rest)) d.3)

-- a body, as one value
abbrev WholeBody : List Placed → Body → Type 0
WholeBody tokens body = DerivesBody tokens body.0 body.1

exchange_whole : (tokens a r b s c t : List Placed) (p : Placed) → tokens ≡ a ++ r → a ≡ p ∷ [] → r ≡ b ++ s → s ≡ c ++ t
    → tokens ≡ p ∷ b ++ c ++ t
exchange_whole tokens a r b s c t p e f g h = rw (e, f, g, h) (simp append_assoc)

send_reader : IsReader WholeBody read_send
unfolding read_send
send_reader =
    derives_more (Then (WordAt (codes "send")) (λ word. Then DerivesName (λ target. Then DerivesExpression
    (λ value. Last (λ others. (Sends target value, others)) (DeriveInTurn DerivesFurther))))) WholeBody read_send
    (λ tokens body d. let target = d.4 in
    let value = target.4 in
    let others = value.4 in
    subst (λ (b : Body). WholeBody tokens b) others.2 (
      target.1,
      value.1,
      value.2,
      d.0,
      target.3,
      value.3,
      others.1,
      exchange_whole tokens d.1 d.2 target.1 target.2 value.1 value.2 _ d.5 d.3 target.5 value.5,
    ))
    (both_reader _ _ (read_word (codes "send")) _ (word_reader (codes "send")) (λ word.
    both_reader _ _ read_name _ name_reader (λ target.
    both_reader _ _ read_expression _ expression_reader (λ value.
    last_reader (λ others. (Sends target value, others)) (DeriveInTurn DerivesFurther) read_all_further all_further_reader))))

receive_reader : IsReader WholeBody read_receive
unfolding read_receive
receive_reader =
    derives_more (Then (WordAt (codes "recv")) (λ word. Then DerivesName (λ source. Then DerivesName
    (λ variable. Last (λ others. (Receives source variable, others)) (DeriveInTurn DerivesFurther))))) WholeBody read_receive
    (λ tokens body d. let source = d.4 in
    let variable = source.4 in
    let others = variable.4 in
    subst (λ (b : Body). WholeBody tokens b) others.2 (
      source.1,
      variable.1,
      variable.2,
      d.0,
      source.3,
      variable.3,
      others.1,
      exchange_whole tokens d.1 d.2 source.1 source.2 variable.1 variable.2 _ d.5 d.3 source.5 variable.5,
    ))
    (both_reader _ _ (read_word (codes "recv")) _ (word_reader (codes "recv")) (λ word.
    both_reader _ _ read_name _ name_reader (λ source.
    both_reader _ _ read_name _ name_reader (λ variable.
    last_reader (λ others. (Receives source variable, others)) (DeriveInTurn DerivesFurther) read_all_further all_further_reader))))

local_reader : IsReader WholeBody read_local
unfolding read_local
local_reader =
    derives_more (Then DerivesAssignment (λ first. Last (λ others. (Local, first ∷ others)) (DeriveInTurn DerivesFurther))) WholeBody
    read_local
    (λ tokens body d. subst (λ (b : Body). WholeBody tokens b) d.4.2 (d.1, d.2, d.3, d.4.1, d.5))
    (both_reader _ _ read_assignment _ assignment_reader (λ first.
    last_reader (λ others. (Local, first ∷ others)) (DeriveInTurn DerivesFurther) read_all_further all_further_reader))

body_reader : IsReader WholeBody read_body
body_reader =
    either_reader WholeBody (is_word_token (codes "send")) read_send _ send_reader
    (either_reader WholeBody (is_word_token (codes "recv")) read_receive read_local receive_reader local_reader)

send_completes : (prefix rest : List Placed) (target : Named) (value : Phrase) (xs : List WrittenAssignment)
    → DerivesBody prefix (Sends target value) xs → begins_sign Comma rest ≡ false →
    read_body (prefix ++ rest) ≡ Ok ((Sends target value, xs), rest)
unfolding read_send
send_completes prefix rest target value xs d stop =
    let last : List Placed = d.2 ++ rest in
    let tail : List Placed = d.0 ++ (d.1 ++ last) in
    let same : prefix ++ rest ≡ word_at d.3 (codes "send") ∷ tail = ap (λ (l : List Placed). l ++ rest) d.7 ∙ simp append_assoc in
    ap read_body same
    ∙ bind_to _ _ _ _ (word_here (codes "send") d.3 tail)
    (bind_to _ _ _ _ (name_completes d.0 (d.1 ++ last) target d.4 tt)
    (bind_to _ _ _ _ (expression_completes d.1 last value d.5 tt)
    (bind_to _ _ _ _ (all_further_completes d.2 rest xs d.6 stop) refl)))

receive_completes : (prefix rest : List Placed) (source variable : Named) (xs : List WrittenAssignment)
    → DerivesBody prefix (Receives source variable) xs → begins_sign Comma rest ≡ false
    → read_body (prefix ++ rest) ≡ Ok ((Receives source variable, xs), rest)
unfolding read_receive
receive_completes prefix rest source variable xs d stop =
    let last : List Placed = d.2 ++ rest in
    let tail : List Placed = d.0 ++ (d.1 ++ last) in
    let same : prefix ++ rest ≡ word_at d.3 (codes "recv") ∷ tail = ap (λ (l : List Placed). l ++ rest) d.7 ∙ simp append_assoc in
    ap read_body same
    ∙ bind_to _ _ _ _ (word_here (codes "recv") d.3 tail)
    (bind_to _ _ _ _ (name_completes d.0 (d.1 ++ last) source d.4 tt)
    (bind_to _ _ _ _ (name_completes d.1 last variable d.5 tt)
    (bind_to _ _ _ _ (all_further_completes d.2 rest xs d.6 stop) refl)))

-- an assignment does not begin with a reserved word
assignment_begins : (word : List ℕ) (prefix more : List Placed) (x : WrittenAssignment)
    → ((name : List ℕ) → IsName name → bytes_eq name word ≡ false) → DerivesAssignment prefix x → begins_word word (prefix ++ more) ≡ false
assignment_begins word prefix more x differs d =
    let same : prefix ++ more ≡ word_at x.variable.at x.variable.name ∷ (sign_at d.2 Becomes ∷ (d.1 ++ more)) =
    ap (λ (l : List Placed). l ++ more) (d.5 ∙ ap (λ (l : List Placed). l ++ sign_at d.2 Becomes ∷ d.1) d.3.0) in
    ap (begins_word word) same ∙ differs x.variable.name d.3.1

-- if neither a send nor a receive comes first, assignments do
abbrev read_rest : List Placed → Read Body
read_rest tokens = cond (begins_word (codes "recv") tokens) (read_receive tokens) (read_local tokens)

local_completes : (prefix rest : List Placed) (x : WrittenAssignment) (xs : List WrittenAssignment) → DerivesBody prefix Local (x ∷ xs)
    → begins_sign Comma rest ≡ false → read_body (prefix ++ rest) ≡ Ok ((Local, x ∷ xs), rest)
unfolding read_local
local_completes prefix rest x xs d stop =
    let tail : List Placed = d.0 ++ (d.1 ++ rest) in
    let same : prefix ++ rest ≡ tail = ap (λ (l : List Placed). l ++ rest) d.4 ∙ append_assoc d.0 d.1 rest in
    ap read_body same
    ∙ either_second WholeBody (is_word_token (codes "send")) read_send read_rest tail _
    (assignment_begins (codes "send") d.0 (d.1 ++ rest) x (λ name. name_is_not (codes "send") name refl) d.2)
    (either_second WholeBody (is_word_token (codes "recv")) read_receive read_local tail _
    (assignment_begins (codes "recv") d.0 (d.1 ++ rest) x (λ name. name_is_not (codes "recv") name refl) d.2)
    (bind_to _ _ _ _ (assignment_completes d.0 (d.1 ++ rest) x d.2 tt)
    (bind_to _ _ _ _ (all_further_completes d.1 rest xs d.3 stop) refl)))

body_completes : (action : WrittenAction) (xs : List WrittenAssignment) (prefix rest : List Placed) → DerivesBody prefix action xs
    → begins_sign Comma rest ≡ false → read_body (prefix ++ rest) ≡ Ok ((action, xs), rest)
body_completes Local [] prefix rest d stop = absurd d
body_completes Local (x ∷ xs) prefix rest d stop = local_completes prefix rest x xs d stop
body_completes (Sends target value) xs prefix rest d stop = send_completes prefix rest target value xs d stop
body_completes (Receives source variable) xs prefix rest d stop = receive_completes prefix rest source variable xs d stop

-- a command
pub command_reader : IsReader DerivesCommand read_command
unfolding read_command
command_reader =
    derives_more (Then (WordAt (codes "when")) (λ at. Then DerivesExpression (λ guard. Then (SignAt Colon) (λ colon. Then WholeBody
    (λ body. Last (λ end. record { at = at; guard = guard; action = body.0; assignments = body.1 }) (SignAt Semicolon))))))
    DerivesCommand read_command
    (λ tokens command d. let guard = d.4 in
    let colon = guard.4 in
    let body = colon.4 in
    let end = body.4 in
    subst (λ (c : WrittenCommand). DerivesCommand tokens c) end.2 (
      guard.1,
      body.1,
      colon.0,
      end.0,
      guard.3,
      body.3,
      parts_whole tokens d.1 d.2 guard.1 guard.2 colon.1 colon.2 body.1 body.2 _ _ _ d.5 d.3 guard.5 colon.5 colon.3 body.5 end.1,
    ))
    (both_reader _ _ (read_word (codes "when")) _ (word_reader (codes "when")) (λ at.
    both_reader _ _ read_expression _ expression_reader (λ guard.
    both_reader _ _ (read_sign Colon) _ (sign_reader Colon) (λ colon.
    both_reader _ _ read_body _ body_reader (λ body.
    last_reader (λ end. record { at = at; guard = guard; action = body.0; assignments = body.1 }) (SignAt Semicolon) (read_sign Semicolon)
    (sign_reader Semicolon))))))

pub command_completes : Completes DerivesCommand Anything read_command
unfolding read_command
command_completes prefix rest x d any =
    let end : List Placed = sign_at d.3 Semicolon ∷ rest in
    let last : List Placed = d.1 ++ end in
    let tail : List Placed = d.0 ++ (sign_at d.2 Colon ∷ last) in
    let same : prefix ++ rest ≡ word_at x.at (codes "when") ∷ tail = ap (λ (l : List Placed). l ++ rest) d.6 ∙ simp append_assoc in
    ap read_command same
    ∙ bind_to _ _ _ _ (word_here (codes "when") x.at tail)
    (bind_to _ _ _ _ (expression_completes d.0 (sign_at d.2 Colon ∷ last) x.guard d.4 tt)
    (bind_to _ _ _ _ (sign_here Colon d.2 last)
    (bind_to _ _ _ _ (body_completes x.action x.assignments d.1 end d.5 refl)
    (bind_to _ _ _ _ (sign_here Semicolon d.3 rest) refl))))

pub command_takes : Takes read_command
command_takes = takes_by DerivesCommand read_command command_reader (λ prefix x d. (_, _, d.6))
