-- The first of the faults of a text, in the order in which they are listed, has the least offset, and at that offset the lowest kind.
use Rattle.std.proofs.Common.{◌≡◌, ℕ, suc, ◌+◌, ◌*◌, ◌<◌, ◌≤◌, Bool, true, false, not, List, [], ◌∷◌, ◌++◌, length, Option, Some, None}
use Rattle.std.proofs.Common.{refl, sym, ap, subst, arith, inl, inr, ◌==◌}
use Rattle.std.specs.Prelude.{slice_get}
use Rattle.std.specs.List.{AllByRecursion}
use Rattle.std.specs.Str.{bytes_eq}
use Rattle.std.proofs.lemmas.Bool.{cases_lt, false≢true}
use Rattle.std.proofs.lemmas.List.Elements.{Contains-get_or}
use Rattle.dbg_base.specs.declared.limits.TheConstants.{PROCESSES, VARIABLES, COMMANDS, INPUT_BYTES}
use Rattle.dbg_base.specs.declared.expr.Sort.{Sort}
use Rattle.dbg_base.specs.declared.expr.Sort.TheVariants as sort
use Rattle.dbg_base.specs.declared.sign.Sign.{Sign}
use Rattle.dbg_base.specs.declared.sign.Sign.TheVariants.{OpenBrace, CloseBrace, OpenParenthesis, CloseParenthesis, Semicolon, Colon}
use Rattle.dbg_base.specs.declared.sign.Sign.TheVariants.{Becomes, Comma, Equals, NotEquals, LessThan, AtMost, GreaterThan, AtLeast, Plus}
use Rattle.dbg_base.specs.declared.sign.Sign.TheVariants.{Minus, Star, Slash, Percent}
use Rattle.dbg_base.specs.declared.fault.ProgFault.{ProgFault}
use Rattle.dbg_base.specs.declared.fault.FaultKind.{FaultKind}
use Rattle.dbg_base.specs.declared.fault.FaultKind.TheVariants as kind
use Rattle.dbg_base.specs.Faults.{kind_number}
use Rattle.dbg_base.specs.Names.{is_among}
use Rattle.dbg_base.specs.Sorts.{is_same_sort, outcome_sort, operand_sort}
use Rattle.dbg_base.specs.Tokens.{Token, Word, Symbol, Placed, sign_bytes, Spells, BeginsWith, HasTokens}
use Rattle.dbg_base.specs.Tokens as token
use Rattle.dbg_base.specs.Grammar.{Named, Phrase, Number, Name, Truth, Count, Not, Negate, Binary, WrittenAction, Local, Sends, Receives}
use Rattle.dbg_base.specs.Grammar.{WrittenVariable, WrittenAssignment, WrittenCommand, WrittenProcess, DerivesName, DerivesExpression}
use Rattle.dbg_base.specs.Grammar.{DerivesAssignment, DeriveInTurn, DerivesFurther, DerivesBody, DerivesVariable, DerivesCommand}
use Rattle.dbg_base.specs.Grammar.{DerivesProcess, DerivesProgram, operator_token, sign_at}
use Rattle.dbg_base.specs.Checks.{Scope, fault_where, unknown, target_faults, expression_faults, action_faults, set_by_action}
use Rattle.dbg_base.specs.Checks.{assigned_faults, assignment_faults, command_faults, name_faults, variables_faults, commands_faults}
use Rattle.dbg_base.specs.Checks.{scope_among, process_faults, processes_faults, process_names, check_faults, IsNotAfter, IsFirstFault}

-- Faults by their keys: offset first, then kind.

abbrev key : ProgFault → ℕ
key fault = 16 * fault.at + kind_number fault.kind

-- the keys ascend from `lo` to `hi`
abbrev Spread : ℕ → List ProgFault → ℕ → Type 0
Spread lo [] hi = lo ≤ hi
Spread lo (f ∷ faults) hi = (lo ≤ key f) × Spread (key f) faults hi

spread_within : (faults : List ProgFault) (least lo hi most : ℕ) → least ≤ lo → hi ≤ most → Spread lo faults hi → Spread least faults most
spread_within [] least lo hi most above below s = omega (arith, above, below, s)
spread_within (f ∷ faults) least lo hi most above below s =
    (omega (arith, above, s.0), spread_within faults (key f) (key f) hi most (omega arith) below s.1)

spread_both : (xs ys : List ProgFault) (lo mid hi : ℕ) → Spread lo xs mid → Spread mid ys hi → Spread lo (xs ++ ys) hi
spread_both [] ys lo mid hi first second = spread_within ys lo mid hi hi first (omega arith) second
spread_both (x ∷ xs) ys lo mid hi first second = (first.0, spread_both xs ys (key x) mid hi first.1 second)

spread_where : (b : Bool) (kind : FaultKind) (at lo hi : ℕ) → lo ≤ 16 * at + kind_number kind → 16 * at + kind_number kind ≤ hi
    → Spread lo (fault_where b kind at) hi
spread_where true kind at lo hi above below = (above, below)
spread_where false kind at lo hi above below = omega (arith, above, below)

kind_few : (kind : FaultKind) → kind_number kind < 16
kind_few kind.Byte = omega arith
kind_few kind.Token = omega arith
kind_few kind.Grammar = omega arith
kind_few kind.NameTaken = omega arith
kind_few kind.NameUnknown = omega arith
kind_few kind.TypeWrong = omega arith
kind_few kind.Limit = omega arith
kind_few kind.SelfSend = omega arith
kind_few kind.SetTwice = omega arith

not_after : (a b : ProgFault) → key a ≤ key b → IsNotAfter a b
not_after a b le =
    elim (cases_lt a.at b.at) [
      | inl before ↦ inl before
      | inr after ↦ inr (omega (arith, kind_few b.kind), omega (arith, kind_few b.kind))
    ]

all_after : (first : ProgFault) (faults : List ProgFault) (lo hi : ℕ) → key first ≤ lo → Spread lo faults hi
    → AllByRecursion (IsNotAfter first) faults
all_after first [] lo hi le s = tt
all_after first (f ∷ faults) lo hi le s =
    (not_after first f (omega (arith, le, s.0)), all_after first faults (key f) hi (omega (arith, le, s.0)) s.1)

head_is_first : (faults : List ProgFault) (fault : ProgFault) (lo hi : ℕ) → slice_get faults 0 ≡ Some fault → Spread lo faults hi
    → IsFirstFault faults fault
head_is_first [] fault lo hi here s = absurd (let e : ◌≡◌ {A = Option ProgFault} None (Some fault) = here in cc)
head_is_first (f ∷ faults) fault lo hi here s =
    let same : f ≡ fault = let e : ◌≡◌ {A = Option ProgFault} (Some f) (Some fault) = here in cc in
    subst (λ (g : ProgFault). IsFirstFault (f ∷ faults) g) same
    (Contains-get_or (f ∷ faults) 0 f (omega arith), (not_after f f (omega arith), all_after f faults (key f) hi (omega arith) s.1))

-- Tokens by their offsets.

-- the offsets ascend, each at least one above the one before, from `lo` to below `hi`
abbrev Spans : ℕ → List Placed → ℕ → Type 0
Spans lo [] hi = lo ≤ hi
Spans lo (p ∷ tokens) hi = (lo ≤ p.at) × Spans (suc p.at) tokens hi

spans_from : (tokens : List Placed) (least lo hi : ℕ) → least ≤ lo → Spans lo tokens hi → Spans least tokens hi
spans_from [] least lo hi le s = omega (arith, le, s)
spans_from (p ∷ tokens) least lo hi le s = (omega (arith, le, s.0), s.1)

spans_below : (tokens : List Placed) (lo hi : ℕ) → Spans lo tokens hi → lo + length tokens ≤ hi
spans_below [] lo hi s = omega (arith, s)
spans_below (p ∷ tokens) lo hi s = omega (arith, s.0, spans_below tokens (suc p.at) hi s.1)

spans_both : (xs ys : List Placed) (lo hi : ℕ) → Spans lo (xs ++ ys) hi → (mid : ℕ) × Spans lo xs mid × Spans mid ys hi
spans_both [] ys lo hi s = (lo, omega arith, s)
spans_both (x ∷ xs) ys lo hi s = let rest = spans_both xs ys (suc x.at) hi s.1 in (rest.0, (s.0, rest.1), rest.2)

sign_takes : (sign : Sign) → 1 ≤ length (sign_bytes sign)
sign_takes OpenBrace = omega arith
sign_takes CloseBrace = omega arith
sign_takes OpenParenthesis = omega arith
sign_takes CloseParenthesis = omega arith
sign_takes Semicolon = omega arith
sign_takes Colon = omega arith
sign_takes Becomes = omega arith
sign_takes Comma = omega arith
sign_takes Equals = omega arith
sign_takes NotEquals = omega arith
sign_takes LessThan = omega arith
sign_takes AtMost = omega arith
sign_takes GreaterThan = omega arith
sign_takes AtLeast = omega arith
sign_takes Plus = omega arith
sign_takes Minus = omega arith
sign_takes Star = omega arith
sign_takes Slash = omega arith
sign_takes Percent = omega arith

-- a token takes at least one byte
pub token_takes : (token : Token) (piece : List ℕ) → Spells token piece → 1 ≤ length piece
token_takes token (b ∷ piece) spelled = omega arith
token_takes (Word []) [] spelled = absurd (false≢true spelled.1)
token_takes (Word (b ∷ word)) [] spelled = absurd (let e : ◌≡◌ {A = List ℕ} [] (b ∷ word) = spelled.0 in cc)
token_takes (token.Number value) [] spelled = absurd (false≢true spelled.0)
token_takes (Symbol sign) [] spelled = omega (arith, sign_takes sign, ap length spelled)

text_spans : (tokens : List Placed) (at : ℕ) (text : List ℕ) (end : ℕ) (rest : List ℕ) → BeginsWith at text tokens end rest
    → Spans at tokens end
text_spans [] at text end rest begins = omega (arith, begins.3)
text_spans (p ∷ tokens) at text end rest begins = (
  omega (arith, begins.5),
  spans_from tokens (suc p.at) (p.at + length begins.1) end (omega (arith, token_takes p.token begins.1 begins.6))
      (text_spans tokens (p.at + length begins.1) begins.2 end rest begins.8),
)

-- The faults of what a production derives are between the tokens around it.

name_spans : (tokens : List Placed) (named : Named) (lo hi : ℕ) → DerivesName tokens named → Spans lo tokens hi
    → (lo ≤ named.at) × (named.at < hi)
name_spans tokens named lo hi derives s =
    let t = subst (λ (l : List Placed). Spans lo l hi) derives.0 s in (t.0, omega (arith, t.1))

target_spread : (scope : Scope) (named : Named) (lo hi : ℕ) → lo ≤ named.at → named.at < hi
    → Spread (16 * lo) (target_faults scope named) (16 * hi)
target_spread scope named lo hi above below =
    spread_both (unknown scope.processes named) (fault_where (bytes_eq named.name scope.own) kind.SelfSend named.at) (16 * lo)
    (16 * named.at + 5) (16 * hi)
    (spread_where (not (is_among named.name scope.processes)) kind.NameUnknown named.at _ _ (omega (arith, above)) (omega arith))
    (spread_where (bytes_eq named.name scope.own) kind.SelfSend named.at _ _ (omega arith) (omega (arith, below)))

name_spread : (limit : ℕ) (earlier : List (List ℕ)) (named : Named) (lo hi : ℕ) → lo ≤ named.at → named.at < hi
    → Spread (16 * lo) (name_faults limit earlier named) (16 * hi)
name_spread limit earlier named lo hi above below =
    spread_both (fault_where (is_among named.name earlier) kind.NameTaken named.at) _ (16 * lo) (16 * named.at + 4) (16 * hi)
    (spread_where (is_among named.name earlier) kind.NameTaken named.at _ _ (omega (arith, above)) (omega arith))
    (spread_where (length earlier == limit) kind.Limit named.at _ _ (omega arith) (omega (arith, below)))

-- a type that is checked at the first byte, and the faults of what follows it
module _ (scope : Scope) (wanted found : Sort) (at : ℕ) where
  sort_spread : (faults : List ProgFault) (lo next hi : ℕ) → lo ≤ at → at < next → Spread (16 * next) faults (16 * hi)
      → Spread (16 * lo) (fault_where (not (is_same_sort wanted found)) kind.TypeWrong at ++ faults) (16 * hi)
  sort_spread faults lo next hi above below s =
      spread_both (fault_where (not (is_same_sort wanted found)) kind.TypeWrong at) faults (16 * lo) (16 * next) (16 * hi)
      (spread_where (not (is_same_sort wanted found)) kind.TypeWrong at _ _ (omega (arith, above)) (omega (arith, below))) s

expression_spread : (scope : Scope) (wanted : Sort) (tokens : List Placed) (phrase : Phrase) (lo hi : ℕ) → DerivesExpression tokens phrase
    → Spans lo tokens hi → Spread (16 * lo) (expression_faults scope wanted phrase) (16 * hi)
expression_spread scope wanted tokens (Number at value) lo hi derives s =
    let t = subst (λ (l : List Placed). Spans lo l hi) derives s in
    spread_where (not (is_same_sort wanted sort.Number)) kind.TypeWrong at _ _ (omega (arith, t.0)) (omega (arith, t.1))
expression_spread scope wanted tokens (Name at name) lo hi derives s =
    let t = subst (λ (l : List Placed). Spans lo l hi) derives.0 s in
    spread_both (unknown scope.variables (record { at = at; name = name }))
    (fault_where (not (is_same_sort wanted sort.Number)) kind.TypeWrong at) (16 * lo) (16 * at + 5) (16 * hi)
    (spread_where (not (is_among name scope.variables)) kind.NameUnknown at _ _ (omega (arith, t.0)) (omega arith))
    (spread_where (not (is_same_sort wanted sort.Number)) kind.TypeWrong at _ _ (omega arith) (omega (arith, t.1)))
expression_spread scope wanted tokens (Truth at value) lo hi derives s =
    let t = subst (λ (l : List Placed). Spans lo l hi) derives s in
    spread_where (not (is_same_sort wanted sort.Truth)) kind.TypeWrong at _ _ (omega (arith, t.0)) (omega (arith, t.1))
expression_spread scope wanted tokens (Count at direction other) lo hi derives s =
    let t = subst (λ (l : List Placed). Spans lo l hi) derives.3 s in
    sort_spread scope wanted sort.Number at (target_faults scope other) lo (suc at) hi t.0 (omega arith)
    (target_spread scope other (suc at) hi (omega (arith, t.1.0, t.1.1.0)) (omega (arith, t.1.1.1.0, t.1.1.1.1)))
expression_spread scope wanted tokens (Not at operand) lo hi derives s =
    let t = subst (λ (l : List Placed). Spans lo l hi) derives.4 s in
    let inner = spans_both derives.0 _ _ _ t.1.1 in
    sort_spread scope wanted sort.Truth at (expression_faults scope sort.Truth operand) lo (suc derives.1) hi t.0 (omega (arith, t.1.0))
    (spread_within _ _ _ _ (16 * hi) (omega arith) (omega (arith, inner.2.0, inner.2.1))
    (expression_spread scope sort.Truth derives.0 operand (suc derives.1) inner.0 derives.3 inner.1))
expression_spread scope wanted tokens (Negate at operand) lo hi derives s =
    let t = subst (λ (l : List Placed). Spans lo l hi) derives.4 s in
    let inner = spans_both derives.0 _ _ _ t.1.1 in
    sort_spread scope wanted sort.Number at (expression_faults scope sort.Number operand) lo (suc derives.1) hi t.0 (omega (arith, t.1.0))
    (spread_within _ _ _ _ (16 * hi) (omega arith) (omega (arith, inner.2.0, inner.2.1))
    (expression_spread scope sort.Number derives.0 operand (suc derives.1) inner.0 derives.3 inner.1))
expression_spread scope wanted tokens (Binary at operator left right) lo hi derives s =
    let t = subst (λ (l : List Placed). Spans lo l hi) derives.6 s in
    let both = spans_both (derives.0 ++ record { at = derives.2; token = operator_token operator } ∷ derives.1) _ _ _ t.1 in
    let parts = spans_both derives.0 _ _ _ both.1 in
    sort_spread scope wanted (outcome_sort operator) at
    (expression_faults scope (operand_sort operator) left ++ expression_faults scope (operand_sort operator) right) lo (suc at) hi
    t.0 (omega arith)
    (spread_both (expression_faults scope (operand_sort operator) left) _ _ (16 * parts.0) _
    (expression_spread scope (operand_sort operator) derives.0 left (suc at) parts.0 derives.4 parts.1)
    (spread_within _ (16 * parts.0) _ _ (16 * hi) (omega (arith, parts.2.0)) (omega (arith, both.2.0, both.2.1))
    (expression_spread scope (operand_sort operator) derives.1 right (suc derives.2) both.0 derives.5 parts.2.1)))

-- the faults of several elements, one after the other; `seen` describes the elements before
module _ {A S : Type 0} (Derives : List Placed → A → Type 0) (F : S → List A → List ProgFault) (here : S → A → List ProgFault)
    (beyond : S → A → S) where
  in_turn : ((seen : S) → F seen [] ≡ []) → ((seen : S) (x : A) (xs : List A) → F seen (x ∷ xs) ≡ here seen x ++ F (beyond seen x) xs)
      → ((seen : S) (tokens : List Placed) (x : A) (lo hi : ℕ) → Derives tokens x → Spans lo tokens hi
      → Spread (16 * lo) (here seen x) (16 * hi))
      → (seen : S) (tokens : List Placed) (xs : List A) (lo hi : ℕ) → DeriveInTurn Derives tokens xs → Spans lo tokens hi
      → Spread (16 * lo) (F seen xs) (16 * hi)
  in_turn none turn each seen tokens [] lo hi derives s =
      let le = subst (λ (l : List Placed). Spans lo l hi) derives s in
      subst (λ (l : List ProgFault). Spread (16 * lo) l (16 * hi)) (sym (none seen)) (omega (arith, le))
  in_turn none turn each seen tokens (x ∷ xs) lo hi derives s =
      let t = spans_both derives.0 derives.1 lo hi (subst (λ (l : List Placed). Spans lo l hi) derives.4 s) in
      subst (λ (l : List ProgFault). Spread (16 * lo) l (16 * hi)) (sym (turn seen x xs))
      (spread_both (here seen x) (F (beyond seen x) xs) (16 * lo) (16 * t.0) (16 * hi) (each seen derives.0 x lo t.0 derives.2 t.1)
      (in_turn none turn each (beyond seen x) derives.1 xs t.0 hi derives.3 t.2))

assigned_spread : (scope : Scope) (earlier : List (List ℕ)) (tokens : List Placed) (a : WrittenAssignment) (lo hi : ℕ)
    → DerivesAssignment tokens a → Spans lo tokens hi → Spread (16 * lo) (assigned_faults scope earlier a) (16 * hi)
assigned_spread scope earlier tokens a lo hi derives s =
    let t = spans_both derives.0 _ lo hi (subst (λ (l : List Placed). Spans lo l hi) derives.5 s) in
    let name = name_spans derives.0 a.variable lo t.0 derives.3 t.1 in
    spread_both _ (expression_faults scope sort.Number a.value) (16 * lo) (16 * t.0) (16 * hi)
    (spread_both (unknown scope.variables a.variable) _ (16 * lo) (16 * a.variable.at + 5) (16 * t.0)
    (spread_where (not (is_among a.variable.name scope.variables)) kind.NameUnknown a.variable.at _ _ (omega (arith, name.0)) (omega arith))
    (spread_where (is_among a.variable.name earlier) kind.SetTwice a.variable.at _ _ (omega arith) (omega (arith, name.1))))
    (spread_within _ (16 * t.0) _ _ _ (omega (arith, t.2.0)) (omega arith)
    (expression_spread scope sort.Number derives.1 a.value (suc derives.2) hi derives.4 t.2.1))

further_spread : (scope : Scope) (earlier : List (List ℕ)) (tokens : List Placed) (a : WrittenAssignment) (lo hi : ℕ)
    → DerivesFurther tokens a → Spans lo tokens hi → Spread (16 * lo) (assigned_faults scope earlier a) (16 * hi)
further_spread scope earlier tokens a lo hi derives s =
    let t = subst (λ (l : List Placed). Spans lo l hi) derives.3 s in
    assigned_spread scope earlier derives.0 a lo hi derives.2 (spans_from derives.0 lo (suc derives.1) hi (omega (arith, t.0)) t.1)

others_spread : (scope : Scope) (earlier : List (List ℕ)) (tokens : List Placed) (assignments : List WrittenAssignment) (lo hi : ℕ)
    → DeriveInTurn DerivesFurther tokens assignments → Spans lo tokens hi
    → Spread (16 * lo) (assignment_faults scope earlier assignments) (16 * hi)
others_spread scope =
    in_turn DerivesFurther (assignment_faults scope) (assigned_faults scope) (λ earlier a. a.variable.name ∷ earlier)
    (λ earlier. refl) (λ earlier a others. refl) (further_spread scope)

body_spread : (scope : Scope) (tokens : List Placed) (action : WrittenAction) (assignments : List WrittenAssignment) (lo hi : ℕ)
    → DerivesBody tokens action assignments → Spans lo tokens hi
    → Spread (16 * lo) (action_faults scope action ++ assignment_faults scope (set_by_action action) assignments) (16 * hi)
body_spread scope tokens Local [] lo hi derives s = absurd derives
body_spread scope tokens Local (a ∷ assignments) lo hi derives s =
    let t = spans_both derives.0 derives.1 lo hi (subst (λ (l : List Placed). Spans lo l hi) derives.4 s) in
    spread_both (assigned_faults scope [] a) _ (16 * lo) (16 * t.0) (16 * hi) (assigned_spread scope [] derives.0 a lo t.0 derives.2 t.1)
    (others_spread scope (a.variable.name ∷ []) derives.1 assignments t.0 hi derives.3 t.2)
body_spread scope tokens (Sends target value) assignments lo hi derives s =
    let t = subst (λ (l : List Placed). Spans lo l hi) derives.7 s in
    let both = spans_both (derives.0 ++ derives.1) derives.2 _ _ t.1 in
    let parts = spans_both derives.0 derives.1 _ _ both.1 in
    let name = name_spans derives.0 target (suc derives.3) parts.0 derives.4 parts.1 in
    spread_both _ (assignment_faults scope [] assignments) (16 * lo) (16 * both.0) (16 * hi)
    (spread_both (target_faults scope target) _ (16 * lo) (16 * parts.0) (16 * both.0)
    (target_spread scope target lo parts.0 (omega (arith, t.0, name.0)) name.1)
    (expression_spread scope sort.Number derives.1 value parts.0 both.0 derives.5 parts.2))
    (others_spread scope [] derives.2 assignments both.0 hi derives.6 both.2)
body_spread scope tokens (Receives source variable) assignments lo hi derives s =
    let t = subst (λ (l : List Placed). Spans lo l hi) derives.7 s in
    let both = spans_both (derives.0 ++ derives.1) derives.2 _ _ t.1 in
    let parts = spans_both derives.0 derives.1 _ _ both.1 in
    let name = name_spans derives.0 source (suc derives.3) parts.0 derives.4 parts.1 in
    let into = name_spans derives.1 variable parts.0 both.0 derives.5 parts.2 in
    spread_both _ (assignment_faults scope (variable.name ∷ []) assignments) (16 * lo) (16 * both.0) (16 * hi)
    (spread_both (target_faults scope source) _ (16 * lo) (16 * parts.0) (16 * both.0)
    (target_spread scope source lo parts.0 (omega (arith, t.0, name.0)) name.1)
    (spread_where (not (is_among variable.name scope.variables)) kind.NameUnknown variable.at _ _ (omega (arith, into.0))
    (omega (arith, into.1))))
    (others_spread scope (variable.name ∷ []) derives.2 assignments both.0 hi derives.6 both.2)

command_spread : (scope : Scope) (earlier : ℕ) (tokens : List Placed) (command : WrittenCommand) (lo hi : ℕ)
    → DerivesCommand tokens command → Spans lo tokens hi
    → Spread (16 * lo) (fault_where (earlier == COMMANDS) kind.Limit command.at ++ command_faults scope command) (16 * hi)
command_spread scope earlier tokens command lo hi derives s =
    let t = subst (λ (l : List Placed). Spans lo l hi) derives.6 s in
    let whole = spans_both (derives.0 ++ sign_at derives.2 Colon ∷ derives.1) _ _ _ t.1 in
    let parts = spans_both derives.0 _ _ _ whole.1 in
    spread_both (fault_where (earlier == COMMANDS) kind.Limit command.at) (command_faults scope command) (16 * lo) (16 * suc command.at)
    (16 * hi)
    (spread_where (earlier == COMMANDS) kind.Limit command.at _ _ (omega (arith, t.0)) (omega arith))
    (spread_both (expression_faults scope sort.Truth command.guard) _ (16 * suc command.at) (16 * parts.0) (16 * hi)
    (expression_spread scope sort.Truth derives.0 command.guard (suc command.at) parts.0 derives.4 parts.1)
    (spread_within _ (16 * parts.0) _ _ (16 * hi) (omega (arith, parts.2.0)) (omega (arith, whole.2.0, whole.2.1))
    (body_spread scope derives.1 command.action command.assignments (suc derives.2) whole.0 derives.5 parts.2.1)))

variable_spread : (earlier : List (List ℕ)) (tokens : List Placed) (variable : WrittenVariable) (lo hi : ℕ)
    → DerivesVariable tokens variable → Spans lo tokens hi → Spread (16 * lo) (name_faults VARIABLES earlier variable.name) (16 * hi)
variable_spread earlier tokens variable lo hi derives s =
    let t = subst (λ (l : List Placed). Spans lo l hi) derives.7 s in
    let whole = spans_both (derives.0 ++ sign_at derives.3 Equals ∷ derives.1) _ _ _ t.1 in
    let parts = spans_both derives.0 _ _ _ whole.1 in
    let name = name_spans derives.0 variable.name (suc derives.2) parts.0 derives.5 parts.1 in
    name_spread VARIABLES earlier variable.name lo hi (omega (arith, t.0, name.0))
    (omega (arith, name.1, parts.2.0, spans_below derives.1 (suc derives.3) whole.0 parts.2.1, whole.2.0, whole.2.1))

process_spread : (names earlier : List (List ℕ)) (tokens : List Placed) (process : WrittenProcess) (lo hi : ℕ)
    → DerivesProcess tokens process → Spans lo tokens hi
    → Spread (16 * lo) (name_faults PROCESSES earlier process.name ++ process_faults names process) (16 * hi)
process_spread names earlier tokens process lo hi derives s =
    let scope : Scope = scope_among names process in
    let t = subst (λ (l : List Placed). Spans lo l hi) derives.9 s in
    let whole = spans_both (derives.0 ++ sign_at derives.4 OpenBrace ∷ derives.1 ++ derives.2) _ _ _ t.1 in
    let both = spans_both (derives.0 ++ sign_at derives.4 OpenBrace ∷ derives.1) _ _ _ whole.1 in
    let parts = spans_both derives.0 _ _ _ both.1 in
    let name = name_spans derives.0 process.name (suc derives.3) parts.0 derives.6 parts.1 in
    spread_both (name_faults PROCESSES earlier process.name) (process_faults names process) (16 * lo) (16 * parts.0) (16 * hi)
    (name_spread PROCESSES earlier process.name lo parts.0 (omega (arith, t.0, name.0)) name.1)
    (spread_both (variables_faults [] process.variables) _ (16 * parts.0) (16 * both.0) (16 * hi)
    (spread_within _ (16 * parts.0) _ _ _ (omega (arith, parts.2.0)) (omega arith)
    (in_turn DerivesVariable variables_faults (λ earlier v. name_faults VARIABLES earlier v.name) (λ earlier v. v.name.name ∷ earlier)
    (λ earlier. refl) (λ earlier v others. refl) variable_spread [] derives.1 process.variables (suc derives.4) both.0 derives.7 parts.2.1))
    (spread_within _ (16 * both.0) _ _ (16 * hi) (omega arith) (omega (arith, whole.2.0, whole.2.1))
    (in_turn DerivesCommand (commands_faults scope)
    (λ earlier c. fault_where (earlier == COMMANDS) kind.Limit c.at ++ command_faults scope c) (λ earlier c. earlier + 1) (λ earlier. refl)
    (λ earlier c others. refl) (command_spread scope) 0 derives.2 process.commands both.0 whole.0 derives.8 both.2)))

program_spread : (tokens : List Placed) (written : List WrittenProcess) (lo hi : ℕ) → DerivesProgram tokens written → Spans lo tokens hi
    → Spread (16 * lo) (check_faults written) (16 * hi)
program_spread tokens [] lo hi derives s = absurd derives
program_spread tokens (process ∷ processes) lo hi derives s =
    let names : List (List ℕ) = process_names (process ∷ processes) in
    in_turn DerivesProcess (processes_faults names) (λ earlier p. name_faults PROCESSES earlier p.name ++ process_faults names p)
    (λ earlier p. p.name.name ∷ earlier) (λ earlier. refl) (λ earlier p others. refl) (process_spread names) [] tokens
    (process ∷ processes) lo hi derives s

-- the first fault of a program
pub first_of_program : (text : List ℕ) (tokens : List Placed) (written : List WrittenProcess) (fault : ProgFault) → HasTokens text tokens
    → DerivesProgram tokens written → slice_get (check_faults written) 0 ≡ Some fault → IsFirstFault (check_faults written) fault
first_of_program text tokens written fault has derives here =
    head_is_first (check_faults written) fault (16 * 0) (16 * length text) here
    (program_spread tokens written 0 (length text) derives (text_spans tokens 0 text (length text) [] has.1))

-- the first fault of an expression
pub first_of_expression : (scope : Scope) (wanted : Sort) (text : List ℕ) (tokens : List Placed) (phrase : Phrase) (fault : ProgFault)
    → HasTokens text tokens → DerivesExpression tokens phrase → slice_get (expression_faults scope wanted phrase) 0 ≡ Some fault
    → IsFirstFault (expression_faults scope wanted phrase) fault
first_of_expression scope wanted text tokens phrase fault has derives here =
    head_is_first (expression_faults scope wanted phrase) fault (16 * 0) (16 * length text) here
    (expression_spread scope wanted tokens phrase 0 (length text) derives (text_spans tokens 0 text (length text) [] has.1))

-- A text has at most as many processes as bytes.

process_takes : (tokens : List Placed) (process : WrittenProcess) (lo hi : ℕ) → DerivesProcess tokens process → Spans lo tokens hi → lo < hi
process_takes tokens process lo hi derives s =
    let t = subst (λ (l : List Placed). Spans lo l hi) derives.9 s in
    omega (arith, t.0, spans_below _ (suc derives.3) hi t.1)

processes_take : (tokens : List Placed) (processes : List WrittenProcess) (lo hi : ℕ) → DeriveInTurn DerivesProcess tokens processes
    → Spans lo tokens hi → lo + length processes ≤ hi
processes_take tokens [] lo hi derives s = omega (arith, spans_below tokens lo hi s)
processes_take tokens (process ∷ processes) lo hi derives s =
    let t = spans_both derives.0 derives.1 lo hi (subst (λ (l : List Placed). Spans lo l hi) derives.4 s) in
    omega (arith, process_takes derives.0 process lo t.0 derives.2 t.1, processes_take derives.1 processes t.0 hi derives.3 t.2)

pub few_processes : (text : List ℕ) (tokens : List Placed) (written : List WrittenProcess) → HasTokens text tokens
    → DerivesProgram tokens written → length written ≤ INPUT_BYTES
few_processes text tokens [] has derives = absurd derives
few_processes text tokens (process ∷ processes) has derives =
    let spans = text_spans tokens 0 text (length text) [] has.1 in
    omega (arith, has.0, processes_take tokens (process ∷ processes) 0 (length text) derives spans)
