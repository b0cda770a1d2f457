-- A text has at most one fault among its tokens.
use Rattle.std.proofs.Common.{◌≡◌, ℕ, ◌+◌, List, [], ◌∷◌, ◌++◌, length, refl, sym, ap, ◌∙◌, subst, arith, append_assoc, ◌⊎◌, inl, inr}
use Rattle.std.specs.List.{AllByRecursion}
use Rattle.dbg_base.specs.Tokens.{Symbol, Placed, sign_bytes, BeginsWith, IsWithinLimits, StaysShallow, IsTokenFault, FaultsBefore}
use Rattle.dbg_base.specs.Tokens.{BeginsWithNoToken, BeginsWithTooLarge, OpensTooDeep, open_after, still_open}
use Rattle.dbg_base.specs.declared.sign.Sign.TheVariants.{OpenParenthesis}
use Rattle.dbg_base.specs.declared.fault.ProgFault.{ProgFault}
use Rattle.dbg_base.specs.declared.fault.FaultKind.{FaultKind}
use Rattle.dbg_base.specs.declared.fault.FaultKind.TheVariants as kinds
use Rattle.proc_lang.proofs.TokenLaws.{spells_first, gap_once, begins_append, step_once, moved_begins, fault_begins, opens, clear_prefix}

-- the three kinds of faults at the beginning
record Form (kind : FaultKind) (depth : ℕ) (rest : List ℕ) : Type 0 where
  form : ((kind ≡ kinds.Byte) × BeginsWithNoToken rest)
      ⊎ (((kind ≡ kinds.Token) × BeginsWithTooLarge rest) ⊎ ((kind ≡ kinds.Limit) × OpensTooDeep depth rest))

form_of : (kind : FaultKind) (depth : ℕ) (rest : List ℕ) → FaultsBefore kind depth rest → Form kind depth rest
form_of kinds.Byte depth rest found = record { form = inl (refl, found.1) }
form_of kinds.Token depth rest found = record { form = inr (inl (refl, found)) }
form_of kinds.Limit depth rest found = record { form = inr (inr (refl, found)) }
form_of kinds.Grammar depth rest found = absurd found
form_of kinds.NameTaken depth rest found = absurd found
form_of kinds.NameUnknown depth rest found = absurd found
form_of kinds.TypeWrong depth rest found = absurd found
form_of kinds.SelfSend depth rest found = absurd found
form_of kinds.SetTwice depth rest found = absurd found

-- no two of them at once
no_token_or_large : (rest : List ℕ) → BeginsWithNoToken rest → BeginsWithTooLarge rest → ⊥
no_token_or_large rest none large = none large.0 large.1 large.2 large.3 large.5

no_token_or_deep : (depth : ℕ) (rest : List ℕ) → BeginsWithNoToken rest → OpensTooDeep depth rest → ⊥
no_token_or_deep depth rest none deep = none (sign_bytes OpenParenthesis) deep.1 (Symbol OpenParenthesis) refl deep.2

large_or_deep : (depth : ℕ) (rest : List ℕ) → BeginsWithTooLarge rest → OpensTooDeep depth rest → ⊥
large_or_deep depth rest large deep =
    let is = opens large.2 large.0 large.1 deep.1 large.3 (sym large.5 ∙ deep.2) in
    large.6 (subst IsWithinLimits (sym is) tt)

kind_once : (a b : FaultKind) (depth : ℕ) (rest : List ℕ) → FaultsBefore a depth rest → FaultsBefore b depth rest → a ≡ b
kind_once a b depth rest x y =
    elim (form_of a depth rest x).form as (λ _. a ≡ b) [
      | inl f ↦ elim (form_of b depth rest y).form as (λ _. a ≡ b) [
        | inl g ↦ f.0 ∙ sym g.0
        | inr g ↦ elim g as (λ _. a ≡ b) [
          | inl h ↦ absurd (no_token_or_large rest f.1 h.1)
          | inr h ↦ absurd (no_token_or_deep depth rest f.1 h.1)
        ]
      ]
      | inr f ↦ elim f as (λ _. a ≡ b) [
        | inl f ↦ elim (form_of b depth rest y).form as (λ _. a ≡ b) [
          | inl g ↦ absurd (no_token_or_large rest g.1 f.1)
          | inr g ↦ elim g as (λ _. a ≡ b) [
            | inl h ↦ f.0 ∙ sym h.0
            | inr h ↦ absurd (large_or_deep depth rest f.1 h.1)
          ]
        ]
        | inr f ↦ elim (form_of b depth rest y).form as (λ _. a ≡ b) [
          | inl g ↦ absurd (no_token_or_deep depth rest g.1 f.1)
          | inr g ↦ elim g as (λ _. a ≡ b) [
            | inl h ↦ absurd (large_or_deep depth rest h.1 f.1)
            | inr h ↦ f.0 ∙ sym h.0
          ]
        ]
      ]
    ]

-- a fault after these tokens, at this offset
record Wrong (tokens : List Placed) (at depth : ℕ) (text : List ℕ) (end : ℕ) (rest : List ℕ) (kind : FaultKind) : Type 0 where
  begins : BeginsWith at text tokens end rest
  within : AllByRecursion (λ p. IsWithinLimits p.token) tokens
  shallow : StaysShallow depth tokens
  found : FaultsBefore kind (open_after depth tokens) rest

-- a fault at the first token of another list
before : {A : Type 0} (p : Placed) (tokens : List Placed) (at depth : ℕ) (text : List ℕ) (end stop : ℕ) (rest more : List ℕ)
    (kind other : FaultKind) → Wrong (p ∷ tokens) at depth text end rest kind → Wrong [] at depth text stop more other → A
before p tokens at depth text end stop rest more kind other x y =
    let a = x.begins in
    let b = y.begins in
    let split =
    gap_once b.0 a.0 more (a.1 ++ a.2) b.1 a.3 (fault_begins other depth more y.found)
    (begins_append a.1 a.2 (spells_first p.token a.1 a.6))
    (sym b.2 ∙ a.4 ∙ append_assoc a.0 a.1 a.2) in
    absurd (clear_prefix other depth p.token a.1 a.2 more split.1 a.6 a.7 x.within.0 x.shallow.0 y.found)

one_fault : (tokens others : List Placed) (at depth : ℕ) (text : List ℕ) (end stop : ℕ) (rest more : List ℕ) (kind other : FaultKind)
    → Wrong tokens at depth text end rest kind → Wrong others at depth text stop more other → (kind ≡ other) × (end ≡ stop)
one_fault [] [] at depth text end stop rest more kind other x y =
    let a = x.begins in
    let b = y.begins in
    let split =
    gap_once a.0 b.0 rest more a.1 b.1 (fault_begins kind depth rest x.found) (fault_begins other depth more y.found) (sym a.2 ∙ b.2) in (
      kind_once kind other depth more (subst (λ (r : List ℕ). FaultsBefore kind depth r) split.1 x.found) y.found,
      omega (arith, a.3, b.3, ap length split.0),
    )
one_fault (p ∷ tokens) [] at depth text end stop rest more kind other x y =
    before p tokens at depth text end stop rest more kind other x y
one_fault [] (q ∷ others) at depth text end stop rest more kind other x y =
    before q others at depth text stop end more rest other kind y x
one_fault (p ∷ tokens) (q ∷ others) at depth text end stop rest more kind other x y =
    let a = x.begins in
    let b = y.begins in
    let same = step_once text a.0 b.0 a.1 b.1 a.2 b.2 p.token q.token a.3 b.3 a.4 b.4 a.6 b.6 a.7 b.7 in
    let places : p.at ≡ q.at = omega (arith, a.5, b.5, ap length same.gaps) in
    let ends : q.at + length b.1 ≡ p.at + length a.1 = omega (arith, places, ap length same.pieces) in
    one_fault tokens others (p.at + length a.1) (still_open depth p.token) a.2 end stop rest more kind other
    (record { begins = a.8; within = x.within.1; shallow = x.shallow.1; found = x.found })
    (record {
      begins = moved_begins others (q.at + length b.1) (p.at + length a.1) b.2 a.2 stop more ends (sym same.rests) b.8;
      within = y.within.1;
      shallow = subst (λ t. StaysShallow (still_open depth t) others) (sym same.tokens) y.shallow.1;
      found = subst (λ t. FaultsBefore other (open_after (still_open depth t) others) more) (sym same.tokens) y.found;
    })

pub fault_same : (f g : ProgFault) → f.kind ≡ g.kind → f.at ≡ g.at → f ≡ g
fault_same f g kind at = λ i. record { kind = kind i; at = at i }

pub one_token_fault : (text : List ℕ) (f g : ProgFault) → IsTokenFault text f → IsTokenFault text g → f ≡ g
one_token_fault text f g x y =
    let same = one_fault x.0 y.0 0 0 text f.at g.at x.1 y.1 f.kind g.kind
    (record { begins = x.2; within = x.3.0; shallow = x.3.1; found = x.4 })
    (record { begins = y.2; within = y.3.0; shallow = y.3.1; found = y.4 }) in
    fault_same f g same.0 same.1
