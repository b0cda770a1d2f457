-- A text reads as at most one thing and has at most one first fault, for any start symbol, checks and meaning. It has one of the two.
use Rattle.std.proofs.Common.{◌≡◌, ℕ, ◌<◌, List, [], ◌∷◌, ◌++◌, length, get_or, Some, Result, Ok, Err, refl, sym, ap, ◌∙◌}
use Rattle.std.proofs.Common.{subst, arith, append_assoc, ◌⊎◌, inl, inr}
use Rattle.std.specs.Prelude.{Contains, IfOk, slice_get}
use Rattle.std.specs.List.{AllByRecursion}
use Rattle.std.proofs.lemmas.Bool.{cases_order, cases_lt}
use Rattle.std.proofs.lemmas.List.Elements.{All-contains, All-from_recursion}
use Rattle.dbg_base.specs.declared.limits.TheConstants.{INPUT_BYTES}
use Rattle.dbg_base.specs.declared.fault.ProgFault.{ProgFault}
use Rattle.dbg_base.specs.declared.fault.FaultKind.{FaultKind}
use Rattle.dbg_base.specs.declared.fault.FaultKind.TheVariants as kinds
use Rattle.dbg_base.specs.Faults.{kind_number}
use Rattle.dbg_base.specs.Tokens.{Placed, HasTokens}
use Rattle.dbg_base.specs.Grammar.{Begins, IsGrammarFault}
use Rattle.dbg_base.specs.Checks.{ReadsAs, IsFaultOf, IsFirstFault, IsNotAfter}
use Rattle.proc_lang.specs.declared.fault.ProgError.{ProgError}
use Rattle.proc_lang.specs.declared.fault.ProgError.TheVariants.{Bad}
use Rattle.proc_lang.specs.declared.fault.ProgError.TheVariants as errors
use Rattle.proc_lang.specs.declared.parser.Stop.{Stop}
use Rattle.proc_lang.specs.declared.parser.Stop.TheVariants.{Memory, Unexpected}
use Rattle.proc_lang.specs.Parsing.{Read}
use Rattle.proc_lang.specs.Reading.{Gives, IsStop, offset_of}
use Rattle.proc_lang.specs.Scanning.{HasNoTokens}
use Rattle.proc_lang.specs.Checking.{Checks}
use Rattle.proc_lang.specs.Answering.{Writes, IfBad, Accepts, Refuses}
use Rattle.proc_lang.proofs.TokenLaws.{one_token_list, no_token_fault}
use Rattle.proc_lang.proofs.TokenFaults.{one_token_fault, fault_same}
use Rattle.proc_lang.proofs.TokenExistenceLemmas.{lexed}

-- an error is forwarded, with a result of any type
pub passed_on : (X Y : Type 0) (e : ProgError) (is_so : ProgFault → Type 0) → IfBad {X = X} (Err e) is_so → IfBad {X = Y} (Err e) is_so
passed_on X Y errors.Memory is_so bad = tt
passed_on X Y (Bad f) is_so bad = bad

-- the number of a kind determines the kind
kind_from : ℕ → FaultKind
kind_from n =
    get_or (kinds.Byte ∷ kinds.Byte ∷ kinds.Token ∷ kinds.Grammar ∷ kinds.NameTaken ∷ kinds.NameUnknown ∷ kinds.TypeWrong ∷ kinds.Limit
    ∷ kinds.SelfSend ∷ kinds.SetTwice ∷ []) n kinds.Byte

kind_known : (kind : FaultKind) → kind_from (kind_number kind) ≡ kind
unfolding kind_from
kind_known kinds.Byte = refl
kind_known kinds.Token = refl
kind_known kinds.Grammar = refl
kind_known kinds.NameTaken = refl
kind_known kinds.NameUnknown = refl
kind_known kinds.TypeWrong = refl
kind_known kinds.Limit = refl
kind_known kinds.SelfSend = refl
kind_known kinds.SetTwice = refl

-- two faults are equal if each is not after the other
same_order : (f g : ProgFault) → IsNotAfter f g → IsNotAfter g f → f ≡ g
same_order f g (inl x) (inl y) = absurd (omega (arith, x, y))
same_order f g (inl x) (inr y) = absurd (omega (arith, x, y.0))
same_order f g (inr x) (inl y) = absurd (omega (arith, x.0, y))
same_order f g (inr x) (inr y) =
    let numbers : kind_number f.kind ≡ kind_number g.kind = omega (arith, x.1, y.1) in
    fault_same f g (sym (kind_known f.kind) ∙ ap kind_from numbers ∙ kind_known g.kind) x.0

contained : {X : Type 0} (P : X → Type 0) (xs : List X) (x : X) → AllByRecursion P xs → Contains xs x → P x
contained P xs x all here = All-contains P xs x (All-from_recursion P xs all) here

one_first : (faults : List ProgFault) (f g : ProgFault) → IsFirstFault faults f → IsFirstFault faults g → f ≡ g
one_first faults f g x y =
    same_order f g (contained (IsNotAfter f) faults g x.1 y.0) (contained (IsNotAfter g) faults f y.1 x.0)

-- a longer prefix of the same tokens has the token after the shorter one
longer_prefix : (a b l m : List Placed) (p : Placed) → a ++ p ∷ l ≡ b ++ m → length a < length b
    → (c : List Placed) × (b ≡ (a ++ p ∷ []) ++ c)
longer_prefix [] [] l m p e lt = absurd (omega (arith, lt))
longer_prefix [] (q ∷ b) l m p e lt = let first : p ≡ q = cc in (b, ap (λ (x : Placed). x ∷ b) (sym first))
longer_prefix (x ∷ a) [] l m p e lt = absurd (omega (arith, lt))
longer_prefix (x ∷ a) (q ∷ b) l m p e lt =
    let first : x ≡ q = cc in
    let rest : a ++ p ∷ l ≡ b ++ m = cc in
    let more = longer_prefix a b l m p rest (omega (arith, lt)) in
    (more.0, ap (λ (y : Placed). y ∷ b) (sym first) ∙ ap (λ (t : List Placed). x ∷ t) more.1)

same_prefix : (a b l m : List Placed) (p q : Placed) → a ++ p ∷ l ≡ b ++ q ∷ m → length a ≡ length b → p ≡ q
same_prefix [] [] l m p q e same = cc
same_prefix [] (y ∷ b) l m p q e same = absurd (omega (arith, same))
same_prefix (x ∷ a) [] l m p q e same = absurd (omega (arith, same))
same_prefix (x ∷ a) (y ∷ b) l m p q e same =
    let rest : a ++ p ∷ l ≡ b ++ q ∷ m = cc in
    same_prefix a b l m p q rest (omega (arith, same))

module _ {W M : Type 0} (Derives : List Placed → W → Type 0) (faults : W → List ProgFault) (says : W → M)
    (once : (tokens : List Placed) (x y : W) → Derives tokens x → Derives tokens y → x ≡ y) where
  -- a prefix of what can be continued can be continued
  shorter_begins : (prefix more : List Placed) → Begins Derives (prefix ++ more) → Begins Derives prefix
  shorter_begins prefix more b =
      (more ++ b.0, b.1, subst (λ (l : List Placed). Derives l b.1) (append_assoc prefix more b.0) b.2)

  -- tokens that derive something have no grammar fault
  no_grammar_fault : (end : ℕ) (tokens : List Placed) (w : W) (f : ProgFault) → Derives tokens w → IsGrammarFault Derives end tokens f → ⊥
  no_grammar_fault end tokens w f d (kind, inl g) =
      g.5 (g.1, w, subst (λ (l : List Placed). Derives l w) (g.3 ∙ sym (append_assoc g.0 (g.2 ∷ []) g.1)) d)
  no_grammar_fault end tokens w f d (kind, inr g) = g.1 w d

  -- two positions at which the tokens cannot be continued
  later_prefix : {A : Type 0} (a b l m : List Placed) (p : Placed) (tokens : List Placed) → tokens ≡ a ++ p ∷ l → tokens ≡ b ++ m
      → ¬ Begins Derives (a ++ p ∷ []) → Begins Derives b → length a < length b → A
  later_prefix a b l m p tokens whole also stuck viable lt =
      let longer = longer_prefix a b l m p (sym whole ∙ also) lt in
      absurd (stuck (shorter_begins (a ++ p ∷ []) longer.0 (subst (λ (t : List Placed). Begins Derives t) longer.1 viable)))

  prefix_once : (a b l m : List Placed) (p q : Placed) (tokens : List Placed) → tokens ≡ a ++ p ∷ l → tokens ≡ b ++ q ∷ m
      → Begins Derives a → Begins Derives b → ¬ Begins Derives (a ++ p ∷ []) → ¬ Begins Derives (b ++ q ∷ []) → p ≡ q
  prefix_once a b l m p q tokens whole also x y stuck blocked =
      elim (cases_order (length a) (length b)) as (λ _. p ≡ q) [
        | inl same ↦ same_prefix a b l m p q (sym whole ∙ also) same
        | inr h ↦ elim h as (λ _. p ≡ q) [
          | inl lt ↦ later_prefix a b l (q ∷ m) p tokens whole also stuck y lt
          | inr gt ↦ later_prefix b a m (p ∷ l) q tokens also whole blocked x gt
        ]
      ]

  one_grammar_fault : (end : ℕ) (tokens : List Placed) (f g : ProgFault) → IsGrammarFault Derives end tokens f
      → IsGrammarFault Derives end tokens g → f ≡ g
  one_grammar_fault end tokens f g (kind, inl x) (other, inl y) =
      fault_same f g (kind ∙ sym other)
      (x.6 ∙ ap (λ (p : Placed). p.at) (prefix_once x.0 y.0 x.1 y.1 x.2 y.2 tokens x.3 y.3 x.4 y.4 x.5 y.5) ∙ sym y.6)
  one_grammar_fault end tokens f g (kind, inl x) (other, inr y) =
      absurd (x.5 (shorter_begins (x.0 ++ x.2 ∷ []) x.1
      (subst (λ (t : List Placed). Begins Derives t) (x.3 ∙ sym (append_assoc x.0 (x.2 ∷ []) x.1)) y.0)))
  one_grammar_fault end tokens f g (kind, inr x) (other, inl y) =
      absurd (y.5 (shorter_begins (y.0 ++ y.2 ∷ []) y.1
      (subst (λ (t : List Placed). Begins Derives t) (y.3 ∙ sym (append_assoc y.0 (y.2 ∷ []) y.1)) x.0)))
  one_grammar_fault end tokens f g (kind, inr x) (other, inr y) = fault_same f g (kind ∙ sym other) (x.2 ∙ sym y.2)

  -- a text reads as at most one thing
  pub reads_once : (text : List ℕ) (P Q : M) → ReadsAs Derives faults says text P → ReadsAs Derives faults says text Q → P ≡ Q
  reads_once text P Q x y =
      let tokens = one_token_list text x.tokens y.tokens x.has_tokens y.has_tokens in
      let written : x.written ≡ y.written =
      once y.tokens x.written y.written (subst (λ (ts : List Placed). Derives ts x.written) tokens x.derives) y.derives in
      x.said ∙ ap says written ∙ sym y.said

  -- and then it has no fault
  pub reads_well : (text : List ℕ) (P : M) (f : ProgFault) → ReadsAs Derives faults says text P → IsFaultOf Derives faults text f → ⊥
  reads_well text P f x (inl y) = omega (arith, y.0, x.has_tokens.0)
  reads_well text P f x (inr (inl y)) = no_token_fault text x.tokens f x.has_tokens y.1
  reads_well text P f x (inr (inr (inl y))) =
      let tokens = one_token_list text x.tokens y.0 x.has_tokens y.1 in
      no_grammar_fault (length text) y.0 x.written f (subst (λ (ts : List Placed). Derives ts x.written) tokens x.derives) y.2
  reads_well text P f x (inr (inr (inr y))) =
      let tokens = one_token_list text x.tokens y.0 x.has_tokens y.2 in
      let written = once y.0 x.written y.1 (subst (λ (ts : List Placed). Derives ts x.written) tokens x.derives) y.3 in
      let none : Contains [] f = subst (λ (fs : List ProgFault). Contains fs f) (ap faults (sym written) ∙ x.checks) y.4.0 in
      omega (arith, none.1)

  -- a text has at most one first fault
  pub fault_once : (text : List ℕ) (f g : ProgFault) → IsFaultOf Derives faults text f → IsFaultOf Derives faults text g → f ≡ g
  fault_once text f g (inl x) (inl y) = x.1 ∙ sym y.1
  fault_once text f g (inl x) (inr (inl y)) = absurd (omega (arith, x.0, y.0))
  fault_once text f g (inl x) (inr (inr (inl y))) = absurd (omega (arith, x.0, y.1.0))
  fault_once text f g (inl x) (inr (inr (inr y))) = absurd (omega (arith, x.0, y.2.0))
  fault_once text f g (inr (inl x)) (inl y) = absurd (omega (arith, y.0, x.0))
  fault_once text f g (inr (inl x)) (inr (inl y)) = one_token_fault text f g x.1 y.1
  fault_once text f g (inr (inl x)) (inr (inr (inl y))) = absurd (no_token_fault text y.0 f y.1 x.1)
  fault_once text f g (inr (inl x)) (inr (inr (inr y))) = absurd (no_token_fault text y.0 f y.2 x.1)
  fault_once text f g (inr (inr (inl x))) (inl y) = absurd (omega (arith, y.0, x.1.0))
  fault_once text f g (inr (inr (inl x))) (inr (inl y)) = absurd (no_token_fault text x.0 g x.1 y.1)
  fault_once text f g (inr (inr (inl x))) (inr (inr (inl y))) =
      let tokens = one_token_list text x.0 y.0 x.1 y.1 in
      one_grammar_fault (length text) y.0 f g (subst (λ (ts : List Placed). IsGrammarFault Derives (length text) ts f) tokens x.2) y.2
  fault_once text f g (inr (inr (inl x))) (inr (inr (inr y))) =
      let tokens = one_token_list text x.0 y.0 x.1 y.2 in
      absurd (no_grammar_fault (length text) y.0 y.1 f y.3
      (subst (λ (ts : List Placed). IsGrammarFault Derives (length text) ts f) tokens x.2))
  fault_once text f g (inr (inr (inr x))) (inl y) = absurd (omega (arith, y.0, x.2.0))
  fault_once text f g (inr (inr (inr x))) (inr (inl y)) = absurd (no_token_fault text x.0 g x.2 y.1)
  fault_once text f g (inr (inr (inr x))) (inr (inr (inl y))) =
      let tokens = one_token_list text y.0 x.0 y.1 x.2 in
      absurd (no_grammar_fault (length text) x.0 x.1 g x.3
      (subst (λ (ts : List Placed). IsGrammarFault Derives (length text) ts g) tokens y.2))
  fault_once text f g (inr (inr (inr x))) (inr (inr (inr y))) =
      let tokens = one_token_list text x.0 y.0 x.2 y.2 in
      let written = once y.0 x.1 y.1 (subst (λ (ts : List Placed). Derives ts x.1) tokens x.3) y.3 in
      one_first (faults y.1) f g (subst (λ (w : W). IsFirstFault (faults w) f) written x.4) y.4

  -- the first fault of the checks, and the grammar's outcome for tokens
  module _ (first : (text : List ℕ) (tokens : List Placed) (w : W) (f : ProgFault) → HasTokens text tokens → Derives tokens w
      → slice_get (faults w) 0 ≡ Some f → IsFirstFault (faults w) f) where
    checks_fault : (text : List ℕ) (tokens : List Placed) (w : W) (f : ProgFault) → HasTokens text tokens → Derives tokens w
        → slice_get (faults w) 0 ≡ Some f → IsFaultOf Derives faults text f
    checks_fault text tokens w f has d e = inr (inr (inr (tokens, w, has, d, first text tokens w f has d e)))

    checked_text : (text : List ℕ) (tokens : List Placed) (w : W) → HasTokens text tokens → Derives tokens w
        → (all : List ProgFault) → faults w ≡ all →
        ((P : M) × ReadsAs Derives faults says text P) ⊎ ((f : ProgFault) × IsFaultOf Derives faults text f)
    checked_text text tokens w has d [] none =
        inl (says w, record { tokens = tokens; written = w; has_tokens = has; derives = d; checks = none; said = refl })
    checked_text text tokens w has d (f ∷ others) some =
        inr (f, checks_fault text tokens w f has d (ap (λ (fs : List ProgFault). slice_get fs 0) some))

    -- each text reads as something or has a first fault
    pub each_text : ((end : ℕ) (tokens : List Placed) →
        ((w : W) × Derives tokens w) ⊎ ((f : ProgFault) × IsGrammarFault Derives end tokens f))
        → (text : List ℕ) → ((P : M) × ReadsAs Derives faults says text P) ⊎ ((f : ProgFault) × IsFaultOf Derives faults text f)
    each_text parses text =
        elim (cases_lt INPUT_BYTES (length text))
        as (λ _. ((P : M) × ReadsAs Derives faults says text P) ⊎ ((f : ProgFault) × IsFaultOf Derives faults text f)) [
          | inl long ↦ inr (record { kind = kinds.Limit; at = INPUT_BYTES }, inl (long, refl))
          | inr few ↦ elim (lexed text few)
              as (λ _. ((P : M) × ReadsAs Derives faults says text P) ⊎ ((f : ProgFault) × IsFaultOf Derives faults text f)) [
                | inr found ↦ inr (found.0, inr (inl (few, found.1)))
                | inl has ↦ elim (parses (length text) has.0)
                    as (λ _. ((P : M) × ReadsAs Derives faults says text P) ⊎ ((f : ProgFault) × IsFaultOf Derives faults text f)) [
                      | inl d ↦ checked_text text has.0 d.0 has.1 d.1 (faults d.0) refl
                      | inr found ↦ inr (found.0, inr (inr (inl (has.0, has.1, found.1))))
                    ]
              ]
        ]

    -- the result of reading a text whose checks were made
    module _ {X : Type 0} (view : X → M) (text : List ℕ) (w : W) (writes : Writes Derives text w) where
      pub checked_accepted : (r : Result X ProgError) → Checks r (faults w) (λ x. view x ≡ says w)
          → IfOk r (λ x. ReadsAs Derives faults says text (view x))
      checked_accepted (Ok x) passed =
          record { tokens = writes.0; written = w; has_tokens = writes.1; derives = writes.2; checks = passed.0; said = passed.1 }
      checked_accepted (Err e) passed = tt

      pub checked_refused : (r : Result X ProgError) → Checks r (faults w) (λ x. view x ≡ says w) → IfBad r (IsFaultOf Derives faults text)
      checked_refused (Ok x) passed = tt
      checked_refused (Err errors.Memory) passed = tt
      checked_refused (Err (Bad f)) passed = checks_fault text writes.0 w f writes.1 writes.2 passed

  -- a text without tokens
  pub no_tokens : (text : List ℕ) (e : ProgError) → HasNoTokens text e → (X : Type 0) →
      IfBad {X = X} (Err e) (IsFaultOf Derives faults text)
  no_tokens text errors.Memory none X = tt
  no_tokens text (Bad f) (inl long) X = inl long
  no_tokens text (Bad f) (inr found) X = inr (inl found)

  -- a text whose tokens cannot be continued
  pub stopped_refused : {B Z : Type 0} (read : List Placed → Read B) (view : Z → B) (text : List ℕ) (tokens rest : List Placed)
      (stop : Stop)
      (e : ProgError) (X : Type 0)
      → ((end n : ℕ) (ts : List Placed) (f : ProgFault) → read ts ≡ Err n → f.kind ≡ kinds.Grammar → f.at ≡ offset_of end n ts
      → IsGrammarFault Derives end ts f)
      → HasTokens text tokens → Gives {X = Z} view (Err stop) rest (read tokens) → IsStop stop tokens (length text) e
      → IfBad {X = X} (Err e) (IsFaultOf Derives faults text)
  stopped_refused read view text tokens rest Memory e X fails has given is =
      subst (λ (x : ProgError). IfBad {X = X} (Err x) (IsFaultOf Derives faults text)) (sym is) tt
  stopped_refused read view text tokens rest (Unexpected n) e X fails has given is =
      subst (λ (x : ProgError). IfBad {X = X} (Err x) (IsFaultOf Derives faults text)) (sym is)
      (inr (inr (inl (tokens, has, fails (length text) n tokens _ given refl refl))))

  -- what holds is returned, since what is returned holds
  module _ {X : Type 0} (view : X → M) (text : List ℕ) where
    pub accepts : (r : Result X ProgError) → IfOk r (λ x. ReadsAs Derives faults says text (view x))
        → IfBad r (IsFaultOf Derives faults text) → (P : M) → ReadsAs Derives faults says text P → Accepts view r P
    accepts (Ok x) ok bad P reads = reads_once text (view x) P ok reads
    accepts (Err errors.Memory) ok bad P reads = tt
    accepts (Err (Bad f)) ok bad P reads = reads_well text P f reads bad

    pub refuses : (r : Result X ProgError) → IfOk r (λ x. ReadsAs Derives faults says text (view x))
        → IfBad r (IsFaultOf Derives faults text) → (f : ProgFault) → IsFaultOf Derives faults text f → Refuses r f
    refuses (Ok x) ok bad f is = reads_well text (view x) f ok is
    refuses (Err errors.Memory) ok bad f is = tt
    refuses (Err (Bad g)) ok bad f is = fault_once text g f bad is
