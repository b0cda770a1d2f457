-- Readers of tokens, and readers made from others. A reader reads what its relation derives, and fails at the first token that cannot
-- follow. It looks at most at the first token that it leaves.
use Rattle.std.proofs.Common.{◌≡◌, ℕ, suc, ◌<◌, ◌≤◌, Bool, true, false, cond, List, [], ◌∷◌, ◌++◌, length, Option, Some, None}
use Rattle.std.proofs.Common.{Result, Ok, Err, refl, sym, ap, ◌∙◌, subst, arith, ◌⊎◌, inl, inr, append_assoc, length-append}
use Rattle.dbg_base.specs.Tokens.{Token, Placed}
use Rattle.dbg_base.specs.Grammar.{Begins}
use Rattle.proc_lang.specs.Parsing.{Read, ◌>>=◌, picked, read_one, begins}

-- both begin with the same token, or both are empty
abbrev pub SameFirst : List Placed → List Placed → Type 0
SameFirst [] [] = Unit {0}
SameFirst [] (q ∷ qs) = ⊥
SameFirst (p ∷ ps) [] = ⊥
SameFirst (p ∷ ps) (q ∷ qs) = p ≡ q

same_after : (prefix rest other : List Placed) → SameFirst rest other → SameFirst (prefix ++ rest) (prefix ++ other)
same_after [] rest other same = same
same_after (p ∷ prefix) rest other same = refl

begins_same : (test : Token → Bool) (rest other : List Placed) → SameFirst rest other → begins test rest ≡ begins test other
begins_same test [] [] same = refl
begins_same test [] (q ∷ qs) same = absurd same
begins_same test (p ∷ ps) [] same = absurd same
begins_same test (p ∷ ps) (q ∷ qs) same = ap (λ (x : Placed). test x.token) same

-- x was read; it is read again if the same token follows
pub record Success {A : Type 0} (Derives : List Placed → A → Type 0) (read : List Placed → Read A) (tokens rest : List Placed) (x : A)
    : Type 0 where
  pub prefix : List Placed
  pub derived : Derives prefix x
  pub whole : tokens ≡ prefix ++ rest
  pub again : (other : List Placed) → SameFirst rest other → read (prefix ++ other) ≡ Ok (x, other)

-- reading failed: the tokens before those that are left can be continued; reading fails again if the same token follows
pub record Failure {A : Type 0} (Derives : List Placed → A → Type 0) (read : List Placed → Read A) (tokens : List Placed) (n : ℕ)
    : Type 0 where
  pub prefix : List Placed
  pub left : List Placed
  pub viable : Begins Derives prefix
  pub whole : tokens ≡ prefix ++ left
  pub size : n ≡ length left
  pub again : (other : List Placed) → SameFirst left other → read (prefix ++ other) ≡ Err (length other)

pub record IsReader {A : Type 0} (Derives : List Placed → A → Type 0) (read : List Placed → Read A) : Type 0 where
  pub some : Begins Derives []
  pub succeeds : (tokens rest : List Placed) (x : A) → read tokens ≡ Ok (x, rest) → Success Derives read tokens rest x
  pub fails : (tokens : List Placed) (n : ℕ) → read tokens ≡ Err n → Failure Derives read tokens n

-- what is derived is read, if the tokens after it are admissible
abbrev pub Completes : {A : Type 0} → (List Placed → A → Type 0) → (List Placed → Type 0) → (List Placed → Read A) → Type 0
Completes {A} Derives Follows read =
    (prefix rest : List Placed) (x : A) → Derives prefix x → Follows rest → read (prefix ++ rest) ≡ Ok (x, rest)

abbrev pub Anything : List Placed → Type 0
Anything rest = Unit {0}

-- reading leaves fewer tokens
abbrev pub Takes : {A : Type 0} → (List Placed → Read A) → Type 0
Takes {A} read = (tokens : List Placed) (found : A × List Placed) → read tokens ≡ Ok found → length found.1 < length tokens

-- a reader of a relation with the same elements and more derivations
pub derives_more : {A : Type 0} (Derives Other : List Placed → A → Type 0) (read : List Placed → Read A)
    → ((tokens : List Placed) (x : A) → Derives tokens x → Other tokens x) → IsReader Derives read → IsReader Other read
derives_more Derives Other read to reader = record {
  some = (reader.some.0, reader.some.1, to _ _ reader.some.2);
  succeeds = λ tokens rest x e. let s = reader.succeeds tokens rest x e in
      record { prefix = s.prefix; derived = to _ _ s.derived; whole = s.whole; again = s.again };
  fails = λ tokens n e. let f = reader.fails tokens n e in
      record {
        prefix = f.prefix;
        left = f.left;
        viable = (f.viable.0, f.viable.1, to _ _ f.viable.2);
        whole = f.whole;
        size = f.size;
        again = f.again;
      };
}

-- reading leaves at most as many tokens as there were
pub leaves : {A : Type 0} (Derives : List Placed → A → Type 0) (read : List Placed → Read A) → IsReader Derives read
    → (tokens : List Placed) (found : A × List Placed) → read tokens ≡ Ok found → length found.1 ≤ length tokens
leaves Derives read reader tokens found e =
    let s = reader.succeeds tokens found.1 found.0 e in
    omega (arith, ap length s.whole, length-append s.prefix found.1)

-- the result of a step, and of the step after it
pub bind_ok : {A B : Type 0} (r : Result A ℕ) (f : A → Result B ℕ) (y : B) → (r >>= f) ≡ Ok y → (x : A) × (r ≡ Ok x) × (f x ≡ Ok y)
bind_ok (Ok x) f y e = (x, refl, e)
bind_ok (Err n) f y e = cc

bind_err : {A B : Type 0} (r : Result A ℕ) (f : A → Result B ℕ) (n : ℕ) → (r >>= f) ≡ Err n
    → (r ≡ Err n) ⊎ ((x : A) × (r ≡ Ok x) × (f x ≡ Err n))
bind_err (Ok x) f n e = inr (x, refl, e)
bind_err (Err m) f n e = inl (let same : m ≡ n = cc in ap (λ (k : ℕ). Err k) same)

pub bind_to : {A B : Type 0} (r : Result A ℕ) (f : A → Result B ℕ) (x : A) (z : Result B ℕ) → r ≡ Ok x → f x ≡ z → (r >>= f) ≡ z
bind_to r f x z e h = ap (λ q. q >>= f) e ∙ h

pub bind_agree : {A B : Type 0} (r : Result A ℕ) (f g : A → Result B ℕ) → ((x : A) → r ≡ Ok x → f x ≡ g x) → (r >>= f) ≡ (r >>= g)
bind_agree (Ok x) f g same = same x refl
bind_agree (Err n) f g same = refl

pub bind_same : {A B : Type 0} (r s : Result A ℕ) (f : A → Result B ℕ) → r ≡ s → (r >>= f) ≡ (s >>= f)
bind_same r s f e = ap (λ q. q >>= f) e

-- two equal results have the same value and leave the same tokens
pub ok_is : {A : Type 0} (x y : A) (rest other : List Placed) → ◌≡◌ {A = Read A} (Ok (x, rest)) (Ok (y, other)) → (x ≡ y) × (rest ≡ other)
ok_is {A} x y rest other e =
    let same : ◌≡◌ {A = A × List Placed} (x, rest) (y, other) = cc in
    (ap (λ (q : A × List Placed). q.0) same, ap (λ (q : A × List Placed). q.1) same)

-- one token
abbrev pub One : {A : Type 0} → (Placed → Option A) → List Placed → A → Type 0
One pick tokens x = (p : Placed) × (tokens ≡ p ∷ []) × (pick p ≡ Some x)

module _ {A : Type 0} (pick : Placed → Option A) where
  picked_ok : (o : Option A) (tokens rest : List Placed) (x : A) → picked o tokens ≡ Ok (x, rest) → (o ≡ Some x) × (tokens ≡ rest)
  picked_ok (Some y) tokens rest x e =
      let same = ok_is y x tokens rest e in (ap (λ (z : A). Some z) same.0, same.1)
  picked_ok None tokens rest x e = cc

  picked_err : (o : Option A) (tokens : List Placed) (n : ℕ) → picked o tokens ≡ Err n → (o ≡ None) × (n ≡ suc (length tokens))
  picked_err (Some y) tokens n e = cc
  picked_err None tokens n e = (refl, cc)

  one_fails : Begins (One pick) [] → (tokens : List Placed) (n : ℕ) → read_one pick tokens ≡ Err n
      → Failure (One pick) (read_one pick) tokens n
  one_fails some [] n e = record {
    prefix = [];
    left = [];
    viable = some;
    whole = refl;
    size = cc;
    again = λ other same. elim other as (λ other. SameFirst [] other → read_one pick other ≡ Err (length other)) [
      | [] ↦ λ _. refl
      | q ∷ qs ↦ λ bad. absurd bad
    ] same;
  }
  one_fails some (p ∷ tokens) n e =
      let none = picked_err (pick p) tokens n e in
      record {
        prefix = [];
        left = p ∷ tokens;
        viable = some;
        whole = refl;
        size = none.1;
        again = λ other same. elim other as (λ other. SameFirst (p ∷ tokens) other → read_one pick other ≡ Err (length other)) [
          | [] ↦ λ bad. absurd bad
          | q ∷ qs ↦ λ is. ap (λ (o : Option A). picked o qs) (ap pick (sym is) ∙ none.0)
        ] same;
      }

  one_succeeds : (tokens rest : List Placed) (x : A) → read_one pick tokens ≡ Ok (x, rest) →
      Success (One pick) (read_one pick) tokens rest x
  one_succeeds [] rest x e = cc
  one_succeeds (p ∷ tokens) rest x e =
      let found = picked_ok (pick p) tokens rest x e in
      record {
        prefix = p ∷ [];
        derived = (p, refl, found.0);
        whole = ap (λ (l : List Placed). p ∷ l) found.1;
        again = λ other same. ap (λ (o : Option A). picked o other) found.0;
      }

  pub one_reader : (p : Placed) (x : A) → pick p ≡ Some x → IsReader (One pick) (read_one pick)
  one_reader p x e = record {
    some = (p ∷ [], x, (p, refl, e));
    succeeds = one_succeeds;
    fails = one_fails (p ∷ [], x, (p, refl, e));
  }

  pub one_completes : Completes (One pick) Anything (read_one pick)
  one_completes prefix rest x d any =
      ap (λ (l : List Placed). read_one pick (l ++ rest)) d.1 ∙ ap (λ (o : Option A). picked o rest) d.2

  pub one_takes : Takes (read_one pick)
  one_takes [] found e = cc
  one_takes (p ∷ tokens) found e =
      let same = picked_ok (pick p) tokens found.1 found.0 e in omega (arith, ap length same.1)

-- two readers, one after the other; the second depends on what the first one read
abbrev pub Then : {A B : Type 0} → (List Placed → A → Type 0) → (A → List Placed → B → Type 0) → List Placed → B → Type 0
Then {A} First Second tokens y =
    (x : A) × (first second : List Placed) × First first x × Second x second y × (tokens ≡ first ++ second)

module _ {A B : Type 0} (First : List Placed → A → Type 0) (Second : A → List Placed → B → Type 0) (read : List Placed → Read A)
    (next : A → List Placed → Read B) where
  abbrev read_both : List Placed → Read B
  read_both tokens = read tokens >>= λ x. next x.0 x.1

  module _ (one : IsReader First read) (two : (x : A) → IsReader (Second x) (next x)) where
    both_succeed : (tokens rest : List Placed) (y : B) → read_both tokens ≡ Ok (y, rest)
        → Success (Then First Second) read_both tokens rest y
    both_succeed tokens rest y e =
        let a = bind_ok (read tokens) (λ x. next x.0 x.1) (y, rest) e in
        let s = one.succeeds tokens a.0.1 a.0.0 a.1 in
        let t = (two a.0.0).succeeds a.0.1 rest y a.2 in
        record {
          prefix = s.prefix ++ t.prefix;
          derived = (a.0.0, s.prefix, t.prefix, s.derived, t.derived, refl);
          whole = s.whole ∙ ap (λ (l : List Placed). s.prefix ++ l) t.whole ∙ sym (append_assoc s.prefix t.prefix rest);
          again = λ other same.
              let first : read (s.prefix ++ (t.prefix ++ other)) ≡ Ok (a.0.0, t.prefix ++ other) =
              s.again (t.prefix ++ other) (subst (λ (l : List Placed). SameFirst l (t.prefix ++ other)) (sym t.whole)
              (same_after t.prefix rest other same)) in
              ap read_both (append_assoc s.prefix t.prefix other) ∙ bind_to _ _ _ _ first (t.again other same);
        }

    second_fails : (tokens : List Placed) (n : ℕ) (a : A × List Placed) → read tokens ≡ Ok a → next a.0 a.1 ≡ Err n
        → Failure (Then First Second) read_both tokens n
    second_fails tokens n a e h =
        let s = one.succeeds tokens a.1 a.0 e in
        let f = (two a.0).fails a.1 n h in
        record {
          prefix = s.prefix ++ f.prefix;
          left = f.left;
          viable = (
            f.viable.0,
            f.viable.1,
            (
              a.0,
              s.prefix,
              f.prefix ++ f.viable.0,
              s.derived,
              f.viable.2,
              append_assoc s.prefix f.prefix f.viable.0,
            ),
          );
          whole = s.whole ∙ ap (λ (l : List Placed). s.prefix ++ l) f.whole ∙ sym (append_assoc s.prefix f.prefix f.left);
          size = f.size;
          again = λ other same.
              let first : read (s.prefix ++ (f.prefix ++ other)) ≡ Ok (a.0, f.prefix ++ other) =
              s.again (f.prefix ++ other) (subst (λ (l : List Placed). SameFirst l (f.prefix ++ other)) (sym f.whole)
              (same_after f.prefix f.left other same)) in
              ap read_both (append_assoc s.prefix f.prefix other) ∙ bind_to _ _ _ _ first (f.again other same);
        }

    first_fails : (tokens : List Placed) (n : ℕ) → read tokens ≡ Err n → Failure (Then First Second) read_both tokens n
    first_fails tokens n e =
        let f = one.fails tokens n e in
        let second = (two f.viable.1).some in
        record {
          prefix = f.prefix;
          left = f.left;
          viable = (
            f.viable.0 ++ second.0,
            second.1,
            (f.viable.1, f.prefix ++ f.viable.0, second.0, f.viable.2, second.2, sym (append_assoc f.prefix f.viable.0 second.0)),
          );
          whole = f.whole;
          size = f.size;
          again = λ other same. ap (λ q. q >>= λ x. next x.0 x.1) (f.again other same);
        }

    pub both_reader : IsReader (Then First Second) read_both
    both_reader =
        let first = one.some in
        let second = (two first.1).some in
        record {
          some = (first.0 ++ second.0, second.1, (first.1, first.0, second.0, first.2, second.2, refl));
          succeeds = both_succeed;
          fails = λ tokens n e. elim (bind_err (read tokens) (λ x. next x.0 x.1) n e) as
              (λ _. Failure (Then First Second) read_both tokens n) [
                | inl h ↦ first_fails tokens n h
                | inr h ↦ second_fails tokens n h.0 h.1 h.2
              ];
        }

-- a function of what was read
abbrev pub Last : {A B : Type 0} → (A → B) → (List Placed → A → Type 0) → List Placed → B → Type 0
Last {A} f First tokens y = (x : A) × First tokens x × (f x ≡ y)

module _ {A B : Type 0} (f : A → B) (First : List Placed → A → Type 0) (read : List Placed → Read A) where
  abbrev read_last : List Placed → Read B
  read_last tokens = read tokens >>= λ x. Ok (f x.0, x.1)

  pub last_reader : IsReader First read → IsReader (Last f First) read_last
  last_reader one = record {
    some = (one.some.0, f one.some.1, (one.some.1, one.some.2, refl));
    succeeds = λ tokens rest y e.
        let a = bind_ok (read tokens) (λ x. Ok (f x.0, x.1)) (y, rest) e in
        let same = ok_is (f a.0.0) y a.0.1 rest a.2 in
        let s = one.succeeds tokens a.0.1 a.0.0 a.1 in
        record {
          prefix = s.prefix;
          derived = (a.0.0, s.derived, same.0);
          whole = s.whole ∙ ap (λ (l : List Placed). s.prefix ++ l) same.1;
          again = λ other is.
              bind_to _ _ _ _ (s.again other (subst (λ (l : List Placed). SameFirst l other) (sym same.1) is))
              (ap (λ (z : B). Ok (z, other)) same.0);
        };
    fails = λ tokens n e. elim (bind_err (read tokens) (λ x. Ok (f x.0, x.1)) n e) as (λ _. Failure (Last f First) read_last tokens n) [
      | inl h ↦ let g = one.fails tokens n h in
          record {
            prefix = g.prefix;
            left = g.left;
            viable = (g.viable.0, f g.viable.1, (g.viable.1, g.viable.2, refl));
            whole = g.whole;
            size = g.size;
            again = λ other same. ap (λ q. q >>= λ x. Ok (f x.0, x.1)) (g.again other same);
          }
      | inr h ↦ absurd (let bad : ◌≡◌ {A = Result (B × List Placed) ℕ} (Ok (f h.0.0, h.0.1)) (Err n) = h.2 in cc)
    ];
  }

-- one of two readers, by the first token
module _ {A : Type 0} (Derives : List Placed → A → Type 0) (test : Token → Bool) (read other_read : List Placed → Read A) where
  abbrev read_either : List Placed → Read A
  read_either tokens = cond (begins test tokens) (read tokens) (other_read tokens)

  module _ (b : Bool) (prefix rest other : List Placed) (same : SameFirst rest other) (z : Read A) where
    stays : begins test (prefix ++ rest) ≡ b → begins test (prefix ++ other) ≡ b
    stays is = sym (begins_same test (prefix ++ rest) (prefix ++ other) (same_after prefix rest other same)) ∙ is

    either_again : begins test (prefix ++ rest) ≡ b → cond b (read (prefix ++ other)) (other_read (prefix ++ other)) ≡ z
        → read_either (prefix ++ other) ≡ z
    either_again is e = ap (λ (t : Bool). cond t (read (prefix ++ other)) (other_read (prefix ++ other))) (stays is) ∙ e

  module _ (one : IsReader Derives read) (two : IsReader Derives other_read) where
    either_succeeds : (b : Bool) (tokens rest : List Placed) (x : A) → begins test tokens ≡ b
        → cond b (read tokens) (other_read tokens) ≡ Ok (x, rest) → Success Derives read_either tokens rest x
    either_succeeds true tokens rest x is e =
        let s = one.succeeds tokens rest x e in
        record {
          prefix = s.prefix;
          derived = s.derived;
          whole = s.whole;
          again = λ other same. either_again true s.prefix rest other same _ (ap (begins test) (sym s.whole) ∙ is) (s.again other same);
        }
    either_succeeds false tokens rest x is e =
        let s = two.succeeds tokens rest x e in
        record {
          prefix = s.prefix;
          derived = s.derived;
          whole = s.whole;
          again = λ other same. either_again false s.prefix rest other same _ (ap (begins test) (sym s.whole) ∙ is) (s.again other same);
        }

    either_fails : (b : Bool) (tokens : List Placed) (n : ℕ) → begins test tokens ≡ b
        → cond b (read tokens) (other_read tokens) ≡ Err n → Failure Derives read_either tokens n
    either_fails true tokens n is e =
        let f = one.fails tokens n e in
        record {
          prefix = f.prefix;
          left = f.left;
          viable = f.viable;
          whole = f.whole;
          size = f.size;
          again = λ other same. either_again true f.prefix f.left other same _ (ap (begins test) (sym f.whole) ∙ is) (f.again other same);
        }
    either_fails false tokens n is e =
        let f = two.fails tokens n e in
        record {
          prefix = f.prefix;
          left = f.left;
          viable = f.viable;
          whole = f.whole;
          size = f.size;
          again = λ other same. either_again false f.prefix f.left other same _ (ap (begins test) (sym f.whole) ∙ is) (f.again other same);
        }

    pub either_reader : IsReader Derives read_either
    either_reader = record {
      some = one.some;
      succeeds = λ tokens rest x e. either_succeeds (begins test tokens) tokens rest x refl e;
      fails = λ tokens n e. either_fails (begins test tokens) tokens n refl e;
    }

  pub either_first : (tokens : List Placed) (z : Read A) → begins test tokens ≡ true → read tokens ≡ z → read_either tokens ≡ z
  either_first tokens z is e = ap (λ (t : Bool). cond t (read tokens) (other_read tokens)) is ∙ e

  pub either_second : (tokens : List Placed) (z : Read A) → begins test tokens ≡ false → other_read tokens ≡ z → read_either tokens ≡ z
  either_second tokens z is e = ap (λ (t : Bool). cond t (read tokens) (other_read tokens)) is ∙ e
