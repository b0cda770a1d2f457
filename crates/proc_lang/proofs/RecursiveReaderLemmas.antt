-- A reader that calls itself for parts of what it reads. It is a reader at each turn, and a turn depends only on shorter parts.
use Rattle.std.proofs.Common.{◌≡◌, ℕ, zero, suc, ◌+◌, ◌<◌, List, [], ◌∷◌, ◌++◌, length}
use Rattle.std.proofs.Common.{Ok, Err, refl, sym, ap, ◌∙◌, subst, arith, length-append}
use Rattle.std.proofs.lemmas.List.{append_cancel_right}
use Rattle.dbg_base.specs.Tokens.{Placed}
use Rattle.dbg_base.specs.Grammar.{Begins}
use Rattle.proc_lang.specs.Parsing.{Read, unrolled, fixed}
use Rattle.proc_lang.proofs.ReaderLemmas.{IsReader, Success, Failure, SameFirst}

module _ {A : Type 0} (Derives : List Placed → A → Type 0) (step : (List Placed → Read A) → List Placed → Read A)
    (some : Begins Derives []) (keeps : (read : List Placed → Read A) → IsReader Derives read → IsReader Derives (step read))
    (agrees : (read other : List Placed → Read A) → IsReader Derives read → (tokens : List Placed)
    → ((us : List Placed) → length us < length tokens → read us ≡ other us) → step read tokens ≡ step other tokens) where
  unrolled_reader : (n : ℕ) → IsReader Derives (unrolled step n)
  unrolled_reader zero = record {
    some = some;
    succeeds = λ tokens rest x e. absurd (let bad : ◌≡◌ {A = Read A} (Err (length tokens)) (Ok (x, rest)) = e in cc);
    fails = λ tokens n e. record {
      prefix = [];
      left = tokens;
      viable = some;
      whole = refl;
      size = let same : ◌≡◌ {A = Read A} (Err (length tokens)) (Err n) = e in cc;
      again = λ other same. refl;
    };
  }
  unrolled_reader (suc n) = keeps (unrolled step n) (unrolled_reader n)

  enough : (n m : ℕ) (tokens : List Placed) → length tokens < n → length tokens < m → unrolled step n tokens ≡ unrolled step m tokens
  enough zero m tokens less more = absurd (omega arith)
  enough (suc n) zero tokens less more = absurd (omega arith)
  enough (suc n) (suc m) tokens less more =
      agrees (unrolled step n) (unrolled step m) (unrolled_reader n) tokens (λ us lt. enough n m us (omega arith) (omega arith))

  pub fixed_parts : (tokens : List Placed) → fixed step tokens ≡ step (fixed step) tokens
  unfolding fixed
  fixed_parts tokens =
      agrees (unrolled step (length tokens)) (fixed step) (unrolled_reader (length tokens)) tokens
      (λ us lt. enough (length tokens) (suc (length us)) us lt (omega arith))

  fixed_is : (n : ℕ) (tokens : List Placed) → length tokens < n → fixed step tokens ≡ unrolled step n tokens
  unfolding fixed
  fixed_is n tokens lt = enough (suc (length tokens)) n tokens (omega arith) lt

  turn_gives : (n : ℕ) (tokens : List Placed) (r : Read A) → length tokens < n → fixed step tokens ≡ r → unrolled step n tokens ≡ r
  turn_gives n tokens r lt e = sym (fixed_is n tokens lt) ∙ e

  fixed_succeeds : (tokens rest : List Placed) (x : A) → fixed step tokens ≡ Ok (x, rest) → Success Derives (fixed step) tokens rest x
  fixed_succeeds tokens rest x e =
      let m : ℕ = suc (length tokens) in
      let s = (unrolled_reader m).succeeds tokens rest x (turn_gives m tokens (Ok (x, rest)) (omega arith) e) in
      record {
        prefix = s.prefix;
        derived = s.derived;
        whole = s.whole;
        again = λ other same.
            let n : ℕ = suc (length tokens + length (s.prefix ++ other)) in
            let t = (unrolled_reader n).succeeds tokens rest x (turn_gives n tokens (Ok (x, rest)) (omega arith) e) in
            let prefix : s.prefix ≡ t.prefix = append_cancel_right s.prefix t.prefix rest (sym s.whole ∙ t.whole) in
            let moved : unrolled step n (s.prefix ++ other) ≡ unrolled step n (t.prefix ++ other) =
            ap (λ (l : List Placed). unrolled step n (l ++ other)) prefix in
            fixed_is n (s.prefix ++ other) (omega arith) ∙ moved ∙ t.again other same;
      }

  fixed_fails : (tokens : List Placed) (m : ℕ) → fixed step tokens ≡ Err m → Failure Derives (fixed step) tokens m
  fixed_fails tokens m e =
      let k : ℕ = suc (length tokens) in
      let s = (unrolled_reader k).fails tokens m (turn_gives k tokens (Err m) (omega arith) e) in
      record {
        prefix = s.prefix;
        left = s.left;
        viable = s.viable;
        whole = s.whole;
        size = s.size;
        again = λ other same.
            let n : ℕ = suc (length tokens + length (s.prefix ++ other)) in
            let t = (unrolled_reader n).fails tokens m (turn_gives n tokens (Err m) (omega arith) e) in
            let sizes = prefixes_same s.prefix t.prefix s.left t.left (sym s.whole ∙ t.whole) (sym s.size ∙ t.size) in
            let moved : unrolled step n (s.prefix ++ other) ≡ unrolled step n (t.prefix ++ other) =
            ap (λ (l : List Placed). unrolled step n (l ++ other)) sizes.0 in
            fixed_is n (s.prefix ++ other) (omega arith) ∙ moved
            ∙ t.again other (subst (λ (l : List Placed). SameFirst l other) sizes.1 same);
      }
    where
      prefixes_same : (a b l m : List Placed) → a ++ l ≡ b ++ m → length l ≡ length m → (a ≡ b) × (l ≡ m)
      prefixes_same [] [] l m e same = (refl, e)
      prefixes_same [] (p ∷ b) l m e same = absurd (omega (arith, ap length e, length-append b m))
      prefixes_same (p ∷ a) [] l m e same = absurd (omega (arith, ap length e, length-append a l))
      prefixes_same (p ∷ a) (q ∷ b) l m e same =
          let first : p ≡ q = cc in
          let rest : a ++ l ≡ b ++ m = cc in
          let more = prefixes_same a b l m rest same in
          (ap (λ (x : Placed). x ∷ a) first ∙ ap (λ (t : List Placed). q ∷ t) more.0, more.1)

  pub fixed_reader : IsReader Derives (fixed step)
  fixed_reader = record { some = some; succeeds = fixed_succeeds; fails = fixed_fails }
