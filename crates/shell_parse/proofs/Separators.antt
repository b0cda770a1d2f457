-- The commands of a batch, byte by byte.
use Rattle.std.proofs.Common.{◌≡◌, ℕ, suc, ◌+◌, ◌-◌, ◌<◌, ◌≤◌, Bool, true, false, cond, eqb, ◌&&◌, List, [], ◌∷◌, ◌++◌, length, take}
use Rattle.std.proofs.Common.{drop, refl, sym, ap, ◌∙◌, subst, append_assoc, length-append, get_or, drop-cons, add-one, arith}
use Rattle.std.proofs.lemmas.List.{take_all, drop_all, length-drop}
use Rattle.std.specs.Prelude.{nat_le}
use Rattle.dbg_base.specs.CommandLines.{is_blank, before_first_word, Spot, Between, InWord, InParentheses, begun_by}
use Rattle.dbg_base.specs.CommandLines.{spot_after, is_separator, sets_break, commands_from, commands_of}
use Rattle.shell_parse.specs.Lines.{depth_of}

-- these bytes, put before the first of these commands
abbrev pub prepended : List ℕ → List (List ℕ) → List (List ℕ)
prepended [] commands = commands
prepended (b ∷ prefix) commands = before_first_word b (prepended prefix commands)

one_more : (prefix : List ℕ) (b : ℕ) (commands : List (List ℕ))
    → prepended prefix (before_first_word b commands) ≡ prepended (prefix ++ b ∷ []) commands
one_more [] b commands = refl
one_more (c ∷ prefix) b commands = ap (before_first_word c) (one_more prefix b commands)

parted : (prefix : List ℕ) (commands : List (List ℕ)) → prepended prefix ([] ∷ commands) ≡ prefix ∷ commands
parted [] commands = refl
parted (b ∷ prefix) commands = ap (before_first_word b) (parted prefix commands)

-- the first bytes were passed, and the commands are those of the rest, from this spot on, with the passed bytes before them
pub record Passed (all rest : List ℕ) (n : ℕ) (spot : Spot) : Type 0 where
  pub prefix : List ℕ
  pub splits : prefix ++ rest ≡ all
  pub size : length prefix ≡ n
  pub same : commands_of all ≡ prepended prefix (commands_from (sets_break all) spot rest)

pub none_passed : (all : List ℕ) → Passed all all 0 Between
none_passed all = record { prefix = []; splits = refl; size = refl; same = refl }

goes_on : (t : Bool) (x y : List (List ℕ)) → t ≡ false → cond t x y ≡ y
goes_on t x y e = ap (λ (s : Bool). cond s x y) e

ends : (t : Bool) (x y : List (List ℕ)) → t ≡ true → cond t x y ≡ x
ends t x y e = ap (λ (s : Bool). cond s x y) e

take_prefix : (prefix rest : List ℕ) → take (length prefix) (prefix ++ rest) ≡ prefix
take_prefix [] rest = refl
take_prefix (b ∷ prefix) rest = ap (λ (bytes : List ℕ). b ∷ bytes) (take_prefix prefix rest)

drop_prefix : (prefix : List ℕ) (b : ℕ) (rest : List ℕ) → drop (suc (length prefix)) (prefix ++ b ∷ rest) ≡ rest
drop_prefix [] b rest = refl
drop_prefix (c ∷ prefix) b rest = drop_prefix prefix b rest

nothing_after : (prefix : List ℕ) → prefix ++ [] ≡ prefix
nothing_after [] = refl
nothing_after (b ∷ prefix) = ap (λ (bytes : List ℕ). b ∷ bytes) (nothing_after prefix)

-- the bytes from a position on
pub all_after : (n : ℕ) (bytes : List ℕ) → take (length bytes - n) (drop n bytes) ≡ drop n bytes
all_after n bytes = take_all (length bytes - n) (drop n bytes) (omega (arith, length-drop n bytes))

module _ (all : List ℕ) (n : ℕ) (spot : Spot) where
  module _ (b : ℕ) (rest : List ℕ) (passed : Passed all (b ∷ rest) n spot) where
    -- there is no separator here
    pub passed_more : is_separator spot b rest ≡ false → Passed all rest (n + 1) (spot_after (sets_break all) spot b)
    passed_more goes = record {
      prefix = passed.prefix ++ b ∷ [];
      splits = append_assoc passed.prefix (b ∷ []) rest ∙ passed.splits;
      size = omega (arith, length-append passed.prefix (b ∷ []), passed.size);
      same = passed.same ∙ ap (prepended passed.prefix) (goes_on (is_separator spot b rest) _ _ goes) ∙ one_more passed.prefix b _;
    }

    -- there is a separator here
    pub separated : is_separator spot b rest ≡ true
        → (n < length all) × (commands_of all ≡ take n all ∷ commands_of (drop (n + 1) all))
    separated separates =
        let at : n + 1 ≡ suc (length passed.prefix) = omega (arith, passed.size) in
        let prefix : passed.prefix ≡ take n all =
        sym (take_prefix passed.prefix (b ∷ rest)) ∙ ap (λ (k : ℕ). take k (passed.prefix ++ b ∷ rest)) passed.size
        ∙ ap (λ (bytes : List ℕ). take n bytes) passed.splits in
        let after : rest ≡ drop (n + 1) all =
        sym (drop_prefix passed.prefix b rest) ∙ ap (λ (k : ℕ). drop k (passed.prefix ++ b ∷ rest)) (sym at)
        ∙ ap (λ (bytes : List ℕ). drop (n + 1) bytes) passed.splits in (
          omega (arith, length-append passed.prefix (b ∷ rest), passed.size, ap length passed.splits),
          passed.same
              ∙ ap (prepended passed.prefix) (ends (is_separator spot b rest) _ _ separates)
              ∙ parted passed.prefix (commands_of rest)
              ∙ ap (λ (bytes : List ℕ). bytes ∷ commands_of rest) prefix
              ∙ ap (λ (bytes : List ℕ). take n all ∷ commands_of bytes) after,
        )

  -- the byte at this position
  pub passed_at : n < length all → Passed all (drop n all) n spot → Passed all (get_or all n 0 ∷ drop (n + 1) all) n spot
  passed_at lt passed = subst (λ (rest : List ℕ). Passed all rest n spot) (drop-cons all n 0 lt ∙ rw add-one refl) passed

  -- no byte is left
  pub all_passed : length all ≤ n → Passed all (drop n all) n spot → commands_of all ≡ all ∷ []
  all_passed long some_passed =
      let passed : Passed all [] n spot = subst (λ (rest : List ℕ). Passed all rest n spot) (drop_all n all long) some_passed in
      passed.same ∙ parted passed.prefix []
      ∙ ap (λ (bytes : List ℕ). bytes ∷ []) (sym (nothing_after passed.prefix) ∙ passed.splits)

depth_of_two : (t : Bool) (x y : Spot) (most : ℕ) → depth_of x ≤ most → depth_of y ≤ most → depth_of (cond t x y) ≤ most
depth_of_two true x y most a b = a
depth_of_two false x y most a b = b

-- a byte opens at most one parenthesis
pub one_deeper : (grouped : Bool) (spot : Spot) (b : ℕ) → depth_of (spot_after grouped spot b) ≤ depth_of spot + 1
one_deeper grouped Between b =
    depth_of_two (is_blank b) Between (begun_by grouped b) 1 (omega arith)
    (depth_of_two (grouped && eqb b 40) (InParentheses 1) InWord 1 (omega arith) (omega arith))
one_deeper grouped InWord b = depth_of_two (is_blank b) Between InWord 1 (omega arith) (omega arith)
one_deeper grouped (InParentheses depth) b =
    depth_of_two (eqb b 40) (InParentheses (depth + 1)) _ (depth + 1) (omega arith)
    (depth_of_two (eqb b 41) _ (InParentheses depth) (depth + 1)
    (depth_of_two (nat_le depth 1) InWord (InParentheses (depth - 1)) (depth + 1) (omega arith) (omega arith)) (omega arith))
