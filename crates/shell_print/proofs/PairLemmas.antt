-- Names, and names with their values.
use Rattle.std.proofs.Common.{◌≡◌, ℕ, zero, suc, ◌<◌, ◌≤◌, length, List, [], ◌∷◌, Some, None, refl, arith}
use Rattle.std.specs.Prelude.{slice_get}
use Rattle.std.specs.Option.{option_map}
use Rattle.dbg_base.specs.Trees.{Program}
use Rattle.dbg_base.specs.Replies.{pair_word, pair_words, name_of}

-- the pair at a position consists of the name and the text there
pub pair_at : (names texts : List (List ℕ)) (i : ℕ) (name text written : List ℕ) → Some name ≡ slice_get names i
    → Some text ≡ slice_get texts i → written ≡ text → slice_get (pair_words names texts) i ≡ Some (pair_word (name, written))
pair_at [] texts i name text written n t same = cc
pair_at (x ∷ names) [] i name text written n t same = cc
pair_at (x ∷ names) (y ∷ texts) zero name text written n t same = let one : x ≡ name = cc in let other : y ≡ text = cc in cc
pair_at (x ∷ names) (y ∷ texts) (suc i) name text written n t same = pair_at names texts i name text written n t same

-- if one of the two is missing there is no pair
pub no_name : (names texts : List (List ℕ)) (i : ℕ) → slice_get names i ≡ None → slice_get (pair_words names texts) i ≡ None
no_name [] texts i n = refl
no_name (x ∷ names) [] i n = refl
no_name (x ∷ names) (y ∷ texts) zero n = cc
no_name (x ∷ names) (y ∷ texts) (suc i) n = no_name names texts i n

pub no_text : (names texts : List (List ℕ)) (i : ℕ) → slice_get texts i ≡ None → slice_get (pair_words names texts) i ≡ None
no_text [] texts i t = refl
no_text (x ∷ names) [] i t = refl
no_text (x ∷ names) (y ∷ texts) zero t = cc
no_text (x ∷ names) (y ∷ texts) (suc i) t = no_text names texts i t

-- there are at most as many pairs as texts
pub few_pairs : (names texts : List (List ℕ)) → length (pair_words names texts) ≤ length texts
few_pairs [] texts = omega arith
few_pairs (name ∷ names) [] = omega arith
few_pairs (name ∷ names) (y ∷ texts) = let less = few_pairs names texts in omega arith

-- a process that does not exist has no name
pub unnamed : (P : Program) (p : ℕ) → None ≡ option_map (λ process. process.name) (slice_get P p) → name_of P p ≡ []
unnamed [] p h = refl
unnamed (process ∷ P) zero h = cc
unnamed (process ∷ P) (suc p) h = unnamed P p h

-- there is a text at each position
pub text_at : (texts : List (List ℕ)) (i : ℕ) → i < length texts → (text : List ℕ) × (slice_get texts i ≡ Some text)
text_at [] i h = absurd (omega arith)
text_at (text ∷ texts) zero h = (text, refl)
text_at (text ∷ texts) (suc i) h = text_at texts i (omega arith)
