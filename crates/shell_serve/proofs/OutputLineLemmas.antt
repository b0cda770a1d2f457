-- The lines of an output that ends a line and continues.
use Rattle.std.proofs.Common.{◌≡◌, ℕ, Bool, true, false, List, [], ◌∷◌, ◌++◌, refl, sym, ap, ◌∙◌, ◌==◌, if◌then◌else◌, ◌||◌}
use Rattle.std.specs.Prelude.{codes}
use Rattle.std.specs.List.{list_any}
use Rattle.std.specs.Str.{bytes_eq}
use Rattle.dbg_base.specs.Shell.{Lines, byte_before, with_prefix, lines_of}
use Rattle.shell_serve.specs.Ample.{IsAmple}

-- the lines of bytes that end a line before the rest: at least one, and then those of the rest
record Ends (bytes rest : List ℕ) : Type 0 where
  first : List ℕ
  others : List (List ℕ)
  is : (lines_of (bytes ++ 10 ∷ rest)).whole ≡ first ∷ (others ++ (lines_of rest).whole)

ends_more : (b : ℕ) (lines : Lines) (first : List ℕ) (others W : List (List ℕ)) → lines.whole ≡ first ∷ (others ++ W)
    → (f : List ℕ) × (l : List (List ℕ)) × ((with_prefix b lines).whole ≡ f ∷ (l ++ W))
ends_more b lines first others W is = by (b == 10)
  where
    by : (t : Bool)
        → (f : List ℕ) × (l : List (List ℕ))
        × ((if t then record { whole = [] ∷ lines.whole; rest = lines.rest } else byte_before b lines.whole lines.rest).whole ≡ f ∷ (l ++ W))
    by true = ([], first ∷ others, ap (λ (w : List (List ℕ)). [] ∷ w) is)
    by false = ((b ∷ first), others, ap (λ (w : List (List ℕ)). (byte_before b w lines.rest).whole) is)

ends : (bytes rest : List ℕ) → Ends bytes rest
ends [] rest = record { first = []; others = []; is = refl }
ends (b ∷ bytes) rest =
    let e = ends bytes rest in
    let more = ends_more b (lines_of (bytes ++ 10 ∷ rest)) e.first e.others (lines_of rest).whole e.is in
    record { first = more.0; others = more.1; is = more.2 }

any_rest : (f : List ℕ → Bool) (L W : List (List ℕ)) → list_any f (L ++ W) ≡ false → list_any f W ≡ false
any_rest f [] W none = none
any_rest f (l ∷ L) W none = any_rest f L W (by (f l) none)
  where
    by : (t : Bool) → (t || list_any f (L ++ W)) ≡ false → list_any f (L ++ W) ≡ false
    by true none = cc
    by false none = none

-- what comes after a line is ample too
pub ample_rest : (bytes rest : List ℕ) → IsAmple (bytes ++ 10 ∷ rest) → IsAmple rest
ample_rest bytes rest ample =
    let e = ends bytes rest in
    any_rest (λ line. bytes_eq line (codes "no 21")) (e.first ∷ e.others) (lines_of rest).whole
    (ap (λ (w : List (List ℕ)). list_any (λ line. bytes_eq line (codes "no 21")) w) (sym e.is) ∙ ample)

-- no line is the refusal
pub not_refused : (rest : List ℕ) → IsAmple (codes "no 21" ++ 10 ∷ rest) → ⊥
not_refused rest ample = (let wrong : true ≡ false = ample in cc)
