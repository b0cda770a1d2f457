-- The lines of a page's data, one after the other.
use Rattle.std.proofs.Common.{◌≡◌, ℕ, Bool, true, false, List, ◌++◌, sym, subst}
use Rattle.std.proofs.Math.Logic.{∥∥₁_map}
use Rattle.std.specs.Prelude.{if◌then◌else◌}
use Rattle.serde_json.specs.Data.{Data}
use Rattle.ui_page.specs.PageLines.{ArePageLines, one_more, IsLineOf}

pub line_then : {lines line : List ℕ} {value : Data} → ∥ ArePageLines lines ∥₁ → IsLineOf value line → ∥ ArePageLines (lines ++ line) ∥₁
line_then held is_line = ∥∥₁_map held (λ one. one_more one is_line)

-- what is there after lines were added, or were not
pub if_added : {lines new : List ℕ} (others : List ℕ) (is_added : Bool) → ∥ ArePageLines lines ∥₁ → ∥ ArePageLines (lines ++ others) ∥₁
    → new ≡ (if is_added then lines ++ others else lines) → ∥ ArePageLines new ∥₁
if_added others true held both same = subst (λ (l : List ℕ). ∥ ArePageLines l ∥₁) (sym same) both
if_added others false held both same = subst (λ (l : List ℕ). ∥ ArePageLines l ∥₁) (sym same) held
