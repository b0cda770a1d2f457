use Rattle.std.proofs.Common.{ℕ, List, sym, subst}
use Rattle.ui_page.specs.PageLines.{ArePageLines, no_lines}
use Rattle.ui_page.proofs.data.PageData.new.Goals as goal

pub invariant_of-result : goal.invariant_of-result
invariant_of-result c = record { lines = subst (λ (l : List ℕ). ∥ ArePageLines l ∥₁) (sym c.new.ensures.items) ∣ no_lines ∣₁ }
