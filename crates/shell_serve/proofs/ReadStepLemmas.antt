-- Steps of reading, one after the other.
use Rattle.std.proofs.Common.{◌≡◌, ℕ, Bool, List, Option, sym, subst, inr}
use Rattle.std.proofs.KnownBytes.{Keeps-refl, Keeps-trans}
use Rattle.shell_serve.specs.Spans.{EndsWith, ReadsOn, ReadsOnce, ReadsAsNeeded, IsUnderWay}

module _ {old : List ℕ} {was : Bool} {before : Option (List ℕ)} where
  -- nothing was read yet
  pub reads_nothing : EndsWith was before → ReadsOn old was before old was before
  reads_nothing ends = record { keeps = Keeps-refl _; ends = ends; narrows = λ input may. may }

  module _ {middle : List ℕ} {over : Bool} {left : Option (List ℕ)} (first : ReadsOn old was before middle over left) where
    pub reads_then : {new : List ℕ} {ended : Bool} {after : Option (List ℕ)} → ReadsOn middle over left new ended after
        → ReadsOn old was before new ended after
    reads_then second = record {
      keeps = Keeps-trans _ _ _ first.keeps second.keeps;
      ends = second.ends;
      narrows = λ input may. first.narrows input (second.narrows input may);
    }

    -- the same bytes, with equal values
    pub reads_same : {new : List ℕ} {ended : Bool} → new ≡ middle → ended ≡ over → ReadsOn old was before new ended left
    reads_same {new = new} {ended = ended} same as_well =
        subst (λ (bytes : List ℕ). ReadsOn old was before bytes ended left) (sym same)
        (subst (λ (end : Bool). ReadsOn old was before middle end left) (sym as_well) first)

-- one more read, if no line was complete
pub needs_more : {first : List ℕ} {was : Bool} {known : Option (List ℕ)} {old : List ℕ} {over : Bool} {left : Option (List ℕ)} {new : List ℕ}
    {at : ℕ} → ReadsOn first was known old over left → IsUnderWay old over at → ReadsOnce old new → ReadsAsNeeded first was new at
needs_more {old = old} {over = over} reads way once = inr (record {
  prefix = old;
  last = once.last;
  over = over;
  whole = once.whole;
  few = once.few;
  under_way = way;
  narrows = reads.narrows;
})
