-- The first bytes of a buffer.
use Rattle.std.proofs.Common.{◌≡◌, ◌≤◌, ◌+◌, ◌-◌, ℕ, List, length, take, drop, sym, ap, ◌∙◌, arith, length-drop}
use lib.Seq.{paste}
use Rattle.std.proofs.lemmas.List.{drop-take}
use Rattle.std.proofs.lemmas.List.Edits.{take-paste}

-- the bytes after the first ones in use, moved to the start
pub take-moved : (all : List ℕ) (count used : ℕ) → count ≤ used → used ≤ length all
    → take (used - count) (paste all 0 (drop count all) (used - count)) ≡ drop count (take used all)
take-moved all count used some room =
    let left = used - count in
    let same : left ≡ 0 + left = omega arith in
    let whole : count + left ≡ used = omega (arith, some) in
    ap (λ k. take k (paste all 0 (drop count all) left)) same
    ∙ take-paste all 0 (drop count all) left (omega arith) (omega (arith, some, room, length-drop count all))
    ∙ sym (drop-take count left all) ∙ ap (λ k. drop count (take k all)) whole
