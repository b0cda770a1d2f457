-- The offset of the token from which on so many are left.
use Rattle.std.proofs.Common.{◌≡◌, ℕ, ◌-◌, ◌≤◌, List, [], ◌∷◌, length, get_or, take, drop, map, refl, sym, ap, ◌∙◌, arith}
use Rattle.std.proofs.lemmas.List.{length-drop, length-map, drop-map, take_all}
use Rattle.proc_lang.specs.declared.token.Placed as code
use Rattle.proc_lang.specs.Scanning.{placed_of}
use Rattle.proc_lang.specs.Reading.{first_offset, offset_of}

head_there : (end : ℕ) (tokens : List code.Placed) (other : code.Placed) → 1 ≤ length tokens
    → (get_or tokens 0 other).at ≡ first_offset end (map placed_of tokens)
head_there end [] other some = absurd (omega (arith, some))
head_there end (p ∷ tokens) other some = refl

pub offset_there : (end left n : ℕ) (tokens : List code.Placed) (x other : code.Placed) → n ≡ length tokens - left
    → 1 ≤ length (take (length tokens - n) (drop n tokens)) → x ≡ get_or (take (length tokens - n) (drop n tokens)) 0 other
    → x.at ≡ offset_of end left (map placed_of tokens)
offset_there end left n tokens x other cut some here =
    let all : take (length tokens - n) (drop n tokens) ≡ drop n tokens =
    take_all (length tokens - n) (drop n tokens) (omega (arith, length-drop n tokens)) in
    let start : length (map placed_of tokens) - left ≡ n = omega (arith, cut, length-map tokens placed_of) in
    ap (λ (p : code.Placed). p.at) (here ∙ ap (λ (l : List code.Placed). get_or l 0 other) all)
    ∙ head_there end (drop n tokens) other (omega (arith, some, ap length all))
    ∙ ap (first_offset end) (sym (drop-map placed_of n tokens))
    ∙ ap (λ (k : ℕ). first_offset end (drop k (map placed_of tokens))) (sym start)
