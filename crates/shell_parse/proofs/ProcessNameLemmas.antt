-- A process that is found by its name.
use Rattle.std.proofs.Common.{◌≡◌, ℕ, suc, ◌+◌, ◌<◌, Bool, true, false, cond, List, [], ◌∷◌, length, Some}
use Rattle.std.proofs.Common.{refl, sym, subst, arith}
use Rattle.std.specs.Str.{bytes_eq}
use Rattle.std.proofs.lemmas.List.{length-map}
use Rattle.dbg_base.specs.declared.ids.Pid.{Pid}
use Rattle.dbg_base.specs.Names.{place_from, place_of}
use Rattle.dbg_base.specs.Trees.{Program, names_of}

place_within_by : (first k : ℕ) (name n : List ℕ) (names : List (List ℕ)) (t : Bool) → bytes_eq n name ≡ t
    → (place_from (first + 1) name names ≡ Some k → k < first + 1 + length names)
    → place_from first name (n ∷ names) ≡ Some k → k < first + suc (length names)
place_within_by first k name n names true e after here =
    let found : Some first ≡ Some k = subst (λ (t : Bool). cond t (Some first) (place_from (first + 1) name names) ≡ Some k) e here in
    let same : first ≡ k = cc in
    omega (arith, same)
place_within_by first k name n names false e after here =
    let found : place_from (first + 1) name names ≡ Some k =
    subst (λ (t : Bool). cond t (Some first) (place_from (first + 1) name names) ≡ Some k) e here in
    omega (arith, after found)

place_within : (first k : ℕ) (name : List ℕ) (names : List (List ℕ)) → place_from first name names ≡ Some k → k < first + length names
place_within first k name [] here = cc
place_within first k name (n ∷ names) here =
    place_within_by first k name n names (bytes_eq n name) refl (place_within (first + 1) k name names) here

-- it is one of the program
pub found_known : (P : Program) (name : List ℕ) (pid : Pid) → Some pid.0 ≡ place_of name (names_of P) → pid.0 < length P
found_known P name pid e = omega (arith, place_within 0 pid.0 name (names_of P) (sym e), length-map P (λ process. process.name))
