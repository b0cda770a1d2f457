-- Lists of pairs: the last pair, one more, prefixes; and that a word gives back the pair that it holds.
use Rattle.std.proofs.Common.{◌≡◌, ℕ, ◌+◌, ◌*◌, ◌/◌, ◌%◌, ◌≤◌, List, [], ◌∷◌, ◌++◌, length, refl, sym, ap, ◌∙◌, arith, append-nil, append_assoc}
use Rattle.dbg_base.specs.declared.limits.TheConstants.{BREAKPOINTS}
use Rattle.dbg_board.specs.declared.glance.Glance.{Glance}
use Rattle.dbg_board.specs.Pairs.{Begins, last_from, last_of, IsNumbered}
use Rattle.dbg_board.specs.Words.{code_of, glance_of}

pub begins_itself : (pairs : List Glance) → Begins pairs pairs
begins_itself pairs = ([], sym (append-nil pairs))

pub begins_more : (prefix whole more : List Glance) → Begins prefix whole → Begins prefix (whole ++ more)
begins_more prefix whole more h = (h.0 ++ more, ap (λ pairs. pairs ++ more) h.1 ∙ append_assoc prefix h.0 more)

pub last_pushed : (earlier pair : Glance) (pairs : List Glance) → last_from earlier (pairs ++ pair ∷ []) ≡ pair
last_pushed earlier pair [] = refl
last_pushed earlier pair (first ∷ pairs) = last_pushed first pair pairs

pub numbered_pushed : (calls : ℕ) (pairs : List Glance) (pair : Glance) → IsNumbered calls pairs → pair.calls ≡ calls + length pairs + 1
    → pair.halt ≤ BREAKPOINTS → IsNumbered calls (pairs ++ pair ∷ [])
numbered_pushed calls [] pair numbered next halt = (omega (arith, next), halt, tt)
numbered_pushed calls (first ∷ pairs) pair numbered next halt =
    (numbered.0, numbered.1, numbered_pushed (calls + 1) pairs pair numbered.2 (omega (arith, next)) halt)

-- the last pair has as many calls as there are pairs
calls_from : (calls : ℕ) (earlier : Glance) (pairs : List Glance) → earlier.calls ≡ calls → IsNumbered calls pairs
    → (last_from earlier pairs).calls ≡ calls + length pairs
calls_from calls earlier [] is numbered = omega (arith, is)
calls_from calls earlier (first ∷ pairs) is numbered = omega (arith, calls_from (calls + 1) first pairs numbered.0 numbered.2)

pub last_calls : (pairs : List Glance) → IsNumbered 0 pairs → (last_of pairs).calls ≡ length pairs
last_calls pairs numbered = omega (arith, calls_from 0 record { calls = 0; halt = 0 } pairs refl numbered)

halt_from : (calls : ℕ) (earlier : Glance) (pairs : List Glance) → earlier.halt ≤ BREAKPOINTS → IsNumbered calls pairs
    → (last_from earlier pairs).halt ≤ BREAKPOINTS
halt_from calls earlier [] fits numbered = fits
halt_from calls earlier (first ∷ pairs) fits numbered = halt_from (calls + 1) first pairs numbered.1 numbered.2

pub last_halt : (pairs : List Glance) → IsNumbered 0 pairs → (last_of pairs).halt ≤ BREAKPOINTS
last_halt pairs numbered = halt_from 0 record { calls = 0; halt = 0 } pairs (omega arith) numbered

-- a word gives the pair back
pub gives_back : (pair : Glance) → pair.halt ≤ BREAKPOINTS → glance_of (code_of pair) ≡ pair
gives_back pair fits =
    let calls : (128 * pair.calls + pair.halt) / 128 ≡ pair.calls = omega (arith, fits) in
    let halt : (128 * pair.calls + pair.halt) % 128 ≡ pair.halt = omega (arith, fits) in
    λ i. record { calls = calls i; halt = halt i }
