-- The seats of a run.
use Rattle.std.proofs.Common.{append_assoc, ◌+◌, ◌≡◌, ℕ, suc, ◌<◌, List, [], ◌∷◌, ◌++◌, length, get_or, refl, sym, ap, ◌∙◌, arith}
use Rattle.std.proofs.lemmas.List.{length-append}
use Rattle.std.proofs.Math.Seq.{get_or-append_seam}
use Rattle.dbg_desk.specs.Desks.{SeatState, new_seat, new_seats}
use Rattle.dbg_shell.proofs.Lists.{so_many, made_at}

pub so_many_seats : (n : ℕ) → length (new_seats n) ≡ n
so_many_seats = so_many (λ n. new_seat (suc n)) new_seats refl (λ n. refl)

-- the seat at a position has the next number
new_at : (n i : ℕ) (other : SeatState) → i < n → get_or (new_seats n) i other ≡ new_seat (suc i)
new_at = made_at (λ n. new_seat (suc n)) new_seats refl (λ n. refl)

-- after the first seats comes the next one
pub next_seat : (n k : ℕ) (seat : SeatState) (rest : List SeatState) → new_seats k ++ seat ∷ rest ≡ new_seats n
    → (k < n) × (seat ≡ new_seat (suc k))
next_seat n k seat rest e =
    let all = so_many_seats n in
    let first = so_many_seats k in
    let long : length (new_seats k ++ seat ∷ rest) ≡ length (new_seats n) = ap length e in
    let sum = length-append (new_seats k) (seat ∷ rest) in
    let lt : k < n = omega (arith, all, first, long, sum) in (
      lt,
      sym (get_or-append_seam (new_seats k) seat rest seat) ∙ ap (λ (i : ℕ). get_or (new_seats k ++ seat ∷ rest) i seat) first
          ∙ ap (λ (xs : List SeatState). get_or xs k seat) e ∙ new_at n k seat lt,
    )

pub seats_go_on : (n k : ℕ) (seat : SeatState) (rest : List SeatState) → new_seats k ++ seat ∷ rest ≡ new_seats n
    → new_seats (k + 1) ++ rest ≡ new_seats n
seats_go_on n k seat rest e =
    let on : k + 1 ≡ suc k = omega arith in
    ap (λ (i : ℕ). new_seats i ++ rest) on ∙ append_assoc (new_seats k) (new_seat (suc k) ∷ []) rest
    ∙ ap (λ (s : SeatState). new_seats k ++ s ∷ rest) (sym (next_seat n k seat rest e).1) ∙ e

-- no seat is left after all of them
pub last_seat : (n k : ℕ) (rest : List SeatState) → length rest ≡ 0 → new_seats k ++ rest ≡ new_seats n → k ≡ n
last_seat n k rest none e =
    let all = so_many_seats n in
    let first = so_many_seats k in
    let long : length (new_seats k ++ rest) ≡ length (new_seats n) = ap length e in
    let sum = length-append (new_seats k) rest in
    omega (arith, all, first, long, sum, none)
