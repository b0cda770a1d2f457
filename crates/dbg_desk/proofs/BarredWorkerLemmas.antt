-- A worker that was barred may be.
use Rattle.std.proofs.Common.{◌≡◌, ℕ, ◌<◌, List, length, get_or, Option, Some, None, Result, Ok, Err, sym, ap, ◌∙◌, subst, arith}
use Rattle.std.specs.Prelude.{IfErr, MatchOption, slice_get}
use Rattle.std.proofs.lemmas.Option.{slice_get_within, get_or_from_slice_get}
use Rattle.dbg_desk.specs.declared.crews.CrewFault.{CrewFault}
use Rattle.dbg_desk.specs.declared.crews.CrewFault.TheVariants.{Gate}
use Rattle.dbg_desk.specs.Crews.{WorkerState, Works, worker_number, IsFirstBarred, MayBarAt}

barred_by : (MayBar : ℕ → Type 0) (old new : WorkerState) (turn : ℕ) → Works MayBar old new → new.barred ≡ Some turn → MayBar turn
barred_by MayBar old new turn works is =
    (subst (λ (b : Option ℕ). MatchOption b (works.given ≡ length old.orders)
    (λ at. (at ≡ works.given) × (works.given < length old.orders) × MayBar at)) is works.ended).2

first_bars : (may_bar : ℕ → ℕ → Type 0) (old new : List WorkerState) (fault : CrewFault) → length new ≡ length old
    → ((place : ℕ) (d : WorkerState) → place < length old → Works (may_bar (worker_number place)) (get_or old place d) (get_or new place d))
    → IsFirstBarred new fault → MayBarAt may_bar fault
first_bars may_bar old new (Gate worker turn) size works (place, first, at, barred, number, others) =
    let within : place < length old = let here = slice_get_within new place first at in omega (arith, here, size) in
    let is : get_or new place first ≡ first = get_or_from_slice_get new place first first at in
    subst (λ (w : ℕ). may_bar w turn) (sym number)
    (barred_by (may_bar (worker_number place)) (get_or old place first) (get_or new place first) turn (works place first within)
    (ap (λ (w : WorkerState). w.barred) is ∙ barred))

pub bars : (may_bar : ℕ → ℕ → Type 0) (old new : List WorkerState) (result : Result (Unit {0}) CrewFault) → length new ≡ length old
    → ((place : ℕ) (d : WorkerState) → place < length old → Works (may_bar (worker_number place)) (get_or old place d) (get_or new place d))
    → IfErr result (IsFirstBarred new) → IfErr result (MayBarAt may_bar)
bars may_bar old new (Ok done) size works first = tt
bars may_bar old new (Err fault) size works first = first_bars may_bar old new fault size works first
