-- The commands that workers have to give, and the run of them.
use Rattle.std.proofs.Common.{◌≡◌, ℕ, zero, suc, ◌*◌, ◌%◌, ◌<◌, ◌≤◌, Bool, true, false, cond, List, [], ◌∷◌, ◌++◌, length, get_or, map, refl, sym, ap, ◌∙◌, subst, arith}
use Rattle.std.specs.Prelude.{◌==◌, min, Option, None, MatchOption}
use Rattle.std.specs.List.{AllByRecursion}
use Rattle.std.proofs.Math.Nat.{suc-mul}
use Rattle.std.proofs.lemmas.List.{length-append, length-map, get_or-map, take_all}
use Rattle.dbg_base.specs.declared.limits.TheConstants.{SEATS}
use Rattle.dbg_base.specs.Trees.{Program}
use Rattle.dbg_base.specs.Calls.{Order, One, Next}
use Rattle.dbg_base.specs.Checks.{Reads, program_tree}
use Rattle.dbg_base.specs.Grammar.{DerivesProgram, WrittenProcess}
use Rattle.dbg_desk.specs.Crews.{WorkerState, Works, NoneBarred, Gives, worker_number}
use Rattle.dbg_desk.specs.Desks.{SeatState, new_seat}
use Rattle.dbg_shell.specs.Crewing.{round_of, rounds_of, new_workers, AreCrew}
use Rattle.dbg_shell.proofs.Lists.{so_many, made_at}

-- a text that is a program has a process
pub some_process : (text : List ℕ) (P : Program) → Reads text P → 0 < length P
some_process text P reads =
    subst (λ (Q : Program). 0 < length Q) (sym reads.said) (written_some reads.written reads.derives)
  where
    written_some : (written : List WrittenProcess) → DerivesProgram reads.tokens written → 0 < length (program_tree written)
    written_some [] derives = absurd derives
    written_some (process ∷ others) derives = omega arith

-- Rounds: each has at most as many orders as there are processes.

one_more : (t : Bool) (orders : List Order) (order : Order) → length (orders ++ cond t (order ∷ []) []) ≤ suc (length orders)
one_more true orders order = let e = length-append orders (order ∷ []) in omega (arith, e)
one_more false orders order = let e = length-append orders [] in omega (arith, e)

round_short : (worker p : ℕ) → length (round_of worker p) ≤ p
round_short worker zero = omega arith
round_short worker (suc p) =
    let before = round_short worker p in
    let more = one_more (p % SEATS == worker) (round_of worker p) (One (Next p)) in
    omega (arith, before, more)

pub rounds_short : (worker processes turns : ℕ) → length (rounds_of worker processes turns) ≤ turns * processes
rounds_short worker processes zero = omega arith
rounds_short worker processes (suc turns) =
    let before = rounds_short worker processes turns in
    let round = round_short worker processes in
    let e = length-append (rounds_of worker processes turns) (round_of worker processes) in
    let times = suc-mul turns processes in
    omega (arith, before, round, e, times)

-- Workers: after the crew each has given all its orders.

abbrev pub first_worker : ℕ → ℕ → ℕ → WorkerState
first_worker processes turns n = record { seat = new_seat (suc n); orders = rounds_of n processes turns; barred = None }

module _ (processes turns : ℕ) where
  so_many_workers : (n : ℕ) → length (new_workers processes turns n) ≡ n
  so_many_workers = so_many (first_worker processes turns) (new_workers processes turns) refl (λ n. refl)

  worker_at : (n i : ℕ) (other : WorkerState) → i < n → get_or (new_workers processes turns n) i other ≡ first_worker processes turns i
  worker_at = made_at (first_worker processes turns) (new_workers processes turns) refl (λ n. refl)

pub worker_is : (processes turns n : ℕ) (worker : WorkerState) → worker.seat ≡ new_seat (suc n) → worker.orders ≡ rounds_of n processes turns
    → worker.barred ≡ None → worker ≡ first_worker processes turns n
worker_is processes turns n worker seat orders free =
    ap (λ (s : SeatState). record { seat = s; orders = worker.orders; barred = worker.barred }) seat
    ∙ ap (λ (o : List Order). record { seat = new_seat (suc n); orders = o; barred = worker.barred }) orders
    ∙ ap (λ (b : Option ℕ). record { seat = new_seat (suc n); orders = rounds_of n processes turns; barred = b }) free

all_at : {A : Type 0} (P : A → Type 0) (xs : List A) (i : ℕ) (other : A) → AllByRecursion P xs → i < length xs → P (get_or xs i other)
all_at P [] i other all within = absurd (omega arith)
all_at P (x ∷ xs) zero other all within = all.0
all_at P (x ∷ xs) (suc i) other all within = all_at P xs i other all.1 (omega arith)

gave_all : {MayBar : ℕ → Type 0} (old new : WorkerState) → Works MayBar old new → new.barred ≡ None → Gives old.seat old.orders new.seat
gave_all {MayBar} old new works free =
    let all : works.given ≡ length old.orders =
    subst (λ (o : Option ℕ). MatchOption o (works.given ≡ length old.orders)
    (λ turn. (turn ≡ works.given) × (works.given < length old.orders) × MayBar turn)) free works.ended in
    subst (λ (orders : List Order). Gives old.seat orders new.seat) (take_all works.given old.orders (omega (arith, all))) works.gives

pub is_crew : (MayBar : ℕ → ℕ → Type 0) (processes turns n : ℕ) (old new : List WorkerState) (seats : List SeatState)
    → n ≡ min processes SEATS → old ≡ new_workers processes turns n → length new ≡ length old
    → ((place : ℕ) (d : WorkerState) → place < length old → Works (MayBar (worker_number place)) (get_or old place d) (get_or new place d))
    → NoneBarred new → seats ≡ map (λ worker. worker.seat) new → AreCrew processes turns seats
is_crew MayBar processes turns n old new seats few were same works free back = record {
  all = ap length back ∙ length-map new (λ worker. worker.seat) ∙ many ∙ few;
  gives = given;
}
  where
    many : length new ≡ n
    many = same ∙ ap length were ∙ so_many_workers processes turns n

    given : (i : ℕ) (d : SeatState) → i < length seats → Gives (new_seat (suc i)) (rounds_of i processes turns) (get_or seats i d)
    given i d here =
        let size : length seats ≡ length new = ap length back ∙ length-map new (λ worker. worker.seat) in
        let lt : i < length new = omega (arith, size, here) in
        let first : WorkerState = first_worker processes turns i in
        let was : get_or old i first ≡ first =
        ap (λ (xs : List WorkerState). get_or xs i first) were ∙ worker_at processes turns n i first (omega (arith, lt, many)) in
        let work = works i first (omega (arith, lt, same)) in
        let gave = gave_all (get_or old i first) (get_or new i first) work (all_at (λ worker. worker.barred ≡ None) new i first free lt) in
        let seat : get_or seats i d ≡ (get_or new i first).seat =
        ap (λ (xs : List SeatState). get_or xs i d) back ∙ get_or-map (λ worker. worker.seat) new i first d lt in
        subst (λ (s : SeatState). Gives (new_seat (suc i)) (rounds_of i processes turns) s) (sym seat)
        (subst (λ (w : WorkerState). Gives w.seat w.orders (get_or new i first).seat) was gave)
