-- The seats of a run have together recorded all calls of its journal.
use Rattle.std.proofs.Common.{◌≡◌, ℕ, List, [], ◌∷◌, length, Result, Ok, Err, refl, sym, ap, ◌∙◌, arith}
use Rattle.std.specs.Prelude.{IfOk, OnOk}
use Rattle.std.specs.List.{AllByRecursion, sum_by}
use Rattle.std.proofs.lemmas.List.Sums.{sum_by-cons}
use Rattle.dbg_base.specs.Trees.{Program}
use Rattle.dbg_base.specs.Journals.{Entry, Journal}
use Rattle.dbg_desk.specs.declared.settling.Closing.{Closing}
use Rattle.dbg_desk.specs.declared.settling.Mismatch.{Mismatch}
use Rattle.dbg_desk.specs.Desks.{SeatState, IsAmong}
use Rattle.dbg_desk.specs.Settling.{IsKeptIn, IsRunJournal, AreAll, as_own, own_in, own_calls}
use Rattle.dbg_desk.proofs.SeatShareLemmas.{shared, together, one_if}

-- each call is of one of them
once : (many : ℕ) (J : Journal) (seats : List SeatState) → AllByRecursion (λ entry. IsAmong many entry.seat) J → AreAll many seats
    → AllByRecursion (λ (entry : Entry). sum_by (one_if (λ e. e.seat) as_own (λ (s : SeatState). s.number) entry.seat) seats ≡ 1) J
once many [] seats among all = tt
once many (entry ∷ J) seats among all = (all entry.seat among.0, once many J seats among.1 all)

-- the calls of that seat
kept_calls : (J : Journal) (seats : List SeatState) → AllByRecursion (IsKeptIn J) seats
    → own_calls seats ≡ together (λ e. e.seat) as_own (λ (s : SeatState). s.number) J seats
kept_calls J [] kept = refl
kept_calls J (seat ∷ seats) kept =
    let here = ap (λ l. length l) kept.0 in
    let others = kept_calls J seats kept.1 in
    let first = sum_by-cons (λ (s : SeatState). length s.own) seat seats in
    let second = sum_by-cons (λ (s : SeatState). length (own_in J s.number)) seat seats in
    omega (arith, here, others, first, second)

pub all_calls : (P : Program) (many : ℕ) (J : Journal) (seats : List SeatState) (result : Result Closing Mismatch)
    → IsRunJournal P many J → IfOk result (λ closing. closing.calls ≡ length J) → OnOk result (AllByRecursion (IsKeptIn J) seats)
    → IfOk result (λ closing. AreAll many seats → closing.calls ≡ own_calls seats)
all_calls P many J seats (Ok closing) run calls kept =
    λ all. calls ∙ shared (λ e. e.seat) as_own (λ (s : SeatState). s.number) J seats (once many J seats run.among all)
    ∙ sym (kept_calls J seats kept)
all_calls P many J seats (Err mismatch) run calls kept = tt
