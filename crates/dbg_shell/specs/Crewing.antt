-- What a run of workers does.
use Rattle.std.specs.Prelude.{◌≡◌, ℕ, zero, suc, ◌*◌, ◌%◌, ◌<◌, ◌≤◌, ◌==◌, List, [], ◌∷◌, ◌++◌, length, slice_index_or, min}
use Rattle.std.specs.Prelude.{Option, Some, None, Result, Ok, Err, ◌⊎◌, if◌then◌else◌}
use Rattle.dbg_base.specs.declared.limits.TheConstants.{CALLS, SEATS}
use Rattle.dbg_base.specs.declared.ids.Pid.{Pid}
use Rattle.dbg_base.specs.declared.refusal.Refusal.{Refusal}
use Rattle.dbg_base.specs.declared.fault.ProgFault.{ProgFault}
use Rattle.dbg_base.specs.Trees.{Program}
use Rattle.dbg_base.specs.Calls.{Order, One, Next}
use Rattle.dbg_base.specs.Checks.{Reads, IsFault}
use Rattle.dbg_base.specs.Shell.{fault_text, too_long_text}
use Rattle.dbg_desk.specs.declared.settling.Closing.{Closing}
use Rattle.dbg_desk.specs.declared.settling.Mismatch.{Mismatch}
use Rattle.dbg_desk.specs.Desks.{SeatState, new_seat}
use Rattle.dbg_desk.specs.Crews.{WorkerState, Gives}
use Rattle.dbg_desk.specs.Settling.{Settles, Differs}
use Rattle.shell_print.specs.declared.outcome.ServeFault.{ServeFault}
use Rattle.shell_print.specs.Outcomes.{status_of}
use Rattle.shell_print.specs.Closings.{too_many_turns_text, settled_text, differs_text}
use Rattle.shell_serve.specs.ProgramTexts.{alone_text}
use Rattle.shell_serve.specs.Making.{IsMade}
use Rattle.dbg_shell.specs.declared.crewed.Crewed.{Crewed}
use Rattle.dbg_shell.specs.declared.crewed.Crewed.TheVariants as crewed

-- the exit status
abbrev pub crew_status_of : Result Crewed ServeFault → ℕ
crew_status_of (Ok crewed.Done) = 0
crew_status_of (Ok crewed.Refused) = 3
crew_status_of (Ok crewed.TooLong) = 1
crew_status_of (Ok crewed.TooManyTurns) = 2
crew_status_of (Ok crewed.Differs) = 1
crew_status_of (Err fault) = status_of (Err fault)

-- the report on the journal
abbrev pub closing_text : Result Closing Mismatch → List ℕ
closing_text (Ok closing) = settled_text closing.calls
closing_text (Err mismatch) = differs_text

-- how the run ends after it
abbrev pub closing_end : Result Closing Mismatch → Crewed
closing_end (Ok closing) = crewed.Done
closing_end (Err mismatch) = crewed.Differs

-- the function that makes `next` for a process makes that command
abbrev pub IsNextMaker : {C : Type 0} → (Pid → Result C Refusal → Type 0) → (C → Type 0) → (C → Order) → Type 0
IsNextMaker {C} post IsFresh order = (pid : Pid) (made : Result C Refusal) → post pid made → IsMade IsFresh order (One (Next pid.0)) made

-- The commands of one worker in a round, for so many processes: `next` for each process of the worker, which is every sixteenth.
abbrev pub round_of : ℕ → ℕ → List Order
round_of worker zero = []
round_of worker (suc p) = round_of worker p ++ (if p % SEATS == worker then One (Next p) ∷ [] else [])

-- so many rounds
abbrev pub rounds_of : ℕ → ℕ → ℕ → List Order
rounds_of worker processes zero = []
rounds_of worker processes (suc turns) = rounds_of worker processes turns ++ round_of worker processes

-- the first workers, each with all its rounds to give
abbrev pub new_workers : ℕ → ℕ → ℕ → List WorkerState
new_workers processes turns zero = []
new_workers processes turns (suc n) =
    new_workers processes turns n
    ++ record { seat = new_seat (suc n); orders = rounds_of n processes turns; barred = None } ∷ []

-- the seats of a crew, as many as processes and at most 16, after all rounds
pub record AreCrew (processes turns : ℕ) (seats : List SeatState) : Type 0 where
  pub all : length seats ≡ min processes SEATS
  pub gives : (i : ℕ) (d : SeatState) → i < length seats → Gives (new_seat (suc i)) (rounds_of i processes turns) (slice_index_or seats i d)

-- the result of comparing the journal with these seats
abbrev pub SettlesOrDiffers : Program → List SeatState → Result Closing Mismatch → Type 0
SettlesOrDiffers P seats (Ok closing) = Settles P (length seats) seats closing.calls
SettlesOrDiffers P seats (Err mismatch) = Differs P (length seats) seats mismatch.seat

-- all rounds were given, and this is the result of comparing the journal
abbrev pub IsClosing : Program → ℕ → Result Closing Mismatch → Type 0
IsClosing P turns closing = (seats : List SeatState) × AreCrew (length P) turns seats × SettlesOrDiffers P seats closing

-- the output for a program, and how the run ends
abbrev pub CrewsProgram : Program → ℕ → Crewed → List ℕ → Type 0
CrewsProgram P turns end out =
    ((CALLS < turns * length P) × (end ≡ crewed.TooManyTurns) × (out ≡ too_many_turns_text))
    ⊎ ((turns * length P ≤ CALLS) × (closing : Result Closing Mismatch) × IsClosing P turns closing × (end ≡ closing_end closing)
    × (out ≡ closing_text closing))

-- the same for a text
abbrev pub CrewsText : ℕ → List ℕ → Crewed → List ℕ → Type 0
CrewsText turns text end out =
    ((P : Program) × Reads text P × CrewsProgram P turns end out)
    ⊎ ((fault : ProgFault) × IsFault text fault × (end ≡ crewed.Refused) × (out ≡ fault_text fault))

-- the same for a text, or for an input that is too long
abbrev pub CrewsAlone : ℕ → Option (List ℕ) → Crewed → List ℕ → Type 0
CrewsAlone turns (Some text) end out = CrewsText turns text end out
CrewsAlone turns None end out = (end ≡ crewed.TooLong) × (out ≡ too_long_text)

-- the same for an input
abbrev pub CrewsInput : ℕ → List ℕ → Crewed → List ℕ → Type 0
CrewsInput turns input end out = CrewsAlone turns (alone_text input) end out
