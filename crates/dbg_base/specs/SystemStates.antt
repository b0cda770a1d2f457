-- The state of a system: the choices that each process has made, and those that it can make again.
use Rattle.std.specs.Prelude.{◌≡◌, ℕ, zero, suc, ◌+◌, ◌-◌, ◌<◌, ◌≤◌, List, [], ◌∷◌, ◌++◌, length, replicate, take, drop, Option, Some, None}
use Rattle.std.specs.Prelude.{slice_get, slice_index, slice_index_or, slice_set}
use Rattle.dbg_base.specs.declared.limits.TheConstants.{EVENTS}
use Rattle.dbg_base.specs.Trees.{Program, process_of}
use Rattle.dbg_base.specs.Configurations.{Configuration}
use Rattle.dbg_base.specs.Histories.{History, play}

-- For each process its line of choices and its place in it. The choices before the place are its events, and those from the place on are
-- its redo line.
pub record SystemState : Type 0 where
  pub lines : List (List ℕ)
  pub places : List ℕ

-- empty lines
abbrev pub opening_state : Program → SystemState
opening_state P = record { lines = replicate (length P) []; places = replicate (length P) 0 }

abbrev pub line_of : SystemState → ℕ → List ℕ
line_of M p = slice_index_or M.lines p []

abbrev pub place_at : SystemState → ℕ → ℕ
place_at M p = slice_index M.places p

-- each line cut at its place
abbrev pub cut_lines : List (List ℕ) → List ℕ → History
cut_lines [] places = []
cut_lines (line ∷ lines) [] = [] ∷ cut_lines lines []
cut_lines (line ∷ lines) (place ∷ places) = take place line ∷ cut_lines lines places

-- the events that remain
abbrev pub history_of : SystemState → History
history_of M = cut_lines M.lines M.places

-- the configuration to which the events lead
abbrev pub configuration_of : Program → SystemState → Configuration
configuration_of P M = play P (history_of M)

-- process p made choice k: its line is cut at its place, the choice is appended, and the place moves forward by one
abbrev pub after_choice : SystemState → ℕ → ℕ → SystemState
after_choice M p k = record M {
  lines = slice_set M.lines p (take (place_at M p) (line_of M p) ++ k ∷ []);
  places = slice_set M.places p (place_at M p + 1);
}

-- the choices that can be made again, the next one first
abbrev pub redo_line : SystemState → ℕ → List ℕ
redo_line M p = drop (place_at M p) (line_of M p)

-- the choice of process p's last event
abbrev pub choice_before : ℕ → List ℕ → Option ℕ
choice_before zero line = None
choice_before (suc n) line = slice_get line n

abbrev pub last_choice : SystemState → ℕ → Option ℕ
last_choice M p = choice_before (place_at M p) (line_of M p)

-- process p made the choice at its place again: the line stays
abbrev pub after_redo : SystemState → ℕ → SystemState
after_redo M p = record M { places = slice_set M.places p (place_at M p + 1) }

-- the last event of process p was undone: the line stays
abbrev pub after_undo : SystemState → ℕ → SystemState
after_undo M p = record M { places = slice_set M.places p (place_at M p - 1) }

-- the events beyond this cut were undone: the lines stay
abbrev pub after_rollback : SystemState → List ℕ → SystemState
after_rollback M cut = record M { places = cut }

-- M is a state of this program: each process has a line and a place in it, and the choices are of its commands
pub record IsStateOf (P : Program) (M : SystemState) : Type 0 where
  pub lines : length M.lines ≡ length P
  pub places : length M.places ≡ length P
  pub within : (p : ℕ) → place_at M p ≤ length (line_of M p)
  pub few : (p : ℕ) → length (line_of M p) ≤ EVENTS
  pub commands : (p n k : ℕ) → slice_get (line_of M p) n ≡ Some k → k < length (process_of P p).commands
