-- A history, and the configuration to which its play leads.
use Rattle.std.specs.Prelude.{◌≡◌, ℕ, zero, suc, ◌+◌, List, [], ◌∷◌, ◌++◌, length, map, Option, Some, None, Result, Ok, Err}
use Rattle.std.specs.Prelude.{slice_index_or, slice_set}
use Rattle.std.specs.List.{AllByRecursion}
use Rattle.dbg_base.specs.Trees.{Program}
use Rattle.dbg_base.specs.LocalStates.{LocalState, no_state}
use Rattle.dbg_base.specs.Configurations.{Configuration, start_of, state_in}
use Rattle.dbg_base.specs.declared.refusal.Refusal.{Refusal}
use Rattle.dbg_base.specs.Firing.{fire}

-- the choices that each process has made, in their order: a choice is the number of a command
abbrev pub History : Type 0
History = List (List ℕ)

-- The progress of a play: the configuration, the choices that are not played yet, and for each process its local states so far, its start
-- first.
pub record Progress : Type 0 where
  pub configuration : Configuration
  pub unplayed : History
  pub states : List (List LocalState)

-- nothing is played yet
abbrev pub opening_of : Program → History → Progress
opening_of P H = record {
  configuration = start_of P;
  unplayed = H;
  states = map (λ state. state ∷ []) (start_of P).states;
}

-- process p has made its next choice, which led to c
abbrev pub moved : Progress → ℕ → List ℕ → Configuration → Progress
moved at p rest c = record {
  configuration = c;
  unplayed = slice_set at.unplayed p rest;
  states = slice_set at.states p (slice_index_or at.states p [] ++ state_in c p ∷ []);
}

-- the move of process p, or otherwise what the other processes can do
abbrev pub first_move : Result Configuration Refusal → Progress → ℕ → List ℕ → Option Progress → Option Progress
first_move (Ok c) at p rest others = Some (moved at p rest c)
first_move (Err refusal) at p rest others = others

-- the move of the first process, from process p on, whose next choice fires; the last argument has the unplayed choices from p on
abbrev pub move_from : Program → Progress → ℕ → History → Option Progress
move_from P at p [] = None
move_from P at p ([] ∷ others) = move_from P at (p + 1) others
move_from P at p ((k ∷ rest) ∷ others) = first_move (fire P at.configuration p k) at p rest (move_from P at (p + 1) others)

-- the next move: the lowest-numbered process whose next choice fires makes it
abbrev pub next_move : Program → Progress → Option Progress
next_move P at = move_from P at 0 at.unplayed

-- continues after a move, if there was one
abbrev pub go_on : Progress → Option Progress → (Progress → Progress) → Progress
go_on at None next = at
go_on at (Some to) next = next to

-- at most n moves
abbrev pub play_moves : ℕ → Program → Progress → Progress
play_moves zero P at = at
play_moves (suc n) P at = go_on at (next_move P at) (play_moves n P)

-- how many choices a history has
abbrev pub choice_count : History → ℕ
choice_count [] = 0
choice_count (choices ∷ H) = length choices + choice_count H

-- the play of a history: as many moves as it has choices, or fewer if no further move is possible
abbrev pub progress_of : Program → History → Progress
progress_of P H = play_moves (choice_count H) P (opening_of P H)

-- the configuration after the play
abbrev pub play : Program → History → Configuration
play P H = (progress_of P H).configuration

-- all choices are played
abbrev pub IsPossible : Program → History → Type 0
IsPossible P H = AllByRecursion (λ choices. choices ≡ []) (progress_of P H).unplayed

-- the local state of process p after its n-th choice in the play, or its start if n is 0
abbrev pub local_state : Program → History → ℕ → ℕ → LocalState
local_state P H p n = slice_index_or (slice_index_or (progress_of P H).states p []) n no_state
