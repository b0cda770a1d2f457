-- Undoing the last choice of a process if nothing that remains depends on it.
use Rattle.std.specs.Prelude.{ℕ, zero, suc, ◌-◌, ◌<◌, ◌≤◌, ℤ, pos, List, [], ◌∷◌, length, take, Option, Some, None}
use Rattle.std.specs.Prelude.{slice_index, slice_index_or, slice_set}
use Rattle.dbg_base.specs.Trees.{Action, Local, Sends, Receives, Command, Program, command_of}
use Rattle.dbg_base.specs.Configurations.{Configuration, channel_of, with_channel, with_state}
use Rattle.dbg_base.specs.Cuts.{IsConsistent, IsAtMost}
use Rattle.dbg_base.specs.Histories.{History, Progress, opening_of, next_move, choice_count, IsPossible, local_state}

-- a list without its last element
abbrev pub without_back : {A : Type 0} → List A → List A
without_back list = take (length list - 1) list

-- the history without the last choice of process p
abbrev pub without_last : History → ℕ → History
without_last H p = slice_set H p (without_back (slice_index_or H p []))

-- the last choice of process p
abbrev pub choice_at_end : History → ℕ → ℕ
choice_at_end H p = slice_index (slice_index_or H p []) (length (slice_index_or H p []) - 1)

-- Process p may undo its last choice: it has one, and the history without it is possible.
pub record MayUndo (P : Program) (H : History) (p : ℕ) : Type 0 where
  pub some : 0 < length (slice_index_or H p [])
  pub rest : IsPossible P (without_last H p)

-- `here` if no choice is left, and `later` if one is
abbrev pub where_none : List ℕ → Configuration → Configuration → Configuration
where_none [] here later = here
where_none (k ∷ rest) here later = later

-- the configuration before this move, if it is the last of process p; otherwise a later one
abbrev pub last_or_later : Option Progress → Configuration → ℕ → (Progress → Configuration) → Configuration
last_or_later None here p later = here
last_or_later (Some to) here p later = where_none (slice_index_or to.unplayed p []) here (later to)

-- the configuration before the last choice of process p, which is made within n moves
abbrev pub last_from : ℕ → Program → Progress → ℕ → Configuration
last_from zero P now p = now.configuration
last_from (suc n) P now p = last_or_later (next_move P now) now.configuration p (λ to. last_from n P to p)

-- the configuration in the play of H before process p makes its last choice
abbrev pub before_last : Program → History → ℕ → Configuration
before_last P H p = last_from (choice_count H) P (opening_of P H) p

-- the message that the last choice of process p received from the source in the play of H: the head of the channel then
abbrev pub taken_in : Program → History → ℕ → ℕ → ℤ
taken_in P H p source = slice_index_or (channel_of (before_last P H p) source p) 0 (pos 0)

-- The channels before the last choice of process p, which did this. A message that it sent is removed from the tail of its channel, and a
-- message that it received returns to the head.
abbrev pub unmoved : Program → History → Configuration → ℕ → Action → Configuration
unmoved P H c p Local = c
unmoved P H c p (Sends target value) = with_channel c p target (without_back (channel_of c p target))
unmoved P H c p (Receives source variable) = with_channel c source p (taken_in P H p source ∷ channel_of c source p)

abbrev pub unmoved_if : Program → History → Configuration → ℕ → Option Command → Configuration
unmoved_if P H c p None = c
unmoved_if P H c p (Some command) = unmoved P H c p command.action

-- The last choice of process p is undone: its local state is as it was one choice before, and so is the channel that it changed.
abbrev pub unfire : Program → History → Configuration → ℕ → Configuration
unfire P H c p =
    with_state (unmoved_if P H c p (command_of P p (choice_at_end H p))) p (local_state P H p (length (slice_index_or H p []) - 1))

-- these processes undo their last choices, one after the other, and each undo is permitted after those before it
abbrev pub IsPermitted : Program → History → List ℕ → Type 0
IsPermitted P H [] = Unit {0}
IsPermitted P H (p ∷ undos) = MayUndo P H p × IsPermitted P (without_last H p) undos

-- the history that is left
abbrev pub after_undos : History → List ℕ → History
after_undos H [] = H
after_undos H (p ∷ undos) = after_undos (without_last H p) undos

-- the configuration after these undos, from c on
abbrev pub unfire_all : Program → History → List ℕ → Configuration → Configuration
unfire_all P H [] c = c
unfire_all P H (p ∷ undos) c = unfire_all P (without_last H p) undos (unfire P H c p)

-- The cut of a rollback of process p to n: the greatest consistent cut with at most n choices of p.
pub record IsRollback (P : Program) (H : History) (p n : ℕ) (cut : List ℕ) : Type 0 where
  pub consistent : IsConsistent P H cut
  pub below : slice_index cut p ≤ n
  pub greatest : (other : List ℕ) → IsConsistent P H other → slice_index other p ≤ n → IsAtMost other cut
