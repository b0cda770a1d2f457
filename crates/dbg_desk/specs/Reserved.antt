-- Room for a call before it is made.
use Rattle.std.specs.Prelude.{◌≡◌, ◌⊎◌, ℕ, ◌<◌, ◌≤◌, length, Result, OnOk, IfErr, IsSome, Vec}
use Rattle.std.specs.Vec.{vec_len, vec_capacity}
use Rattle.std.specs.declared.alloc.Global.{Global}
use Rattle.dbg_base.specs.declared.refusal.Refusal.{Refusal}
use Rattle.dbg_base.specs.declared.refusal.Refusal.TheVariants.{Memory, JournalFull}
use Rattle.dbg_base.specs.declared.limits.TheConstants.{CALLS}
use Rattle.dbg_base.specs.Trees.{Program}
use Rattle.dbg_board.specs.Boards.{Listing}
use Rattle.dbg_desk.specs.declared.entry.Entry.{Entry}
use Rattle.dbg_desk.specs.declared.entry.RecordedCall.{RecordedCall}
use Rattle.dbg_desk.specs.declared.rooms.Reserved.{Reserved}

-- Why no call can be made after so many were entered: the journal is full, or memory ran out.
abbrev pub IsUnready : ℕ → Refusal → Type 0
IsUnready calls refusal = ((calls ≡ CALLS) × (refusal ≡ JournalFull)) ⊎ ((calls < CALLS) × (refusal ≡ Memory))

-- There is room for one more call in the journal and in a seat's own record, and for the answer to a command of this program; or there is
-- none, for this reason. In both cases all that was entered and shown stays.
pub record IsReady {A : Type 0} (P : Program) (entries new_entries : Vec Entry Global) (shown new_shown : Listing)
    (calls new_calls : Vec RecordedCall Global) (reserved : Reserved) (result : Result A Refusal) : Type 0 where
  pub journal : new_entries.items ≡ entries.items
  pub publisher : new_shown ≡ shown
  pub own : new_calls.items ≡ calls.items
  pub few : OnOk result (vec_len new_entries < CALLS)
  pub room : OnOk result (vec_len new_entries < vec_capacity new_entries)
  pub record_room : OnOk result (vec_len new_calls < vec_capacity new_calls)
  pub places : OnOk result (length P ≤ vec_capacity reserved.places)
  pub apart : OnOk result (IsSome reserved.apart)
  pub refuses : IfErr result (IsUnready (vec_len entries))
