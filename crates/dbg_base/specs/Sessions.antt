-- The replays of the events that remain in a session, and how a command changes these events.
use Rattle.std.specs.Prelude.{◌≡◌, ℕ, ◌-◌, List, [], ◌∷◌, ◌++◌, length, map, Ok, slice_index, slice_set}
use Rattle.dbg_base.specs.declared.said.Done.{Done}
use Rattle.dbg_base.specs.declared.said.Done.TheVariants.{Played, Undone, Places, Plain}
use Rattle.dbg_base.specs.declared.said.Reply.{Reply}
use Rattle.dbg_base.specs.declared.said.Said.TheVariants.{Accepted}
use Rattle.dbg_base.specs.Trees.{Program}
use Rattle.dbg_base.specs.Configurations.{Configuration}
use Rattle.dbg_base.specs.Orders.{Event, order, choices_of}
use Rattle.dbg_base.specs.SystemStates.{history_of}
use Rattle.dbg_base.specs.ModelStates.{ModelState}
use Rattle.dbg_base.specs.Calls.{Plan, One}
use Rattle.dbg_base.specs.Acts.{Follows}
use Rattle.dbg_base.specs.Journals.{Journal, IsLegal, effective, LeadsTo}
use Rattle.dbg_base.specs.Reference.{events_of}

-- After the legal journal J the state is M. The list E has the events that remain in M, in an order in which each of them fires. Its replay
-- ends at c.
pub record IsReplay (P : Program) (J : Journal) (M : ModelState) (E : List Event) (c : Configuration) : Type 0 where
  pub legal : IsLegal P J
  pub leads_to : LeadsTo P (effective J) M
  pub remain : choices_of (length P) E ≡ history_of M.system
  pub replayed : order P E ≡ Ok c

-- the number of events of each process
abbrev pub counts : Program → List Event → List ℕ
counts P E = map (λ choices. length choices) (choices_of (length P) E)

-- The events that remain after a command, from what its reply says was done. A process made one more event, or undid its last one, or the
-- processes went back to a set of events, or no event was made or undone.
abbrev pub remaining : Program → Done → List Event → List Event
remaining P (Played p k) E = E ++ record { process = p.0; choice = k.0 } ∷ []
remaining P (Undone p k) E = events_of (slice_set (counts P E) p.0 (slice_index (counts P E) p.0 - 1)) E
remaining P (Places cut) E = events_of cut E
remaining P Plain E = E

-- The commands are given one by one from M on. They are accepted with these replies, and lead to `after`.
abbrev pub AreGiven : Program → List Plan → List Reply → ModelState → ModelState → Type 0
AreGiven P [] [] M after = after ≡ M
AreGiven P (plan ∷ plans) (reply ∷ replies) M after =
    (between : ModelState) × Follows P (One plan) M (Accepted reply) between × AreGiven P plans replies between after
AreGiven P plans replies M after = ⊥

-- the events that remain after commands with these replies
abbrev pub remaining_after : Program → List Reply → List Event → List Event
remaining_after P [] E = E
remaining_after P (reply ∷ replies) E = remaining_after P replies (remaining P reply.done E)
