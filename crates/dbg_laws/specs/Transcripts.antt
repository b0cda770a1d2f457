-- Transcripts: a reader follows a journal from the events and breakpoints alone. No state of a session is needed.
use Rattle.std.specs.Prelude.{◌≡◌, ◌⊎◌, ℕ, true, false, List, [], ◌∷◌, ◌++◌, Option, Some, None, Ok}
use Rattle.std.specs.Bool.{MatchBool}
use Rattle.dbg_base.specs.declared.said.Done.{Done}
use Rattle.dbg_base.specs.declared.said.Done.TheVariants.{Played, Undone, Places, Plain}
use Rattle.dbg_base.specs.declared.said.Reply.{Reply}
use Rattle.dbg_base.specs.declared.said.Said.{Said}
use Rattle.dbg_base.specs.declared.said.Said.TheVariants.{Accepted}
use Rattle.dbg_base.specs.Trees.{Program}
use Rattle.dbg_base.specs.Configurations.{Configuration}
use Rattle.dbg_base.specs.Orders.{Event, order, IsLegalOrder}
use Rattle.dbg_base.specs.Breakpoints.{Breakpoint, named, without, with_mark}
use Rattle.dbg_base.specs.Calls.{Plan, Step, Next, Undo, Redo, Rollback, Goto, Break, Clear, Arm, Pass, Order, One, Batch, Call, Give, Back, Ask}
use Rattle.dbg_base.specs.Journals.{Journal}
use Rattle.dbg_base.specs.Reference.{IsMet, IsLeastMet, IsGreatest, IsMaximal}
use Rattle.dbg_base.specs.Sessions.{remaining}
use Rattle.dbg_base.specs.Shown.{Shows}

-- the events that remain, in an order in which each of them fires, and the breakpoints
pub record Stage : Type 0 where
  pub events : List Event
  pub breakpoints : List Breakpoint

-- no events, and no breakpoints
abbrev pub first_stage : Stage
first_stage = record { events = []; breakpoints = [] }

-- the breakpoints after an accepted command
abbrev pub breakpoints_after : Plan → List Breakpoint → List Breakpoint
breakpoints_after (Break name conjuncts) breakpoints = breakpoints ++ record { name = name; conjuncts = conjuncts; armed = true } ∷ []
breakpoints_after (Clear name) breakpoints = without name breakpoints
breakpoints_after (Arm name) breakpoints = with_mark name true breakpoints
breakpoints_after (Pass name) breakpoints = with_mark name false breakpoints
breakpoints_after plan breakpoints = breakpoints

-- The breakpoint that halts the session: the first armed one that some set of events meets, or none.
abbrev pub Halts : Program → List Event → List Breakpoint → Option (List ℕ) → Type 0
Halts P E [] halted = halted ≡ None
Halts P E (b ∷ breakpoints) halted =
    MatchBool b.armed
    ((((cut : List ℕ) × IsMet P E b.conjuncts cut) × (halted ≡ Some b.name))
    ⊎ (((cut : List ℕ) → ¬ IsMet P E b.conjuncts cut) × Halts P E breakpoints halted))
    (Halts P E breakpoints halted)

-- What the reply to an accepted command says was done. An event is made only if no breakpoint halts the session. An undo needs a maximal event.
-- A rollback goes to the greatest set with so many events, and `goto` to the least set that meets the breakpoint.
abbrev pub Does : Program → Plan → Stage → Done → Type 0
Does P (Step p k) now done = Halts P now.events now.breakpoints None × (done ≡ Played (record { 0 = p }) (record { 0 = k }))
Does P (Next p) now done = Halts P now.events now.breakpoints None × (k : ℕ) × (done ≡ Played (record { 0 = p }) (record { 0 = k }))
Does P (Redo p) now done = Halts P now.events now.breakpoints None × (k : ℕ) × (done ≡ Played (record { 0 = p }) (record { 0 = k }))
Does P (Undo p) now done = (k : ℕ) × IsMaximal P now.events p × (done ≡ Undone (record { 0 = p }) (record { 0 = k }))
Does P (Rollback p n) now done = (cut : List ℕ) × IsGreatest P now.events p n cut × (done ≡ Places cut)
Does P (Goto name) now done = (b : Breakpoint) × (named name now.breakpoints ≡ Some b)
    × (cut : List ℕ) × IsLeastMet P now.events b.conjuncts cut × (done ≡ Places cut)
Does P plan now done = done ≡ Plain

-- The stage after an accepted command. Its events are those that the reply says, and each of them fires.
pub record IsNext (P : Program) (plan : Plan) (reply : Reply) (now next : Stage) : Type 0 where
  pub does : Does P plan now reply.done
  pub events : next.events ≡ remaining P reply.done now.events
  pub fires : IsLegalOrder P next.events
  pub breakpoints : next.breakpoints ≡ breakpoints_after plan now.breakpoints
  pub halted : Halts P next.events next.breakpoints reply.halted

-- the stage after commands that are given one by one, each with some reply
abbrev pub AreNext : Program → List Plan → Stage → Stage → Type 0
AreNext P [] now next = next ≡ now
AreNext P (plan ∷ plans) now next =
    (reply : Reply) × (between : Stage) × IsNext P plan reply now between × AreNext P plans between next

-- the stage after an accepted order
abbrev pub Leaves : Program → Order → Reply → Stage → Stage → Type 0
Leaves P (One plan) reply now next = IsNext P plan reply now next
Leaves P (Batch plans) reply now next =
    (reply.done ≡ Plain) × AreNext P plans now next × Halts P next.events next.breakpoints reply.halted

-- What one call makes of the stages so far, the newest first. An accepted order adds a stage. An accepted `back` removes the newest one. A
-- query shows what the replay of the newest one shows. Refused orders change nothing.
abbrev pub Continues : Program → Call → Said → List Stage → List Stage → Type 0
Continues P (Give given) (Accepted reply) (now ∷ past) stages =
    (next : Stage) × Leaves P given reply now next × (stages ≡ next ∷ now ∷ past)
Continues P Back (Accepted reply) (now ∷ past) stages = stages ≡ past
Continues P (Ask query) said (now ∷ past) stages =
    ((c : Configuration) × (order P now.events ≡ Ok c) × Shows P now.breakpoints now.events c query said) × (stages ≡ now ∷ past)
Continues P call said before stages = stages ≡ before

-- a journal from these stages on
abbrev pub IsTranscript : Program → List Stage → Journal → Type 0
IsTranscript P stages [] = Unit {0}
IsTranscript P stages (entry ∷ J) = (next : List Stage) × Continues P entry.call entry.said stages next × IsTranscript P next J
