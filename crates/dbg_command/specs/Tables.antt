-- What contracts see of a table, how it agrees with a program, what commands may do to it, and how queries are answered.
use Rattle.std.specs.Prelude.{◌≡◌, ◌⊎◌, ℕ, ◌+◌, ◌<◌, ◌≤◌, Bool, true, false, List, [], ◌∷◌, ◌++◌, length, Option, Some, None, Result, Ok, Err, IfOk}
use Rattle.std.specs.Prelude.{IfErr, OnOk, OnErr, Vec}
use Rattle.std.specs.declared.alloc.Global.{Global}
use Rattle.dbg_base.specs.declared.call.Plan as plan
use Rattle.dbg_base.specs.declared.call.Plan.TheVariants as plans
use Rattle.dbg_base.specs.declared.said.Answer.{Answer}
use Rattle.dbg_base.specs.declared.said.Done.{Done}
use Rattle.dbg_base.specs.declared.said.Done.TheVariants.{Places, Plain}
use Rattle.dbg_base.specs.declared.said.Reply.{Reply}
use Rattle.dbg_base.specs.declared.said.Said.{Said}
use Rattle.dbg_base.specs.declared.said.Said.TheVariants.{Accepted, Answered, Refused}
use Rattle.dbg_base.specs.declared.refusal.Refusal.{Refusal}
use Rattle.dbg_base.specs.declared.refusal.Refusal.TheVariants.{Memory, Halted, UnknownProcess, InBatch}
use Rattle.dbg_base.specs.declared.refusal.Refusal.TheVariants as refusals
use Rattle.dbg_base.specs.Trees.{Program}
use Rattle.dbg_base.specs.SystemStates.{history_of, after_rollback}
use Rattle.dbg_base.specs.Predicates.{Conjunct, IsLeast, NoCut}
use Rattle.dbg_base.specs.Breakpoints.{Breakpoint, named, name_refusal}
use Rattle.dbg_base.specs.ModelStates.{ModelState, IsHalted, with_system}
use Rattle.dbg_base.specs.Refusals.{refusal_number}
use Rattle.dbg_base.specs.Calls.{Plan, Order, AreCommands, Query, Place, Can, CutOf, Why}
use Rattle.dbg_base.specs.Acts.{Acts, Accepts, Batches, Follows, Refuses}
use Rattle.dbg_base.specs.Views.{Answers}
use Rattle.causal_world.specs.Scenes.{Scene, IsWorldOf}
use Rattle.least_cut.specs.Detectors.{one_more}
use Rattle.break_book.specs.Books.{Entry, Shown, shown_of, breakpoints_of, new_breakpoint, AreDetectorsOf, HaveRoomUpTo}
use Rattle.dbg_command.specs.Boxes.{HasNamed}

pub record TableState : Type 0 where
  pub world : Scene
  pub book : List Entry

-- what calls show of it: all but the room of its detectors
pub record TableShown : Type 0 where
  pub world : Scene
  pub book : List Shown

abbrev pub shown : TableState → TableShown
shown t = record { world = t.world; book = shown_of t.book }

-- the state of the model that it represents
abbrev pub state_of : TableState → ModelState
state_of t = record { system = t.world.state; breakpoints = breakpoints_of t.book }

-- the world is of the program, and the detectors are of the world
pub record IsTableOf (P : Program) (t : TableState) : Type 0 where
  pub world : IsWorldOf P t.world
  pub detectors : AreDetectorsOf t.world t.book

-- the reply has this result, and the breakpoint that halts the session now
pub record Replies (P : Program) (M : ModelState) (did : Done) (reply : Reply) : Type 0 where
  pub done : reply.done ≡ did
  pub halted : IsHalted P M reply.halted

-- the program has no such process
pub record UnknownIn (P : Program) (p : ℕ) (refusal : Refusal) : Type 0 where
  pub none : length P ≤ p
  pub is : refusal ≡ UnknownProcess

-- a breakpoint halts the session
abbrev pub HaltedAt : Program → ModelState → Refusal → Type 0
HaltedAt P M refusal = (name : List ℕ) × IsHalted P M (Some name) × (refusal ≡ Halted name)

-- The process cannot make an event: it does not exist, a breakpoint halts the session, or memory ran out.
abbrev pub Unready : Program → ℕ → ModelState → Refusal → Type 0
Unready P p M refusal =
    UnknownIn P p refusal ⊎ ((p < length P) × HaltedAt P M refusal) ⊎ (refusal ≡ Memory)

-- it can: it exists, no breakpoint halts the session, and there is room for its event
pub record IsReady (P : Program) (p : ℕ) (t : TableState) : Type 0 where
  pub here : p < length P
  pub goes_on : IsHalted P (state_of t) None
  pub room : HaveRoomUpTo t.book (one_more t.world p)

-- a breakpoint of this name, which was free, was added after all others, armed
pub record Adds (old : List Entry) (name : List ℕ) (conjuncts : List Conjunct) (new : List Entry) : Type 0 where
  pub free : name_refusal name (breakpoints_of old) ≡ None
  pub added : breakpoints_of new ≡ breakpoints_of old ++ new_breakpoint name conjuncts ∷ []

-- the breakpoint of this name exists, and this is its least cut
abbrev pub HasLeast : Program → ModelState → List ℕ → List ℕ → Type 0
HasLeast P M name cut =
    (b : Breakpoint) × (named name M.breakpoints ≡ Some b) × IsLeast P (history_of M.system) b.conjuncts cut

-- it does not exist
pub record LacksBreak (M : ModelState) (name : List ℕ) (refusal : Refusal) : Type 0 where
  pub none : named name M.breakpoints ≡ None
  pub is : refusal ≡ refusals.UnknownBreak

-- it exists, and has no cut
abbrev pub HasNoCut : Program → ModelState → List ℕ → Type 0
HasNoCut P M name =
    (b : Breakpoint) × (named name M.breakpoints ≡ Some b) × NoCut P (history_of M.system) b.conjuncts

-- The result for the cut of the breakpoint of this name: its least cut, that it has none, that it does not exist, or that memory ran out.
abbrev pub IsCutOf : Program → ModelState → List ℕ → Result (Option (List ℕ)) Refusal → Type 0
IsCutOf P M name (Ok (Some cut)) = HasLeast P M name cut
IsCutOf P M name (Ok None) = HasNoCut P M name
IsCutOf P M name (Err refusal) = LacksBreak M name refusal ⊎ (refusal ≡ Memory)

-- The result of a call that goes back to a cut, and the state after it: the places are those of the cut, or memory ran out.
pub record GoesBack (P : Program) (M : ModelState) (cut : List ℕ) (result : Result Reply Refusal) (M' : ModelState) : Type 0 where
  pub moves : OnOk result (M' ≡ with_system M (after_rollback M.system cut))
  pub replies : IfOk result (λ reply. Replies P M' (Places cut) reply)
  pub refuses : IfErr result (λ refusal. refusal ≡ Memory)
  pub kept : OnErr result (M' ≡ M)

-- the answer to a command that was accepted or refused
abbrev pub said_of : Result Reply Refusal → Said
said_of (Ok reply) = Accepted reply
said_of (Err refusal) = Refused refusal

-- the plan was given at M, had this answer, and left M'; or memory ran out, and nothing changed
abbrev pub ActsOrRefuses : Program → Plan → ModelState → Result Reply Refusal → ModelState → Type 0
ActsOrRefuses P plan M result M' = Acts P plan M (said_of result) M' ⊎ Refuses Memory M (said_of result) M'

-- the same for an order; a batch can also be refused at the position of one of its commands
abbrev pub FollowsOrRefuses : Program → Order → ModelState → Result Reply Refusal → ModelState → Type 0
FollowsOrRefuses P order M result M' = Follows P order M (said_of result) M' ⊎ Refuses Memory M (said_of result) M'

-- The commands of a batch were given one after the other from M on, which led to N. If all were accepted, the batch is accepted. Otherwise
-- it is refused, or memory ran out.
abbrev pub GivesEach : Program → List Plan → ModelState → Result (Unit {0}) Refusal → ModelState → Type 0
GivesEach P plans M (Ok done) N = (said : Said) → Accepts P Plain said N → Batches P M 1 plans M said N
GivesEach P plans M (Err refusal) N = (refusal ≡ Memory) ⊎ Batches P M 1 plans M (Refused refusal) M

-- the refusal of a batch whose command at this position, from 0, was refused like this; "out of memory" stays as it is
abbrev pub TellsWithin : ℕ → Refusal → Refusal → Type 0
TellsWithin i Memory reported = reported ≡ Memory
TellsWithin i refusal reported = reported ≡ InBatch (i + 1) (refusal_number refusal)

-- a plan that may be given: if it is a batch, it has at most 32 commands, none of which is a batch
abbrev pub IsGivable : plan.Plan → Type 0
IsGivable given = (batch : Vec plan.Plan Global) → given ≡ plans.Batch batch → AreCommands batch.items

-- the answer to a query that was answered or refused
abbrev pub reported_of : Result Answer Refusal → Said
reported_of (Ok reported) = Answered reported
reported_of (Err refusal) = Refused refusal

-- Answering the query in this state may allocate. The place of a process does not, nor whether its last event may be undone, nor the refusal
-- because there is no breakpoint of this name.
abbrev pub AskMayAllocate : Query → ModelState → Type 0
AskMayAllocate (Place p) M = ⊥
AskMayAllocate (Can p) M = ⊥
AskMayAllocate (CutOf name) M = HasNamed name M
AskMayAllocate (Why name) M = HasNamed name M
AskMayAllocate query M = Unit {0}

-- the query had this answer, or memory ran out
abbrev pub AnswersOrRefuses : Program → ModelState → Query → Result Answer Refusal → Type 0
AnswersOrRefuses P M query result = Answers P M query (reported_of result) ⊎ (result ≡ Err Memory)
