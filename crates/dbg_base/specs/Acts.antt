-- What a command does: an accepted command changes the state, and a refused one changes nothing.
use Rattle.std.specs.Prelude.{◌≡◌, ℕ, ◌+◌, true, false, List, [], ◌∷◌, ◌++◌, length, Option, Some, None, Result, Ok, Err, nat_lt}
use Rattle.std.specs.Prelude.{◌==◌, ◌&&◌, not}
use Rattle.std.specs.Prelude.{if◌then◌else◌, ◌⊎◌}
use Rattle.std.specs.Bool.{MatchBool}
use Rattle.std.specs.List.{list_any}
use Rattle.dbg_base.specs.declared.said.Reply.{Reply}
use Rattle.dbg_base.specs.declared.said.Said.{Said}
use Rattle.dbg_base.specs.declared.said.Said.TheVariants.{Accepted, Refused}
use Rattle.dbg_base.specs.declared.said.Done.{Done}
use Rattle.dbg_base.specs.declared.said.Done.TheVariants.{Played, Undone, Places, Plain}
use Rattle.dbg_base.specs.declared.refusal.Refusal.{Refusal}
use Rattle.dbg_base.specs.declared.refusal.Refusal.TheVariants as refusals
use Rattle.dbg_base.specs.declared.refusal.Refusal.TheVariants.{UnknownProcess, BadPlace, Halted, UnknownBreak, BadPredicate}
use Rattle.dbg_base.specs.declared.refusal.Refusal.TheVariants.{AlreadyArmed, NotArmed, InBatch}
use Rattle.dbg_base.specs.declared.expr.Sort.TheVariants as sort
use Rattle.dbg_base.specs.Trees.{Program}
use Rattle.dbg_base.specs.WellFormed.{is_fit, bounds_of}
use Rattle.dbg_base.specs.Reversal.{MayUndo, IsRollback}
use Rattle.dbg_base.specs.Predicates.{Conjunct, IsLeast, NoCut}
use Rattle.dbg_base.specs.Breakpoints.{Breakpoint, named, without, with_mark, name_refusal, HasCut}
use Rattle.dbg_base.specs.Refusals.{refusal_number}
use Rattle.dbg_base.specs.Calls.{Plan, Step, Next, Undo, Redo, Rollback, Goto, Break, Clear, Arm, Pass, Order, One, Batch}
use Rattle.dbg_base.specs.Choices.{step_choice, next_choice, redo_choice, CannotUndo}
use Rattle.dbg_base.specs.SystemStates.{SystemState, place_at, history_of, last_choice, after_choice, after_undo}
use Rattle.dbg_base.specs.SystemStates.{after_redo, after_rollback}
use Rattle.dbg_base.specs.ModelStates.{ModelState, with_system, IsHalted}

-- the command was refused for this reason, and nothing changed
abbrev pub Refuses : Refusal → ModelState → Said → ModelState → Type 0
Refuses refusal M said M' = (said ≡ Refused refusal) × (M' ≡ M)

-- the command was accepted with this result, and left M'; this breakpoint halts M', if one does
pub record Accepts (P : Program) (done : Done) (said : Said) (M' : ModelState) : Type 0 where
  pub halted : Option (List ℕ)
  pub is : IsHalted P M' halted
  pub reported : said ≡ Accepted (record { done = done; halted = halted })

-- The process makes this choice, which leaves the system given by `after`; or it makes none, for this reason.
abbrev pub Plays : Program → ℕ → Result ℕ Refusal → (ℕ → SystemState) → ModelState → Said → ModelState → Type 0
Plays P p (Ok k) after M said M' =
    Accepts P (Played (record { 0 = p }) (record { 0 = k })) said M' × (M' ≡ with_system M (after k))
Plays P p (Err refusal) after M said M' = Refuses refusal M said M'

-- no process makes an event while a breakpoint halts the session
abbrev pub UnlessHalted : Program → Type 0 → ModelState → Said → ModelState → Type 0
UnlessHalted P Does M said M' =
    (IsHalted P M None × Does) ⊎ ((name : List ℕ) × IsHalted P M (Some name) × Refuses (Halted name) M said M')

-- the last event of process p is undone
pub record TakesBack (P : Program) (p : ℕ) (M : ModelState) (said : Said) (M' : ModelState) : Type 0 where
  pub may : MayUndo P (history_of M.system) p
  pub choice : ℕ
  pub was : last_choice M.system p ≡ Some choice
  pub reported : Accepts P (Undone (record { 0 = p }) (record { 0 = choice })) said M'
  pub left : M' ≡ with_system M (after_undo M.system p)

-- the last event of process p stays, for this reason
pub record KeepsEvent (P : Program) (p : ℕ) (M : ModelState) (said : Said) (M' : ModelState) : Type 0 where
  pub refusal : Refusal
  pub why : CannotUndo P M.system p refusal
  pub reported : Refuses refusal M said M'

-- Process p is rolled back to n: the events beyond the cut are undone, and the reply shows the places.
pub record RollsBack (P : Program) (p n : ℕ) (M : ModelState) (said : Said) (M' : ModelState) : Type 0 where
  pub cut : List ℕ
  pub is : IsRollback P (history_of M.system) p n cut
  pub reported : Accepts P (Places cut) said M'
  pub left : M' ≡ with_system M (after_rollback M.system cut)

-- it is rolled back, unless n is above its place
abbrev pub RollsBackAt : Program → ℕ → ℕ → ModelState → Said → ModelState → Type 0
RollsBackAt P p n M said M' = MatchBool (nat_lt (place_at M.system p) n) (Refuses BadPlace M said M') (RollsBack P p n M said M')

-- a command about a process is refused if there is no such process
abbrev pub WithProcess : Program → ℕ → Type 0 → ModelState → Said → ModelState → Type 0
WithProcess P p Does M said M' = MatchBool (nat_lt p (length P)) Does (Refuses UnknownProcess M said M')

-- a command about a breakpoint is refused if there is no such breakpoint
abbrev pub WithFound : Option Breakpoint → (Breakpoint → Type 0) → ModelState → Said → ModelState → Type 0
WithFound None Does M said M' = Refuses UnknownBreak M said M'
WithFound (Some b) Does M said M' = Does b

abbrev pub WithBreak : List ℕ → (Breakpoint → Type 0) → ModelState → Said → ModelState → Type 0
WithBreak name Does M said M' = WithFound (named name M.breakpoints) Does M said M'

-- All processes go back to the breakpoint's cut, and the reply shows the places.
pub record GoesTo (P : Program) (b : Breakpoint) (M : ModelState) (said : Said) (M' : ModelState) : Type 0 where
  pub cut : List ℕ
  pub is : IsLeast P (history_of M.system) b.conjuncts cut
  pub reported : Accepts P (Places cut) said M'
  pub left : M' ≡ with_system M (after_rollback M.system cut)

-- the breakpoint has no cut
abbrev pub HasNone : Program → ModelState → Breakpoint → Type 0
HasNone P M b = NoCut P (history_of M.system) b.conjuncts

-- only the list of breakpoints changed
abbrev pub Lists : Program → List Breakpoint → ModelState → Said → ModelState → Type 0
Lists P breakpoints M said M' = Accepts P Plain said M' × (M' ≡ record M { breakpoints = breakpoints })

-- why these conjuncts are refused, if they are; `before` are the processes of the conjuncts before them
abbrev pub conjuncts_refusal : Program → List ℕ → List Conjunct → Option Refusal
conjuncts_refusal P before [] = None
conjuncts_refusal P before (c ∷ conjuncts) =
    if nat_lt c.process (length P)
    then (if is_fit (bounds_of P c.process) sort.Truth c.expression && not (list_any (λ p. p == c.process) before)
    then conjuncts_refusal P (c.process ∷ before) conjuncts else Some BadPredicate)
    else Some UnknownProcess

-- the first of two reasons
abbrev pub first_refusal : Option Refusal → Option Refusal → Option Refusal
first_refusal (Some refusal) other = Some refusal
first_refusal None other = other

abbrev pub break_refusal : Program → ModelState → List ℕ → List Conjunct → Option Refusal
break_refusal P M name [] = Some BadPredicate
break_refusal P M name (c ∷ conjuncts) =
    first_refusal (conjuncts_refusal P [] (c ∷ conjuncts)) (name_refusal name M.breakpoints)

-- a breakpoint is set, armed, after all others
abbrev pub Sets : Option Refusal → Program → List ℕ → List Conjunct → ModelState → Said → ModelState → Type 0
Sets (Some refusal) P name conjuncts M said M' = Refuses refusal M said M'
Sets None P name conjuncts M said M' =
    Lists P (M.breakpoints ++ record { name = name; conjuncts = conjuncts; armed = true } ∷ []) M said M'

-- a breakpoint that is not armed becomes armed
abbrev pub Arms : Program → List ℕ → Breakpoint → ModelState → Said → ModelState → Type 0
Arms P name b M said M' =
    MatchBool b.armed (Refuses AlreadyArmed M said M') (Lists P (with_mark name true M.breakpoints) M said M')

-- an armed breakpoint that has a cut no longer halts the session
abbrev pub Passes : Program → List ℕ → Breakpoint → ModelState → Said → ModelState → Type 0
Passes P name b M said M' =
    MatchBool b.armed
    ((HasCut P (history_of M.system) b × Lists P (with_mark name false M.breakpoints) M said M')
    ⊎ (HasNone P M b × Refuses refusals.NoCut M said M'))
    (Refuses NotArmed M said M')

-- the plan was given at M, had this answer, and left M'
abbrev pub Acts : Program → Plan → ModelState → Said → ModelState → Type 0
Acts P (Step p k) M said M' =
    WithProcess P p (UnlessHalted P (Plays P p (step_choice P M.system p k) (after_choice M.system p) M said M') M said M') M said M'
Acts P (Next p) M said M' =
    WithProcess P p (UnlessHalted P (Plays P p (next_choice P M.system p) (after_choice M.system p) M said M') M said M') M said M'
Acts P (Redo p) M said M' =
    WithProcess P p (UnlessHalted P (Plays P p (redo_choice P M.system p) (λ k. after_redo M.system p) M said M') M said M') M said M'
Acts P (Undo p) M said M' = WithProcess P p (TakesBack P p M said M' ⊎ KeepsEvent P p M said M') M said M'
Acts P (Rollback p n) M said M' = WithProcess P p (RollsBackAt P p n M said M') M said M'
Acts P (Goto name) M said M' =
    WithBreak name (λ b. GoesTo P b M said M' ⊎ (HasNone P M b × Refuses refusals.NoCut M said M')) M said M'
Acts P (Break name conjuncts) M said M' = Sets (break_refusal P M name conjuncts) P name conjuncts M said M'
Acts P (Clear name) M said M' = WithBreak name (λ b. Lists P (without name M.breakpoints) M said M') M said M'
Acts P (Arm name) M said M' = WithBreak name (λ b. Arms P name b M said M') M said M'
Acts P (Pass name) M said M' = WithBreak name (λ b. Passes P name b M said M') M said M'

-- Batches: commands one after the other, of which all are accepted or none.

-- The batch was given at `start`. Its commands from position `at` on were given one after the other, from M on. Each is accepted in the
-- state that those before it left, and the last leaves M'. Or one is refused: the reply has the position of the first refused one and the
-- number of its refusal, and nothing changed.
abbrev pub Batches : Program → ModelState → ℕ → List Plan → ModelState → Said → ModelState → Type 0
Batches P start at [] M said M' = Accepts P Plain said M' × (M' ≡ M)
Batches P start at (plan ∷ plans) M said M' =
    ((reply : Reply) × (between : ModelState) × Acts P plan M (Accepted reply) between × Batches P start (at + 1) plans between said M')
    ⊎ ((refusal : Refusal) × Acts P plan M (Refused refusal) M × Refuses (InBatch at (refusal_number refusal)) start said M')

-- the order was given at M, had this answer, and left M'
abbrev pub Follows : Program → Order → ModelState → Said → ModelState → Type 0
Follows P (One plan) M said M' = Acts P plan M said M'
Follows P (Batch plans) M said M' = Batches P M 1 plans M said M'
