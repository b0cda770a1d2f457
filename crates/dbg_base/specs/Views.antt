-- The answers to queries.
use Rattle.std.specs.Prelude.{◌≡◌, ◌⊎◌, ◌&&◌, ℕ, Bool, List, length, map, nat_lt, if◌then◌else◌, Option, Some, None, Ok, Err}
use Rattle.std.specs.Bool.{MatchBool}
use Rattle.dbg_base.specs.declared.said.Said.{Said}
use Rattle.dbg_base.specs.declared.said.Said.TheVariants.{Answered, Refused}
use Rattle.dbg_base.specs.declared.said.Answer.{Answer}
use Rattle.dbg_base.specs.declared.said.Answer.TheVariants.{Values, Messages, Counts, PlaceOf, CanUndo, CutIs, Frontier, Marks}
use Rattle.dbg_base.specs.declared.refusal.Refusal.{Refusal}
use Rattle.dbg_base.specs.declared.refusal.Refusal.TheVariants.{UnknownProcess, UnknownBreak}
use Rattle.dbg_base.specs.Trees.{Program}
use Rattle.dbg_base.specs.Configurations.{values_of, channel_of}
use Rattle.dbg_base.specs.Calls.{Query, Vars, Chan, Clock, Place, Can, CutOf, Why, Breaks}
use Rattle.dbg_base.specs.Clocks.{IsClock}
use Rattle.dbg_base.specs.Predicates.{IsLeast, NoCut}
use Rattle.dbg_base.specs.Frontiers.{IsFrontier, heads_of}
use Rattle.dbg_base.specs.Breakpoints.{Breakpoint, named}
use Rattle.dbg_base.specs.Reversal.{MayUndo}
use Rattle.dbg_base.specs.SystemStates.{SystemState, line_of, place_at, history_of, configuration_of}
use Rattle.dbg_base.specs.ModelStates.{ModelState}
use Rattle.dbg_base.specs.Choices.{CannotUndo}

-- the answer to a query about a process, if the process exists
abbrev pub about : Program → ℕ → Answer → Said
about P p reported = if nat_lt p (length P) then Answered reported else Refused UnknownProcess

-- the answer is the clock of process p at its place
pub record TellsClock (P : Program) (M : SystemState) (p : ℕ) (said : Said) : Type 0 where
  pub cut : List ℕ
  pub is : IsClock P (history_of M) p (place_at M p) cut
  pub reported : said ≡ Answered (Counts cut)

-- the answer is why the last event may not be undone
pub record TellsWhy (P : Program) (M : SystemState) (p : ℕ) (said : Said) : Type 0 where
  pub refusal : Refusal
  pub why : CannotUndo P M p refusal
  pub reported : said ≡ Answered (CanUndo (Err refusal))

-- the answer is that the last event of process p may be undone, or why not
abbrev pub TellsUndo : Program → SystemState → ℕ → Said → Type 0
TellsUndo P M p said = (MayUndo P (history_of M) p × (said ≡ Answered (CanUndo (Ok tt)))) ⊎ TellsWhy P M p said

-- the answer to a query about a breakpoint, if the breakpoint exists
abbrev pub AboutFound : Option Breakpoint → (Breakpoint → Type 0) → Said → Type 0
AboutFound None Tells said = said ≡ Refused UnknownBreak
AboutFound (Some b) Tells said = Tells b

-- the answer is the breakpoint's cut, or that it has none
abbrev pub TellsCut : Program → ModelState → Breakpoint → Said → Type 0
TellsCut P M b said =
    ((cut : List ℕ) × IsLeast P (history_of M.system) b.conjuncts cut × (said ≡ Answered (CutIs (Some cut))))
    ⊎ (NoCut P (history_of M.system) b.conjuncts × (said ≡ Answered (CutIs None)))

-- the answer is the breakpoint's frontier
pub record TellsFrontier (P : Program) (M : ModelState) (b : Breakpoint) (said : Said) : Type 0 where
  pub tuple : List ℕ
  pub is : IsFrontier P (history_of M.system) b.conjuncts tuple
  pub reported : said ≡ Answered (Frontier (heads_of (history_of M.system) tuple))

-- the name of a breakpoint, and its mark
abbrev pub mark_of : Breakpoint → List ℕ × Bool
mark_of b = (b.name, b.armed)

-- the query has this answer
abbrev pub Answers : Program → ModelState → Query → Said → Type 0
Answers P M (Vars p) said = said ≡ about P p (Values (values_of (configuration_of P M.system) p))
Answers P M (Chan i j) said =
    said ≡ (if nat_lt i (length P) && nat_lt j (length P) then Answered (Messages (channel_of (configuration_of P M.system) i j))
    else Refused UnknownProcess)
Answers P M (Clock p) said = MatchBool (nat_lt p (length P)) (TellsClock P M.system p said) (said ≡ Refused UnknownProcess)
Answers P M (Place p) said = said ≡ about P p (PlaceOf (place_at M.system p) (length (line_of M.system p)))
Answers P M (Can p) said = MatchBool (nat_lt p (length P)) (TellsUndo P M.system p said) (said ≡ Refused UnknownProcess)
Answers P M (CutOf name) said = AboutFound (named name M.breakpoints) (λ b. TellsCut P M b said) said
Answers P M (Why name) said = AboutFound (named name M.breakpoints) (λ b. TellsFrontier P M b said) said
Answers P M Breaks said = said ≡ Answered (Marks (map mark_of M.breakpoints))
