-- The answer to a command, case by case.
use Rattle.std.proofs.Common.{◌≡◌, ◌⊎◌, inl, inr, ℕ, ◌<◌, ◌≤◌, Bool, List, [], ◌∷◌, length, Option, Some, None}
use Rattle.std.proofs.Common.{Result, Ok, Err}
use Rattle.std.proofs.Common.{zero, suc, refl, sym, ap, ◌∙◌, subst, MatchBool, arith}
use Rattle.std.proofs.lemmas.Bool.{lt-ltb, le-ltb}
use Rattle.dbg_base.specs.declared.said.Done.{Done}
use Rattle.dbg_base.specs.declared.said.Done.TheVariants.{Undone, Places}
use Rattle.dbg_base.specs.declared.said.Reply.{Reply}
use Rattle.dbg_base.specs.declared.said.Said.{Said}
use Rattle.dbg_base.specs.declared.said.Said.TheVariants.{Accepted, Refused}
use Rattle.dbg_base.specs.declared.refusal.Refusal.{Refusal}
use Rattle.dbg_base.specs.declared.refusal.Refusal.TheVariants.{Memory, UnknownProcess, UnknownBreak, BadPlace}
use Rattle.dbg_base.specs.Trees.{Program}
use Rattle.dbg_base.specs.SystemStates.{SystemState, place_at, history_of, last_choice, after_undo}
use Rattle.dbg_base.specs.Choices.{CannotUndo}
use Rattle.dbg_base.specs.Reversal.{MayUndo, IsRollback}
use Rattle.dbg_base.specs.Breakpoints.{Breakpoint}
use Rattle.dbg_base.specs.ModelStates.{ModelState, with_system}
use Rattle.dbg_base.specs.declared.refusal.Refusal.TheVariants as refusals
use Rattle.dbg_base.specs.Calls.{Undo, Rollback, Goto}
use Rattle.dbg_base.specs.Acts.{Accepts, Refuses, WithProcess, WithFound, RollsBack, RollsBackAt, GoesTo, HasNone}
use Rattle.dbg_command.specs.Tables.{Replies, HasLeast, HasNoCut, IsCutOf, GoesBack, ActsOrRefuses}
use Rattle.std.specs.Prelude.{slice_get}
use Rattle.dbg_base.specs.declared.refusal.Refusal.TheVariants.{NothingToRedo}
use Rattle.dbg_base.specs.Choices.{redo_choice, choice_again}
use Rattle.dbg_base.specs.SystemStates.{line_of, configuration_of}
use Rattle.dbg_base.specs.Predicates.{Conjunct, IsLeast}
use Rattle.cut_core.specs.declared.kind.Kind.{Kind}
use Rattle.cut_core.specs.ConsistentCuts.{IsConsistentCut}
use Rattle.causal_world.specs.Scenes.{Scene, IsWorldOf}
use Rattle.causal_world.proofs.HistoryRecordLemmas.{consistent_cut}
use Rattle.break_book.specs.Books.{breakpoints_of}
use Rattle.dbg_command.specs.Tables.{TableState, state_of}

-- a refusal that changes nothing
pub refused : (M M' : ModelState) (refusal is : Refusal) → refusal ≡ is → M' ≡ M → Refuses is M (Refused refusal) M'
refused M M' refusal is e same = (ap (λ (r : Refusal). Refused r) e, same)

pub accepted : (P : Program) (M : ModelState) (did : Done) (reply : Reply) → Replies P M did reply → Accepts P did (Accepted reply) M
accepted P M did reply replies = record {
  halted = reply.halted;
  is = replies.halted;
  reported = ap (λ (d : Done). Accepted (record { done = d; halted = reply.halted })) replies.done;
}

pub with_process : (P : Program) (p : ℕ) (Does : Type 0) (M : ModelState) (said : Said) (M' : ModelState) → p < length P → Does
    → WithProcess P p Does M said M'
with_process P p Does M said M' here does =
    subst (λ (t : Bool). MatchBool t Does (Refuses UnknownProcess M said M')) (sym (lt-ltb p (length P) here)) does

-- the last event of an existing process was undone
pub taken_back : (P : Program) (M M' : ModelState) (p k : ℕ) (reply : Reply) → p < length P → MayUndo P (history_of M.system) p
    → last_choice M.system p ≡ Some k → M' ≡ with_system M (after_undo M.system p)
    → Replies P M' (Undone (record { 0 = p }) (record { 0 = k })) reply → ActsOrRefuses P (Undo p) M (Ok reply) M'
taken_back P M M' p k reply here may was left replies =
    inl (with_process P p _ M (Accepted reply) M' here (inl (record {
      may = may;
      choice = k;
      was = was;
      reported = accepted P M' (Undone (record { 0 = p }) (record { 0 = k })) reply replies;
      left = left;
    })))

-- it stays, or memory ran out
pub not_taken_back : (P : Program) (M M' : ModelState) (p : ℕ) (refusal : Refusal) → p < length P
    → CannotUndo P M.system p refusal ⊎ (refusal ≡ Memory) → M' ≡ M → ActsOrRefuses P (Undo p) M (Err refusal) M'
not_taken_back P M M' p refusal here (inl why) same =
    inl (with_process P p _ M (Refused refusal) M' here (inr (record {
      refusal = refusal;
      why = why;
      reported = refused M M' refusal refusal refl same;
    })))
not_taken_back P M M' p refusal here (inr e) same = inr (refused M M' refusal Memory e same)

pub rolled_back : (P : Program) (M M' : ModelState) (p n : ℕ) (cut : List ℕ) (result : Result Reply Refusal) → p < length P
    → n ≤ place_at M.system p → IsRollback P (history_of M.system) p n cut → GoesBack P M cut result M'
    → ActsOrRefuses P (Rollback p n) M result M'
rolled_back P M M' p n cut (Err refusal) here within is back = inr (refused M M' refusal Memory back.refuses back.kept)
rolled_back P M M' p n cut (Ok reply) here within is back =
    let said : Said = Accepted reply in
    let rolled : RollsBack P p n M said M' =
    record { cut = cut; is = is; reported = accepted P M' (Places cut) reply back.replies; left = back.moves } in
    let acts : RollsBackAt P p n M said M' =
    subst (λ (t : Bool). MatchBool t (Refuses BadPlace M said M') (RollsBack P p n M said M'))
    (sym (le-ltb (place_at M.system p) n within)) rolled in
    inl (with_process P p _ M said M' here acts)

pub went_to : (P : Program) (M M' : ModelState) (name cut : List ℕ) (result : Result Reply Refusal) → HasLeast P M name cut
    → GoesBack P M cut result M' → ActsOrRefuses P (Goto name) M result M'
went_to P M M' name cut (Err refusal) has back = inr (refused M M' refusal Memory back.refuses back.kept)
went_to P M M' name cut (Ok reply) has back =
    let said : Said = Accepted reply in
    inl (subst (λ (o : Option Breakpoint). WithFound o (λ b. GoesTo P b M said M' ⊎ (HasNone P M b × Refuses refusals.NoCut M said M'))
    M said M') (sym has.1) (inl (record {
      cut = cut;
      is = has.2;
      reported = accepted P M' (Places cut) reply back.replies;
      left = back.moves;
    })))

-- nothing is done if it has no cut, or does not exist
pub no_cut : (P : Program) (M : ModelState) (name : List ℕ) → HasNoCut P M name → ActsOrRefuses P (Goto name) M (Err refusals.NoCut) M
no_cut P M name none =
    let said : Said = Refused refusals.NoCut in
    inl (subst (λ (o : Option Breakpoint). WithFound o (λ b. GoesTo P b M said M ⊎ (HasNone P M b × Refuses refusals.NoCut M said M))
    M said M) (sym none.1) (inr (none.2, (refl, refl))))

pub not_there : (P : Program) (M : ModelState) (name : List ℕ) (refusal : Refusal) → IsCutOf P M name (Err refusal)
    → ActsOrRefuses P (Goto name) M (Err refusal) M
not_there P M name refusal (inl lacks) =
    let said : Said = Refused refusal in
    inl (subst (λ (o : Option Breakpoint). WithFound o (λ b. GoesTo P b M said M ⊎ (HasNone P M b × Refuses refusals.NoCut M said M))
    M said M) (sym lacks.none) (refused M M refusal UnknownBreak lacks.is refl))
not_there P M name refusal (inr e) = inr (refused M M refusal Memory e refl)

-- the system changed, and the breakpoints did not
pub system_changed : (before after : TableState) (system : SystemState) → after.world.state ≡ system
    → breakpoints_of after.book ≡ breakpoints_of before.book → state_of after ≡ with_system (state_of before) system
system_changed before after system moved same = λ i. record { system = moved i; breakpoints = same i }

pub on_line : (line : List ℕ) (n k : ℕ) → slice_get line n ≡ Some k → n < length line
on_line [] n k e = cc
on_line (choice ∷ line) zero k e = omega arith
on_line (choice ∷ line) (suc n) k e = let rest = on_line line n k e in omega (arith, rest)

-- a choice that is made again is on its line
pub redo_next : (P : Program) (M : SystemState) (p k : ℕ) → redo_choice P M p ≡ Ok k
    → (n : ℕ) × (slice_get (line_of M p) (place_at M p) ≡ Some n)
redo_next P M p k made = by (slice_get (line_of M p) (place_at M p)) refl
  where
    by : (o : Option ℕ) → slice_get (line_of M p) (place_at M p) ≡ o → (n : ℕ) × (o ≡ Some n)
    by None e =
        let wrong : Err NothingToRedo ≡ Ok k = sym (ap (choice_again P (configuration_of P M) p) e) ∙ made in cc
    by (Some choice) e = (choice, refl)

pub redo_left : (P : Program) (M : SystemState) (p k : ℕ) → redo_choice P M p ≡ Ok k → place_at M p < length (line_of M p)
redo_left P M p k made =
    let next = redo_next P M p k made in on_line (line_of M p) (place_at M p) next.0 next.1

-- the least cut of a world is consistent by the sends and receives of its events
pub consistent_least : (P : Program) (w : Scene) → IsWorldOf P w → (conjuncts : List Conjunct) (cut : List ℕ)
    → IsLeast P (history_of w.state) conjuncts cut → IsConsistentCut w.kinds cut
consistent_least P w of conjuncts cut is =
    subst (λ (kinds : List (List Kind)). IsConsistentCut kinds cut) (sym of.counts)
    (consistent_cut P (history_of w.state) cut is.satisfies.consistent)
