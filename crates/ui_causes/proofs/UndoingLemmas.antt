-- The commands that undo an event are accepted, and leave the greatest consistent cut without it.
use Rattle.std.proofs.Common.{◌≡◌, ℕ, ◌-◌, ◌<◌, ◌≤◌, Bool, true, false, List, [], length, get_or, set, refl, sym, ap, ◌∙◌, subst, arith, inl, inr}
use Rattle.std.specs.Prelude.{nat_lt, ◌⊎◌}
use Rattle.std.proofs.lemmas.Bool.{MatchBool-at_true, MatchBool-at_false, lt-ltb, le-ltb}
use Rattle.dbg_base.specs.declared.said.Reply.{Reply}
use Rattle.dbg_base.specs.declared.said.Said.{Said}
use Rattle.dbg_base.specs.declared.said.Said.TheVariants.{Accepted}
use Rattle.dbg_base.specs.declared.refusal.Refusal.{Refusal}
use Rattle.dbg_base.specs.declared.refusal.Refusal.TheVariants.{UnknownProcess, BadPlace, NothingToUndo, Consequence}
use Rattle.dbg_base.specs.Trees.{Program}
use Rattle.dbg_base.specs.Acts.{Acts, RollsBack, RollsBackAt, TakesBack, KeepsEvent, Refuses}
use Rattle.dbg_base.specs.Calls.{Plan, Undo, Rollback}
use Rattle.dbg_base.specs.Choices.{CannotUndo}
use Rattle.dbg_base.specs.ModelStates.{ModelState}
use Rattle.dbg_base.specs.Reversal.{MayUndo, IsRollback}
use Rattle.dbg_base.specs.SystemStates.{SystemState, history_of, place_at}
use Rattle.dbg_laws.proofs.CutLatticeLemmas.{one_rollback}
use Rattle.causal_world.specs.Scenes.{Scene, IsWorldOf}
use Rattle.causal_world.proofs.RollbackLemmas.{choices_counted}
use Rattle.ui_causes.specs.declared.past.EventPlace.{EventPlace}
use Rattle.ui_causes.specs.declared.undoing.UndoCommand.{UndoCommand}
use Rattle.ui_causes.specs.declared.undoing.UndoCommand.TheVariants as command
use Rattle.ui_causes.specs.CausalPasts.{IsEvent}
use Rattle.ui_causes.specs.Undoings.{LeavesPlaces, IsUndoing, IsAlone, IsChosen}

-- an event that may be undone is not one that cannot be
may_not : (P : Program) (w : Scene) (p : ℕ) → IsWorldOf P w → MayUndo P (history_of w.state) p → (refusal : Refusal)
    → CannotUndo P w.state p refusal → ⊥
may_not P w p of may NothingToUndo why = let some = may.some in absurd (omega (arith, some, why, choices_counted P w p of))
may_not P w p of may (Consequence q) why = why.impossible may.rest
may_not P w p of may refusal why = absurd why

module _ (w : Scene) (event : EventPlace) (is : IsEvent w event) (left : List ℕ)
    (greatest : (P : Program) → IsWorldOf P w → IsRollback P (history_of w.state) event.pid.0 (event.number - 1) left) where
  there : (P : Program) → IsWorldOf P w → nat_lt event.pid.0 (length P) ≡ true
  there P of = lt-ltb _ _ (let here = is.here in omega (arith, here, of.state.places))

  rolled : LeavesPlaces w (Rollback event.pid.0 (event.number - 1)) left
  rolled P M M' said of same acts =
      let not_beyond : nat_lt (place_at M.system event.pid.0) (event.number - 1) ≡ false =
      subst (λ (S : SystemState). nat_lt (place_at S event.pid.0) (event.number - 1) ≡ false) (sym same)
      (le-ltb _ _ (let within = is.within in omega (arith, within))) in
      let back : RollsBack P event.pid.0 (event.number - 1) M said M' =
      MatchBool-at_false (Refuses BadPlace M said M') (RollsBack P event.pid.0 (event.number - 1) M said M') not_beyond
      (MatchBool-at_true (RollsBackAt P event.pid.0 (event.number - 1) M said M') (Refuses UnknownProcess M said M') (there P of) acts) in
      let own : IsRollback P (history_of w.state) event.pid.0 (event.number - 1) back.cut =
      subst (λ (S : SystemState). IsRollback P (history_of S) event.pid.0 (event.number - 1) back.cut) same back.is in (
        _,
        back.reported.reported,
        ap (λ (N : ModelState). N.system.places) back.left
            ∙ one_rollback P (history_of w.state) event.pid.0 (event.number - 1) back.cut left own (greatest P of),
      )

  taken : IsAlone w event left → LeavesPlaces w (Undo event.pid.0) left
  taken alone P M M' said of same acts =
      elim (MatchBool-at_true (TakesBack P event.pid.0 M said M' ⊎ KeepsEvent P event.pid.0 M said M') (Refuses UnknownProcess M said M')
      (there P of) acts) [
        | inl takes ↦ (
          _,
          takes.reported.reported,
          ap (λ (N : ModelState). N.system.places) takes.left
              ∙ ap (λ (S : SystemState). set S.places event.pid.0 (place_at S event.pid.0 - 1)) same
              ∙ ap (λ (n : ℕ). set w.state.places event.pid.0 (n - 1)) (sym alone.last) ∙ sym alone.alone,
        )
        | inr keeps ↦ absurd (may_not P w event.pid.0 of (alone.may P of) keeps.refusal
            (subst (λ (S : SystemState). CannotUndo P S event.pid.0 keeps.refusal) same keeps.why))
      ]

  pub undoes : (chosen : UndoCommand) → IsChosen w event left chosen → IsUndoing w event chosen left
  undoes command.Undo alone = record { leaves = taken alone; greatest = greatest }
  undoes (command.Rollback n) is_n =
      record { leaves = subst (λ (k : ℕ). LeavesPlaces w (Rollback event.pid.0 k) left) (sym is_n) rolled; greatest = greatest }
