-- One more event of a process, with which a mark begins or not.
use Rattle.std.proofs.Common.{◌≡◌, ℕ, ◌+◌, Bool, true, false, List, [], ◌++◌, ◌∷◌, sym, subst, arith, inl, inr}
use Rattle.std.specs.List.{Contains}
use Rattle.std.proofs.lemmas.Bool.{cases_eq}
use Rattle.std.proofs.lemmas.List.Elements.{Contains-push, Contains-push_cases, Contains-append_left}
use Rattle.event_rows.specs.EventValues.{EventValue}
use Rattle.ui_halt.specs.Marks.{begins, AreStarts}

module _ (events : List EventValue) (truths : List Bool) where
  pub no_starts : AreStarts events truths 0 []
  no_starts number = (
    λ is. absurd (let less = is.1 in omega (arith, less)),
    λ these. absurd (let a = these.0 in let b = these.1 in omega (arith, a, b)),
  )

  pub one_starts : (count : ℕ) (starts : List ℕ) → begins events truths (count + 1) ≡ true → AreStarts events truths count starts
      → AreStarts events truths (count + 1) (starts ++ (count + 1) ∷ [])
  one_starts count starts here are number = (
    λ is. elim (Contains-push_cases starts (count + 1) number is) [
      | inl old ↦ (let these = (are number).0 old in let most = these.1 in (these.0, omega (arith, most), these.2))
      | inr same ↦ (omega (arith, same), omega (arith, same), subst (λ (n : ℕ). begins events truths n ≡ true) same here)
    ],
    λ these. elim (cases_eq number (count + 1)) [
      | inl same ↦ subst (Contains (starts ++ (count + 1) ∷ [])) (sym same) (Contains-push starts (count + 1))
      | inr apart ↦
          let most = these.1 in
          Contains-append_left starts ((count + 1) ∷ []) number ((are number).1 (these.0, omega (arith, most, apart), these.2))
    ],
  )

  pub none_starts : (count : ℕ) (starts : List ℕ) → begins events truths (count + 1) ≡ false → AreStarts events truths count starts
      → AreStarts events truths (count + 1) starts
  none_starts count starts here are number = (
    λ is. (let these = (are number).0 is in let most = these.1 in (these.0, omega (arith, most), these.2)),
    λ these. elim (cases_eq number (count + 1)) [
      | inl same ↦
          (let no : begins events truths number ≡ false = subst (λ (n : ℕ). begins events truths n ≡ false) (sym same) here in
          let yes = these.2 in absurd cc)
      | inr apart ↦ (let most = these.1 in (are number).1 (these.0, omega (arith, most, apart), these.2))
    ],
  )
