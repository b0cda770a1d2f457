-- Histories that are prefixes of others: those after undos.
use Rattle.std.proofs.Common.{◌≡◌, ◌≢◌, ℕ, ◌-◌, ◌<◌, ◌≤◌, List, [], ◌∷◌, length, get_or, set, take, refl, sym, ap, ◌∙◌, subst, ⊎_elim, arith}
use Rattle.std.proofs.Math.Seq.{take-length}
use Rattle.std.proofs.lemmas.Bool.{cases_eq, cases_lt}
use Rattle.std.proofs.lemmas.List.{get_or-set_same, get_or-set_other, set_past, length-take-le, length-take, take-take}
use Rattle.dbg_base.specs.Trees.{Program}
use Rattle.dbg_base.specs.Histories.{History}
use Rattle.dbg_base.specs.SystemStates.{SystemState, line_of, place_at, history_of, after_undo, after_rollback}
use Rattle.causal_world.specs.declared.rolled.Taken.{Taken}
use Rattle.causal_world.specs.Scenes.{Scene, IsWorldOf, unmade}
use Rattle.causal_world.specs.Rollings.{unmade_all, AreTakenBack, IsRolledFrom}
use Rattle.dbg_laws.proofs.LineStates.{length_cut, cut_at}
use Rattle.least_cut.specs.Detectors.{Begins}

module _ (M : SystemState) (fits : (q : ℕ) → place_at M q ≤ length (line_of M q)) where
  -- all went back to places that are at most their own
  pub begins_rollback : (cut : List ℕ) → ((q : ℕ) → get_or cut q 0 ≤ place_at M q)
      → Begins (history_of (after_rollback M cut)) (history_of M)
  begins_rollback cut within = (
    length_cut M.lines cut ∙ sym (length_cut M.lines M.places),
    λ q.
        let m = get_or cut q 0 in
        let few : m ≤ length (line_of M q) = let most = within q in let there = fits q in omega (arith, most, there) in
        let new = cut_at M.lines cut q in
        let size : length (get_or (history_of (after_rollback M cut)) q []) ≡ m =
        ap (λ (l : List ℕ). length l) new ∙ length-take-le m (line_of M q) few in
        ap (λ (n : ℕ). take n (get_or (history_of M) q [])) size
        ∙ ap (take m) (cut_at M.lines M.places q)
        ∙ take-take m (place_at M q) (line_of M q) (within q) ∙ sym new,
  )

  -- a process undid its last event
  pub begins_undo : (p : ℕ) → Begins (history_of (after_undo M p)) (history_of M)
  begins_undo p = begins_rollback (set M.places p n) within
    where
      n : ℕ
      n = place_at M p - 1

      within : (q : ℕ) → get_or (set M.places p n) q 0 ≤ place_at M q
      within q =
          ⊎_elim
          (λ (same : p ≡ q).
          ⊎_elim
          (λ (here : p < length M.places).
          let now : get_or (set M.places p n) q 0 ≡ n =
          ap (λ (r : ℕ). get_or (set M.places p n) r 0) (sym same) ∙ get_or-set_same M.places p n 0 here in
          omega (arith, now, ap (place_at M) same))
          (λ (past : length M.places ≤ p). omega (arith, ap (λ (l : List ℕ). get_or l q 0) (set_past M.places p n past)))
          (cases_lt p (length M.places)))
          (λ (apart : p ≢ q). omega (arith, get_or-set_other M.places p q n 0 (λ e. apart (sym e))))
          (cases_eq p q)

-- a prefix of a prefix
begins_through : (A B C : History) → Begins A B → Begins B C → Begins A C
begins_through A B C first second = (
  first.0 ∙ second.0,
  λ q.
      let a = get_or A q [] in
      let b = get_or B q [] in
      let few : length a ≤ length b =
      omega (arith, ap (λ (l : List ℕ). length l) (first.1 q), length-take (length a) b) in
      sym (take-take (length a) (length b) (get_or C q []) few) ∙ ap (take (length a)) (second.1 q) ∙ first.1 q,
)

begins_left : (P : Program) (w : Scene) (taken : List Taken) → IsWorldOf P w → AreTakenBack P w taken
    → Begins (history_of (unmade_all w taken).state) (history_of w.state)
begins_left P w [] of took = (refl, λ q. take-length (get_or (history_of w.state) q []))
begins_left P w (taken ∷ others) of took =
    begins_through _ _ _ (begins_left P (unmade w taken.pid.0 taken.event) others took.1 took.2)
    (begins_undo w.state of.state.within taken.pid.0)

-- these events were undone, one after the other
pub begins_rolled : (P : Program) (before w : Scene) (taken : List Taken) → IsRolledFrom P before taken w
    → Begins (history_of w.state) (history_of before.state)
begins_rolled P before w taken from =
    subst (λ (v : Scene). Begins (history_of v.state) (history_of before.state)) (sym from.is) (begins_left P before taken from.of from.took)
