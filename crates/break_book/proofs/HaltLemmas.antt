-- Which breakpoint halts the session.
use Rattle.std.proofs.Common.{◌≡◌, ℕ, suc, ◌+◌, ◌-◌, ◌<◌, ◌≤◌, Bool, true, false, not, cond, List, [], ◌∷◌, length, get_or, map}
use Rattle.std.proofs.Common.{Option, Some, None, refl, sym, ap, ◌∙◌, subst, inl, inr, ⊎_elim, arith}
use Rattle.std.specs.Prelude.{◌⊎◌, ◌&&◌, slice_get, if◌then◌else◌}
use Rattle.std.specs.Bool.{MatchBool}
use Rattle.std.specs.Option.{option_map}
use Rattle.std.proofs.lemmas.Bool.{cases_lt}
use Rattle.std.proofs.lemmas.List.{length-map, get_or-map}
use Rattle.std.proofs.lemmas.List.Sums.{position_or_len_is}
use Rattle.std.proofs.lemmas.Option.{slice_get-map, slice_get_cases}
use Rattle.dbg_base.specs.Trees.{Program}
use Rattle.dbg_base.specs.Histories.{History}
use Rattle.dbg_base.specs.Predicates.{IsLeast, NoCut}
use Rattle.dbg_base.specs.Breakpoints.{Breakpoint, HasCut, IsHaltedBy, HaltsAt}
use Rattle.dbg_base.specs.SystemStates.{history_of}
use Rattle.causal_world.specs.Scenes.{Scene, IsWorldOf}
use Rattle.least_cut.specs.Detectors.{DetectorState, conjuncts_of, lines_of, has_cut_in, IsDetectorOf}
use Rattle.least_cut.proofs.DetectorResultLemmas.{reported_cut}
use Rattle.break_book.specs.Books.{Kept, Entry, Shown, shown_in, shown_of, breakpoint_of, breakpoints_of, AreDetectorsOf}
use Rattle.break_book.specs.Books.{TellsWhether, Halts, HaltsNot, halts_in, halts_shown, first_halt}
use Rattle.break_book.proofs.BookLoopLemmas.{there}

match_true : (b : Bool) (A B : Type 0) → b ≡ true → A → MatchBool b A B
match_true true A B e a = a
match_true false A B e a = cc

match_false : (b : Bool) (A B : Type 0) → b ≡ false → B → MatchBool b A B
match_false true A B e a = cc
match_false false A B e a = a

match_both : (b : Bool) (A B : Type 0) → A → B → MatchBool b A B
match_both true A B x y = x
match_both false A B x y = y

-- a detector of a world tells whether there is a cut
pub tells_cut : (P : Program) (w : Scene) (of : IsWorldOf P w) (d : DetectorState) → IsDetectorOf w d
    → TellsWhether P (history_of w.state) (conjuncts_of d) (has_cut_in d.candidates (lines_of d))
tells_cut P w of d is = by (has_cut_in d.candidates (lines_of d)) (reported_cut P w of d is)
  where
    by : (has : Bool)
        → MatchBool has (IsLeast P (history_of w.state) (conjuncts_of d) d.candidates) (NoCut P (history_of w.state) (conjuncts_of d))
        → TellsWhether P (history_of w.state) (conjuncts_of d) has
    by true least = (d.candidates, least)
    by false none = none

module _ (P : Program) (H : History) (kept : Kept) where
  -- an armed breakpoint halts if it has a cut
  pub halts_by : (has : Bool) → kept.armed ≡ true → TellsWhether P H (conjuncts_of kept.detector) has
      → MatchBool has (Halts P H kept) (HaltsNot P H kept)
  halts_by true armed cut = (armed, cut.0, cut.1)
  halts_by false armed none = inr none

  pub halts_here : (name : List ℕ) (rest : List Breakpoint) → Halts P H kept
      → IsHaltedBy P H (breakpoint_of (name, kept) ∷ rest) (Some name)
  halts_here name rest halts =
      let b = breakpoint_of (name, kept) in
      match_true kept.armed ((HasCut P H b × (Some name ≡ Some name)) ⊎ (NoCut P H b.conjuncts × IsHaltedBy P H rest (Some name)))
      (IsHaltedBy P H rest (Some name)) halts.0 (inl ((halts.1, halts.2), refl))

  pub halts_after : (name : List ℕ) (rest : List Breakpoint) (halted : Option (List ℕ)) → HaltsNot P H kept → IsHaltedBy P H rest halted
      → IsHaltedBy P H (breakpoint_of (name, kept) ∷ rest) halted
  halts_after name rest halted halts_not later =
      let b = breakpoint_of (name, kept) in
      let here : Type 0 = (HasCut P H b × (halted ≡ Some name)) ⊎ (NoCut P H b.conjuncts × IsHaltedBy P H rest halted) in
      ⊎_elim (λ (off : kept.armed ≡ false). match_false kept.armed here (IsHaltedBy P H rest halted) off later)
      (λ (none : NoCut P H b.conjuncts). match_both kept.armed here (IsHaltedBy P H rest halted) (inr (none, later)) later)
      halts_not

-- an entry at a position from 0 is a breakpoint at the next position, from 1
pub is_there : (book : List Entry) (i : ℕ) (kept : Entry) → slice_get book i ≡ Some kept
    → slice_get (breakpoints_of book) (i + 1 - 1) ≡ Some (breakpoint_of kept)
is_there book i kept is =
    let place : i + 1 - 1 ≡ i = omega arith in
    ap (λ (k : ℕ). slice_get (breakpoints_of book) k) place ∙ slice_get-map breakpoint_of book i
    ∙ ap (λ (o : Option Entry). option_map breakpoint_of o) is

-- The breakpoint at the position that a book keeps halts the session.
module _ (P : Program) (w : Scene) (of : IsWorldOf P w) where
  abbrev H : History
  H = history_of w.state

  halts_or_not : (kept : Kept) → IsDetectorOf w kept.detector → MatchBool (halts_in kept) (Halts P H kept) (HaltsNot P H kept)
  halts_or_not kept is = by kept.armed refl
    where
      has : Bool
      has = has_cut_in kept.detector.candidates (lines_of kept.detector)

      by : (armed : Bool) → kept.armed ≡ armed → MatchBool (armed && has) (Halts P H kept) (HaltsNot P H kept)
      by true e = halts_by P H kept has e (tells_cut P w of kept.detector is)
      by false e = inl e

  pub halted_at : (book : List Entry) (found : Option Entry) → AreDetectorsOf w book → slice_get book (first_halt book) ≡ found
      → IsHaltedBy P H (breakpoints_of book) (option_map (λ entry. entry.0) found)
  halted_at [] found are is = ap (option_map (λ (entry : Entry). entry.0)) (sym is)
  halted_at (entry ∷ book) found are is =
      by (halts_in entry.1) (halts_or_not entry.1 are.0) is (λ later. halted_at book found are.1 later)
    where
      halted : Option (List ℕ)
      halted = option_map (λ (e : Entry). e.0) found

      by : (halts : Bool) → MatchBool halts (Halts P H entry.1) (HaltsNot P H entry.1)
          → slice_get (entry ∷ book) (cond (not halts) (1 + first_halt book) 0) ≡ found
          → (slice_get book (first_halt book) ≡ found → IsHaltedBy P H (breakpoints_of book) halted)
          → IsHaltedBy P H (breakpoint_of entry ∷ breakpoints_of book) halted
      by true halts at rest =
          subst (λ (o : Option Entry). IsHaltedBy P H (breakpoint_of entry ∷ breakpoints_of book) (option_map (λ e. e.0) o)) at
          (halts_here P H entry.1 entry.0 (breakpoints_of book) halts)
      by false halts_not at rest =
          let next : suc (first_halt book) ≡ 1 + first_halt book = omega arith in
          halts_after P H entry.1 entry.0 (breakpoints_of book) halted halts_not (rest (ap (slice_get (entry ∷ book)) next ∙ at))

  -- its place, from 1, or 0 if there is none
  pub halt_placed : (book : List Entry) (i place : ℕ) → AreDetectorsOf w book → i ≡ first_halt book
      → (i < length book → place ≡ i + 1) → (length book ≤ i → place ≡ 0) → HaltsAt P H (breakpoints_of book) place
  halt_placed book i place are first here past =
      ⊎_elim
      (λ (there : (entry : Entry) × (i < length book) × (slice_get book i ≡ Some entry) × (get_or book i entry ≡ entry)).
      let at : place ≡ i + 1 = here there.1 in
      record {
        halted = Some there.0.0;
        is = halted_at book (Some there.0) are (ap (slice_get book) (sym first) ∙ there.2);
        at = (
          omega (arith, at),
          breakpoint_of there.0,
          ap (λ (k : ℕ). slice_get (breakpoints_of book) (k - 1)) at ∙ is_there book i there.0 there.2,
          refl,
        );
      })
      (λ (none : (length book ≤ i) × (slice_get book i ≡ None)). record {
        halted = None;
        is = halted_at book None are (ap (slice_get book) (sym first) ∙ none.1);
        at = past none.0;
      })
      (slice_get_cases book i).1

-- The search for that position.

-- no breakpoint before this position is armed and has a cut
abbrev pub NoneBefore : List Entry → ℕ → Type 0
NoneBefore book i = (k : ℕ) (d : Shown) → k < i → halts_shown (get_or (shown_of book) k d) ≡ false

module _ (book : List Entry) (i : ℕ) (kept : Kept) (is : slice_get (map (λ (entry : Entry). entry.1) book) i ≡ Some kept)
    (before : NoneBefore book i) where
  at_there : (d : Shown) → halts_shown (get_or (shown_of book) i d) ≡ halts_in kept
  at_there d =
      let here = there book i kept is in
      ap halts_shown (get_or-map shown_in book i (here.name, kept) d here.within) ∙ ap (λ (entry : Entry). halts_in entry.1) (sym here.is)

  pub first_here : halts_in kept ≡ true → i ≡ first_halt book
  first_here halts =
      let here = there book i kept is in
      let within = here.within in
      sym (position_or_len_is halts_shown (shown_of book) i (shown_in (here.name, kept)) (omega (arith, within, length-map book shown_in))
      (λ k lt. before k (shown_in (here.name, kept)) lt) (λ lt. at_there (shown_in (here.name, kept)) ∙ halts))

  pub none_more : halts_in kept ≡ false → NoneBefore book (i + 1)
  none_more fails = λ k d lt.
      ⊎_elim (λ (less : k < i). before k d less)
      (λ (past : i ≤ k).
      let same : i ≡ k = omega (arith, past, lt) in
      subst (λ (x : ℕ). halts_shown (get_or (shown_of book) x d) ≡ false) same (at_there d ∙ fails))
      (cases_lt k i)

pub none_halts : (book : List Entry) (i : ℕ) → NoneBefore book i → length book ≤ i → length book ≡ first_halt book
none_halts book i before all =
    let none : Shown = record { name = []; armed = false; conjuncts = []; lines = []; candidates = []; trail = [] } in
    let size = length-map book shown_in in
    sym (position_or_len_is halts_shown (shown_of book) (length book) none (omega (arith, size))
    (λ k lt. before k none (omega (arith, lt, all))) (λ lt. absurd (omega (arith, lt, size))))
