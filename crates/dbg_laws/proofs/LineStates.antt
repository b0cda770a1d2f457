-- What a change of one process's line and place does to a state and to its history.
use Rattle.std.proofs.Common.{◌≡◌, ◌≢◌, ℕ, zero, suc, ◌+◌, ◌-◌, ◌<◌, ◌≤◌, List, [], ◌∷◌, ◌++◌, length, get_or, set, take, Some, refl, sym}
use Rattle.std.proofs.Common.{ap, ◌∙◌, subst, ⊎_elim, arith}
use Rattle.std.specs.Prelude.{slice_get}
use Rattle.std.proofs.lemmas.Bool.{cases_eq}
use Rattle.std.proofs.lemmas.List.{get_or-set_same, get_or-set_other, length-set, set-get_or, set-set, take_more, take_all}
use Rattle.std.proofs.lemmas.List.{length-take-le, length_push}
use Rattle.std.proofs.lemmas.Option.{get_or_from_slice_get, slice_get_within}
use Rattle.dbg_base.specs.declared.limits.TheConstants.{EVENTS}
use Rattle.dbg_base.specs.Trees.{Program, process_of}
use Rattle.dbg_base.specs.Histories.{History}
use Rattle.dbg_base.specs.Orders.{with_last}
use Rattle.dbg_base.specs.SystemStates.{SystemState, line_of, place_at, cut_lines, history_of, choice_before, last_choice, after_choice}
use Rattle.dbg_base.specs.SystemStates.{after_redo, after_undo, IsStateOf}

-- Histories.

pub length_cut : (lines : List (List ℕ)) (places : List ℕ) → length (cut_lines lines places) ≡ length lines
length_cut [] places = refl
length_cut (line ∷ lines) [] = ap suc (length_cut lines [])
length_cut (line ∷ lines) (n ∷ places) = ap suc (length_cut lines places)

none_taken : (n : ℕ) → ◌≡◌ {A = List ℕ} [] (take n [])
none_taken zero = refl
none_taken (suc n) = refl

pub cut_at : (lines : List (List ℕ)) (places : List ℕ) (p : ℕ)
    → get_or (cut_lines lines places) p [] ≡ take (get_or places p 0) (get_or lines p [])
cut_at [] [] p = refl
cut_at [] (n ∷ places) p = none_taken (get_or (n ∷ places) p 0)
cut_at (line ∷ lines) [] zero = refl
cut_at (line ∷ lines) [] (suc p) = cut_at lines [] p
cut_at (line ∷ lines) (n ∷ places) zero = refl
cut_at (line ∷ lines) (n ∷ places) (suc p) = cut_at lines places p

pub cut_set : (lines : List (List ℕ)) (places : List ℕ) (p : ℕ) (line : List ℕ) (n : ℕ) → p < length places
    → cut_lines (set lines p line) (set places p n) ≡ set (cut_lines lines places) p (take n line)
cut_set lines [] p line n lt = absurd (omega arith)
cut_set [] (m ∷ places) p line n lt = refl
cut_set (l ∷ lines) (m ∷ places) zero line n lt = refl
cut_set (l ∷ lines) (m ∷ places) (suc p) line n lt =
    ap (λ (H : History). take m l ∷ H) (cut_set lines places p line n (omega arith))

-- the state with another line and place of one process
abbrev pub changed : SystemState → ℕ → List ℕ → ℕ → SystemState
changed M p line n = record { lines = set M.lines p line; places = set M.places p n }

-- the choices of a line are those of commands
abbrev pub AreCommands : Program → ℕ → List ℕ → Type 0
AreCommands P p line = (n k : ℕ) → slice_get line n ≡ Some k → k < length (process_of P p).commands

module _ (P : Program) (M : SystemState) (is : IsStateOf P M) (p : ℕ) (here : p < length P) where
  pub has_line : p < length M.lines
  has_line = omega (arith, is.lines)

  pub has_place : p < length M.places
  has_place = omega (arith, is.places)

  pub state_changed : (line : List ℕ) (n : ℕ) → n ≤ length line → length line ≤ EVENTS → AreCommands P p line
      → IsStateOf P (changed M p line n)
  state_changed line n within few commands =
      let M' = changed M p line n in
      let there : (q : ℕ) → q ≡ p → (line_of M' q ≡ line) × (place_at M' q ≡ n) =
      λ q same. (
        ap (line_of M') same ∙ get_or-set_same M.lines p line [] has_line,
        ap (place_at M') same ∙ get_or-set_same M.places p n 0 has_place,
      ) in
      let other : (q : ℕ) → q ≢ p → (line_of M' q ≡ line_of M q) × (place_at M' q ≡ place_at M q) =
      λ q apart. (get_or-set_other M.lines p q line [] apart, get_or-set_other M.places p q n 0 apart) in
      record {
        lines = length-set M.lines p line ∙ is.lines;
        places = length-set M.places p n ∙ is.places;
        within = λ q. ⊎_elim
            (λ (same : q ≡ p). let e = there q same in rw (e.0, e.1) within)
            (λ (apart : q ≢ p). let e = other q apart in rw (e.0, e.1) (is.within q)) (cases_eq q p);
        few = λ q. ⊎_elim
            (λ (same : q ≡ p). let e = there q same in rw e.0 few)
            (λ (apart : q ≢ p). let e = other q apart in rw e.0 (is.few q)) (cases_eq q p);
        commands = λ q m k at. ⊎_elim
            (λ (same : q ≡ p). rw same (commands m k (ap (λ (l : List ℕ). slice_get l m) (sym (there q same).0) ∙ at)))
            (λ (apart : q ≢ p). is.commands q m k (ap (λ (l : List ℕ). slice_get l m) (sym (other q apart).0) ∙ at)) (cases_eq q p);
      }

  pub history_changed : (line : List ℕ) (n : ℕ) → history_of (changed M p line n) ≡ set (history_of M) p (take n line)
  history_changed line n = cut_set M.lines M.places p line n has_place

  -- the choices of process p that remain
  pub events_at : get_or (history_of M) p [] ≡ take (place_at M p) (line_of M p)
  events_at = cut_at M.lines M.places p

  take_here : (line : List ℕ) (n : ℕ) → n ≤ length line → (k : ℕ) → take (n + 1) (take n line ++ k ∷ []) ≡ take n line ++ k ∷ []
  take_here line n within k =
      take_all (n + 1) (take n line ++ k ∷ []) (omega (arith, length_push (take n line) k, length-take-le n line within))

  -- one more choice at the place
  more_is : (line : List ℕ) (k : ℕ) → set (history_of M) p (take (place_at M p) (line_of M p) ++ k ∷ []) ≡ with_last (history_of M) p k
  more_is line k = ap (λ (l : List ℕ). set (history_of M) p (l ++ k ∷ [])) (sym events_at)

  pub history_choice : (k : ℕ) → history_of (after_choice M p k) ≡ with_last (history_of M) p k
  history_choice k =
      history_changed (take (place_at M p) (line_of M p) ++ k ∷ []) (place_at M p + 1)
      ∙ ap (set (history_of M) p) (take_here (line_of M p) (place_at M p) (is.within p) k)
      ∙ more_is [] k

  pub state_choice : (k : ℕ) → k < length (process_of P p).commands → place_at M p < EVENTS → IsStateOf P (after_choice M p k)
  state_choice k command room =
      let line = line_of M p in
      let n = place_at M p in
      let long : length (take n line ++ k ∷ []) ≡ n + 1 =
      length_push (take n line) k ∙ ap (λ (m : ℕ). m + 1) (length-take-le n line (is.within p)) in
      state_changed (take n line ++ k ∷ []) (n + 1) (omega (arith, long)) (omega (arith, long))
      (λ m l at. still (take n line) m l k command (λ o. is.commands p m l (take_get line n m l o)) at)
    where
      take_get : (line : List ℕ) (n m l : ℕ) → slice_get (take n line) m ≡ Some l → slice_get line m ≡ Some l
      take_get line zero m l at = cc
      take_get [] (suc n) m l at = at
      take_get (k ∷ line) (suc n) zero l at = at
      take_get (k ∷ line) (suc n) (suc m) l at = take_get line n m l at

      still : (line : List ℕ) (m l k : ℕ) → k < length (process_of P p).commands
          → (slice_get line m ≡ Some l → l < length (process_of P p).commands) → slice_get (line ++ k ∷ []) m ≡ Some l
          → l < length (process_of P p).commands
      still [] zero l k lt f at = let e : k ≡ l = cc in rw (sym e) lt
      still [] (suc m) l k lt f at = cc
      still (j ∷ line) zero l k lt f at = f at
      still (j ∷ line) (suc m) l k lt f at = still line m l k lt f at

  -- the line stays
  pub same_line : (n : ℕ) → record { lines = M.lines; places = set M.places p n } ≡ changed M p (line_of M p) n
  same_line n = ap (λ (lines : List (List ℕ)). record { lines = lines; places = set M.places p n }) (sym (set-get_or M.lines p []))

  pub history_redo : (k : ℕ) → slice_get (line_of M p) (place_at M p) ≡ Some k → history_of (after_redo M p) ≡ with_last (history_of M) p k
  history_redo k at =
      let line = line_of M p in
      let n = place_at M p in
      let lt : n < length line = slice_get_within line n k at in
      ap history_of (same_line (n + 1)) ∙ history_changed line (n + 1)
      ∙ ap (set (history_of M) p) (take_more line n 0 lt ∙ ap (λ (j : ℕ). take n line ++ j ∷ []) (get_or_from_slice_get line n k 0 at))
      ∙ more_is [] k

  pub state_redo : (k : ℕ) → slice_get (line_of M p) (place_at M p) ≡ Some k → IsStateOf P (after_redo M p)
  state_redo k at =
      let line = line_of M p in
      let lt : place_at M p < length line = slice_get_within line (place_at M p) k at in
      subst (IsStateOf P) (sym (same_line (place_at M p + 1)))
      (state_changed line (place_at M p + 1) (omega (arith, lt)) (is.few p) (is.commands p))

  pub state_undo : IsStateOf P (after_undo M p)
  state_undo =
      subst (IsStateOf P) (sym (same_line (place_at M p - 1)))
      (state_changed (line_of M p) (place_at M p - 1) (omega (arith, is.within p)) (is.few p) (is.commands p))

  last_at : (n : ℕ) (line : List ℕ) (k : ℕ) → choice_before n line ≡ Some k → (0 < n) × (slice_get line (n - 1) ≡ Some k)
  last_at zero line k at = cc
  last_at (suc n) line k at = (omega arith, let e : suc n - 1 ≡ n = omega arith in ap (slice_get line) e ∙ at)

  -- the history is the one before the last event of process p, and the choice of that event
  pub history_undo : (k : ℕ) → last_choice M p ≡ Some k → history_of M ≡ with_last (history_of (after_undo M p)) p k
  history_undo k at =
      let line = line_of M p in
      let n = place_at M p in
      let last = last_at n line k at in
      let H = history_of M in
      let some : 0 < n = last.0 in
      let lt : n - 1 < length line = slice_get_within line (n - 1) k last.1 in
      let before : history_of (after_undo M p) ≡ set H p (take (n - 1) line) =
      ap history_of (same_line (n - 1)) ∙ history_changed line (n - 1) in
      let there : p < length H = omega (arith, length_cut M.lines M.places, has_line) in
      let whole : take n line ≡ take (n - 1) line ++ k ∷ [] =
      ap (λ (m : ℕ). take m line) (let e : n ≡ n - 1 + 1 = omega arith in e) ∙ take_more line (n - 1) 0 lt
      ∙ ap (λ (j : ℕ). take (n - 1) line ++ j ∷ []) (get_or_from_slice_get line (n - 1) k 0 last.1) in
      sym (set-get_or H p []) ∙ ap (set H p) (events_at ∙ whole)
      ∙ sym (set-set H p (take (n - 1) line) (take (n - 1) line ++ k ∷ []))
      ∙ ap (λ (l : List ℕ). set (set H p (take (n - 1) line)) p (l ++ k ∷ [])) (sym (get_or-set_same H p (take (n - 1) line) [] there))
      ∙ ap (λ (F : History). with_last F p k) (sym before)
