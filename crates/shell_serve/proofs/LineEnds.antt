-- The next line of the input.
use Rattle.std.proofs.Common.{◌≡◌, ℕ, suc, ◌+◌, ◌-◌, ◌<◌, ◌≤◌, Bool, true, false, not, cond, eqb, List, [], ◌∷◌, ◌++◌, length, get_or, take}
use Rattle.std.proofs.Common.{drop, refl, sym, ap, ◌∙◌, subst, inl, inr, append_assoc, add-one, one-add, arith}
use Rattle.std.specs.Prelude.{slice_range, nat_lt}
use Rattle.std.specs.List.{prefix_len}
use Rattle.std.proofs.lemmas.Bool.Decides.{nat_tests}
use Rattle.std.proofs.lemmas.Bool.{eqb-true, and_from, not-true, not-false}
use Rattle.std.proofs.lemmas.List.{append-nil, drop-append-le, take-append-le, length-append, length-take, length-drop, drop-drop, drop_all}
use Rattle.std.proofs.lemmas.List.{take-take, take_all, get_or-take, get_or-drop}
use Rattle.std.proofs.lemmas.List.Folds.{list_all-append, drop_split}
use Rattle.std.proofs.lemmas.List.Sums.{prefix_len_stops, prefix_len-le-length}
use Rattle.std.proofs.Math.Seq.{drop-cons, take-add}
use Rattle.dbg_base.specs.declared.limits.TheConstants.{INPUT_BYTES}
use Rattle.dbg_base.specs.Shell.{lines_of, with_prefix, lines_within, all_lines, last_line}
use Rattle.shell_serve.specs.declared.framing.Next.{Next}
use Rattle.shell_serve.specs.declared.framing.Next.TheVariants.{Line, TooLong}
use Rattle.shell_serve.specs.Spans.{is_inside, is_unended, lines_from, Tells, TellsAny}
use Rattle.proc_lang.proofs.PassingPrefixLemmas.{and_first, and_second, prefix_passes}

-- the first line is what is before the first line end
first_line_of : (w r : List ℕ) → is_unended w ≡ true
    → lines_of (w ++ 10 ∷ r) ≡ record { whole = w ∷ (lines_of r).whole; rest = (lines_of r).rest }
first_line_of [] r h = refl
first_line_of (b ∷ w) r h =
    let prefix : not (eqb b 10) ≡ true = and_first (is_inside b) (is_unended w) h in
    let inner : eqb b 10 ≡ false = not-true (eqb b 10) prefix in
    ap (with_prefix b) (first_line_of w r (and_second (is_inside b) (is_unended w) h)) ∙ rw inner refl

-- without a line end there is no whole line
pub no_line_of : (w : List ℕ) → is_unended w ≡ true → lines_of w ≡ record { whole = []; rest = w }
no_line_of [] h = refl
no_line_of (b ∷ w) h =
    let prefix : not (eqb b 10) ≡ true = and_first (is_inside b) (is_unended w) h in
    let inner : eqb b 10 ≡ false = not-true (eqb b 10) prefix in
    ap (with_prefix b) (no_line_of w (and_second (is_inside b) (is_unended w) h)) ∙ rw inner refl

take_line : (w r : List ℕ) (k : ℕ) → take (length w + 1 + k) (w ++ 10 ∷ r) ≡ w ++ 10 ∷ take k r
take_line [] r k = rw (one-add k) refl
take_line (b ∷ w) r k =
    let longer : length (b ∷ w) + 1 + k ≡ suc (length w + 1 + k) = omega arith in
    rw longer (ap (λ rest. b ∷ rest) (take_line w r k))

within_by : (w r : List ℕ) (k : ℕ) (t : Bool) → nat_lt k (length r) ≡ t → is_unended w ≡ true
    → cond t (lines_of (take (length w + 1 + k) (w ++ 10 ∷ r))).whole (all_lines (lines_of (w ++ 10 ∷ r)))
    ≡ w ∷ cond t (lines_of (take k r)).whole (all_lines (lines_of r))
within_by w r k true e h = ap (λ bytes. (lines_of bytes).whole) (take_line w r k) ∙ ap (λ lines. lines.whole) (first_line_of w (take k r) h)
within_by w r k false e h = ap all_lines (first_line_of w r h)

-- the next line, if it ends within the limit
next_line_is : (w r : List ℕ) (k limit : ℕ) → limit ≡ length w + 1 + k → is_unended w ≡ true
    → lines_within limit (w ++ 10 ∷ r) ≡ w ∷ lines_within k r
next_line_is w r k limit e h =
    let long : length (w ++ 10 ∷ r) ≡ length w + 1 + length r = length-append w (10 ∷ r) ∙ omega arith in
    let test : nat_lt limit (length (w ++ 10 ∷ r)) ≡ nat_lt k (length r) = grind (arith, nat_tests) in
    ap (λ t. cond t (lines_of (take limit (w ++ 10 ∷ r))).whole (all_lines (lines_of (w ++ 10 ∷ r)))) test
    ∙ ap (λ n. cond (nat_lt k (length r)) (lines_of (take n (w ++ 10 ∷ r))).whole (all_lines (lines_of (w ++ 10 ∷ r)))) e
    ∙ within_by w r k (nat_lt k (length r)) refl h

-- the lines that are left if no line end is left within the limit
no_line_within : (bytes : List ℕ) (limit : ℕ) → limit < length bytes → is_unended (take limit bytes) ≡ true → lines_within limit bytes ≡ []
no_line_within bytes limit lt h =
    let test : nat_lt limit (length bytes) ≡ true = grind (arith, nat_tests) in
    rw test (ap (λ lines. lines.whole) (no_line_of (take limit bytes) h))

-- bytes without a line end are the last line, if there are any
last_line_is : (bytes : List ℕ) (limit : ℕ) → length bytes ≤ limit → is_unended bytes ≡ true → lines_within limit bytes ≡ last_line bytes
last_line_is bytes limit le h =
    let test : nat_lt limit (length bytes) ≡ false = grind (arith, nat_tests) in
    rw test (ap all_lines (no_line_of bytes h))

some_last_line : (bytes : List ℕ) → 0 < length bytes → last_line bytes ≡ bytes ∷ []
some_last_line [] some = absurd (omega arith)
some_last_line (b ∷ bytes) some = refl

-- the result for each possible input
any_input : (bytes : List ℕ) (ended : Bool) (at new : ℕ) (next : Next)
    → ((rest : List ℕ) → (ended ≡ true → rest ≡ []) → Tells (bytes ++ rest) bytes at new next)
    → TellsAny bytes ended at new next
any_input bytes ended at new next reported input may = subst (λ (t : List ℕ). Tells t bytes at new next) (sym may.1) (reported may.0 may.2)

module _ (bytes : List ℕ) (at seen limit : ℕ) (begun : at ≤ seen) (read : seen ≤ limit) (held : limit ≤ length bytes)
    (within : limit ≤ INPUT_BYTES)
    (so_far : is_unended (slice_range bytes at seen) ≡ true) where
  -- the bytes that were searched now have no line end either
  pub seen_on : (n : ℕ) → n ≤ limit - seen → is_unended (take n (slice_range bytes seen limit)) ≡ true
      → is_unended (slice_range bytes at (seen + n)) ≡ true
  seen_on n le h =
      let s : ℕ = seen - at in
      let from : List ℕ = drop at bytes in
      let longer : slice_range bytes at (seen + n) ≡ take (s + n) from = ap (λ (m : ℕ). take m from) (omega arith) in
      let there : drop s from ≡ drop seen bytes = drop-drop s at bytes ∙ ap (λ (m : ℕ). drop m bytes) (omega arith) in
      let inner : take n (slice_range bytes seen limit) ≡ take n (drop s from) = take-take n (limit - seen) (drop seen bytes) le
      ∙ ap (take n) (sym there) in
      ap is_unended (longer ∙ take-add s n from)
      ∙ list_all-append is_inside (take s from) (take n (drop s from))
      ∙ and_from (is_unended (take s from)) (is_unended (take n (drop s from))) so_far (ap is_unended (sym inner) ∙ h)

  part_length : length (slice_range bytes seen limit) ≡ limit - seen
  part_length = simp (length-take, length-drop) (omega arith)

  -- all bytes that were searched have no line end
  pub seen_all : limit - seen ≤ prefix_len is_inside (slice_range bytes seen limit) → is_unended (slice_range bytes at limit) ≡ true
  seen_all ge =
      let part : List ℕ = slice_range bytes seen limit in
      let n : ℕ = prefix_len is_inside part in
      let same : n ≡ limit - seen = omega (arith, ge, prefix_len-le-length is_inside part, part_length) in
      let end : seen + n ≡ limit = omega (arith, same) in
      ap (λ (e : ℕ). is_unended (slice_range bytes at e)) (sym end) ∙ seen_on n (omega (arith, same)) (prefix_passes is_inside part)

  pub run_within : prefix_len is_inside (slice_range bytes seen limit) ≤ limit - seen
  run_within = omega (arith, prefix_len-le-length is_inside (slice_range bytes seen limit), part_length)

  -- there is a line end where the run of other bytes ends
  is_there : (n : ℕ) → n ≡ prefix_len is_inside (slice_range bytes seen limit) → seen + n < limit
      → drop (seen + n) bytes ≡ 10 ∷ drop (seen + n + 1) bytes
  is_there n e lt =
      let part : List ℕ = slice_range bytes seen limit in
      let inside : prefix_len is_inside part < length part = omega (arith, part_length, e) in
      let stops : not (eqb (get_or part n 0) 10) ≡ false = ap (λ (m : ℕ). is_inside (get_or part m 0)) e
      ∙ prefix_len_stops is_inside part 0 inside in
      let byte : get_or part n 0 ≡ 10 = eqb-true (get_or part n 0) 10 (not-false (eqb (get_or part n 0) 10) stops) in
      let there : get_or part n 0 ≡ get_or bytes (seen + n) 0 = get_or-take (limit - seen) (drop seen bytes) n 0 (omega arith)
      ∙ get_or-drop seen bytes n 0 in
      drop-cons bytes (seen + n) 0 (omega arith)
      ∙ ap (λ (b : ℕ). b ∷ drop (suc (seen + n)) bytes) (sym there ∙ byte)
      ∙ ap (λ (m : ℕ). 10 ∷ drop m bytes) (sym (add-one (seen + n)))

  -- the line that ends there
  pub line_found : (n : ℕ) → n ≡ prefix_len is_inside (slice_range bytes seen limit) → seen + n < limit → (ended : Bool)
      → TellsAny bytes ended at (seen + n + 1) (Line (record { from = at; to = seen + n }))
  line_found n e lt ended =
      any_input bytes ended at (seen + n + 1) (Line (record { from = at; to = seen + n })) (λ rest h.
      let end : ℕ = seen + n in
      let line : List ℕ = slice_range bytes at end in
      let beyond : List ℕ = drop (end + 1) bytes in
      let run : is_unended line ≡ true = seen_on n (omega arith)
      (ap (λ (m : ℕ). is_unended (take m (slice_range bytes seen limit))) e ∙ prefix_passes is_inside (slice_range bytes seen limit)) in
      let cut : drop at (bytes ++ rest) ≡ line ++ 10 ∷ (beyond ++ rest) =
      drop-append-le at bytes rest (omega arith)
      ∙ ap (λ (t : List ℕ). t ++ rest) (drop_split bytes at end (omega arith) ∙ ap (λ (t : List ℕ). line ++ t) (is_there n e lt))
      ∙ append_assoc line (10 ∷ beyond) rest in
      let left : drop (end + 1) (bytes ++ rest) ≡ beyond ++ rest = drop-append-le (end + 1) bytes rest (omega arith) in
      let long : length line ≡ end - at = simp (length-take, length-drop) (omega arith) in
      let room : INPUT_BYTES - at ≡ length line + 1 + (INPUT_BYTES - (end + 1)) = omega (arith, long) in
      let taken : end + 1 - at ≡ length line + 1 + 0 = omega (arith, long) in (
        ap (lines_within (INPUT_BYTES - at)) cut ∙ next_line_is line (beyond ++ rest) (INPUT_BYTES - (end + 1)) (INPUT_BYTES - at) room run
            ∙ ap (λ (t : List ℕ). line ∷ lines_within (INPUT_BYTES - (end + 1)) t) (sym left),
        refl,
        omega arith,
        omega arith,
        inl (ap (λ (n : ℕ). take n (drop at (bytes ++ rest))) taken ∙ ap (take (length line + 1 + 0)) cut
            ∙ take_line line (beyond ++ rest) 0),
      ))

module _ (bytes : List ℕ) (at : ℕ) (begun : at ≤ length bytes) where
  -- there are more bytes than the limit, and no line end within the limit
  pub too_long_found : INPUT_BYTES < length bytes → at ≤ INPUT_BYTES → is_unended (slice_range bytes at INPUT_BYTES) ≡ true
      → (ended : Bool) → TellsAny bytes ended at at TooLong
  too_long_found long le run ended =
      any_input bytes ended at at TooLong (λ rest h.
      let from : drop at (bytes ++ rest) ≡ drop at bytes ++ rest = drop-append-le at bytes rest begun in
      let prefix : take (INPUT_BYTES - at) (drop at bytes ++ rest) ≡ take (INPUT_BYTES - at) (drop at bytes) = take-append-le
      (INPUT_BYTES - at) (drop at bytes) rest (simp length-drop (omega arith)) in
      let more : INPUT_BYTES - at < length (drop at bytes ++ rest) = simp (length-append, length-drop) (omega arith) in
      let all : INPUT_BYTES < length (bytes ++ rest) = simp length-append (omega arith) in (
        ap (lines_within (INPUT_BYTES - at)) from
            ∙ no_line_within (drop at bytes ++ rest) (INPUT_BYTES - at) more (ap is_unended prefix ∙ run),
        grind (arith, nat_tests),
      ))

  -- the last line has no line end
  pub last_found : length bytes ≤ INPUT_BYTES → at < length bytes → is_unended (slice_range bytes at (length bytes)) ≡ true
      → (ended : Bool) → ended ≡ true
      → TellsAny bytes ended at (length bytes) (Line (record { from = at; to = length bytes }))
  last_found few lt run ended over =
      any_input bytes ended at (length bytes) (Line (record { from = at; to = length bytes })) (λ rest h.
      let none : rest ≡ [] = h over in
      let all : bytes ++ rest ≡ bytes = ap (λ (t : List ℕ). bytes ++ t) none ∙ append-nil bytes in
      let line : List ℕ = slice_range bytes at (length bytes) in
      let long : length (drop at bytes) ≡ length bytes - at = simp length-drop refl in
      let whole : drop at bytes ≡ line = sym (take_all (length bytes - at) (drop at bytes) (omega (arith, long))) in
      let first : lines_from at (bytes ++ rest) ≡ line ∷ [] =
      ap (λ (t : List ℕ). lines_within (INPUT_BYTES - at) (drop at t)) all
      ∙ last_line_is (drop at bytes) (INPUT_BYTES - at) (omega (arith, long)) (ap is_unended whole ∙ run)
      ∙ some_last_line (drop at bytes) (omega (arith, long)) ∙ ap (λ (t : List ℕ). t ∷ []) whole in
      let nothing : lines_from (length bytes) (bytes ++ rest) ≡ [] =
      ap (λ (t : List ℕ). lines_within (INPUT_BYTES - length bytes) (drop (length bytes) t)) all
      ∙ ap (lines_within (INPUT_BYTES - length bytes)) (drop_all (length bytes) bytes (omega arith))
      ∙ last_line_is [] (INPUT_BYTES - length bytes) (omega arith) refl in
      (first ∙ ap (λ (lines : List (List ℕ)). line ∷ lines) (sym nothing), refl, omega arith, omega arith, inr nothing))

-- the same line, with equal values
pub line_reported : (bytes others : List ℕ) (ended : Bool) (at from end to new place : ℕ) → others ≡ bytes → from ≡ at → to ≡ end → place ≡ new
    → TellsAny bytes ended at new (Line (record { from = at; to = end }))
    → TellsAny others ended at place (Line (record { from = from; to = to }))
line_reported bytes others ended at from end to new place e f t p reported =
    let P : List ℕ → ℕ → ℕ → ℕ → Type 0 = λ b i j k. TellsAny b ended at k (Line (record { from = i; to = j })) in
    subst (λ (b : List ℕ). P b from to place) (sym e) (subst (λ (i : ℕ). P bytes i to place) (sym f)
    (subst (λ (j : ℕ). P bytes at j place) (sym t) (subst (λ (k : ℕ). P bytes at end k) (sym p) reported)))

-- the same result, with equal values
pub reported_so : (bytes : List ℕ) (ended over : Bool) (at place new : ℕ) (next : Next) → over ≡ ended → at ≡ place
    → TellsAny bytes ended at new next
    → TellsAny bytes over place new next
reported_so bytes ended over at place new next same here reported input may =
    subst (λ (i : ℕ). Tells input bytes i new next) here (reported input (may.0, may.1, λ e. may.2 (same ∙ e)))
