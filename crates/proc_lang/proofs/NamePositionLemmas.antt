-- Positions of names among more and more names.
use Rattle.std.proofs.Common.{◌≡◌, ℕ, suc, ◌+◌, ◌<◌, Bool, true, false, cond, List, [], ◌∷◌, ◌++◌, length, take, get_or, Option, Some, None}
use Rattle.std.proofs.Common.{Bor, refl, sym, ap, subst, ◌∙◌, arith}
use Rattle.std.proofs.Math.Seq.{take-suc}
use Rattle.std.proofs.lemmas.List.{length-take-le}
use Rattle.std.specs.Option.{is_some}
use Rattle.std.specs.Ordering.{nat_cmp}
use Rattle.std.specs.Cmp.Lexicographic.{slice_cmp}
use Rattle.std.specs.BTreeMap.{BTreeMap, get_by, UpdatesBy}
use Rattle.std.proofs.lemmas.Map.Text.{btree_map_updates_str}
use Rattle.std.specs.List.{position}
use Rattle.std.specs.Str.{bytes_eq}
use Rattle.std.proofs.lemmas.Slice.Eq.{bytes_eq-Decides}
use Rattle.dbg_base.specs.Names.{place_from, place_of}
use Rattle.proc_lang.specs.Indexes.{Finds}
use Rattle.proc_lang.proofs.FirstCheckLemmas.{place_by_position}

-- the first position, or the second if there is no first
abbrev place_or : Option ℕ → Option ℕ → Option ℕ
place_or None second = second
place_or (Some place) second = Some place

or_none : (first : Option ℕ) → place_or first None ≡ first
or_none None = refl
or_none (Some place) = refl

or_there : (first second : Option ℕ) → is_some first ≡ true → place_or first second ≡ first
or_there None second there = cc
or_there (Some place) second there = refl

or_nowhere : (first second : Option ℕ) → is_some first ≡ false → place_or first second ≡ second
or_nowhere None second nowhere = refl
or_nowhere (Some place) second nowhere = cc

-- with one more name after the others
with_last : (first : ℕ) (name : List ℕ) (names : List (List ℕ)) (last : List ℕ) → place_from first name (names ++ last ∷ [])
    ≡ place_or (place_from first name names) (cond (bytes_eq last name) (Some (first + length names)) None)
with_last first name [] last =
    let same : first ≡ first + 0 = omega arith in
    ap (λ (n : ℕ). cond (bytes_eq last name) (Some n) None) same
with_last first name (n ∷ names) last = by (bytes_eq n name) (with_last (first + 1) name names last)
  where
    by : (b : Bool) → place_from (first + 1) name (names ++ last ∷ [])
        ≡ place_or (place_from (first + 1) name names) (cond (bytes_eq last name) (Some (first + 1 + length names)) None)
        → cond b (Some first) (place_from (first + 1) name (names ++ last ∷ []))
        ≡ place_or (cond b (Some first) (place_from (first + 1) name names))
        (cond (bytes_eq last name) (Some (first + suc (length names))) None)
    by true rest = refl
    by false rest =
        let same : first + 1 + length names ≡ first + suc (length names) = omega arith in
        rest ∙ ap (λ (n : ℕ). place_or (place_from (first + 1) name names) (cond (bytes_eq last name) (Some n) None)) same

module _ (names : List (List ℕ)) (last : List ℕ) where
  with_last_of_all : (name : List ℕ) → place_of name (names ++ last ∷ [])
      ≡ place_or (place_of name names) (cond (bytes_eq last name) (Some (length names)) None)
  with_last_of_all name =
      let same : 0 + length names ≡ length names = omega arith in
      with_last 0 name names last
      ∙ ap (λ (n : ℕ). place_or (place_of name names) (cond (bytes_eq last name) (Some n) None)) same

  -- a name that is already there keeps its position, and so do all others
  pub no_new_place : is_some (place_of last names) ≡ true → (name : List ℕ) → place_of name (names ++ last ∷ []) ≡ place_of name names
  no_new_place there name = with_last_of_all name ∙ by (bytes_eq last name) refl
    where
      by : (b : Bool) → bytes_eq last name ≡ b
          → place_or (place_of name names) (cond b (Some (length names)) None) ≡ place_of name names
      by true same = or_there (place_of name names) (Some (length names))
          (subst (λ (l : List ℕ). is_some (place_of l names) ≡ true) ((bytes_eq-Decides last name).0 same) there)
      by false other = or_none (place_of name names)

  -- a new name has the last position, and each other name keeps its own
  pub last_place : is_some (place_of last names) ≡ false → (name : List ℕ)
      → place_of name (names ++ last ∷ []) ≡ cond (bytes_eq last name) (Some (length names)) (place_of name names)
  last_place nowhere name = with_last_of_all name ∙ by (bytes_eq last name) refl
    where
      by : (b : Bool) → bytes_eq last name ≡ b
          → place_or (place_of name names) (cond b (Some (length names)) None) ≡ cond b (Some (length names)) (place_of name names)
      by true same = or_nowhere (place_of name names) (Some (length names))
          (subst (λ (l : List ℕ). is_some (place_of l names) ≡ false) ((bytes_eq-Decides last name).0 same) nowhere)
      by false other = or_none (place_of name names)

abbrev pub found : BTreeMap (Bor (List ℕ)) ℕ → List ℕ → Option ℕ
found index name = get_by (λ key. slice_cmp nat_cmp name key.now) index

-- what is found in the index is the first position
pub found_first : (index : BTreeMap (Bor (List ℕ)) ℕ) (names : List (List ℕ)) → Finds index names → (asked name : List ℕ) → asked ≡ name
    → (place : Option ℕ) → place ≡ found index asked → place ≡ position (λ other. bytes_eq other name) names
found_first index names finds asked name same place is =
    is ∙ ap (found index) same ∙ finds name ∙ sym (place_by_position name names)

one_more : (names : List (List ℕ)) (i : ℕ) (last : List ℕ) → i < length names → last ≡ get_or names i last
    → take (i + 1) names ≡ take i names ++ last ∷ []
one_more names i last less is =
    let next : i + 1 ≡ suc i = omega arith in
    ap (λ (n : ℕ). take n names) next ∙ take-suc names i last less ∙ ap (λ (n : List ℕ). take i names ++ n ∷ []) (sym is)

module _ (old : BTreeMap (Bor (List ℕ)) ℕ) (names : List (List ℕ)) (i : ℕ) (last : List ℕ) (finds : Finds old (take i names))
    (less : i < length names) (is : last ≡ get_or names i last) where
  -- the index stays if the next name is already there
  pub stays : is_some (found old last) ≡ true → Finds old (take (i + 1) names)
  stays there name =
      finds name
      ∙ sym (no_new_place (take i names) last (ap is_some (sym (finds last)) ∙ there) name)
      ∙ ap (place_of name) (sym (one_more names i last less is))

  -- otherwise the index gets that name
  pub grows : (new : BTreeMap (Bor (List ℕ)) ℕ) → is_some (found old last) ≡ false
      → UpdatesBy (λ x y. slice_cmp nat_cmp x.now y.now) (λ key. slice_cmp nat_cmp last key.now) old new (Some i)
      → Finds new (take (i + 1) names)
  grows new nowhere updates name =
      let long : i ≡ length (take i names) = sym (length-take-le i names (omega (arith, less))) in
      btree_map_updates_str last old new (Some i) updates name
      ∙ (λ j. cond (bytes_eq last name) (Some (long j)) (finds name j))
      ∙ sym (last_place (take i names) last (ap is_some (sym (finds last)) ∙ nowhere) name)
      ∙ ap (place_of name) (sym (one_more names i last less is))
