-- The lists of the positions of events: one more event, and one less.
use Rattle.std.proofs.Common.{◌≡◌, inl, inr, ℕ, ◌+◌, ◌-◌, ◌*◌, ◌<◌, ◌≤◌, ◌==◌, Bool, true, false, List, [], ◌∷◌, ◌++◌}
use Rattle.std.proofs.Common.{length, get_or, set, take, map, min, refl, sym, ap, subst, ◌∙◌, arith}
use mathlib.Core.Path.{fun_ext}
use Rattle.std.specs.List.{count_by}
use Rattle.std.proofs.lemmas.Bool.{cases_eq, false_from_ne_true}
use Rattle.std.proofs.lemmas.Bool.Decides.{Decides-eqb, Decides-like, same_from_decides}
use Rattle.std.proofs.lemmas.List.{length-set, length-map, get_or-set_same, get_or-set_other}
use Rattle.cut_core.specs.declared.kind.Kind.{Kind}
use Rattle.dbg_base.proofs.Places.{seen_at}
use Rattle.cut_core.specs.declared.kind.Kind.TheVariants.{Sent, Got, Local}
use Rattle.cut_core.specs.Kinds.{is_like, gets_from}
use Rattle.cut_core.specs.Places.{PlacesState, IsPlace, IsPlaces, AreListed, own_list, is_in}
use Rattle.cut_core.proofs.CountLemmas.{count_implied}
use Rattle.cut_core.proofs.PositionLemmas.{places_yes, places_no, left_yes, left_no, below_are}

in_its_list : (last s : ℕ) (x : Kind) → s ≡ min (own_list x) last → is_in last s x ≡ true
in_its_list last s x e = (Decides-eqb (min (own_list x) last) s).1 (sym e)

in_no_other : (last s r : ℕ) (x : Kind) → s ≡ min (own_list x) last → (r ≡ s → ⊥) → is_in last r x ≡ false
in_no_other last s r x e ne =
    false_from_ne_true (is_in last r x) (λ same. ne (sym ((Decides-eqb (min (own_list x) last) r).0 same) ∙ sym e))

got_past : (last s i : ℕ) (x : Kind) → s ≡ last → s ≤ i * 2 + 2 → gets_from i x ≡ true → is_in last s x ≡ true
got_past last s i (Sent to) e most from = absurd cc
got_past last s i (Got other) e most from =
    let same : other.0 ≡ i = (Decides-eqb other.0 i).0 from in
    in_its_list last s (Got other) (omega arith)
got_past last s i Local e most from = absurd cc

-- one list changes
module _ (kinds after : List Kind) (lists : List (List ℕ)) (are : AreListed kinds lists) (s : ℕ) (list : List ℕ) where
  changed : IsPlaces (is_in (length lists - 1) s) after list
      → ((r : ℕ) → (r ≡ s → ⊥) → r < length lists → IsPlaces (is_in (length lists - 1) r) after (get_or lists r []))
      → s < length lists → AreListed after (set lists s list)
  changed here others there =
      let long : length (set lists s list) ≡ length lists = length-set lists s list in
      let some : 0 < length lists = are.0 in (
        omega arith,
        λ r lt. subst (λ (n : ℕ). IsPlaces (is_in (n - 1) r) after (get_or (set lists s list) r [])) (sym long)
            (elim (cases_eq r s) [
              | inl e ↦ subst (λ (q : ℕ). IsPlaces (is_in (length lists - 1) q) after (get_or (set lists s list) q [])) (sym e)
                  (subst (λ (places : List ℕ). IsPlaces (is_in (length lists - 1) s) after places)
                  (sym (get_or-set_same lists s list [] there)) here)
              | inr ne ↦ subst (λ (places : List ℕ). IsPlaces (is_in (length lists - 1) r) after places)
                  (sym (get_or-set_other lists s r list [] ne)) (others r ne (omega arith))
            ]),
      )

-- the event is in list s
module _ (kinds : List Kind) (x : Kind) (lists : List (List ℕ)) (s : ℕ) (e : s ≡ min (own_list x) (length lists - 1)) where
  pub list_there : 0 < length lists → s < length lists
  list_there some = omega arith

  pub listed_more : AreListed kinds lists → AreListed (kinds ++ x ∷ []) (set lists s (get_or lists s [] ++ length kinds ∷ []))
  listed_more are =
      let there : s < length lists = list_there are.0 in
      changed kinds (kinds ++ x ∷ []) lists are s (get_or lists s [] ++ length kinds ∷ [])
      (places_yes (is_in (length lists - 1) s) kinds (get_or lists s []) (are.1 s there) x (in_its_list (length lists - 1) s x e))
      (λ r ne lt. places_no (is_in (length lists - 1) r) kinds (get_or lists r []) (are.1 r lt) x
      (in_no_other (length lists - 1) s r x e ne))
      there

  pub listed_less : AreListed (kinds ++ x ∷ []) lists
      → AreListed kinds (set lists s (take (length (get_or lists s []) - 1) (get_or lists s [])))
  listed_less are =
      let there : s < length lists = list_there are.0 in
      changed (kinds ++ x ∷ []) kinds lists are s (take (length (get_or lists s []) - 1) (get_or lists s []))
      (left_yes (is_in (length lists - 1) s) kinds x (get_or lists s []) (are.1 s there) (in_its_list (length lists - 1) s x e))
      (λ r ne lt. left_no (is_in (length lists - 1) r) kinds x (get_or lists r []) (are.1 r lt)
      (in_no_other (length lists - 1) s r x e ne))
      there

-- a list of its own has the positions of all events of one kind
same_kind : (last : ℕ) (w x : Kind) → own_list w < last → is_in last (own_list w) x ≡ is_like w x
same_kind last (Sent a) (Sent b) lt =
    same_from_decides (is_in last (a.0 * 2 + 1) (Sent b)) (b.0 == a.0)
    (Decides-like (is_in last (a.0 * 2 + 1) (Sent b)) (λ (e : min (b.0 * 2 + 1) last ≡ a.0 * 2 + 1). let f : b.0 ≡ a.0 = omega arith in f)
    (λ (e : b.0 ≡ a.0). let f : min (b.0 * 2 + 1) last ≡ a.0 * 2 + 1 = omega arith in f)
    (Decides-eqb (min (b.0 * 2 + 1) last) (a.0 * 2 + 1)))
    (Decides-eqb b.0 a.0)
same_kind last (Sent a) (Got b) lt = in_no_other last (min (b.0 * 2 + 2) last) (a.0 * 2 + 1) (Got b) refl (λ e. omega arith)
same_kind last (Sent a) Local lt = in_no_other last (min 0 last) (a.0 * 2 + 1) Local refl (λ e. omega arith)
same_kind last (Got a) (Sent b) lt = in_no_other last (min (b.0 * 2 + 1) last) (a.0 * 2 + 2) (Sent b) refl (λ e. omega arith)
same_kind last (Got a) (Got b) lt =
    same_from_decides (is_in last (a.0 * 2 + 2) (Got b)) (b.0 == a.0)
    (Decides-like (is_in last (a.0 * 2 + 2) (Got b)) (λ (e : min (b.0 * 2 + 2) last ≡ a.0 * 2 + 2). let f : b.0 ≡ a.0 = omega arith in f)
    (λ (e : b.0 ≡ a.0). let f : min (b.0 * 2 + 2) last ≡ a.0 * 2 + 2 = omega arith in f)
    (Decides-eqb (min (b.0 * 2 + 2) last) (a.0 * 2 + 2)))
    (Decides-eqb b.0 a.0)
same_kind last (Got a) Local lt = in_no_other last (min 0 last) (a.0 * 2 + 2) Local refl (λ e. omega arith)
same_kind last Local (Sent b) lt = in_no_other last (min (b.0 * 2 + 1) last) 0 (Sent b) refl (λ e. omega arith)
same_kind last Local (Got b) lt = in_no_other last (min (b.0 * 2 + 2) last) 0 (Got b) refl (λ e. omega arith)
same_kind last Local Local lt = in_its_list last 0 Local (omega arith)

module _ (kinds : List Kind) (lists : List PlacesState) (are : AreListed kinds (map (λ (list : PlacesState). list.places) lists))
    (s : ℕ) (list : PlacesState) (here : get_or lists s list ≡ list) where
  pub own_places : (w : Kind) → s ≡ own_list w → s < length lists - 1 → IsPlaces (is_like w) kinds list.places
  own_places w e lt =
      let last : ℕ = length (map (λ (list : PlacesState). list.places) lists) - 1 in
      let long : length (map (λ (list : PlacesState). list.places) lists) ≡ length lists =
      length-map lists (λ (list : PlacesState). list.places) in
      let same : is_in last (own_list w) ≡ is_like w = fun_ext (λ x. same_kind last w x (omega arith)) in
      subst (λ (p : Kind → Bool). IsPlaces p kinds list.places) (ap (is_in last) e ∙ same)
      (subst (λ (places : List ℕ). IsPlaces (is_in last s) kinds places)
      (seen_at (λ (list : PlacesState). list.places) lists s list here (omega arith) []) (are.1 s (omega arith)))

  pub own_there : (w : Kind) → s ≡ own_list w → s < length lists - 1 → (k : ℕ) → 1 ≤ k → k ≤ count_by (is_like w) kinds
      → k - 1 < length list.places
  own_there w e lt k first enough =
      let len : length list.places ≡ count_by (is_like w) kinds = (own_places w e lt).0 in
      omega arith

  pub own_place : (w : Kind) → s ≡ own_list w → s < length lists - 1 → (k place : ℕ) → 1 ≤ k → k ≤ count_by (is_like w) kinds
      → place ≡ get_or list.places (k - 1) 0 → IsPlace (is_like w) kinds (k - 1) place
  own_place w e lt k place first enough is =
      subst (λ (n : ℕ). IsPlace (is_like w) kinds (k - 1) n) (sym is) ((own_places w e lt).1 (k - 1) (own_there w e lt k first enough))

  -- the events of a process without a list of its own are in the last list
  pub none_past : (n m i : ℕ) → s ≡ length lists - 1 → s ≤ i * 2 + 2 → m ≡ 0 → m ≤ length list.places
      → (m < length list.places → n ≤ get_or list.places m 0) → count_by (gets_from i) (take n kinds) ≡ 0
  none_past n m i e most none within above =
      let last : ℕ = length (map (λ (list : PlacesState). list.places) lists) - 1 in
      let long : length (map (λ (list : PlacesState). list.places) lists) ≡ length lists =
      length-map lists (λ (list : PlacesState). list.places) in
      let some : 0 < length (map (λ (list : PlacesState). list.places) lists) = are.0 in
      let places : IsPlaces (is_in last s) kinds list.places =
      subst (λ (places : List ℕ). IsPlaces (is_in last s) kinds places)
      (seen_at (λ (list : PlacesState). list.places) lists s list here (omega arith) []) (are.1 s (omega arith)) in
      let count : m ≡ count_by (is_in last s) (take n kinds) =
      below_are (is_in last s) kinds list.places places n m within (λ pos. absurd (omega arith)) above in
      let fewer : count_by (gets_from i) (take n kinds) ≤ count_by (is_in last s) (take n kinds) =
      count_implied (gets_from i) (is_in last s) (λ x from. got_past last s i x (omega arith) most from) (take n kinds) in
      omega arith
