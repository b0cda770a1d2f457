-- An event is appended to its list, or removed from it.
use Rattle.std.proofs.Common.{◌≡◌, ℕ, ◌+◌, ◌-◌, ◌<◌, ◌≤◌, List, [], ◌∷◌, ◌++◌, length, get_or, set, take, map, min}
use Rattle.std.proofs.Common.{sym, ap, subst, ◌∙◌, arith}
use Rattle.std.proofs.lemmas.List.{length-map, length-set, length_push}
use Rattle.dbg_base.proofs.Places.{changed_at, seen_at, grown_at}
use Rattle.cut_core.specs.declared.kind.Kind.{Kind}
use Rattle.cut_core.specs.Places.{PlacesState, AreListed, HasRoom, own_list}
use Rattle.cut_core.proofs.PositionListLemmas.{listed_more, listed_less}
use Rattle.cut_core.proofs.Rooms.{room_kept, room_less}

-- the event x, whose position is in list s
module _ (x : Kind) (lists : List PlacesState) (s m : ℕ) (list y : PlacesState) (here : get_or lists s list ≡ list)
    (many : m ≡ length lists) (e : s ≡ min (own_list x) (m - 1)) where
  its_list : s ≡ min (own_list x) (length (map (λ (list : PlacesState). list.places) lists) - 1)
  its_list =
      e ∙ ap (λ (n : ℕ). min (own_list x) (n - 1)) (many ∙ sym (length-map lists (λ (list : PlacesState). list.places)))

  pub its_list_there : 0 < length (map (λ (list : PlacesState). list.places) lists) → s < length lists
  its_list_there some = omega (arith, length-map lists (λ (list : PlacesState). list.places))

  module _ (kinds after : List Kind) (spare more room : ℕ) where
    pub noted : (n : ℕ) → AreListed kinds (map (λ (list : PlacesState). list.places) lists) → n ≡ length kinds → after ≡ kinds ++ x ∷ []
        → y.places ≡ list.places ++ n ∷ [] → AreListed after (map (λ (list : PlacesState). list.places) (set lists s y))
    noted n are counted is added =
        subst (λ (kinds : List Kind). AreListed kinds (map (λ (list : PlacesState). list.places) (set lists s y))) (sym is)
        (subst (λ (lists : List (List ℕ)). AreListed (kinds ++ x ∷ []) lists)
        (sym (changed_at (λ (list : PlacesState). list.places) lists s list here (its_list_there are.0) y []
        (λ (places : List ℕ). places ++ length kinds ∷ []) (added ∙ ap (λ (n : ℕ). list.places ++ n ∷ []) counted)))
        (listed_more kinds x (map (λ (list : PlacesState). list.places) lists) s its_list are))

    pub noted_room : s < length lists → HasRoom kinds spare (map (λ (list : PlacesState). list.room) lists) room
        → after ≡ kinds ++ x ∷ [] → spare ≤ more + 1 → 0 < room → y.room ≡ list.room - 1
        → HasRoom after more (map (λ (list : PlacesState). list.room) (set lists s y)) (room - 1)
    noted_room there has is le some less =
        subst (λ (kinds : List Kind). HasRoom kinds more (map (λ (list : PlacesState). list.room) (set lists s y)) (room - 1)) (sym is)
        (subst (λ (rooms : List ℕ). HasRoom (kinds ++ x ∷ []) more rooms (room - 1))
        (sym (changed_at (λ (list : PlacesState). list.room) lists s list here there y 0 (λ (n : ℕ). n - 1) less))
        (room_less kinds spare (map (λ (list : PlacesState). list.room) lists) room has x s more some le
        (omega (arith, length-map lists (λ (list : PlacesState). list.room)))))

    pub room_there : s < length lists → HasRoom kinds spare (map (λ (list : PlacesState). list.room) lists) room → 0 < room → 0 < list.room
    room_there there has some =
        let room_s : room ≤ get_or (map (λ (list : PlacesState). list.room) lists) s 0 =
        has.lists s (omega (arith, length-map lists (λ (list : PlacesState). list.room))) in
        let same : get_or (map (λ (list : PlacesState). list.room) lists) s 0 ≡ list.room =
        seen_at (λ (list : PlacesState). list.room) lists s list here there 0 in
        omega arith

    pub unnoted : AreListed kinds (map (λ (list : PlacesState). list.places) lists) → kinds ≡ after ++ x ∷ []
        → y.places ≡ take (length list.places - 1) list.places → AreListed after (map (λ (list : PlacesState). list.places) (set lists s y))
    unnoted are is left =
        subst (λ (lists : List (List ℕ)). AreListed after lists)
        (sym (changed_at (λ (list : PlacesState). list.places) lists s list here (its_list_there are.0) y []
        (λ (places : List ℕ). take (length places - 1) places) left))
        (listed_less after x (map (λ (list : PlacesState). list.places) lists) s its_list
        (subst (λ (kinds : List Kind). AreListed kinds (map (λ (list : PlacesState). list.places) lists)) is are))

    pub unnoted_room : s < length lists → HasRoom kinds spare (map (λ (list : PlacesState). list.room) lists) room
        → kinds ≡ after ++ x ∷ [] → spare ≤ more → list.room ≤ y.room
        → HasRoom after more (map (λ (list : PlacesState). list.room) (set lists s y)) room
    unnoted_room there has is le grows =
        let fewer : length kinds ≡ length after + 1 = ap length is ∙ length_push after x in
        let long : length (set lists s y) ≡ length lists = length-set lists s y in
        room_kept kinds spare (map (λ (list : PlacesState). list.room) lists) room has after more
        (map (λ (list : PlacesState). list.room) (set lists s y)) (omega arith) le
        (length-map (set lists s y) (λ (list : PlacesState). list.room) ∙ long ∙ sym (length-map lists (λ (list : PlacesState). list.room)))
        (λ r. grown_at (λ (list : PlacesState). list.room) lists s y r
        (omega (arith, grows, seen_at (λ (list : PlacesState). list.room) lists s list here there 0)))
