-- Room for more events, in each list of positions.
use Rattle.std.proofs.Common.{◌≡◌, inl, inr, ℕ, ◌+◌, ◌-◌, ◌<◌, ◌≤◌, List, [], ◌∷◌, ◌++◌, length, get_or, set}
use Rattle.std.proofs.Common.{sym, subst, arith}
use Rattle.std.proofs.lemmas.Bool.{cases_eq}
use Rattle.std.proofs.lemmas.List.{length-set, length_push, get_or-set_same, get_or-set_other}
use Rattle.cut_core.specs.declared.kind.Kind.{Kind}
use Rattle.cut_core.specs.Places.{HasRoom}

module _ (kinds : List Kind) (spare : ℕ) (rooms : List ℕ) (room : ℕ) (has : HasRoom kinds spare rooms room) where
  -- with at most as many events, and nowhere less room
  pub room_kept : (fewer : List Kind) (more : ℕ) (others : List ℕ) → length fewer ≤ length kinds → spare ≤ more
      → length others ≡ length rooms → ((s : ℕ) → get_or rooms s 0 ≤ get_or others s 0) → HasRoom fewer more others room
  room_kept fewer more others less le long grows = record {
    counted = omega (arith, has.counted);
    events = omega (arith, has.events);
    lists = λ s lt. let a = has.lists s (omega arith) in let b = grows s in omega arith;
  }

  -- one more event
  pub room_less : (x : Kind) (s after : ℕ) → 0 < room → spare ≤ after + 1 → s < length rooms
      → HasRoom (kinds ++ x ∷ []) after (set rooms s (get_or rooms s 0 - 1)) (room - 1)
  room_less x s after some le there = record {
    counted = omega (arith, has.counted, length_push kinds x);
    events = omega (arith, has.events);
    lists = λ r lt.
        let long : length (set rooms s (get_or rooms s 0 - 1)) ≡ length rooms = length-set rooms s (get_or rooms s 0 - 1) in
        let a : room ≤ get_or rooms r 0 = has.lists r (omega arith) in
        elim (cases_eq r s) [
          | inl e ↦
              let here : get_or (set rooms s (get_or rooms s 0 - 1)) s 0 ≡ get_or rooms s 0 - 1 =
              get_or-set_same rooms s (get_or rooms s 0 - 1) 0 there in
              let b : room ≤ get_or rooms s 0 = has.lists s there in
              let le_s : room - 1 ≤ get_or (set rooms s (get_or rooms s 0 - 1)) s 0 = omega arith in
              subst (λ (q : ℕ). room - 1 ≤ get_or (set rooms s (get_or rooms s 0 - 1)) q 0) (sym e) le_s
          | inr ne ↦
              let same : get_or (set rooms s (get_or rooms s 0 - 1)) r 0 ≡ get_or rooms r 0 =
              get_or-set_other rooms s r (get_or rooms s 0 - 1) 0 ne in
              omega arith
        ];
  }
