-- Worlds that have the events of others, and perhaps fewer. If the history of one is a prefix of that of the other, the further events are
-- undone one after the other, and each undo leaves an earlier world.
use Rattle.std.proofs.Common.{◌≡◌, ◌≢◌, ℕ, zero, suc, ◌-◌, ◌<◌, ◌≤◌, List, [], ◌∷◌, length, get_or, set, take, map, sum, Option, Some}
use Rattle.std.proofs.Common.{None, refl, sym, ap, ◌∙◌, subst, ⊎_elim, arith}
use Rattle.std.proofs.lemmas.Bool.{cases_eq, cases_lt}
use Rattle.std.proofs.lemmas.List.{length-set, length-take, take-take, take_all, take-map, get_or-take, get_or-set_same, get_or-set_other}
use Rattle.std.proofs.lemmas.List.{get_or_past, ext_get_or}
use Rattle.dbg_base.specs.Trees.{Program}
use Rattle.dbg_base.specs.Configurations.{Configuration}
use Rattle.dbg_base.specs.Histories.{History, IsPossible, play}
use Rattle.dbg_base.specs.Orders.{with_last}
use Rattle.dbg_base.specs.Cuts.{IsConsistent}
use Rattle.dbg_base.specs.SystemStates.{history_of, after_undo}
use Rattle.dbg_base.specs.Reversal.{without_back, without_last, MayUndo}
use Rattle.cut_core.specs.declared.kind.Kind.{Kind}
use Rattle.cut_core.specs.ConsistentCuts.{places}
use Rattle.cut_core.proofs.RaisedCutLemmas.{place_at as place_of}
use Rattle.event_rows.specs.EventValues.{EventValue}
use Rattle.dbg_laws.proofs.LastChoiceLemmas.{IsWaiting}
use Rattle.dbg_laws.proofs.LineStates.{history_undo, length_cut}
use Rattle.dbg_laws.proofs.UndoLemmas.{waits}
use Rattle.causal_world.specs.Pasts.{kind_at, kinds_of, row_at}
use Rattle.causal_world.specs.Scenes.{Scene, IsWorldOf, IsEarlier, unmade}
use Rattle.causal_world.specs.Worlds.{last_event}
use Rattle.causal_world.proofs.WorldOfLemmas.{goes_back, history_without}
use Rattle.causal_world.proofs.LastKindLemmas.{last_kind, sum_without}
use Rattle.causal_world.proofs.WorldCallLemmas.{kinds_there, events_counted}
use Rattle.causal_world.proofs.ClockLemmas.{Continues, cut_more}
use Rattle.causal_world.proofs.HistoryRecordLemmas.{kinds_at, length_at, length_kinds, whole_kinds, cut_consistent, some_undo}
use Rattle.causal_world.proofs.SameWorldLemmas.{events_numbered, same_past}
use Rattle.causal_world.proofs.RollbackLemmas.{choices_counted}
use Rattle.causal_world.proofs.LastEventLemmas.{last_made, nothing_to_undo}

-- Lists.

module _ {A : Type 0} where
  -- if one list of several loses its last element, each is a prefix of its old one
  shorter_at : (lists : List (List A)) (p q : ℕ)
      → (n : ℕ) × (get_or (set lists p (without_back (get_or lists p []))) q [] ≡ take n (get_or lists q []))
  shorter_at [] p q = (0, refl)
  shorter_at (l ∷ lists) zero zero = (length l - 1, refl)
  shorter_at (l ∷ lists) zero (suc q) =
      let own = get_or lists q [] in (length own, sym (take_all (length own) own (omega arith)))
  shorter_at (l ∷ lists) (suc p) zero = (length l, sym (take_all (length l) l (omega arith)))
  shorter_at (l ∷ lists) (suc p) (suc q) = shorter_at lists p q

  -- a prefix of a prefix
  prefix_of : (line prefix : List A) (m n : ℕ) → prefix ≡ take m line → n ≤ length prefix → take n line ≡ take n prefix
  prefix_of line prefix m n same le =
      let size : length prefix ≡ length (take m line) = ap (λ (l : List A). length l) same in
      sym (ap (λ (l : List A). take n l) same ∙ take-take n m line (omega (arith, length-take m line)))

  item_of : (line prefix : List A) (m n : ℕ) (d : A) → prefix ≡ take m line → n < length prefix → get_or line n d ≡ get_or prefix n d
  item_of line prefix m n d same lt =
      let size : length prefix ≡ length (take m line) = ap (λ (l : List A). length l) same in
      sym (ap (λ (l : List A). get_or l n d) same ∙ get_or-take m line n d (omega (arith, length-take m line)))

-- a world without its last event is earlier
pub earlier_unmade : (P : Program) (w : Scene) (p : ℕ) (event : EventValue) → IsWorldOf P w → last_event w p ≡ Some event
    → IsEarlier (unmade w p event) w
earlier_unmade P w p event of was = record {
  processes = length-set w.clocks p (without_back (get_or w.clocks p []));
  starts = refl;
  events = λ q n le.
      let short = shorter_at w.events p q in
      prefix_of (get_or w.events q []) (get_or (unmade w p event).events q []) short.0 n short.1 le;
  clocks = λ q n lt.
      let short = shorter_at w.clocks p q in
      item_of (get_or w.clocks q []) (get_or (unmade w p event).clocks q []) short.0 n [] short.1 lt;
}

-- the earlier world has at most as many events
pub events_less : (a b : Scene) (p : ℕ) → IsEarlier a b → length (get_or a.events p []) ≤ length (get_or b.events p [])
events_less a b p is =
    let own = get_or a.events p [] in
    let n : ℕ = length own in
    let same : length (take n (get_or b.events p [])) ≡ length (take n own) =
    ap (λ (l : List EventValue). length l) (is.events p n (omega arith)) in
    omega (arith, same, length-take n (get_or b.events p []), length-take n own)

-- transitivity for three worlds, if the second has a clock for each event of the first
pub earlier_trans : (a b c : Scene) → ((p : ℕ) → length (get_or a.clocks p []) ≤ length (get_or b.clocks p []))
    → IsEarlier a b → IsEarlier b c → IsEarlier a c
earlier_trans a b c rows first second = record {
  processes = first.processes ∙ second.processes;
  starts = first.starts ∙ second.starts;
  events = λ p n le.
      let less = events_less a b p first in
      second.events p n (omega arith) ∙ first.events p n le;
  clocks = λ p n lt.
      let less = rows p in
      second.clocks p n (omega arith) ∙ first.clocks p n lt;
}

-- it has these clocks if both worlds are of the program
pub rows_less : (P : Program) (a b : Scene) → IsWorldOf P a → IsWorldOf P b → IsEarlier a b
    → (p : ℕ) → length (get_or a.clocks p []) ≤ length (get_or b.clocks p [])
rows_less P a b of other is p =
    ⊎_elim
    (λ (here : p < length P).
    let less = events_less a b p is in
    let one = of.clocks.sizes p (omega (arith, kinds_there P a of)) in
    let two = other.clocks.sizes p (omega (arith, kinds_there P b other)) in
    omega (
      arith,
      one,
      two,
      events_counted P a p of,
      events_counted P b p other,
      events_numbered P a p of here,
      events_numbered P b p other here,
    ))
    (λ (past : length P ≤ p).
    let none : length (get_or a.clocks p []) ≡ 0 =
    ap (λ (l : List (List ℕ)). length l)
    (get_or_past a.clocks p [] (omega (arith, of.clocks.processes, kinds_there P a of))) in
    omega arith)
    (cases_lt p (length P))

-- Worlds of which one history is a prefix of the other.

-- the last event of a process that may undo, and the world without it
record MayLose (P : Program) (w : Scene) (p : ℕ) : Type 0 where
  event : EventValue
  was : last_event w p ≡ Some event
  of : IsWorldOf P (unmade w p event)

may_lose : (P : Program) (w : Scene) (p : ℕ) → IsWorldOf P w → MayUndo P (history_of w.state) p → MayLose P w p
may_lose P w p of may = lose (last_event w p) refl
  where
    lose : (last : Option EventValue) → last_event w p ≡ last → MayLose P w p
    lose None none =
        absurd (let some = may.some in omega (arith, some, choices_counted P w p of, nothing_to_undo P w p of none))
    lose (Some event) was =
        let made = last_made P w p event of was in
        let k = made.choice in
        let B : History = history_of (after_undo w.state p) in
        let whole : history_of w.state ≡ with_last B p k = history_undo P w.state of.state p made.here k made.was in
        let within : p < length B =
        (let here = made.here in
        omega (arith, here, length_cut (after_undo w.state p).lines (after_undo w.state p).places, of.state.lines)) in
        let shorter : IsPossible P B = subst (IsPossible P) (sym (history_without P w.state p of.state made.here)) may.rest in
        let longer : IsPossible P (with_last B p k) = subst (IsPossible P) whole of.possible in
        let ends : w.standing ≡ play P (with_last B p k) = of.standing ∙ ap (play P) whole in
        let back = goes_back P w p k of made.here made.was
        (subst (λ (c : Configuration). IsWaiting P c p k) (sym ends) (waits P B p k within shorter longer)) in
        record { event = back.event; was = back.was; of = back.of }

-- the history of the first is a prefix of that of the second
abbrev Begins : Scene → Scene → Type 0
Begins v w =
    (p : ℕ) → get_or (history_of v.state) p [] ≡ take (length (get_or (history_of v.state) p [])) (get_or (history_of w.state) p [])

module _ (P : Program) (v w : Scene) (of : IsWorldOf P v) (other : IsWorldOf P w) (begins : Begins v w) where
  abbrev H : History
  H = history_of v.state

  abbrev more : History
  more = history_of w.state

  sizes : length H ≡ length more
  sizes =
      length_cut v.state.lines v.state.places ∙ of.state.lines
      ∙ sym (length_cut w.state.lines w.state.places ∙ other.state.lines)

  longer : (q : ℕ) → length (get_or H q []) ≤ length (get_or more q [])
  longer q =
      let same = ap (λ (l : List ℕ). length l) (begins q) in
      omega (arith, same, length-take (length (get_or H q [])) (get_or more q []))

  continues : Continues (kinds_of P H) (kinds_of P more)
  continues = record {
    size = length_kinds P more ∙ sym sizes ∙ sym (length_kinds P H);
    longer = λ q. (let le = longer q in omega (arith, le, length_at P H q, length_at P more q));
    prefixes = λ q n le.
        prefix_of (get_or (kinds_of P more) q []) (get_or (kinds_of P H) q []) (length (get_or H q [])) n
        (kinds_at P H q ∙ ap (map (kind_at P q)) (begins q)
        ∙ sym (take-map (kind_at P q) (length (get_or H q [])) (get_or more q []))
        ∙ ap (λ (l : List Kind). take (length (get_or H q [])) l) (sym (kinds_at P more q))) le;
  }

  abbrev cut : List ℕ
  cut = places (kinds_of P H)

  cut_at : (q : ℕ) → get_or cut q 0 ≡ length (get_or H q [])
  cut_at q = place_of (kinds_of P H) q ∙ length_at P H q

  -- the first history is a consistent cut of the second
  consistent : IsConsistent P more cut
  consistent =
      cut_consistent P more cut
      (cut_more (kinds_of P H) (kinds_of P more) continues cut (whole_kinds P H of.possible))

  -- if the second world has no further events
  earlier_same : ((q : ℕ) → length (get_or more q []) ≤ get_or cut q 0) → IsEarlier v w
  earlier_same most =
      let history : H ≡ more =
      ext_get_or [] H more sizes (λ q lt.
      let le = most q in
      begins q ∙ take_all (length (get_or H q [])) (get_or more q []) (omega (arith, le, cut_at q))) in
      let same = same_past P v w of other history in
      record {
        processes = ap (λ (l : List (List (List ℕ))). length l) same.clocks;
        starts = same.starts;
        events = λ p n le. ap (λ (l : List (List EventValue)). take n (get_or l p [])) (sym same.events);
        clocks = λ p n lt. ap (λ (l : List (List (List ℕ))). row_at l p n) (sym same.clocks);
      }

  -- an event that the first world does not have is undone
  begins_less : (p : ℕ) (event : EventValue) → p < length P → get_or cut p 0 < length (get_or more p []) → Begins v (unmade w p event)
  begins_less p event here beyond q =
      let k : ℕ = length (get_or H q []) in
      let less : history_of (unmade w p event).state ≡ without_last more p = history_without P w.state p other.state here in
      begins q
      ∙ ⊎_elim
      (λ (same : q ≡ p).
      let fewer : k ≤ length (get_or more q []) - 1 =
      subst (λ (x : ℕ). length (get_or H x []) ≤ length (get_or more x []) - 1) (sym same) (omega (arith, cut_at p)) in
      let there : q < length more = omega (arith, here, length_cut w.state.lines w.state.places, other.state.lines) in
      sym (take-take k (length (get_or more q []) - 1) (get_or more q []) fewer)
      ∙ ap (λ (l : List ℕ). take k l) (sym (get_or-set_same more q (without_back (get_or more q [])) [] there))
      ∙ ap (λ (x : ℕ). take k (get_or (without_last more x) q [])) same)
      (λ (apart : q ≢ p). ap (λ (l : List ℕ). take k l) (sym (get_or-set_other more p q (without_back (get_or more p [])) [] apart)))
      (cases_eq q p)
      ∙ ap (λ (X : History). take k (get_or X q [])) (sym less)

-- the same with a bound on the number of events
earlier_within : (n : ℕ) (P : Program) (v w : Scene) → IsWorldOf P v → IsWorldOf P w → Begins v w → sum (places w.kinds) < n
    → IsEarlier v w
earlier_within zero P v w of other begins few = absurd (omega arith)
earlier_within (suc n) P v w of other begins few =
    ⊎_elim
    (λ (most : (q : ℕ) → length (get_or (history_of w.state) q []) ≤ get_or (cut P v w of other begins) q 0).
    earlier_same P v w of other begins most)
    (λ (found : (q : ℕ) × (get_or (cut P v w of other begins) q 0 < length (get_or (history_of w.state) q []))
    × MayUndo P (history_of w.state) q).
    let p = found.0 in
    let lost = may_lose P w p other found.2 in
    let less : Scene = unmade w p lost.event in
    let made = last_made P w p lost.event other lost.was in
    let last = last_kind P w p lost.event other lost.was in
    let first : IsEarlier v less =
    earlier_within n P v less of lost.of (begins_less P v w of other begins p lost.event made.here found.1)
    (omega (arith, sum_without w.kinds p last.here last.some)) in
    earlier_trans v less w (rows_less P v less of lost.of first) first (earlier_unmade P w p lost.event other lost.was))
    (some_undo P (history_of w.state) (cut P v w of other begins) other.possible (consistent P v w of other begins))

-- two worlds of one program, where one history is a prefix of the other
pub earlier_world : (P : Program) (v w : Scene) → IsWorldOf P v → IsWorldOf P w
    → ((p : ℕ) → get_or (history_of v.state) p [] ≡ take (length (get_or (history_of v.state) p [])) (get_or (history_of w.state) p []))
    → IsEarlier v w
earlier_world P v w of other begins = earlier_within (suc (sum (places w.kinds))) P v w of other begins (omega arith)
