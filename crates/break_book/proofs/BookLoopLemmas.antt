-- A loop over the breakpoints of a book: each gets room, or follows the world.
use Rattle.std.proofs.Common.{◌≡◌, ℕ, Bool, zero, suc, ◌+◌, ◌<◌, ◌≤◌, List, [], ◌∷◌, length, get_or, set, map, Some, refl, sym, ap, ◌∙◌}
use Rattle.std.proofs.Common.{subst, ⊎_elim, arith}
use Rattle.std.specs.Prelude.{slice_get}
use Rattle.std.specs.List.{AllByRecursion}
use Rattle.std.proofs.lemmas.Bool.{cases_lt}
use Rattle.causal_world.specs.Scenes.{Scene}
use Rattle.indexmap.specs.IndexMap.{set_value_at}
use Rattle.least_cut.specs.Detectors.{DetectorState, HasRoomUpTo, IsDetectorOf, IsSameButRoom}
use Rattle.least_cut.proofs.ListLoopLemmas.{Became, became_more, became_less, at_turn, all_at, all_from, same_map}
use Rattle.least_cut.proofs.DetectorCallLemmas.{roomier_detector}
use Rattle.least_cut.proofs.MovedDetectorLemmas.{seen_kept}
use Rattle.least_cut.specs.Watches.{WatchState, conjunct_in}
use Rattle.break_book.proofs.BookCallLemmas.{all_map}
use Rattle.break_book.specs.Books.{Kept, Entry, breakpoint_of, shown_in, AreDetectorsOf, HaveRoomUpTo, IsRoomier, IsFollowed, AreRoomier, AreFollowed}

-- the entry at a position with this content
pub record There (book : List Entry) (i : ℕ) (kept : Kept) : Type 0 where
  pub name : List ℕ
  pub within : i < length book
  pub is : (name, kept) ≡ get_or book i (name, kept)
  pub written : (new : Kept) → set_value_at book i new ≡ set book i (name, new)

pub there : (book : List Entry) (i : ℕ) (kept : Kept) → slice_get (map (λ (entry : Entry). entry.1) book) i ≡ Some kept → There book i kept
there [] i kept at = cc
there (entry ∷ book) zero kept at =
    let same : entry.1 ≡ kept = cc in
    record { name = entry.0; within = omega arith; is = λ j. (entry.0, sym same j); written = λ new. refl }
there (entry ∷ book) (suc i) kept at =
    let rest = there book i kept at in
    let less = rest.within in
    record {
      name = rest.name;
      within = omega (arith, less);
      is = rest.is;
      written = λ new. ap (λ (l : List Entry). entry ∷ l) (rest.written new);
    }

-- the same name, with contents that are related by R
pub record Stays (R : Kept → Kept → Type 0) (old new : Entry) : Type 0 where
  pub name : new.0 ≡ old.0
  pub is : R old.1 new.1

-- the same breakpoint, with a detector that has room up to these places
pub record HasRoom (places : List ℕ) (old new : Kept) : Type 0 where
  pub same : IsRoomier old new
  pub room : HasRoomUpTo new.detector places

module _ {R : Kept → Kept → Type 0} {old new : List Entry} {i : ℕ} {kept : Kept} (is : Became (Stays R) old new i)
    (at : slice_get (map (λ (entry : Entry). entry.1) new) i ≡ Some kept) where
  -- the next entry is as it was at first
  pub turn : (P : Kept → Type 0) → AllByRecursion (λ entry. P entry.1) old → P kept
  turn P all =
      let here = there new i kept at in
      at_turn is here.is here.within (λ (entry : Entry). P entry.1) all

  -- one more breakpoint
  pub more : {next : Kept} → R kept next → Became (Stays R) old (set_value_at new i next) (i + 1)
  more {next} r =
      let here = there new i kept at in
      subst (λ (l : List Entry). Became (Stays R) old l (i + 1)) (sym (here.written next))
      (became_more is here.is here.within (record { name = refl; is = r }))

same_breakpoint : (old new : Entry) → new.0 ≡ old.0 → ((name : List ℕ) → breakpoint_of (name, new.1) ≡ breakpoint_of (name, old.1))
    → breakpoint_of new ≡ breakpoint_of old
same_breakpoint old new name same = same new.0 ∙ ap (λ (n : List ℕ). breakpoint_of (n, old.1)) name

-- one whose detector got room
pub roomier_one : {armed : Bool} {before after : DetectorState} {kept : Kept} → record { armed = armed; detector = before } ≡ kept
    → IsSameButRoom before after → IsRoomier kept (record { armed = armed; detector = after })
roomier_one {armed} {before} {after} view same =
    subst (λ (k : Kept). IsRoomier k (record { armed = armed; detector = after })) view (record {
      same = λ name i. record {
        name = name;
        armed = armed;
        conjuncts = seen_kept conjunct_in after.watches before.watches same.states i;
        lines = seen_kept (λ (state : WatchState). state.line) after.watches before.watches same.states i;
        candidates = same.candidates i;
        trail = same.trail i;
      };
      detectors = λ w is. roomier_detector w before after same is;
    })

-- detectors of a world have room for its events
pub have_room : (w : Scene) (book : List Entry) → AreDetectorsOf w book → HaveRoomUpTo book w.state.places
have_room w book are =
    all_map (λ (entry : Entry). IsDetectorOf w entry.1.detector) (λ (entry : Entry). HasRoomUpTo entry.1.detector w.state.places)
    (λ entry is. is.search.room) book are

-- all have followed
pub followed : {w : Scene} {old new : List Entry} {i : ℕ} → Became (Stays (IsFollowed w)) old new i → length old ≤ i → AreFollowed w old new
followed {w} {old} {new} {i} is all = record {
  same = same_map breakpoint_of new old is.len
      (λ k x lt. (let r = is.each k x (omega (arith, lt, all)) lt in same_breakpoint (get_or old k x) (get_or new k x) r.name r.is.same));
  detectors = all_from (λ (entry : Entry). IsDetectorOf w entry.1.detector) new
      (λ k x lt. (let r = is.each k x (omega (arith, lt, all, is.len)) (omega (arith, lt, is.len)) in r.is.detector));
}

-- each detector is still one
pub roomier : {old new : List Entry} {i : ℕ} → Became (Stays IsRoomier) old new i → AreRoomier old new
roomier {old} {new} {i} is = record {
  same = same_map shown_in new old is.len
      (λ k x lt. (let r = one k x lt in
      r.is.same (get_or new k x).0 ∙ ap (λ (n : List ℕ). shown_in (n, (get_or old k x).1)) r.name));
  detectors = λ w all. all_from (λ (entry : Entry). IsDetectorOf w entry.1.detector) new (λ k x lt.
      let here : k < length old = omega (arith, lt, is.len) in
      let r = one k x here in
      r.is.detectors w (all_at (λ (entry : Entry). IsDetectorOf w entry.1.detector) old k x all here));
}
  where
    one : (k : ℕ) (x : Entry) → k < length old → Stays IsRoomier (get_or old k x) (get_or new k x)
    one k x lt =
        ⊎_elim (λ (less : k < i). is.each k x less lt)
        (λ (past : i ≤ k). subst (Stays IsRoomier (get_or old k x)) (sym (is.others k x past))
        (record { name = refl; is = record { same = λ name. refl; detectors = λ w had. had } }))
        (cases_lt k i)

pub roomier_so_far : {places : List ℕ} {old new : List Entry} {i : ℕ} → Became (Stays (HasRoom places)) old new i
    → Became (Stays IsRoomier) old new i
roomier_so_far is = became_less is (λ a b r. record { name = r.name; is = r.is.same })

-- all have room at the end
pub all_room : {places : List ℕ} {old new : List Entry} {i : ℕ} → Became (Stays (HasRoom places)) old new i → length old ≤ i
    → HaveRoomUpTo new places
all_room {places} {old} {new} {i} is all =
    all_from (λ (entry : Entry). HasRoomUpTo entry.1.detector places) new
    (λ k x lt. (let r = is.each k x (omega (arith, lt, all, is.len)) (omega (arith, lt, is.len)) in r.is.room))
