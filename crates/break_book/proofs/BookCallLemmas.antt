-- What the calls of a book require follows from the contracts of its world's calls.
use Rattle.std.proofs.Common.{◌≡◌, ℕ, ◌<◌, List, [], ◌∷◌, length, refl}
use Rattle.std.specs.List.{AllByRecursion}
use Rattle.dbg_base.specs.Trees.{Program}
use Rattle.dbg_base.specs.SystemStates.{line_of, place_at, after_choice, after_redo, after_undo, after_rollback}
use Rattle.causal_world.specs.Scenes.{Scene, IsWorldOf}
use Rattle.least_cut.specs.Detectors.{IsDetectorOf, IsGrown, IsShrunk, IsMoved, HasRoomUpTo}
use Rattle.least_cut.proofs.DetectorCallLemmas.{IsConsistentCut}
use Rattle.least_cut.proofs.DetectorCallLemmas as detector
use Rattle.break_book.specs.Books.{Entry, shown_in, shown_of, breakpoints_of, AreDetectorsOf, HaveRoomUpTo, AreGrown, AreShrunk, AreMoved}

-- books that show the same have the same breakpoints
pub seen_breakpoints : (book other : List Entry) → shown_of book ≡ shown_of other → breakpoints_of book ≡ breakpoints_of other
seen_breakpoints [] [] same = refl
seen_breakpoints [] (entry ∷ other) same = cc
seen_breakpoints (entry ∷ book) [] same = cc
seen_breakpoints (entry ∷ book) (next ∷ other) same =
    let first : shown_in entry ≡ shown_in next = cc in
    let rest : shown_of book ≡ shown_of other = cc in
    λ i. record { name = (first i).name; conjuncts = (first i).conjuncts; armed = (first i).armed } ∷ seen_breakpoints book other rest i

pub all_map : {A : Type 0} (P Q : A → Type 0) → ((x : A) → P x → Q x) → (xs : List A) → AllByRecursion P xs → AllByRecursion Q xs
all_map P Q each [] all = tt
all_map P Q each (x ∷ xs) all = (each x all.0, all_map P Q each xs all.1)

module _ (P : Program) (before w : Scene) (book : List Entry) (of : IsWorldOf P before) (now : IsWorldOf P w)
    (are : AreDetectorsOf before book) where
  -- a process has made a choice
  pub book_grown : (p k : ℕ) → p < length P → w.state ≡ after_choice before.state p k → AreGrown book p w
  book_grown p k here state =
      all_map (λ (e : Entry). IsDetectorOf before e.1.detector) (λ (e : Entry). IsGrown e.1.detector p w)
      (λ e is. detector.has_grown P before w e.1.detector of now is p k here state) book are

  -- a process has made a choice again
  pub book_grown_again : (p : ℕ) → p < length P → place_at before.state p < length (line_of before.state p)
      → w.state ≡ after_redo before.state p → AreGrown book p w
  book_grown_again p here more state =
      all_map (λ (e : Entry). IsDetectorOf before e.1.detector) (λ (e : Entry). IsGrown e.1.detector p w)
      (λ e is. detector.has_redone P before w e.1.detector of now is p here more state) book are

  -- a process has undone its last event
  pub book_shrunk : (p : ℕ) → p < length P → w.state ≡ after_undo before.state p → AreShrunk book p w
  book_shrunk p here state =
      all_map (λ (e : Entry). IsDetectorOf before e.1.detector) (λ (e : Entry). IsShrunk e.1.detector p w)
      (λ e is. detector.has_shrunk P before w e.1.detector of now is p here state) book are

  module _ (cut : List ℕ) (consistent : IsConsistentCut before.kinds cut) (state : w.state ≡ after_rollback before.state cut) where
    -- all processes have gone back to the cut
    pub book_moved : AreMoved book w
    book_moved =
        all_map (λ (e : Entry). IsDetectorOf before e.1.detector) (λ (e : Entry). IsMoved e.1.detector w)
        (λ e is. detector.has_moved P before w e.1.detector of now is cut consistent state) book are

    pub book_moved_room : HaveRoomUpTo book w.state.places
    book_moved_room =
        all_map (λ (e : Entry). IsDetectorOf before e.1.detector) (λ (e : Entry). HasRoomUpTo e.1.detector w.state.places)
        (λ e is. detector.has_moved_room P before w e.1.detector of now is cut consistent state) book are
