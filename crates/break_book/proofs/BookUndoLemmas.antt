-- What the calls of a book that undo commands require follows from the contracts of its world's calls.
use Rattle.std.proofs.Common.{◌≡◌, ℕ, zero, suc, ◌<◌, List, [], ◌∷◌, length, insert, refl, sym, ap, ◌∙◌, subst}
use Rattle.std.specs.List.{AllByRecursion}
use Rattle.dbg_base.specs.Breakpoints.{Breakpoint}
use Rattle.dbg_base.specs.Trees.{Program}
use Rattle.dbg_base.specs.SystemStates.{line_of, place_at, history_of, after_choice, after_redo}
use Rattle.causal_world.specs.declared.rolled.Taken.{Taken}
use Rattle.causal_world.specs.Scenes.{Scene, IsWorldOf}
use Rattle.causal_world.specs.Rollings.{IsRolledFrom}
use Rattle.least_cut.specs.Detectors.{IsDetectorOf, IsShrunk, IsMoved, Begins}
use Rattle.least_cut.proofs.PrefixLemmas.{begins_rolled}
use Rattle.least_cut.proofs.DetectorCallLemmas as detector
use Rattle.break_book.specs.Books.{Entry, breakpoint_of, breakpoints_of, AreDetectorsOf, AreShrunk, AreMoved}
use Rattle.break_book.proofs.BookCallLemmas.{all_map}

-- The detectors of the world w follow back to the world `before`.
module _ (P : Program) (before w : Scene) (book : List Entry) (of : IsWorldOf P before) (now : IsWorldOf P w)
    (are : AreDetectorsOf w book) where
  -- a choice is undone
  pub book_unstepped : (p k : ℕ) → p < length P → w.state ≡ after_choice before.state p k → AreShrunk book p before
  book_unstepped p k here state =
      all_map (λ (e : Entry). IsDetectorOf w e.1.detector) (λ (e : Entry). IsShrunk e.1.detector p before)
      (λ e is. detector.has_unstepped P before w e.1.detector of now is p k here state) book are

  -- a choice that was made again is undone
  pub book_unredone : (p : ℕ) → p < length P → place_at before.state p < length (line_of before.state p)
      → w.state ≡ after_redo before.state p → AreShrunk book p before
  book_unredone p here more state =
      all_map (λ (e : Entry). IsDetectorOf w e.1.detector) (λ (e : Entry). IsShrunk e.1.detector p before)
      (λ e is. detector.has_unredone P before w e.1.detector of now is p here more state) book are

  -- undone events are made again
  pub book_gone_forth : Begins (history_of w.state) (history_of before.state) → AreMoved book before
  book_gone_forth begins =
      all_map (λ (e : Entry). IsDetectorOf w e.1.detector) (λ (e : Entry). IsMoved e.1.detector before)
      (λ e is. detector.has_gone_forth P before w e.1.detector of now is begins) book are

  -- events that were undone one after the other
  pub book_forth_from : (taken : List Taken) → IsRolledFrom P before taken w → AreMoved book before
  book_forth_from taken from = book_gone_forth (begins_rolled P before w taken from)

-- What was removed from a book.

all_inserted : (P : Entry → Type 0) (book : List Entry) (i : ℕ) (entry : Entry) → AllByRecursion P (insert book i entry) → P entry
all_inserted P book zero entry all = all.0
all_inserted P [] (suc i) entry all = all.0
all_inserted P (e ∷ book) (suc i) entry all = all_inserted P book i entry all.1

-- the detector is one of each world of which the book's detectors were
pub detector_taken : (w : Scene) (old new : List Entry) (i : ℕ) (entry : Entry) → old ≡ insert new i entry → AreDetectorsOf w old
    → IsDetectorOf w entry.1.detector
detector_taken w old new i entry is are =
    all_inserted (λ (e : Entry). IsDetectorOf w e.1.detector) new i entry (subst (AreDetectorsOf w) is are)

-- the breakpoint returns to its position
pub breakpoints_inserted : (book : List Entry) (i : ℕ) (entry : Entry)
    → breakpoints_of (insert book i entry) ≡ insert (breakpoints_of book) i (breakpoint_of entry)
breakpoints_inserted book zero entry = refl
breakpoints_inserted [] (suc i) entry = refl
breakpoints_inserted (e ∷ book) (suc i) entry = ap (λ (l : List Breakpoint). breakpoint_of e ∷ l) (breakpoints_inserted book i entry)
