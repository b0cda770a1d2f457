-- One cell of a list of rows, as a function f sees its element.
use Rattle.std.proofs.Common.{ℕ, zero, suc, ◌<◌, ◌≤◌, List, [], ◌∷◌, length, get_or, set, map, arith}
use Rattle.dbg_base.proofs.Places.{one_place}

module _ {R : Type 0} (f : R → List ℕ) where
  -- the rows with another row, of which f sees at least as much at b
  pub grown_in : (rows : List R) (i : ℕ) (row : R) (a b : ℕ) → get_or (get_or (map f rows) i []) b 0 ≤ get_or (f row) b 0
      → get_or (get_or (map f rows) a []) b 0 ≤ get_or (get_or (map f (set rows i row)) a []) b 0
  grown_in [] i row a b more = omega arith
  grown_in (r ∷ rows) zero row zero b more = more
  grown_in (r ∷ rows) zero row (suc a) b more = omega arith
  grown_in (r ∷ rows) (suc i) row zero b more = omega arith
  grown_in (r ∷ rows) (suc i) row (suc a) b more = grown_in rows i row a b more

  -- a row in which f sees more than 0 exists
  pub there_in : (rows : List R) (i j : ℕ) → 0 < get_or (get_or (map f rows) i []) j 0 → i < length rows
  there_in [] i j h = absurd (omega arith)
  there_in (r ∷ rows) zero j h = omega arith
  there_in (r ∷ rows) (suc i) j h = let t : i < length rows = there_in rows i j h in omega arith

-- the lemmas with which `grind` proves what a call that changes one cell makes of all cells
pub ruleset one_cell = (one_place, grown_in, there_in)
