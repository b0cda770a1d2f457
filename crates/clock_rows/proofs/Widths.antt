-- Each row has as many counts as there are processes.
use Rattle.std.proofs.Common.{◌≡◌, ℕ, zero, suc, ◌<◌, List, [], ◌∷◌, length, get_or, map, replicate, sym, ap, ◌∙◌, arith}
use Rattle.std.proofs.lemmas.List.{get_or-map, get_or-replicate}
use Rattle.dbg_base.proofs.Places.{one_place}
use Rattle.clock_rows.specs.Clocks.{HistoryState}

pub wide_at : (histories : List HistoryState) (i : ℕ) (history : HistoryState) → i < length histories
    → map (λ (history : HistoryState). history.width) histories ≡ replicate (length histories) (length histories) → (get_or histories i history).width ≡ length histories
wide_at histories i history lt all =
    sym (get_or-map (λ (history : HistoryState). history.width) histories i history 0 lt) ∙ ap (λ (widths : List ℕ). get_or widths i 0) all
    ∙ get_or-replicate (length histories) i (length histories) 0 lt

-- a process with more than one row exists
pub many_below : (histories : List HistoryState) (i : ℕ) → 1 < length (get_or (map (λ (history : HistoryState). history.rows) histories) i []) → i < length histories
many_below [] i h = absurd (omega arith)
many_below (history ∷ histories) zero h = omega arith
many_below (history ∷ histories) (suc i) h = let t : i < length histories = many_below histories i h in omega arith

-- the lemmas with which `grind` proves what a change of one history makes of all histories
pub ruleset one_history = (one_place, wide_at, many_below)
