-- Lists of truths, paired with their conjuncts.
use Rattle.std.proofs.Common.{◌≡◌, Bool, List, [], ◌∷◌, map, refl, sym, ap, ◌∙◌}
use Rattle.std.specs.Borrow.{Bor}
use Rattle.dbg_base.specs.declared.expr.Expr.{Expr}
use Rattle.dbg_base.specs.declared.ids.Pid.{Pid}
use Rattle.dbg_base.specs.Predicates.{Conjunct}
use Rattle.event_rows.specs.EventValues.{RowsState}
use Rattle.event_rows.specs.Truths.{list_in, lists_in}
use Rattle.causal_world.specs.Scenes.{Scene}
use Rattle.least_cut.specs.Watches.{TruthLine, lines_with, named_in, scan_of, truth_line}

-- the lists of these pairs in the world are the truths of their conjuncts
scanned : (w : Scene) (rows : RowsState) (named : List (Pid × Bor Expr)) → rows.starts ≡ w.starts → rows.events ≡ w.events
    → lines_with (map named_in named) (lists_in rows named) ≡ scan_of w (map named_in named)
scanned w rows [] starts events = refl
scanned w rows (one ∷ named) starts events =
    let first : list_in rows one ≡ (truth_line w (named_in one)).truths = rw (starts, events) refl in
    ap (λ (truths : List Bool). record { process = one.0.0; truths = truths } ∷ lines_with (map named_in named) (lists_in rows named)) first
    ∙ ap (λ (l : List TruthLine). truth_line w (named_in one) ∷ l) (scanned w rows named starts events)

-- the same if the pairs are those of some conjuncts
pub scan_made : (w : Scene) (rows : RowsState) (named : List (Pid × Bor Expr)) (conjuncts : List Conjunct) (lists : List (List Bool))
    (lines : List TruthLine) → rows.starts ≡ w.starts → rows.events ≡ w.events → map named_in named ≡ conjuncts
    → lists ≡ lists_in rows named → lines ≡ lines_with conjuncts lists → lines ≡ scan_of w conjuncts
scan_made w rows named conjuncts lists lines starts events same made with_lists =
    with_lists ∙ ap (lines_with conjuncts) made
    ∙ ap (λ (l : List Conjunct). lines_with l (lists_in rows named)) (sym same)
    ∙ scanned w rows named starts events ∙ ap (scan_of w) same
