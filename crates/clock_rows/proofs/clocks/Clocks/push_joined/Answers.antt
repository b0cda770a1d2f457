use Rattle.std.proofs.Common.{◌≡◌, ℕ, ◌+◌, ◌<◌, List, [], ◌∷◌, ◌++◌, length, get_or, set, map, sym, ap, ◌∙◌, arith}
use Rattle.std.proofs.lemmas.List.{get_or_default, length-map}
use Rattle.dbg_base.proofs.Places.{changed_at, there_at, seen_at}
use Rattle.clock_rows.specs.Clocks.{HistoryState, join, next_row, last_row}
use Rattle.clock_rows.proofs.Joins.{written_over}
use Rattle.clock_rows.proofs.clocks.Clocks.push_joined.Goals as goal

pub returns-clause-rows : goal.returns-clause-rows
returns-clause-rows c =
    let p : ℕ = c.args.pid.0 in
    let s : ℕ = c.args.source.0 in
    let histories = c.self.inside.histories.items in
    let history = c.index_mut-history.result.now in
    let given : List ℕ = get_or (get_or (map (λ (history : HistoryState). history.rows) histories) s []) c.args.n [] in
    let here : p < length histories = there_at (λ (history : HistoryState). history.room) histories p (rw (← c.self.view_is) at c.requires.room) in
    let there : s < length (map (λ (history : HistoryState). history.rows) histories) = rw (← c.self.view_is) at c.requires.there in
    let same : c.index-own.result.now ≡ history =
    c.index-own.ensures ∙ get_or_default histories p c.index-own.result.now history here ∙ sym c.index_mut-history.ensures.value in
    let seen : get_or (map (λ (history : HistoryState). history.rows) histories) s [] ≡ c.index-given.result.now.rows =
    seen_at (λ (history : HistoryState). history.rows) histories s c.index-given.result.now (sym c.index-given.ensures)
    (omega (arith, there, length-map histories (λ (history : HistoryState). history.rows))) [] in
    let joined : c.deref_mut-2.result.now ≡ join (last_row c.index-own.result.now.rows) (get_or c.index-given.result.now.rows c.args.n []) =
    c.deref_mut-2.ensures.value
    ∙ written_over c.self.inside.next.len c.join_with.new.joined c.self.inside.next.items (c.join_with.auto.joined ∙ c.deref_mut.ensures.len)
    ∙ c.join_with.ensures in
    rw (← c.self.view_is) (changed_at (λ (history : HistoryState). history.rows) histories p history (sym c.index_mut-history.ensures.value) here c.push.new.self []
    (λ (rows : List (List ℕ)). rows ++ next_row p (last_row rows) given ∷ [])
    (c.push.ensures.rows ∙ ap (λ (row : List ℕ). history.rows ++ set row p (get_or row p 0 + 1) ∷ [])
    (joined ∙ ap (λ (history : HistoryState). join (last_row history.rows) (get_or c.index-given.result.now.rows c.args.n [])) same
    ∙ ap (λ (rows : List (List ℕ)). join (last_row history.rows) (get_or rows c.args.n [])) (sym seen))))
