use Rattle.std.proofs.Common.{◌≡◌, ℕ, ◌+◌, ◌<◌, List, [], ◌∷◌, ◌++◌, length, get_or, set, sym, ap, ◌∙◌}
use Rattle.std.proofs.lemmas.List.{get_or_default}
use Rattle.dbg_base.proofs.Places.{changed_at, there_at}
use Rattle.clock_rows.specs.Clocks.{HistoryState, join, next_row, last_row}
use Rattle.clock_rows.proofs.Joins.{written_over}
use Rattle.clock_rows.proofs.clocks.Clocks.push.Goals as goal

pub returns-clause-rows : goal.returns-clause-rows
returns-clause-rows c =
    let p : ℕ = c.args.pid.0 in
    let histories = c.self.inside.histories.items in
    let history = c.index_mut-history.result.now in
    let here : p < length histories = there_at (λ (history : HistoryState). history.room) histories p (rw (← c.self.view_is) at c.requires.room) in
    let same : c.index.result.now ≡ history =
    c.index.ensures ∙ get_or_default histories p c.index.result.now history here ∙ sym c.index_mut-history.ensures.value in
    let joined : c.deref_mut-2.result.now ≡ join (last_row c.index.result.now.rows) c.args.joined.now =
    c.deref_mut-2.ensures.value
    ∙ written_over c.self.inside.next.len c.join_rows.new.joined c.self.inside.next.items (c.join_rows.auto.joined ∙ c.deref_mut.ensures.len)
    ∙ c.join_rows.ensures ∙ ap (λ (row : List ℕ). join row c.args.joined.now) c.last.ensures.row in
    rw (← c.self.view_is) (changed_at (λ (history : HistoryState). history.rows) histories p history (sym c.index_mut-history.ensures.value) here c.push.new.self []
    (λ (rows : List (List ℕ)). rows ++ next_row p (last_row rows) c.args.joined.now ∷ [])
    (c.push.ensures.rows ∙ ap (λ (row : List ℕ). history.rows ++ set row p (get_or row p 0 + 1) ∷ [])
    (joined ∙ ap (λ (history : HistoryState). join (last_row history.rows) c.args.joined.now) same)))
