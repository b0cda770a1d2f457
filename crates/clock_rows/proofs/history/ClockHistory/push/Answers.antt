use Rattle.std.proofs.Common.{◌≡◌, ℕ, List, ◌+◌, ◌++◌, length, set, get_or, ap, sym, ◌∙◌, if◌then◌else◌, is_ok}
use Rattle.std.proofs.lemmas.List.{length-set}
use Rattle.std.specs.Vec.{vec_len, vec_capacity}
use Rattle.clock_rows.proofs.Histories.{whole_pushed, rows_pushed, room_pushed}
use Rattle.clock_rows.proofs.history.ClockHistory.push.Goals as goal

pub invariant_of-self : goal.invariant_of-self
invariant_of-self c =
    let n = c.self.inside.width in
    let len : ℕ = vec_len c.self.inside.counts in
    let list = c.self.inside.counts.items in
    let counted : List ℕ = set c.args.row.now c.args.own (get_or c.args.row.now c.args.own 0 + 1) in
    let long : length list ≡ len = sym c.self.inside.counts.ok.0 in
    let wide : length counted ≡ n =
    length-set c.args.row.now c.args.own (get_or c.args.row.now c.args.own 0 + 1) ∙ rw (← c.self.view_is) at c.requires.len in
    let more : vec_len c.extend_from_slice.new.self ≡ len + length counted =
    c.extend_from_slice.ensures.len ∙ ap (λ r. if is_ok r then len + length counted else len) c.unwrap.ensures in (
      whole_pushed n len c.self.invariant.0 (vec_len c.extend_from_slice.new.self) list counted long wide more,
      room_pushed n len c.self.invariant.0 (vec_len c.extend_from_slice.new.self) list counted long wide c.self.inside.room
          (vec_capacity c.self.inside.counts) (vec_capacity c.extend_from_slice.new.self) more c.extend_from_slice.ensures.capacity
          (rw (← c.self.view_is) at c.requires.room) c.self.invariant.1,
    )

pub returns-clause-rows : goal.returns-clause-rows
returns-clause-rows c =
    let n = c.self.inside.width in
    let len : ℕ = vec_len c.self.inside.counts in
    let list = c.self.inside.counts.items in
    let counted : List ℕ = set c.args.row.now c.args.own (get_or c.args.row.now c.args.own 0 + 1) in
    let long : length list ≡ len = sym c.self.inside.counts.ok.0 in
    let wide : length counted ≡ n =
    length-set c.args.row.now c.args.own (get_or c.args.row.now c.args.own 0 + 1) ∙ rw (← c.self.view_is) at c.requires.len in
    let more : vec_len c.extend_from_slice.new.self ≡ len + length counted =
    c.extend_from_slice.ensures.len ∙ ap (λ r. if is_ok r then len + length counted else len) c.unwrap.ensures in
    let added : c.extend_from_slice.new.self.items ≡ list ++ counted =
    c.extend_from_slice.ensures.items ∙ ap (λ r. if is_ok r then list ++ counted else list) c.unwrap.ensures in
    rw (← c.self.view_is) (rows_pushed n len c.self.invariant.0 (vec_len c.extend_from_slice.new.self) list counted long wide
    c.extend_from_slice.new.self.items more added)
