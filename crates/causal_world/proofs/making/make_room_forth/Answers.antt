use Rattle.std.proofs.Common.{◌≡◌, ◌≢◌, ℕ, ◌<◌, List, length, get_or, sym, ap, ◌∙◌, subst, ⊎_elim, arith}
use Rattle.std.proofs.lemmas.Bool.{cases_eq}
use Rattle.std.proofs.lemmas.List.{get_or_default}
use Rattle.cut_core.specs.declared.kind.Kind.{Kind}
use Rattle.std.specs.List.{count_by}
use Rattle.causal_world.specs.Pasts.{HasRoomFor}
use Rattle.causal_world.specs.Room.{is_of}
use Rattle.causal_world.proofs.Inverses.{room_whole}
use Rattle.causal_world.proofs.making.make_room_forth.Goals as goal

pub loop-p-preserved : goal.loop-p-preserved
loop-p-preserved c =
    let old = c.loop-p.invariant in
    let taken = c.args.taken.now in
    let p : ℕ = c.loop-p.p in
    let counts = c.in_ok-counts.counts.items in
    let reserved = c.in_ok-reserve.ensures in
    let here : p < length counts = omega (arith, c.loop-p-test.true, c.in_ok-counts.ensures.len) in
    let more : c.index.result.now ≡ count_by (is_of p) taken =
    c.index.ensures ∙ get_or_default counts p c.index.result.now 0 here ∙ c.in_ok-counts.ensures.each p c.loop-p-test.true in
    let sizes : length c.tally.result.now.kinds ≡ length c.loop-p.past.kinds =
    ap (λ (k : List (List Kind)). length k) (c.tally.ensures ∙ sym old.same.kinds) in
    record {
      same = record {
        starts = reserved.same.starts ∙ old.same.starts;
        events = reserved.same.events ∙ old.same.events;
        kinds = reserved.same.kinds ∙ old.same.kinds;
        clocks = reserved.same.clocks ∙ old.same.clocks;
      };
      room = λ q less.
          ⊎_elim
          (λ (same : q ≡ p). subst (λ (x : ℕ). HasRoomFor c.reserve.new.self x (count_by (is_of x) taken)) (sym same)
          (subst (λ (n : ℕ). HasRoomFor c.reserve.new.self p n) more
          (reserved.ok (omega (arith, c.loop-p-test.true, c.processes-processes.ensures, sizes)))))
          (λ (apart : q ≢ p). reserved.grows q (count_by (is_of q) taken) (old.room q (omega (arith, less, apart))))
          (cases_eq q p);
    }

pub returns-clause-ways : goal.returns-clause-ways
returns-clause-ways c =
    let counts = c.as_slice.result.now in
    let more : (i : ℕ) → i < length c.args.past.now.kinds → get_or counts i 0 ≡ count_by (is_of i) c.args.taken.now =
    λ i here. ap (λ (l : List ℕ). get_or l i 0) c.as_slice.ensures.value
    ∙ c.in_ok-counts.ensures.each i (omega (
      arith,
      here,
      c.processes-processes.ensures,
      ap (λ (k : List (List Kind)). length k) c.tally.ensures,
    )) in
    λ i j here row column. room_whole c.args.grid.now.channels c.make_room_each.new.grid.room c.args.taken.now i (get_or counts i 0)
    (more i here) (c.in_ok-make_room_each.ensures.room i) j row column
