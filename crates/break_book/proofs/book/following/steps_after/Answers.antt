use Rattle.std.proofs.Common.{◌≤◌, ◌+◌, List, ℕ, length, subst, ap, arith, take_all}
use Rattle.causal_world.proofs.WorldCallLemmas.{kinds_placed}
use Rattle.least_cut.specs.Searches.{steps_up_to}
use Rattle.least_cut.proofs.MovedDetectorLemmas.{steps_next, steps_one_more}
use Rattle.break_book.proofs.book.following.steps_after.Goals as goal

pub loop-p-preserved : goal.loop-p-preserved
loop-p-preserved c =
    let before = c.loop-p.invariant in (
      omega (arith, before.0, steps_next c.args.world.now.state.places c.loop-p.p, c.place.ensures),
      omega (arith, before.1, c.place.type_inv),
    )

pub returns : goal.returns
returns c = λ p.
    let places = c.args.world.now.state.places in
    let all : steps_up_to places + 1 ≤ c.loop-p.steps =
    subst (λ (l : List ℕ). steps_up_to l + 1 ≤ c.loop-p.steps) (take_all c.loop-p.p places (omega (
      arith,
      c.loop-p-test.false,
      c.processes-p-end.ensures,
      ap (λ l. length l) c.tally.ensures.kinds,
      kinds_placed c.args.world.now c.requires,
    )))
    c.loop-p.invariant.0 in
    omega (arith, all, steps_one_more places p)
