use Rattle.std.proofs.Common.{ℕ, ◌+◌, List, Some, take, sym, ap, subst, ◌∙◌}
use Rattle.std.specs.Option.{is_some}
use Rattle.std.specs.Ordering.{nat_cmp}
use Rattle.std.specs.Cmp.Lexicographic.{slice_cmp}
use Rattle.std.specs.BTreeMap.{UpdatesBy}
use Rattle.proc_lang.specs.Indexes.{Finds}
use Rattle.proc_lang.proofs.NamePositionLemmas.{found, stays, grows}
use Rattle.proc_lang.proofs.names.first_places.Goals.{then-not-contains_key+in_ok-insert, else-not-contains_key}
use Rattle.proc_lang.proofs.names.first_places.Goals as goal

pub loop-i-preserved : goal.loop-i-preserved
loop-i-preserved c =
    let old = c.loop-i.index in
    let names = c.args.names.now in
    let i = c.loop-i.i in
    let last = c.index-names-i.result in
    let there =
    ap (λ (n : List ℕ). is_some (found old n)) (sym c.bytes.ensures.value) ∙ sym c.contains_key.ensures in
    elim c.if-not-contains_key.branch [
      | then-not-contains_key+in_ok-insert w ↦ subst (λ index. Finds index (take (i + 1) names)) (sym w.index-is)
          (grows old names i last c.loop-i.invariant c.loop-i-test.true c.index-names-i.is w.insert.new.self
          (there ∙ w.if-not-contains_key.true)
          (subst (λ n. UpdatesBy (λ x y. slice_cmp nat_cmp x.now y.now) (λ key. slice_cmp nat_cmp n key.now) old w.insert.new.self (Some i))
          w.bytes-then-not-contains_key.ensures.value w.in_ok-insert.ensures.updates))
      | else-not-contains_key w ↦ subst (λ index. Finds index (take (i + 1) names)) (sym w.index-is)
          (stays old names i last c.loop-i.invariant c.loop-i-test.true c.index-names-i.is (there ∙ w.if-not-contains_key.false))
    ]
