use Rattle.std.proofs.Common.{◌≡◌, ℕ, ◌+◌, List, [], get_or, Vec, Global, sym, subst, arith}
use Rattle.ui_halt.specs.Marks.{AreStarts}
use Rattle.ui_halt.proofs.MarkLemmas.{one_starts, none_starts}
use Rattle.ui_halt.proofs.marks.mark_starts.Goals as goal
use Rattle.ui_halt.proofs.marks.mark_starts.Goals.{then-begins+in_ok-push, else-begins}

pub loop-before-preserved : goal.loop-before-preserved
loop-before-preserved c =
    let events = get_or c.args.rows.now.events c.args.pid.0 [] in
    let truths = c.args.truths.now in
    let before = c.loop-before.before in
    let starts = c.loop-before.starts.items in
    elim c.if-begins.branch [
      | then-begins+in_ok-push w ↦
          subst (λ (v : Vec ℕ Global). AreStarts events truths (before + 1) v.items) (sym w.starts-is)
          (subst (λ (l : List ℕ). AreStarts events truths (before + 1) l) (sym w.in_ok-push.ensures.items)
          (one_starts events truths before starts (sym w.if-begins.ensures) c.loop-before.invariant))
      | else-begins w ↦
          subst (λ (v : Vec ℕ Global). AreStarts events truths (before + 1) v.items) (sym w.starts-is)
          (none_starts events truths before starts (sym w.if-begins.ensures) c.loop-before.invariant)
    ]

pub returns : goal.returns
returns c =
    let events = get_or c.args.rows.now.events c.args.pid.0 [] in
    let end : c.loop-before.before ≡ c.args.count =
    (let a = c.loop-before-test.false in let b = c.loop-before.auto.before-end in omega (arith, a, b)) in
    subst (λ (n : ℕ). AreStarts events c.args.truths.now n c.loop-before.starts.items) end c.loop-before.invariant
