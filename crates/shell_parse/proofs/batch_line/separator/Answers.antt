use Rattle.std.proofs.Common.{◌≡◌, ◌+◌, Bool, true, false, get_or, drop, sym, ap, ◌∙◌, subst, arith}
use Rattle.dbg_base.specs.CommandLines.{Spot, is_separator, spot_after, sets_break}
use Rattle.shell_parse.specs.Lines.{spot_of, depth_of}
use Rattle.shell_parse.proofs.Separators.{Passed, passed_at, passed_more, separated, all_after, all_passed, one_deeper}
use Rattle.shell_parse.proofs.batch_line.separator.Goals as goal

pub returns-then-is_separator : goal.returns-then-is_separator
returns-then-is_separator c =
    let all = c.args.bytes.now in
    let b = get_or all c.loop-n.n 0 in
    let separates : is_separator (spot_of c.loop-n.spot) b (drop (c.loop-n.n + 1) all) ≡ true =
    ap (is_separator (spot_of c.loop-n.spot) b) (sym (all_after (c.loop-n.n + 1) all)) ∙ sym c.is_separator.ensures
    ∙ c.if-is_separator.true in
    separated all c.loop-n.n (spot_of c.loop-n.spot) b (drop (c.loop-n.n + 1) all)
    (passed_at all c.loop-n.n (spot_of c.loop-n.spot) c.loop-n-test.true c.loop-n.invariant.passed) separates

pub loop-n-preserved : goal.loop-n-preserved
loop-n-preserved c =
    let all = c.args.bytes.now in
    let b = get_or all c.loop-n.n 0 in
    let spot = spot_of c.loop-n.spot in
    let goes : is_separator spot b (drop (c.loop-n.n + 1) all) ≡ false =
    ap (is_separator spot b) (sym (all_after (c.loop-n.n + 1) all)) ∙ sym c.is_separator.ensures ∙ c.if-is_separator.false in
    let next : spot_of c.spot_after-spot.result ≡ spot_after (sets_break all) spot b =
    c.spot_after-spot.ensures ∙ ap (λ (grouped : Bool). spot_after grouped spot b) c.loop-n.invariant.groups in
    record {
      groups = c.loop-n.invariant.groups;
      few = omega (arith, ap depth_of next, one_deeper (sets_break all) spot b, c.loop-n.invariant.few);
      passed =
          subst (λ (s : Spot). Passed all (drop (c.loop-n.n + 1) all) (c.loop-n.n + 1) s) (sym next)
          (passed_more all c.loop-n.n spot b (drop (c.loop-n.n + 1) all)
          (passed_at all c.loop-n.n spot c.loop-n-test.true c.loop-n.invariant.passed) goes);
    }

pub returns : goal.returns
returns c = all_passed c.args.bytes.now c.loop-n.n (spot_of c.loop-n.spot) (omega arith) c.loop-n.invariant.passed
