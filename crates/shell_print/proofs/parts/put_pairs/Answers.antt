use Rattle.std.proofs.Common.{◌++◌, ◌≤◌, drop, length, ap, refl, sym, arith}
use Rattle.std.proofs.lemmas.List.{drop_all}
use Rattle.std.specs.Prelude.{codes}
use Rattle.dbg_base.specs.Replies.{spaced, pair_words}
use Rattle.shell_print.specs.Pieces.{names_in, amount_texts}
use Rattle.shell_print.proofs.PairLemmas.{pair_at, no_name, few_pairs, text_at}
use Rattle.shell_print.proofs.WriteLemmas.{row_put, row_stopped, row_ends, next_of, none_of}
use Rattle.shell_print.proofs.parts.put_pairs.Goals as goal

pub returns-in_err-put_pair : goal.returns-in_err-put_pair
returns-in_err-put_pair g c =
    let words = pair_words (names_in c.args.names.now) (amount_texts c.args.amounts.now) in
    let at = text_at (amount_texts c.args.amounts.now) c.loop-place.place (omega (arith, c.loop-place-test.true)) in
    row_stopped _ _ _ _ _ _ _ _ _ _ c.loop-place.invariant
    (next_of (λ word. codes " " ++ word) words _ _
    (pair_at (names_in c.args.names.now) (amount_texts c.args.amounts.now) c.loop-place.place c.in-Some.name at.0 at.0
    c.in-Some.ensures (sym at.1) refl)) (c.in_err-put_pair.ensures at.0 at.1) c.from_residual.ensures.1

pub loop-place-preserved : goal.loop-place-preserved
loop-place-preserved g c =
    let words = pair_words (names_in c.args.names.now) (amount_texts c.args.amounts.now) in
    let at = text_at (amount_texts c.args.amounts.now) c.loop-place.place (omega (arith, c.loop-place-test.true)) in
    row_put _ _ _ (c.args.text.now ++ spaced words) _ _ (spaced (drop c.loop-place.place words)) _ _ c.loop-place.invariant
    (next_of (λ word. codes " " ++ word) words _ _
    (pair_at (names_in c.args.names.now) (amount_texts c.args.amounts.now) c.loop-place.place c.in-Some.name at.0 at.0
    c.in-Some.ensures (sym at.1) refl)) (c.in_ok-put_pair.ensures at.0 at.1)

pub returns-after-loop-place : goal.returns-after-loop-place
returns-after-loop-place g c =
    let words = pair_words (names_in c.args.names.now) (amount_texts c.args.amounts.now) in
    let few : length words ≤ length (amount_texts c.args.amounts.now) =
    few_pairs (names_in c.args.names.now) (amount_texts c.args.amounts.now) in
    row_ends _ _ _ _ _ _ c.loop-place.invariant
    (ap spaced (drop_all c.loop-place.place words (omega (arith, few, c.loop-place-test.false))))

pub returns-in_default : goal.returns-in_default
returns-in_default g c =
    let words = pair_words (names_in c.args.names.now) (amount_texts c.args.amounts.now) in
    row_ends _ _ _ _ _ _ c.loop-place.invariant
    (none_of (λ word. codes " " ++ word) words _ (no_name (names_in c.args.names.now) _ _ (sym c.in_default.ensures)))
