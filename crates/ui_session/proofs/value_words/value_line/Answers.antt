use Rattle.std.proofs.Common.{ap, refl, ◌∙◌, ◌++◌}
use Rattle.ui_session.proofs.ValueLemmas.{all_read, split_whole, word_read}
use Rattle.ui_session.proofs.value_words.value_line.Goals as goal

pub loop-place-preserved : goal.loop-place-preserved
loop-place-preserved c =
    let before = c.split_at.result.0.now in
    let parts = split_whole _ c.loop-place.rest.now _ _ c.split_at.ensures.front c.split_at.ensures.back
    ∙ ap (λ t. before ++ t) (split_whole _ _ _ _ c.split_at-in-loop-place.ensures.front c.split_at-in-loop-place.ensures.back) in
    word_read c.args.mark c.args.line.now _ _ _ before _ _ _ c.loop-place.invariant (c.if-not-is_word_after.ensures refl) parts
    c.in_ok-put_back.ensures

pub returns : goal.returns
returns c = all_read c.args.mark c.args.line.now c.loop-place.rest.now _ _ c.loop-place.invariant c.in_ok-put_plain_text.ensures
