use Rattle.notation_meaning.proofs.Outcomes.{on_ok}
use Rattle.notation_meaning.proofs.written.plain_name.Goals as goal

pub returns : goal.returns
returns c =
    on_ok c.named.result c.named.ensures (λ x h. rw (c.in_ok-start.ensures.items, c.bytes.ensures.value, c.as_slice.ensures.value) at h)
