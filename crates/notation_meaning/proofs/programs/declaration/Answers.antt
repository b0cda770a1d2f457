use Rattle.notation_meaning.specs.ModelPrograms.{process_declared}
use Rattle.notation_meaning.proofs.Outcomes.{on_ok}
use Rattle.notation_meaning.proofs.programs.declaration.Goals as goal

pub returns-in_ok-found-in-Process : goal.returns-in_ok-found-in-Process
returns-in_ok-found-in-Process c =
    on_ok c.family.result c.family.ensures (λ x h. rw c.in-Process.is
    (process_declared (rw (c.known-known.ensures, c.as_slice.ensures.value, c.as_slice-in-Process.ensures.value) at c.in_ok-found-in-Process.ensures)
    (rw c.as_slice-in-Process-2.ensures.value at h)))
