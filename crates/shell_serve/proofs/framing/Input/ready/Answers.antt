use Rattle.std.proofs.Common.{◌≡◌, ℕ, ◌+◌, List, arith, ap, ◌∙◌}
use Rattle.std.specs.Prelude.{slice_range}
use Rattle.std.specs.List.{prefix_len}
use Rattle.shell_serve.specs.Spans.{is_inside}
use Rattle.shell_serve.proofs.LineEnds.{run_within, seen_all, line_found, line_reported}
use Rattle.shell_serve.proofs.framing.Input.ready.Goals as goal

pub overflow_add-end : goal.overflow_add-end
overflow_add-end c =
    let s = c.args.self.now in
    let n_is : c.length_inside.result ≡ prefix_len is_inside (slice_range s.bytes.items s.seen c.min-limit.result) =
    c.length_inside.ensures ∙ ap (λ (b : List ℕ). prefix_len is_inside (slice_range b s.seen c.min-limit.result)) c.deref.ensures.value in
    let within = run_within s.bytes.items s.at s.seen c.min-limit.result (omega arith) (omega arith) (omega (arith, s.bytes.ok.0))
    (omega arith) s.unended in
    omega arith

pub returns-then-end-limit-clause-tells : goal.returns-then-end-limit-clause-tells
returns-then-end-limit-clause-tells c =
    let s = c.args.self.now in
    let n_is : c.length_inside.result ≡ prefix_len is_inside (slice_range s.bytes.items s.seen c.min-limit.result) =
    c.length_inside.ensures ∙ ap (λ (b : List ℕ). prefix_len is_inside (slice_range b s.seen c.min-limit.result)) c.deref.ensures.value in
    let n = c.length_inside.result in
    let found = line_found s.bytes.items s.at s.seen c.min-limit.result (omega arith) (omega arith) (omega (arith, s.bytes.ok.0))
    (omega arith) s.unended n n_is c.if-end-limit.true s.ended in
    line_reported s.bytes.items c.take_line.new.self.bytes.items s.ended s.at c.take_line.result.from (s.seen + n) c.take_line.result.to
    (s.seen + n + 1) c.take_line.new.self.at
    (ap (λ v. v.items) c.take_line.ensures.bytes) c.take_line.ensures.from c.take_line.ensures.to c.take_line.ensures.at found

pub invariant_of-self-clause-unended : goal.invariant_of-self-clause-unended
invariant_of-self-clause-unended c =
    let s = c.args.self.now in
    let n_is : c.length_inside.result ≡ prefix_len is_inside (slice_range s.bytes.items s.seen c.min-limit.result) =
    c.length_inside.ensures ∙ ap (λ (b : List ℕ). prefix_len is_inside (slice_range b s.seen c.min-limit.result)) c.deref.ensures.value in
    seen_all s.bytes.items s.at s.seen c.min-limit.result (omega arith) (omega arith) (omega (arith, s.bytes.ok.0)) (omega arith) s.unended
    (omega arith)
