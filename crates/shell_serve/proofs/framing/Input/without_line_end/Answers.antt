use Rattle.std.proofs.Common.{◌≡◌, ℕ, length, true, arith, ap, sym, ◌∙◌}
use Rattle.std.specs.Prelude.{slice_range}
use Rattle.dbg_base.specs.declared.limits.TheConstants.{INPUT_BYTES}
use Rattle.shell_serve.specs.Spans.{is_unended}
use Rattle.shell_serve.proofs.LineEnds.{too_long_found, last_found, line_reported}
use Rattle.shell_serve.proofs.framing.Input.without_line_end.Goals as goal

pub returns-then-len-gt-INPUT_BYTES-clause-tells : goal.returns-then-len-gt-INPUT_BYTES-clause-tells
returns-then-len-gt-INPUT_BYTES-clause-tells c =
    let s = c.args.self.now in
    let seen_is : s.seen ≡ INPUT_BYTES = omega (arith, s.bytes.ok.0) in
    let run : is_unended (slice_range s.bytes.items s.at INPUT_BYTES) ≡ true = ap
    (λ (e : ℕ). is_unended (slice_range s.bytes.items s.at e)) (sym seen_is) ∙ s.unended in
    too_long_found s.bytes.items s.at (omega (arith, s.bytes.ok.0)) (omega (arith, s.bytes.ok.0)) (omega arith) run s.ended

pub returns-clause-tells : goal.returns-clause-tells
returns-clause-tells c =
    let s = c.args.self.now in
    let seen_is : s.seen ≡ length s.bytes.items = omega (arith, s.bytes.ok.0) in
    let whole : c.len-len.result ≡ length s.bytes.items = omega (arith, s.bytes.ok.0) in
    let run : is_unended (slice_range s.bytes.items s.at (length s.bytes.items)) ≡ true = ap
    (λ (e : ℕ). is_unended (slice_range s.bytes.items s.at e)) (sym seen_is) ∙ s.unended in
    let found = last_found s.bytes.items s.at (omega (arith, s.bytes.ok.0)) (omega (arith, s.bytes.ok.0))
    (omega (arith, s.bytes.ok.0, c.if-self-len.false)) run s.ended c.if-not-self.false in
    line_reported s.bytes.items c.take_line.new.self.bytes.items s.ended s.at c.take_line.result.from (length s.bytes.items)
    c.take_line.result.to (length s.bytes.items) c.take_line.new.self.at
    (ap (λ v. v.items) c.take_line.ensures.bytes) c.take_line.ensures.from (c.take_line.ensures.to ∙ whole)
    (c.take_line.ensures.at ∙ whole) found
