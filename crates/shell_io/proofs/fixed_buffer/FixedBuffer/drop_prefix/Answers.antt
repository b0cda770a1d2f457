use Rattle.std.proofs.Common.{◌≡◌, ◌-◌, length, take, drop, sym, ap, ◌∙◌, arith, length-take-le}
use Rattle.shell_io.proofs.BufferLemmas.{take-moved}
use Rattle.shell_io.proofs.fixed_buffer.FixedBuffer.drop_prefix.Goals as goal

pub returns : goal.returns
returns g c =
    let all = c.self.inside.bytes in
    let used = c.self.inside.used in
    let count = c.args.count in
    let size : length c.args.self.now ≡ used =
    ap length (sym c.self.view_is) ∙ length-take-le used all (omega (arith, c.self.invariant, c.self.told)) in
    ap (take (used - count)) c.copy_within.ensures.after
    ∙ take-moved all count used (omega (arith, c.requires, size)) (omega (arith, c.self.invariant, c.self.told))
    ∙ ap (drop count) c.self.view_is
