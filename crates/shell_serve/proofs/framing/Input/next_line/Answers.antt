use Rattle.std.proofs.Common.{◌≡◌, ℕ, ap, ◌∙◌, subst}
use Rattle.shell_serve.specs.Spans.{IsUnderWay}
use Rattle.shell_serve.proofs.LineEnds.{reported_so}
use Rattle.shell_serve.proofs.ReadStepLemmas.{reads_then, reads_same, needs_more}
use Rattle.shell_serve.proofs.framing.Input.next_line.Goals as goal

pub returns-in-Some-clause-reads : goal.returns-in-Some-clause-reads
returns-in-Some-clause-reads g c = reads_same c.loop-next.invariant.reads (ap (λ v. v.items) c.ready.ensures.bytes) c.ready.ensures.ended

pub returns-in-Some-clause-tells : goal.returns-in-Some-clause-tells
returns-in-Some-clause-tells g c =
    reported_so _ _ _ _ _ c.ready.new.self.at c.in-Some.next c.ready.ensures.ended c.loop-next.invariant.at c.in-Some.ensures.tells

pub returns-in_err-read_more-clause-reads : goal.returns-in_err-read_more-clause-reads
returns-in_err-read_more-clause-reads g c =
    reads_then (reads_same c.loop-next.invariant.reads (ap (λ v. v.items) c.ready.ensures.bytes) c.ready.ensures.ended)
    c.read_more.ensures.reads

pub loop-next-preserved : goal.loop-next-preserved
loop-next-preserved g c =
    let seen = reads_same c.loop-next.invariant.reads (ap (λ v. v.items) c.ready.ensures.bytes) c.ready.ensures.ended in
    let here : c.ready.new.self.at ≡ c.args.self.now.at = c.in_default.ensures.advances ∙ c.loop-next.invariant.at in
    record {
      at = c.read_more.ensures.stays ∙ here;
      reads = reads_then seen c.read_more.ensures.reads;
      needed = needs_more seen
          (subst (λ (n : ℕ). IsUnderWay c.ready.new.self.bytes.items c.ready.new.self.ended n) here c.in_default.ensures.under_way)
          c.read_more.ensures.once;
      reader = λ fine. c.in_ok-read_more.ensures.reader (c.loop-next.invariant.reader fine);
    }
