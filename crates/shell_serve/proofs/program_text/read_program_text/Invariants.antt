use Rattle.std.proofs.Common.{◌≡◌, ◌-◌}
use Rattle.shell_io.specs.declared.health.Health.TheVariants.{Fine}
use Rattle.dbg_base.specs.declared.limits.TheConstants.{INPUT_BYTES}
use Rattle.shell_serve.specs.Spans.{ReadsOn}
use Rattle.shell_serve.specs.ProgramTexts.{ReadsText}
use Rattle.shell_serve.proofs.TextSplitLemmas.{SoFarAny}
use Rattle.shell_serve.proofs.program_text.read_program_text.Given as goal

abbrev pub invariant-loop-span : goal.invariant-loop-span
invariant-loop-span g l = record {
  reads : ReadsOn l.fn.input.bytes.items l.fn.input.ended (g.R.Source.remaining l.fn.reader) l.input.bytes.items l.input.ended
      (g.R.Source.remaining l.reader);
  needed : ReadsText l.fn.input.bytes.items l.fn.input.at l.input.bytes.items;
  so_far : SoFarAny l.input.bytes.items l.input.ended l.fn.input.at l.input.at;
  reader : g.R.Source.health l.fn.reader ≡ Fine → g.R.Source.health l.reader ≡ Fine;
}

-- the bytes that are not in a line yet
abbrev pub decreases-loop-span : goal.decreases-loop-span
decreases-loop-span g l = INPUT_BYTES - l.input.at
