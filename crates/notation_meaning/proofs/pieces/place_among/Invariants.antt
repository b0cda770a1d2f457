use Rattle.std.proofs.Common.{◌≡◌, ◌+◌, length}
use Rattle.dbg_base.specs.Names.{place_of, place_from}
use Rattle.notation_meaning.specs.AgreementViews.{texts_of}
use Rattle.notation_meaning.proofs.pieces.place_among.Given as goal

abbrev pub invariant-loop-first : goal.invariant-loop-first
invariant-loop-first l = record {
  passed : l.place + length l.rest ≡ length l.commands;
  searched : place_of l.label (texts_of l.commands) ≡ place_from l.place l.label (texts_of l.rest);
}

abbrev pub decreases-loop-first : goal.decreases-loop-first
decreases-loop-first l = length l.rest
