use Rattle.std.proofs.Common.{subst, sym}
use Rattle.serde_json.specs.View.{view}
use Rattle.ui_page.specs.PageLines.{IsLineOf}
use Rattle.ui_page.proofs.PageLineLemmas.{line_then, if_added}
use Rattle.ui_page.proofs.data.PageData.add.Goals as goal

pub invariant_of-self : goal.invariant_of-self
invariant_of-self c = record {
  lines = if_added c.as_slice.result.now _ c.args.self.now.lines
      (line_then c.args.self.now.lines (subst (IsLineOf (view c.args.value.now)) (sym c.as_slice.ensures.value) c.in_ok-line.ensures))
      c.extend_from_slice.ensures.items;
}
