use Rattle.std.proofs.Common.{◌∙◌}
use Rattle.break_book.proofs.Entries.{inserted}
use Rattle.break_book.proofs.book.append.Goals as goal

pub returns-clause-appended : goal.returns-clause-appended
returns-clause-appended c =
    c.in_ok-insert.ensures.entries ∙ inserted c.args.name c.args.breakpoint c.args.breaks.now.entries c.requires
