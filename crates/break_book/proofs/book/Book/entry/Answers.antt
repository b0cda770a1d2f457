use Rattle.std.proofs.Common.{refl, sym, ap, ◌∙◌}
use Rattle.std.specs.Map.{lookup}
use Rattle.std.specs.Str.{bytes_eq}
use Rattle.break_book.proofs.Entries.{position_of, not_named, here}
use Rattle.break_book.proofs.book.Book.entry.Goals as goal

pub returns-clause-found : goal.returns-clause-found
returns-clause-found c =
    let spot = here c.args.name c.args.self.now c.in-Some.position c.in-Some.found.now
    (ap (position_of c.args.name) (sym c.self.view_is) ∙ sym c.in-Some.ensures.index)
    (ap (lookup (bytes_eq c.args.name)) (sym c.self.view_is) ∙ sym c.in-Some.ensures.value) in
    spot.placed_at

pub returns-in_default-clause-refuses : goal.returns-in_default-clause-refuses
returns-in_default-clause-refuses c =
    (not_named c.args.name c.args.self.now (ap (lookup (bytes_eq c.args.name)) (sym c.self.view_is) ∙ sym c.in_default.ensures.value), refl)
