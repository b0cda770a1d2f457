use Rattle.std.proofs.Common.{◌≡◌, List, ◌∷◌, ◌++◌, sym, ap, ◌∙◌, subst}
use Rattle.std.specs.Cmp.Lexicographic.{nat_list_eq_equiv}
use Rattle.std.specs.List.{IsDistinct}
use Rattle.std.specs.Map.{keys_of}
use Rattle.std.specs.Str.{bytes_eq}
use Rattle.indexmap.proofs.MapLemmas.{absent_before}
use Rattle.break_book.specs.Books.{Entry}
use Rattle.break_book.proofs.Entries.{not_named}
use Rattle.break_book.proofs.book.Book.copy.Goals as goal

pub append-requires : goal.append-requires
append-requires c =
    let made = c.loop-name.breaks.entries in
    let entry : Entry = (c.in-Some.name.now, c.in-Some.breakpoint.now) in
    let all : made ++ entry ∷ c.next.new.self ≡ c.self.inside.breaks.entries =
    ap (λ (l : List Entry). made ++ l) (sym c.in-Some.ensures.steps) ∙ c.loop-name.invariant ∙ sym c.self.view_is in
    not_named entry.0 made
    (absent_before nat_list_eq_equiv made c.next.new.self entry
    (subst (λ (l : List Entry). IsDistinct bytes_eq (keys_of l)) (sym all) c.iter-name-items.ensures.unique))
