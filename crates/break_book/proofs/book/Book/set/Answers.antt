use Rattle.std.proofs.Common.{rules, true, map, sym, ap, ◌∙◌, subst}
use Rattle.std.specs.Prelude.{is_ok}
use Rattle.std.specs.Str.{bytes_eq}
use Rattle.dbg_base.specs.Calls.{conjunct_of}
use Rattle.indexmap.specs.IndexMap.{insert_entry}
use Rattle.least_cut.specs.Detectors.{IsDetectorOf}
use Rattle.least_cut.proofs.ListLoopLemmas.{all_push}
use Rattle.break_book.specs.Books.{Entry, AreDetectorsOf}
use Rattle.break_book.proofs.Entries.{set_last, on_ok}
use Rattle.break_book.proofs.book.Book.set.Goals as goal

pub returns : goal.returns
returns c =
    let w = c.args.world.now in
    let d = c.in_ok-detector.detector in
    let last = set_last c.args.name c.args.self.now c.insert.new.self.entries d (map conjunct_of c.args.conjuncts)
    c.in_ok-may_set.ensures.may c.in_ok-detector.ensures.conjuncts
    (on_ok c.insert.result _ (sym c.map_err.ensures.variant ∙ ap (λ r. is_ok r) c.in_ok-map_err.was) c.insert.ensures.entries
    ∙ (λ i. insert_entry bytes_eq (c.self.view_is i) c.args.name (c.new-2.ensures i))) in
    record {
      of = subst (AreDetectorsOf w) (sym last.0)
          (all_push (λ (entry : Entry). IsDetectorOf w entry.1.detector) c.args.self.now
          (c.args.name, record { armed = true; detector = d }) c.requires.of c.in_ok-detector.ensures.of);
      sets = (c.in_ok-may_set.ensures.may, last.1);
      refuses = search rules;
      kept = search rules;
    }
