use Rattle.std.proofs.Common.{◌≡◌, refl, ℕ, ◌<◌, None, Ok, List, [], length, map, sym, ap, ◌∙◌, subst, arith, rules}
use Rattle.std.specs.List.{AllByRecursion}
use Rattle.std.proofs.lemmas.Bool.{eqb-false}
use Rattle.std.proofs.lemmas.List.{length-map}
use Rattle.dbg_base.specs.Calls as model
use Rattle.dbg_base.specs.Calls.{conjunct_of}
use Rattle.dbg_base.specs.Predicates.{Conjunct}
use Rattle.dbg_base.specs.declared.call.Conjunct as given
use Rattle.dbg_base.specs.declared.said.Done.TheVariants.{Plain}
use Rattle.dbg_base.specs.Acts.{conjuncts_refusal}
use Rattle.proc_tree.specs.Programs.{program_of}
use Rattle.break_book.specs.Books.{breakpoints_of, new_breakpoint}
use Rattle.dbg_command.specs.Tables.{TableState, Replies, ActsOrRefuses, state_of}
use Rattle.dbg_command.proofs.ConjunctFitLemmas.{all_known}
use Rattle.dbg_command.proofs.BreakpointCommandLemmas.{sets}
use Rattle.dbg_command.proofs.BreakpointListLemmas.{free_name}
use Rattle.dbg_command.proofs.CommandUndoLemmas.{leads_from, set_back, scan_here}
use Rattle.dbg_command.proofs.table.Table.set_break.Goals as goal

pub set_fitting-requires-clause-here : goal.set_fitting-requires-clause-here
set_fitting-requires-clause-here c =
    let P = program_of c.args.program.now in
    let items = c.items-2.ensures in
    let fit = c.in_ok-fitting.ensures.fit in
    let none : conjuncts_refusal P [] (map conjunct_of c.args.conjuncts.now) ≡ None = search (rules, items, fit) in
    subst (λ (n : ℕ). AllByRecursion (λ (conjunct : Conjunct). conjunct.process < n) (map conjunct_of c.args.conjuncts.now))
    (sym c.requires.of.world.state.places) (all_known P [] (map conjunct_of c.args.conjuncts.now) none)

pub returns-clause-of : goal.returns-clause-of
returns-clause-of c = c.set_fitting.ensures.of (program_of c.args.program.now) c.requires.of

pub returns-clause-acts : goal.returns-clause-acts
returns-clause-acts c =
    let P = program_of c.args.program.now in
    let items = c.items-2.ensures in
    let fit = c.in_ok-fitting.ensures.fit in
    let none : conjuncts_refusal P [] (map conjunct_of c.args.conjuncts.now) ≡ None = search (rules, items, fit) in
    let conjuncts = map conjunct_of c.args.conjuncts.now in
    let more = eqb-false (length c.items.result.now) 0 (sym c.if-is_empty.ensures) in
    let size : length conjuncts ≡ length c.items.result.now =
    length-map c.args.conjuncts.now conjunct_of ∙ ap (λ (l : List given.Conjunct). length l) (sym c.items.ensures) in
    let some : 0 < length conjuncts = omega (arith, more, size) in
    let after : TableState = record { world = c.args.self.now.world; book = c.set_fitting.new.self.book } in
    let same : c.set_fitting.new.self ≡ after = λ i. record { world = c.set_fitting.ensures.world i; book = c.set_fitting.new.self.book } in
    let replies = subst (λ (t : TableState). Replies P (state_of t) Plain c.reply.result) same
    (c.reply.ensures P (c.set_fitting.ensures.of P c.requires.of)) in
    subst (λ (t : TableState). ActsOrRefuses P (model.Break c.args.name conjuncts) (state_of c.args.self.now) (Ok c.reply.result)
    (state_of t)) (sym same)
    (sets P c.args.self.now.world c.args.self.now.book c.set_fitting.new.self.book c.reply.result replies c.args.name conjuncts some none
    c.in_ok-set_fitting.ensures.sets)

pub set_fitting-requires-clause-scan : goal.set_fitting-requires-clause-scan
set_fitting-requires-clause-scan c =
    scan_here (program_of c.args.program.now) c.args.self.now c.args.name (map conjunct_of c.args.conjuncts.now) c.args.scan
    c.requires.of.world c.requires.scan

pub returns-clause-leads : goal.returns-clause-leads
returns-clause-leads c =
    let book = c.args.self.now.book in
    let conjuncts = map conjunct_of c.args.conjuncts.now in
    let did = c.in_ok-set_fitting.ensures.sets in
    let after : TableState = record { world = c.args.self.now.world; book = c.set_fitting.new.self.book } in
    let same : c.set_fitting.new.self ≡ after = λ i. record { world = c.set_fitting.ensures.world i; book = c.set_fitting.new.self.book } in
    leads_from _ _ (state_of c.args.self.now) (state_of after) (state_of c.args.self.now) (state_of c.set_fitting.new.self) refl
    (sym (ap state_of same))
    (set_back c.args.self.now.world.state (breakpoints_of book) (breakpoints_of c.set_fitting.new.self.book) c.args.name
    (new_breakpoint c.args.name conjuncts) refl (free_name c.args.name (breakpoints_of book) did.free) did.added)
