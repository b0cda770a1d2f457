use Rattle.std.proofs.Common.{true, false, length, refl, arith}
use Rattle.std.specs.Prelude.{nat_lt}
use Rattle.std.proofs.lemmas.Bool.{le-ltb, lt-ltb}
use Rattle.dbg_base.specs.declared.limits.TheConstants.{BREAKPOINTS}
use Rattle.break_book.proofs.Entries.{refusal_by}
use Rattle.break_book.proofs.book.Book.may_set.Goals as goal

pub returns-then-contains_key-clause-refuses : goal.returns-then-contains_key-clause-refuses
returns-then-contains_key-clause-refuses c =
    refusal_by c.args.name true (nat_lt (length c.self.inside.breaks.entries) BREAKPOINTS) c.self.view_is c.if-contains_key.ensures refl

pub returns-then-len-ge-BREAKPOINTS-clause-refuses : goal.returns-then-len-ge-BREAKPOINTS-clause-refuses
returns-then-len-ge-BREAKPOINTS-clause-refuses c =
    refusal_by c.args.name false false c.self.view_is c.if-contains_key.ensures
    (le-ltb (length c.self.inside.breaks.entries) BREAKPOINTS (omega (arith, c.if-len-ge-BREAKPOINTS.true, c.len.ensures.len)))

pub returns-clause-may : goal.returns-clause-may
returns-clause-may c =
    refusal_by c.args.name false true c.self.view_is c.if-contains_key.ensures
    (lt-ltb (length c.self.inside.breaks.entries) BREAKPOINTS (omega (arith, c.if-len-ge-BREAKPOINTS.false, c.len.ensures.len)))
