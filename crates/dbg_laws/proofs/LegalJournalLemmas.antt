-- Journals that a single caller could have made: one more call keeps them legal.
use Rattle.std.proofs.Common.{◌≡◌, inl, inr, ◌<◌, List, [], ◌∷◌, ◌++◌, length, refl, sym, subst, arith}
use Rattle.std.specs.Prelude.{ℕ}
use Rattle.std.proofs.lemmas.List.{length_push}
use Rattle.dbg_base.specs.declared.said.Said.{Said}
use Rattle.dbg_base.specs.declared.limits.TheConstants.{CALLS}
use Rattle.dbg_base.specs.Trees.{Program}
use Rattle.dbg_base.specs.Calls.{Call}
use Rattle.dbg_base.specs.Journals.{Entry, Journal, Given, counting, effective_from, effective, IsDue, Makes, AreDue, IsLegal}

-- the orders that count after one more entry
pub counting_more : (given : List Given) (J : Journal) (entry : Entry)
    → effective_from given (J ++ entry ∷ []) ≡ counting (effective_from given J) entry.seat entry.call entry.said
counting_more given [] entry = refl
counting_more given (first ∷ J) entry = counting_more (counting given first.seat first.call first.said) J entry

pub effective_more : (J : Journal) (entry : Entry)
    → effective (J ++ entry ∷ []) ≡ counting (effective J) entry.seat entry.call entry.said
effective_more J entry = counting_more [] J entry

-- one more entry that has the answer that is due
pub due_more : (P : Program) (given : List Given) (J : Journal) (entry : Entry) → AreDue P given J
    → IsDue P (effective_from given J) entry.seat entry.call entry.said → AreDue P given (J ++ entry ∷ [])
due_more P given [] entry all due = (due, tt)
due_more P given (first ∷ J) entry all due =
    (all.0, due_more P (counting given first.seat first.call first.said) J entry all.1 due)

-- the last entry has the answer that is due
pub last_due : (P : Program) (given : List Given) (J : Journal) (entry : Entry) → AreDue P given (J ++ entry ∷ [])
    → IsDue P (effective_from given J) entry.seat entry.call entry.said
last_due P given [] entry all = all.0
last_due P given (first ∷ J) entry all = last_due P (counting given first.seat first.call first.said) J entry all.1

pub legal_more : (P : Program) (J : Journal) (entry : Entry) → IsLegal P J → length J < CALLS
    → IsDue P (effective J) entry.seat entry.call entry.said → IsLegal P (J ++ entry ∷ [])
legal_more P J entry legal room due = record {
  few = let size = length_push J entry in omega (arith, size, room);
  due = due_more P [] J entry legal.due due;
}

-- whatever a call makes of a legal journal is legal
pub makes_legal : (P : Program) (J : Journal) (seat : ℕ) (call : Call) (said : Said) (after : Journal) → Makes P J seat call said after
    → IsLegal P J → IsLegal P after
makes_legal P J seat call said after (inl (few, inl enters)) legal =
    subst (IsLegal P) (sym enters.entered) (legal_more P J (record { seat = seat; call = call; said = said }) legal few enters.due)
makes_legal P J seat call said after (inl (few, inr misses)) legal = subst (IsLegal P) (sym misses.left) legal
makes_legal P J seat call said after (inr overflows) legal = subst (IsLegal P) (sym overflows.left) legal
