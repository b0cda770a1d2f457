-- Worked rows of journals, computed from the definitions.
use Rattle.std.proofs.Common.{◌≡◌, List, [], ◌∷◌, ◌++◌, None, refl}
use Rattle.dbg_base.specs.declared.said.Done.TheVariants.{Plain}
use Rattle.dbg_base.specs.declared.said.Said.{Said}
use Rattle.dbg_base.specs.declared.said.Said.TheVariants.{Accepted, Refused}
use Rattle.dbg_base.specs.declared.refusal.Refusal.TheVariants.{NoneEnabled}
use Rattle.dbg_base.specs.Calls.{Next, Undo, One, Give, Back}
use Rattle.dbg_base.specs.Journals.{Entry, effective}

-- the answer to an accepted command that has nothing else to report
abbrev well : Said
well = Accepted (record { done = Plain; halted = None })

-- seats 1 and 2 give a command each; seat 2 takes its own back, has one refused, and gives another
abbrev entries : List Entry
entries =
    record { seat = 1; call = Give (One (Next 0)); said = well } ∷ record { seat = 2; call = Give (One (Next 1)); said = well }
    ∷ record { seat = 2; call = Back; said = well } ∷ record { seat = 2; call = Give (One (Next 1)); said = Refused NoneEnabled }
    ∷ record { seat = 2; call = Give (One (Undo 0)); said = well } ∷ []

two_count : effective entries
    ≡ record { seat = 1; order = One (Next 0) } ∷ record { seat = 2; order = One (Undo 0) } ∷ []
two_count = refl

-- each further `back` removes the last order that is left
none_counts : effective (entries ++ record { seat = 2; call = Back; said = well } ∷ record { seat = 1; call = Back; said = well } ∷ []) ≡ []
none_counts = refl
