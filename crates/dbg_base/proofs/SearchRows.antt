-- Worked rows of predicates and of the search for a cut, computed from the definitions: a counter has sent twice, and a consumer has
-- received once.
use Rattle.std.proofs.Common.{◌≡◌, pos, List, [], ◌∷◌, true, false, refl}
use Rattle.dbg_base.specs.declared.expr.Operator.TheVariants.{Divide, Equal}
use Rattle.dbg_base.specs.declared.said.Head.TheVariants.{At, Past}
use Rattle.dbg_base.specs.declared.elimination.Elimination.{Elimination}
use Rattle.dbg_base.specs.declared.elimination.Cause.TheVariants.{FalseAt, Passed}
use Rattle.dbg_base.specs.Trees.{Number, Variable, Binary}
use Rattle.dbg_base.specs.Predicates.{Conjunct, is_true}
use Rattle.dbg_base.specs.Frontiers.{heads_of}
use Rattle.dbg_base.specs.Eliminations.{is_ruled_out, reach, most_steps}
use Rattle.dbg_base.proofs.Rows.{system, two_and_one}

-- the counter's x is 0, and the consumer's n is 1
abbrev x_is_0 : Conjunct
x_is_0 = record { process = 0; expression = Binary Equal (Variable 0) (Number (pos 0)) }

abbrev n_is_1 : Conjunct
n_is_1 = record { process = 1; expression = Binary Equal (Variable 1) (Number (pos 1)) }

-- a conjunct that faults
abbrev divides_by_0 : Conjunct
divides_by_0 = record { process = 0; expression = Binary Equal (Binary Divide (Variable 0) (Number (pos 0))) (Number (pos 1)) }

true_at_the_start : is_true system two_and_one x_is_0 0 ≡ true
true_at_the_start = refl

false_after_one : is_true system two_and_one x_is_0 1 ≡ false
false_after_one = refl

true_after_the_receive : is_true system two_and_one n_is_1 1 ≡ true
true_after_the_receive = refl

a_fault_is_not_true : is_true system two_and_one divides_by_0 0 ≡ false
a_fault_is_not_true = refl

ruled_out_after_one : is_ruled_out system two_and_one (x_is_0 ∷ n_is_1 ∷ []) 0 1 ≡ true
ruled_out_after_one = refl

not_at_the_start : is_ruled_out system two_and_one (x_is_0 ∷ n_is_1 ∷ []) 0 0 ≡ false
not_at_the_start = refl

-- the consumer moves to where n is 1; the counter moves to what that needs, and further, past its last event
abbrev steps : List Elimination
steps =
    record { pid = record { 0 = 1 }; from = 0; to = 1; cause = FalseAt }
    ∷ record { pid = record { 0 = 0 }; from = 0; to = 1; cause = Passed (record { 0 = 1 }) 1 }
    ∷ record { pid = record { 0 = 0 }; from = 1; to = 2; cause = FalseAt }
    ∷ record { pid = record { 0 = 0 }; from = 2; to = 3; cause = FalseAt }
    ∷ []

reaches_past_the_counter : reach two_and_one steps ≡ 3 ∷ 1 ∷ []
reaches_past_the_counter = refl

reported_as_past : heads_of two_and_one (reach two_and_one steps) ≡ Past ∷ At 1 ∷ []
reported_as_past = refl

at_most_five_steps : most_steps two_and_one ≡ 5
at_most_five_steps = refl
