-- Comparing two answers tells whether they are the same.
use Rattle.std.proofs.Common.{◌≡◌, rules, refl, ◌↔◌, IsTrue, Ok, Err, ap}
use Rattle.std.proofs.lemmas.Bool.Decides.{Decides-int_eq}
use Rattle.std.proofs.lemmas.Slice.Eq.{slice_eq-Decides}
use Rattle.dbg_base.specs.declared.said.Answer.{Answer}
use Rattle.dbg_base.specs.declared.said.Answer.TheVariants.{Values, Messages, Counts, PlaceOf, CanUndo, CutIs, Frontier, Marks}
use Rattle.dbg_base.specs.declared.refusal.Refusal.{Refusal}
use Rattle.dbg_base.specs.declared.said.Said.{Said}
use Rattle.dbg_base.specs.declared.said.Said.TheVariants.{Accepted, Answered, Refused}
use Rattle.dbg_base.specs.contracts.refusal.RefusalPartialEq.TheImpl as refusals
use Rattle.dbg_base.specs.contracts.said.AnswerPartialEq.TheImpl as answers
use Rattle.dbg_base.specs.contracts.said.SaidPartialEq.TheImpl as saids

same_refusal : (one other : Refusal) → IsTrue (refusals.ghosts.eq one other) ↔ (one ≡ other)
same_refusal one other = search rules

same_answer : (one other : Answer) → IsTrue (answers.ghosts.eq one other) ↔ (one ≡ other)
same_answer (Values one) (Values other) =
    let same = slice_eq-Decides Decides-int_eq one other _ refl in search rules
same_answer (Messages one) (Messages other) =
    let same = slice_eq-Decides Decides-int_eq one other _ refl in search rules
same_answer (Counts one) (Counts other) = search rules
same_answer (PlaceOf at line) (PlaceOf other others) = search rules
same_answer (CanUndo (Ok one)) (CanUndo (Ok other)) = search rules
same_answer (CanUndo (Err one)) (CanUndo (Err other)) =
    let same = same_refusal one other in ((λ is. ap (λ (r : Refusal). CanUndo (Err r)) (same.0 is)), λ is. same.1 (search rules))
same_answer (CutIs one) (CutIs other) = search rules
same_answer (Frontier one) (Frontier other) =
    let same : IsTrue (answers.ghosts.eq (Frontier one) (Frontier other)) ↔ (one ≡ other) =
    slice_eq-Decides (λ head next. search rules) one other _ refl in
    search rules
same_answer (Marks one) (Marks other) =
    let same : IsTrue (answers.ghosts.eq (Marks one) (Marks other)) ↔ (one ≡ other) =
    slice_eq-Decides (λ mark next. search rules) one other _ refl in
    search rules
same_answer one other = search rules

pub same_said : (one other : Said) → IsTrue (saids.ghosts.eq one other) ↔ (one ≡ other)
same_said (Accepted one) (Accepted other) = search rules
same_said (Answered one) (Answered other) = let same = same_answer one other in search rules
same_said (Refused one) (Refused other) =
    let same = same_refusal one other in ((λ is. ap (λ (refusal : Refusal). Refused refusal) (same.0 is)), λ is. same.1 (search rules))
same_said one other = search rules
