-- The answer fits the call.
use Rattle.std.proofs.Common.{◌≡◌, inl, inr, true, Result, sym, subst}
use Rattle.dbg_base.specs.declared.said.Answer.{Answer}
use Rattle.dbg_base.specs.declared.said.Done.{Done}
use Rattle.dbg_base.specs.declared.said.Done.TheVariants.{Plain}
use Rattle.dbg_base.specs.declared.said.Reply.{Reply}
use Rattle.dbg_base.specs.declared.refusal.Refusal.{Refusal}
use Rattle.dbg_base.specs.Trees.{Program}
use Rattle.dbg_base.specs.WellFormed.{is_well_formed}
use Rattle.dbg_base.specs.Calls.{Order, Query, Give, Ask}
use Rattle.dbg_base.specs.ModelStates.{ModelState}
use Rattle.dbg_base.specs.Fits.{FitsCall, FitsDone}
use Rattle.dbg_command.specs.Tables.{TableState, IsTableOf, FollowsOrRefuses, AnswersOrRefuses, said_of, reported_of, state_of}
use Rattle.dbg_laws.proofs.AnswerFitLemmas.{follows_fits, answers_fit, memory_fits}

module _ {P : Program} {t : TableState} (well_formed : is_well_formed P ≡ true) (of : IsTableOf P t) where
  pub order_fits : (order : Order) (result : Result Reply Refusal) (M' : ModelState)
      → FollowsOrRefuses P order (state_of t) result M' → FitsCall P (Give order) (said_of result)
  order_fits order result M' (inl follows) =
      follows_fits P (state_of t) well_formed of.world.state of.world.possible order (said_of result) M' follows
  order_fits order result M' (inr refuses) = subst (FitsCall P (Give order)) (sym refuses.0) (memory_fits P (Give order))

  pub query_fits : (query : Query) (result : Result Answer Refusal) → AnswersOrRefuses P (state_of t) query result
      → FitsCall P (Ask query) (reported_of result)
  query_fits query result (inl answers) =
      answers_fit P (state_of t) well_formed of.world.state of.world.possible query (reported_of result) answers
  query_fits query result (inr memory) =
      subst (λ (r : Result Answer Refusal). FitsCall P (Ask query) (reported_of r)) (sym memory) (memory_fits P (Ask query))

pub plain_fits : (P : Program) (did : Done) → did ≡ Plain → FitsDone P did
plain_fits P did is = subst (FitsDone P) (sym is) tt
