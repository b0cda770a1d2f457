-- What is said to a call fits its question.
use Rattle.std.proofs.Common.{◌≡◌, Option, sym, subst}
use Rattle.dbg_base.specs.declared.said.Said.{Said}
use Rattle.dbg_base.specs.declared.said.Said.TheVariants.{Accepted, Answered, Refused}
use Rattle.dbg_base.specs.Calls.{Call, Query, Give, Back, Ask}
use Rattle.dbg_base.specs.Fits.{FitsCall}
use Rattle.dbg_base.specs.Trees.{Program}
use Rattle.shell_print.specs.Questions.{question_of, FitsSaid}

pub fits_said : (P : Program) (call : Call) (question : Option Query) (said : Said) → question ≡ question_of call → FitsCall P call said
    → FitsSaid P question said
fits_said P call question said is fits = subst (λ (q : Option Query). FitsSaid P q said) (sym is) (fits_call call said fits)
  where
    fits_call : (call : Call) (said : Said) → FitsCall P call said → FitsSaid P (question_of call) said
    fits_call (Give order) (Accepted reply) fits = fits
    fits_call Back (Accepted reply) fits = fits
    fits_call (Ask query) (Accepted reply) fits = absurd fits
    fits_call (Give order) (Answered answer) fits = absurd fits
    fits_call Back (Answered answer) fits = absurd fits
    fits_call (Ask query) (Answered answer) fits = fits
    fits_call (Give order) (Refused refusal) fits = fits
    fits_call Back (Refused refusal) fits = fits
    fits_call (Ask query) (Refused refusal) fits = fits
