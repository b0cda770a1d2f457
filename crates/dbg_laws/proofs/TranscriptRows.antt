-- Rows of transcripts: journals that are none.
use Rattle.std.proofs.Common.{◌≡◌, pos, List, [], ◌∷◌, Ok, sym, ap, ◌∙◌, subst}
use Rattle.dbg_base.specs.declared.said.Said.TheVariants.{Accepted, Answered}
use Rattle.dbg_base.specs.declared.said.Answer.TheVariants.{Values}
use Rattle.dbg_base.specs.Configurations.{Configuration, start_of, values_of}
use Rattle.dbg_base.specs.Orders.{Event, order, IsLegalOrder}
use Rattle.dbg_base.specs.Calls.{One, Step, Give, Ask, Vars}
use Rattle.dbg_laws.specs.Transcripts.{first_stage, IsTranscript}
use Rattle.dbg_laws.proofs.ReferenceRows.{system, received, played}

-- a value that no event has set
wrong_value : IsTranscript system (first_stage ∷ []) (record { seat = 1; call = Ask (Vars 1); said = Answered (Values (pos 7 ∷ [])) } ∷ [])
    → ⊥
wrong_value t =
    let shown = t.1.0 in
    let at : Ok (start_of system) ≡ Ok shown.0 = shown.1 in
    let same : start_of system ≡ shown.0 = cc in
    let value : Answered (Values (pos 7 ∷ [])) ≡ Answered (Values (values_of shown.0 1)) = shown.2 in
    let wrong : Answered (Values (pos 7 ∷ [])) ≡ Answered (Values (pos 0 ∷ [])) =
    value ∙ ap (λ (c : Configuration). Answered (Values (values_of c 1))) (sym same) in
    (cc)

-- a receive without a send does not fire
early_receive : IsTranscript system (first_stage ∷ []) (record { seat = 1; call = Give (One (Step 1 0)); said = Accepted (played 1) } ∷ [])
    → ⊥
early_receive t =
    let next = t.1.1 in
    let fires = subst (λ (E : List Event). IsLegalOrder system E) next.events next.fires in
    let wrong : order system (received ∷ []) ≡ Ok fires.0 = fires.1 in
    (cc)
