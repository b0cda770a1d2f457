-- The events that remain after a legal journal can be replayed.
use Rattle.std.proofs.Common.{◌≡◌, ℕ, List, [], ◌∷◌, length, get_or, set, sym, ap, ◌∙◌}
use Rattle.std.proofs.lemmas.List.{get_or-set_same, set-set, set-get_or, length-set, ext_get_or}
use Rattle.dbg_base.specs.Trees.{Program}
use Rattle.dbg_base.specs.Configurations.{Configuration}
use Rattle.dbg_base.specs.Histories.{History, play}
use Rattle.dbg_base.specs.Orders.{Event, choices_of}
use Rattle.dbg_base.specs.SystemStates.{history_of}
use Rattle.dbg_base.specs.ModelStates.{ModelState}
use Rattle.dbg_base.specs.Journals.{Journal, IsLegal, effective}
use Rattle.dbg_base.specs.Sessions.{IsReplay}
use Rattle.dbg_laws.proofs.Lists.{none_in_replicate}
use Rattle.dbg_laws.proofs.OrderSwapLemmas.{IsOrderOf, none_left, length-choices_of}
use Rattle.dbg_laws.proofs.PrefixLemmas.{prefix_within}
use Rattle.dbg_laws.proofs.PlayLemmas.{listed}
use Rattle.dbg_laws.proofs.LineStates.{length_cut}
use Rattle.dbg_laws.proofs.EffectiveOrderLemmas.{legal_leads_to, leads_to_reached}

-- an order of a history has its choices
pub choices_are : (n : ℕ) (H : History) (E : List Event) → length H ≡ n → IsOrderOf H E → choices_of n E ≡ H
choices_are n H [] size empty =
    ext_get_or [] (choices_of n []) H (length-choices_of n [] ∙ sym size)
    (λ q within. none_in_replicate n q ∙ sym (none_left H q empty))
choices_are n H (e ∷ E) size takes =
    let p : ℕ = e.process in
    let rest : List ℕ = takes.0 in
    let within = prefix_within H p e.choice rest takes.1 in
    let later : choices_of n E ≡ set H p rest = choices_are n (set H p rest) E (length-set H p rest ∙ size) takes.2 in
    ap (λ (X : History). set X p (e.choice ∷ get_or X p [])) later
    ∙ ap (λ (l : List ℕ). set (set H p rest) p (e.choice ∷ l)) (get_or-set_same H p rest [] within)
    ∙ set-set H p rest (e.choice ∷ rest)
    ∙ ap (λ (l : List ℕ). set H p l) (sym takes.1)
    ∙ set-get_or H p []

pub some_replay : (P : Program) (J : Journal) → IsLegal P J
    → (M : ModelState) × (E : List Event) × (c : Configuration) × IsReplay P J M E c
some_replay P J legal =
    let leads_to = legal_leads_to P J legal in
    let M : ModelState = leads_to.0 in
    let H : History = history_of M.system in
    let reached = leads_to_reached P (effective J) M leads_to.1 in
    let l = listed P H reached.possible in (
      M,
      l.events,
      play P H,
      record {
        legal = legal;
        leads_to = leads_to.1;
        remain = choices_are (length P) H l.events (length_cut M.system.lines M.system.places ∙ reached.state.lines) l.takes;
        replayed = l.legal;
      },
    )
