-- What was computed in the present state holds in whatever state the journal leads to: the scan of a command's conjuncts, and the answer to
-- a query.
use Rattle.std.proofs.Common.{◌≡◌, Option, Some, None, sym, subst}
use Rattle.std.specs.Prelude.{ℕ, IfSome, IfOk, List, Result, Ok, Err}
use Rattle.dbg_base.specs.declared.refusal.Refusal.{Refusal}
use Rattle.dbg_base.specs.Trees.{Program}
use Rattle.dbg_base.specs.declared.said.Answer.{Answer}
use Rattle.dbg_base.specs.Calls.{Order, Query}
use Rattle.dbg_base.specs.ModelStates.{ModelState}
use Rattle.dbg_base.specs.Journals.{Given, Journal, LeadsTo, effective}
use Rattle.dbg_laws.proofs.EffectiveOrderLemmas.{leads_to_once}
use Rattle.least_cut.specs.Watches.{TruthLine}
use Rattle.dbg_command.specs.Tables.{AnswersOrRefuses}
use Rattle.dbg_command.specs.Boxes.{IsScanFor, ScansFor}
use Rattle.dbg_board.specs.declared.glance.Glance.{Glance}
use Rattle.dbg_command.proofs.Scans.{scan_for}
use Rattle.dbg_session.specs.Sessions.{SessionState}
use Rattle.dbg_desk.specs.Desks.{Standing, IsLocked}

anywhere : (P : Program) (given : List Given) (order : Order) (M : ModelState) (found : Option (List TruthLine)) → LeadsTo P given M
    → IfSome found (IsScanFor order P M)
    → IfSome found (λ scan. (N : ModelState) → LeadsTo P given N → IsScanFor order P N scan)
anywhere P given order M None leads_to is = tt
anywhere P given order M (Some scan) leads_to is =
    λ N other. subst (λ (S : ModelState). IsScanFor order P S scan) (sym (leads_to_once P given M N leads_to other)) is

pub scans_anywhere : (P : Program) (seats : ℕ) (session : SessionState) (shown : Standing) (pairs : List Glance) (J : Journal)
    (order by_plan : Order) (found : Result (Option (List TruthLine)) Refusal) → IsLocked P seats session J pairs
    → record { journal = J; pairs = pairs } ≡ shown → by_plan ≡ order
    → IfOk found (λ found. ScansFor by_plan session.program session.state found)
    → IfOk found (λ found. IfSome found (λ scan. (N : ModelState) → LeadsTo P (effective shown.journal) N → IsScanFor order P N scan))
scans_anywhere P seats session shown pairs J order by_plan (Err refusal) locked is plan scans = tt
scans_anywhere P seats session shown pairs J order by_plan (Ok found) locked is plan scans =
    let by_order = subst (λ (o : Order). ScansFor o session.program session.state found) plan scans in
    let here : ScansFor order P session.state found =
    subst (λ (Q : Program). ScansFor order Q session.state found) locked.program by_order in
    let leads_to : LeadsTo P (effective shown.journal) session.state =
    subst (λ (s : Standing). LeadsTo P (effective s.journal) session.state) is locked.leads_to in
    anywhere P (effective shown.journal) order session.state found leads_to (scan_for order P session.state found here)

pub answers_anywhere : (P : Program) (seats : ℕ) (session : SessionState) (shown : Standing) (pairs : List Glance) (J : Journal)
    (query : Query) (answered : Result Answer Refusal) → IsLocked P seats session J pairs → record { journal = J; pairs = pairs } ≡ shown
    → AnswersOrRefuses session.program session.state query answered → (N : ModelState) → LeadsTo P (effective shown.journal) N
    → AnswersOrRefuses P N query answered
answers_anywhere P seats session shown pairs J query answered locked is answers N other =
    let leads_to : LeadsTo P (effective shown.journal) session.state =
    subst (λ (s : Standing). LeadsTo P (effective s.journal) session.state) is locked.leads_to in
    subst (λ (M : ModelState). AnswersOrRefuses P M query answered)
    (sym (leads_to_once P (effective shown.journal) session.state N leads_to other))
    (subst (λ (Q : Program). AnswersOrRefuses Q session.state query answered) locked.program answers)
