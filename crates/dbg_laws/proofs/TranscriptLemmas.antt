-- A legal journal is a transcript: its stages are replays of the orders that count, from the newest one back.
use Rattle.std.proofs.Common.{◌≡◌, ℕ, ◌+◌, ◌≤◌, List, [], ◌∷◌, ◌++◌, length, Ok, refl, sym, subst, arith}
use Rattle.std.proofs.lemmas.List.{length_push, take_at}
use Rattle.dbg_base.specs.declared.said.Reply.{Reply}
use Rattle.dbg_base.specs.declared.said.Said.{Said}
use Rattle.dbg_base.specs.declared.said.Said.TheVariants.{Accepted, Answered, Refused}
use Rattle.dbg_base.specs.declared.refusal.Refusal.TheVariants.{NothingBack}
use Rattle.dbg_base.specs.declared.limits.TheConstants.{CALLS}
use Rattle.dbg_base.specs.Trees.{Program}
use Rattle.dbg_base.specs.Configurations.{Configuration, start_of}
use Rattle.dbg_base.specs.Orders.{order}
use Rattle.dbg_base.specs.Breakpoints.{Breakpoint}
use Rattle.dbg_base.specs.ModelStates.{ModelState, opening}
use Rattle.dbg_base.specs.Reversal.{without_back}
use Rattle.dbg_base.specs.Calls.{Order, One, Batch, Call, Give, Back, Ask, Query}
use Rattle.dbg_base.specs.Acts.{Follows}
use Rattle.dbg_base.specs.Journals.{Journal, Given, counting, effective, LeadsTo, last_given, AnswersBack, IsDue, AreDue, IsLegal}
use Rattle.dbg_base.specs.Shown.{Shows}
use Rattle.dbg_laws.specs.Transcripts.{Stage, first_stage, Leaves, Continues, IsTranscript}
use Rattle.dbg_laws.proofs.LegalJournalLemmas.{effective_more, legal_more}
use Rattle.dbg_laws.proofs.EffectiveOrderLemmas.{no_events, leads_to_reached, leads_to_once, leads_more}
use Rattle.dbg_laws.proofs.NextStageLemmas.{IsStageOf, next_stage, batch_stage}
use Rattle.dbg_laws.proofs.ShownAnswers.{shows}

-- the stage has the events and the breakpoints to which these orders lead
record IsAt (P : Program) (given : List Given) (stage : Stage) : Type 0 where
  M : ModelState
  leads : LeadsTo P given M
  is : IsStageOf P M stage

-- the stages are those of these orders, of these without the last one, and so on
abbrev Are : Program → List Given → List Stage → Type 0
Are P given [] = ⊥
Are P given (now ∷ []) = IsAt P given now × (given ≡ [])
Are P given (now ∷ prior ∷ past) = IsAt P given now × Are P (without_back given) (prior ∷ past)

without_push : (given : List Given) (last : Given) → without_back (given ++ last ∷ []) ≡ given
without_push given last = take_at given (last ∷ []) _ (let size = length_push given last in omega (arith, size))

newest : (P : Program) (given : List Given) (now : Stage) (past : List Stage) → Are P given (now ∷ past) → IsAt P given now
newest P given now [] are = are.0
newest P given now (prior ∷ past) are = are.0

-- an accepted order
module _ (P : Program) (given : List Given) (now : Stage) (at : IsAt P given now) (seat : ℕ) where
  abbrev After : Order → Reply → Type 0
  After order reply = (next : Stage) × Leaves P order reply now next × IsAt P (given ++ record { seat = seat; order = order } ∷ []) next

  follows : (order : Order) (reply : Reply) → IsDue P given seat (Give order) (Accepted reply)
      → (after : ModelState) × Follows P order at.M (Accepted reply) after
  follows order reply due =
      let same : due.0 ≡ at.M = leads_to_once P given at.M due.0 at.leads due.2 in
      (due.1, subst (λ (K : ModelState). Follows P order K (Accepted reply) due.1) same due.3)

  -- the state that it leaves
  led : (order : Order) (reply : Reply) (after : ModelState) (next : Stage) → Follows P order at.M (Accepted reply) after
      → IsStageOf P after next → IsAt P (given ++ record { seat = seat; order = order } ∷ []) next
  led order reply after next acts is = record {
    M = after;
    leads = leads_more P given (opening P) at.M (record { seat = seat; order = order }) reply after at.leads acts;
    is = is;
  }

  gives : (order : Order) (reply : Reply) → IsDue P given seat (Give order) (Accepted reply) → After order reply
  gives (One plan) reply due =
      let f = follows (One plan) reply due in
      let n = next_stage P at.M now at.is reply f.0 plan f.1 in
      (n.0, n.1, led (One plan) reply f.0 n.0 f.1 n.2)
  gives (Batch plans) reply due =
      let f = follows (Batch plans) reply due in
      let n = batch_stage P at.M 1 plans at.M now reply f.0 at.is f.1 in
      (n.0, (n.1, n.2, n.3), led (Batch plans) reply f.0 n.0 f.1 n.4)

-- one call after a legal journal
module _ (P : Program) (J : Journal) (legal : IsLegal P J) (seat : ℕ) where
  abbrev Goes : Call → Said → List Stage → Type 0
  Goes call said stages =
      (next : List Stage) × Continues P call said stages next × Are P (counting (effective J) seat call said) next

  shown : (now : Stage) → IsAt P (effective J) now → (query : Query) (said : Said) → IsDue P (effective J) seat (Ask query) said
      → (c : Configuration) × (order P now.events ≡ Ok c) × Shows P now.breakpoints now.events c query said
  shown now at query said due = (
    at.is.fires.0,
    at.is.fires.1,
    subst (λ (breakpoints : List Breakpoint). Shows P breakpoints now.events at.is.fires.0 query said) at.is.breakpoints
        (shows P J at.M now.events at.is.fires.0
        (record { legal = legal; leads_to = at.leads; remain = at.is.remain; replayed = at.is.fires.1 }) seat query said due),
  )

  goes : (call : Call) (said : Said) (stages : List Stage) → Are P (effective J) stages → IsDue P (effective J) seat call said
      → Goes call said stages
  goes call said [] are due = absurd are
  goes (Give order) (Accepted reply) (now ∷ past) are due =
      let g = gives P (effective J) now (newest P (effective J) now past are) seat order reply due in (
        g.0 ∷ now ∷ past,
        (g.0, g.1, refl),
        (
          g.2,
          subst (λ (given : List Given). Are P given (now ∷ past))
              (sym (without_push (effective J) (record { seat = seat; order = order }))) are,
        ),
      )
  goes (Give order) (Answered answer) (now ∷ past) are due = (now ∷ past, refl, are)
  goes (Give order) (Refused refusal) (now ∷ past) are due = (now ∷ past, refl, are)
  goes Back (Accepted reply) (now ∷ []) are due =
      let wrong : Accepted reply ≡ Refused NothingBack =
      subst (λ (given : List Given). AnswersBack P given seat (last_given given) (Accepted reply)) are.1 due in
      absurd (cc)
  goes Back (Accepted reply) (now ∷ prior ∷ past) are due = (prior ∷ past, refl, are.1)
  goes Back (Answered answer) (now ∷ past) are due = (now ∷ past, refl, are)
  goes Back (Refused refusal) (now ∷ past) are due = (now ∷ past, refl, are)
  goes (Ask query) said (now ∷ past) are due =
      (now ∷ past, (shown now (newest P (effective J) now past are) query said due, refl), are)

transcript_from : (P : Program) (J rest : Journal) (stages : List Stage) → IsLegal P J → Are P (effective J) stages
    → AreDue P (effective J) rest → length J + length rest ≤ CALLS → IsTranscript P stages rest
transcript_from P J [] stages legal are due few = tt
transcript_from P J (entry ∷ rest) stages legal are due few =
    let g = goes P J legal entry.seat entry.call entry.said stages are due.0 in
    let same = effective_more J entry in
    let size = length_push J entry in (
      g.0,
      g.1,
      transcript_from P (J ++ entry ∷ []) rest g.0 (legal_more P J entry legal (omega (arith, few)) due.0)
          (subst (λ (given : List Given). Are P given g.0) (sym same) g.2)
          (subst (λ (given : List Given). AreDue P given rest) (sym same) due.1)
          (omega (arith, few, size)),
    )

pub transcript : (P : Program) (J : Journal) → IsLegal P J → IsTranscript P (first_stage ∷ []) J
transcript P J legal =
    transcript_from P [] J (first_stage ∷ []) (record { few = omega arith; due = tt }) (start, refl) legal.due (let few = legal.few in omega (arith, few))
  where
    start : IsAt P [] first_stage
    start = record {
      M = opening P;
      leads = refl;
      is = record {
        reached = leads_to_reached P [] (opening P) refl;
        remain = sym (no_events (length P));
        fires = (start_of P, refl);
        breakpoints = refl;
      };
    }
