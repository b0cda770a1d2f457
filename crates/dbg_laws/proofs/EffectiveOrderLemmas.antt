-- The state of a session whose calls have the answers that are due: the orders that count lead to exactly one state. They can be given
-- alone, each with the same reply.
use Rattle.std.proofs.Common.{◌≡◌, inl, inr, zero, suc, ◌+◌, ◌-◌, ◌≤◌, Bool, true, false, List, [], ◌∷◌, ◌++◌, length, map}
use Rattle.std.proofs.Common.{replicate, Option, Some, None, refl, sym, ap, ◌∙◌, subst, arith, MatchBool}
use Rattle.std.specs.Prelude.{ℕ, ◌==◌, slice_get}
use Rattle.std.proofs.lemmas.List.{length_push, length-replicate, length-take, length-map, append-nil, append_assoc}
use Rattle.dbg_base.specs.declared.said.Reply.{Reply}
use Rattle.dbg_base.specs.declared.said.Said.{Said}
use Rattle.dbg_base.specs.declared.said.Said.TheVariants.{Accepted, Answered, Refused}
use Rattle.dbg_base.specs.declared.said.Done.TheVariants.{Plain}
use Rattle.dbg_base.specs.declared.refusal.Refusal.TheVariants.{OtherSeat}
use Rattle.dbg_base.specs.Trees.{Program}
use Rattle.dbg_base.specs.Configurations.{start_of}
use Rattle.dbg_base.specs.Histories.{History, IsPossible}
use Rattle.dbg_base.specs.Reversal.{without_back}
use Rattle.dbg_base.specs.SystemStates.{IsStateOf, opening_state, line_of, cut_lines}
use Rattle.dbg_base.specs.ModelStates.{ModelState, opening}
use Rattle.dbg_base.specs.Calls.{Plan, Order, One, Batch, Call, Give, Back, Ask}
use Rattle.dbg_base.specs.Acts.{Accepts, Batches, Follows}
use Rattle.dbg_base.specs.Journals.{Journal, Given, counting, effective_from, effective, Leads, LeadsTo, last_given, AnswersBack}
use Rattle.dbg_base.specs.Journals.{IsDue, AreDue, IsLegal}
use Rattle.dbg_base.proofs.EliminationLemmas.{none_at}
use Rattle.dbg_laws.specs.Outcomes.{HasOneState}
use Rattle.dbg_laws.specs.Remaining.{call_in, given_call}
use Rattle.dbg_laws.proofs.Lists.{none_in_replicate}
use Rattle.dbg_laws.proofs.OrderSwapLemmas.{takes}
use Rattle.dbg_laws.proofs.PlayLemmas.{possible}
use Rattle.dbg_laws.proofs.ReachedStateLemmas.{IsReached, acts_keep}
use Rattle.dbg_laws.proofs.OneOutcome.{one_outcome}

-- The opening state is a state of the program, and orders lead to such states.

pub no_events : (n : ℕ) → cut_lines (replicate n []) (replicate n 0) ≡ replicate n []
no_events zero = refl
no_events (suc n) = ap (λ (H : History). [] ∷ H) (no_events n)

pub opens_state : (P : Program) → IsStateOf P (opening_state P)
opens_state P = record {
  lines = length-replicate (length P) [];
  places = length-replicate (length P) 0;
  within = λ p. let none = none_at (length P) p in omega (arith, none);
  few = λ p. let none : length (line_of (opening_state P) p) ≡ 0 = ap (λ (l : List ℕ). length l) (none_in_replicate (length P) p) in
      omega (arith, none);
  commands = λ p n k at.
      let none : slice_get (line_of (opening_state P) p) n ≡ slice_get [] n =
      ap (λ (l : List ℕ). slice_get l n) (none_in_replicate (length P) p) in cc;
}

pub opening_reached : (P : Program) → IsReached P (opening_state P)
opening_reached P = record {
  state = opens_state P;
  possible = subst (IsPossible P) (sym (no_events (length P)))
      (possible P (replicate (length P) []) [] (start_of P) refl (takes P (start_of P) (start_of P) [] refl)).0;
}

batches_keep : (P : Program) (start : ModelState) (at : ℕ) (plans : List Plan) (M : ModelState) (said : Said) (after : ModelState)
    → IsReached P start.system → IsReached P M.system → Batches P start at plans M said after → IsReached P after.system
batches_keep P start at [] M said after first reached ends = subst (λ (N : ModelState). IsReached P N.system) (sym ends.1) reached
batches_keep P start at (plan ∷ plans) M said after first reached (inl goes) =
    batches_keep P start (at + 1) plans goes.1 said after first (acts_keep P M reached plan (Accepted goes.0) goes.1 goes.2).reached goes.3
batches_keep P start at (plan ∷ plans) M said after first reached (inr ends) =
    subst (λ (N : ModelState). IsReached P N.system) (sym ends.2.1) first

pub follows_keep : (P : Program) (order : Order) (M : ModelState) (said : Said) (after : ModelState) → IsReached P M.system
    → Follows P order M said after → IsReached P after.system
follows_keep P (One plan) M said after reached follows = (acts_keep P M reached plan said after follows).reached
follows_keep P (Batch plans) M said after reached follows = batches_keep P M 1 plans M said after reached reached follows

-- Orders, each accepted at the state to which those before it lead.

pub leads_keep : (P : Program) (given : List Given) (M N : ModelState) → IsReached P M.system → Leads P given M N → IsReached P N.system
leads_keep P [] M N reached leads = subst (λ (K : ModelState). IsReached P K.system) (sym leads) reached
leads_keep P (first ∷ given) M N reached leads =
    leads_keep P given leads.1 N (follows_keep P first.order M (Accepted leads.0) leads.1 reached leads.2) leads.3

pub leads_once : (P : Program) (given : List Given) (M N other : ModelState) → IsReached P M.system → Leads P given M N
    → Leads P given M other → other ≡ N
leads_once P [] M N other reached leads again = again ∙ sym leads
leads_once P (first ∷ given) M N other reached leads again =
    let one = one_outcome P first.order M reached.state reached.possible in
    let same : again.1 ≡ leads.1 =
    (one.only (Accepted again.0) again.1 again.2).1 ∙ sym (one.only (Accepted leads.0) leads.1 leads.2).1 in
    leads_once P given leads.1 N other (follows_keep P first.order M (Accepted leads.0) leads.1 reached leads.2) leads.3
    (subst (λ (K : ModelState). Leads P given K other) same again.3)

pub leads_more : (P : Program) (given : List Given) (M N : ModelState) (next : Given) (reply : Reply) (after : ModelState)
    → Leads P given M N → Follows P next.order N (Accepted reply) after → Leads P (given ++ next ∷ []) M after
leads_more P [] M N next reply after leads follows =
    (reply, after, subst (λ (K : ModelState). Follows P next.order K (Accepted reply) after) leads follows, refl)
leads_more P (first ∷ given) M N next reply after leads follows =
    (leads.0, leads.1, leads.2, leads_more P given leads.1 N next reply after leads.3 follows)

module _ (P : Program) where
  pub leads_to_reached : (given : List Given) (M : ModelState) → LeadsTo P given M → IsReached P M.system
  leads_to_reached given M leads_to = leads_keep P given (opening P) M (opening_reached P) leads_to

  pub leads_to_once : (given : List Given) (M other : ModelState) → LeadsTo P given M → LeadsTo P given other → other ≡ M
  leads_to_once given M other = leads_once P given (opening P) M other (opening_reached P)

  -- Calls with the answers that are due.

  -- the orders lead to some state
  abbrev pub LeadsSomewhere : List Given → Type 0
  LeadsSomewhere given = (M : ModelState) × LeadsTo P given M

  -- so do the orders before the last one, if it is taken back
  back_leads_to : (given : List Given) (seat : ℕ) (last : Option Given) (reply : Reply) → AnswersBack P given seat last (Accepted reply)
      → LeadsSomewhere (without_back given)
  back_leads_to given seat None reply answers = cc
  back_leads_to given seat (Some last) reply answers = by (last.seat == seat) answers
    where
      by : (same : Bool)
          → MatchBool same ((M : ModelState) × LeadsTo P (without_back given) M × Accepts P Plain (Accepted reply) M)
          (Accepted reply ≡ Refused (OtherSeat last.seat)) → LeadsSomewhere (without_back given)
      by true goes = (goes.0, goes.1)
      by false refused = cc

  counting_leads_to : (given : List Given) (seat : ℕ) (call : Call) (said : Said) → LeadsSomewhere given → IsDue P given seat call said
      → LeadsSomewhere (counting given seat call said)
  counting_leads_to given seat (Give order) (Accepted reply) leads_to due =
      (due.1, leads_more P given (opening P) due.0 (record { seat = seat; order = order }) reply due.1 due.2 due.3)
  counting_leads_to given seat (Give order) (Answered answer) leads_to due = leads_to
  counting_leads_to given seat (Give order) (Refused refusal) leads_to due = leads_to
  counting_leads_to given seat Back (Accepted reply) leads_to due = back_leads_to given seat (last_given given) reply due
  counting_leads_to given seat Back (Answered answer) leads_to due = leads_to
  counting_leads_to given seat Back (Refused refusal) leads_to due = leads_to
  counting_leads_to given seat (Ask query) said leads_to due = leads_to

  pub due_leads_to : (given : List Given) (J : Journal) → LeadsSomewhere given → AreDue P given J → LeadsSomewhere (effective_from given J)
  due_leads_to given [] leads_to due = leads_to
  due_leads_to given (entry ∷ J) leads_to due =
      due_leads_to (counting given entry.seat entry.call entry.said) J
      (counting_leads_to given entry.seat entry.call entry.said leads_to due.0) due.1

  pub legal_leads_to : (J : Journal) → IsLegal P J → LeadsSomewhere (effective J)
  legal_leads_to J legal = due_leads_to [] J (opening P, refl) legal.due

  pub legal_leads_to_once : (J : Journal) → IsLegal P J → HasOneState (LeadsTo P (effective J))
  legal_leads_to_once J legal =
      let leads_to = legal_leads_to J legal in
      record { state = leads_to.0; is = leads_to.1; only = λ other again. leads_to_once (effective J) leads_to.0 other leads_to.1 again }

-- The orders that count alone.

counting_few : (given : List Given) (seat : ℕ) (call : Call) (said : Said) → length (counting given seat call said) ≤ length given + 1
counting_few given seat (Give order) (Accepted reply) =
    let size = length_push given (record { seat = seat; order = order }) in omega (arith, size)
counting_few given seat (Give order) (Answered answer) = omega arith
counting_few given seat (Give order) (Refused refusal) = omega arith
counting_few given seat Back (Accepted reply) = let size = length-take (length given - 1) given in omega (arith, size)
counting_few given seat Back (Answered answer) = omega arith
counting_few given seat Back (Refused refusal) = omega arith
counting_few given seat (Ask query) said = omega arith

-- at most as many orders count as calls were made
pub effective_few : (given : List Given) (J : Journal) → length (effective_from given J) ≤ length given + length J
effective_few given [] = omega arith
effective_few given (entry ∷ J) =
    let here = counting_few given entry.seat entry.call entry.said in
    let rest = effective_few (counting given entry.seat entry.call entry.said) J in
    omega (arith, here, rest)

-- a journal of these orders alone, given when those before them count
record GivesAnew (P : Program) (before given : List Given) : Type 0 where
  journal : Journal
  due : AreDue P before journal
  calls : map call_in journal ≡ map given_call given
  counts : effective_from before journal ≡ before ++ given

gives_anew : (P : Program) (before given : List Given) (M N : ModelState) → LeadsTo P before M → Leads P given M N
    → GivesAnew P before given
gives_anew P before [] M N leads_to leads =
    record { journal = []; due = tt; calls = refl; counts = sym (append-nil before) }
gives_anew P before (first ∷ given) M N leads_to leads =
    let rest = gives_anew P (before ++ first ∷ []) given leads.1 N
    (leads_more P before (opening P) M first leads.0 leads.1 leads_to leads.2) leads.3 in
    record {
      journal = record { seat = first.seat; call = Give first.order; said = Accepted leads.0 } ∷ rest.journal;
      due = ((M, leads.1, leads_to, leads.2), rest.due);
      calls = ap (λ (calls : List (ℕ × Call)). given_call first ∷ calls) rest.calls;
      counts = rest.counts ∙ append_assoc before (first ∷ []) given;
    }

-- the orders that count in a legal journal can be given alone, and then the same orders count
pub remaining_alone : (P : Program) (J : Journal) → IsLegal P J
    → (alone : Journal) × IsLegal P alone × (map call_in alone ≡ map given_call (effective J)) × (effective alone ≡ effective J)
remaining_alone P J legal =
    let leads_to = legal_leads_to P J legal in
    let anew = gives_anew P [] (effective J) (opening P) leads_to.0 refl leads_to.1 in
    let size : length anew.journal ≡ length (effective J) =
    sym (length-map anew.journal call_in) ∙ ap (λ (calls : List (ℕ × Call)). length calls) anew.calls
    ∙ length-map (effective J) given_call in
    let few = effective_few [] J in
    let room = legal.few in
    (anew.journal, record { few = omega (arith, size, few, room); due = anew.due }, anew.calls, anew.counts)
