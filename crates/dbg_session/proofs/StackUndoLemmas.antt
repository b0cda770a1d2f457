-- A stack of commands that can be undone, the last one first.
use Rattle.std.proofs.Common.{◌≡◌, inl, inr, ℕ, ◌-◌, Bool, MatchBool, List, [], ◌∷◌, ◌++◌, map, take, set, Option, Some, Result}
use Rattle.std.proofs.Common.{Ok, Err, refl, sym, ap, ◌∙◌, subst}
use Rattle.std.specs.Prelude.{slice_get, OnErr}
use Rattle.std.proofs.lemmas.Bool.{eq-eqb}
use Rattle.std.proofs.lemmas.List.{length-map, take-map, take-set}
use Rattle.std.proofs.Math.ListN.{get_or-map}
use Rattle.dbg_base.specs.declared.said.Done.TheVariants.{Plain}
use Rattle.dbg_base.specs.declared.said.Reply.{Reply}
use Rattle.dbg_base.specs.declared.said.Said.TheVariants.{Accepted, Refused}
use Rattle.dbg_base.specs.declared.refusal.Refusal.TheVariants.{OtherSeat}
use Rattle.dbg_base.specs.Trees.{Program}
use Rattle.dbg_base.specs.Calls.{Order}
use Rattle.dbg_base.specs.ModelStates.{ModelState, opening}
use Rattle.dbg_base.specs.Acts.{Accepts, Follows}
use Rattle.dbg_base.specs.Journals.{Given, Leads, LeadsTo, AnswersBack, last_given}
use Rattle.dbg_base.specs.Reversal.{without_back}
use Rattle.dbg_command.specs.Tables.{TableState, IsTableOf, FollowsOrRefuses, Replies, shown, state_of}
use Rattle.dbg_command.specs.Boxes.{LeadsBack}
use Rattle.dbg_command.proofs.CommandAnswerLemmas.{accepted}
use Rattle.dbg_command.proofs.BatchLemmas.{shown_state}
use Rattle.dbg_session.specs.declared.session.Stacked.{Stacked}
use Rattle.dbg_session.specs.Sessions.{SessionState, GoesBack, GaveLast, given_of, start_of, Unwinds, IsSession}
use Rattle.dbg_session.proofs.Stacks.{EndsWith, last_written, last_split, last_found}

-- an order that was accepted did what the model's order does
followed : (P : Program) (order : Order) (M M' : ModelState) (reply : Reply) → FollowsOrRefuses P order M (Ok reply) M'
    → Follows P order M (Accepted reply) M'
followed P order M M' reply (inl follows) = follows
followed P order M M' reply (inr refuses) = cc

-- the list of the commands and the table, without the rest of the session

module _ {C : Type 0} (order : C → Order) (MayGoBack : C → Program → ModelState → Type 0) (before : C → ModelState → ModelState)
    (P : Program) where
  start_after : (prefix : List (Stacked C)) (last : Stacked C) (M : ModelState)
      → start_of before (prefix ++ last ∷ []) M ≡ start_of before prefix (before last.command M)
  start_after [] last M = refl
  start_after (one ∷ prefix) last M = ap (before one.command) (start_after prefix last M)

  abbrev Link : Stacked C → ModelState → Type 0
  Link one M = GoesBack P (MayGoBack one.command) (before one.command) (order one.command) M

  abbrev Chain : List (Stacked C) → ModelState → Type 0
  Chain stack M = Unwinds order MayGoBack before P stack M

  chain_longer : (prefix : List (Stacked C)) (last : Stacked C) (M : ModelState) → Chain prefix (before last.command M) → Link last M
      → Chain (prefix ++ last ∷ []) M
  chain_longer [] last M chain link = (link, tt)
  chain_longer (one ∷ prefix) last M chain link =
      (subst (Link one) (sym (start_after prefix last M)) chain.0, chain_longer prefix last M chain.1 link)

  chain_shorter : (prefix : List (Stacked C)) (last : Stacked C) (M : ModelState) → Chain (prefix ++ last ∷ []) M
      → Chain prefix (before last.command M)
  chain_shorter [] last M chain = tt
  chain_shorter (one ∷ prefix) last M chain =
      (subst (Link one) (start_after prefix last M) chain.0, chain_shorter prefix last M chain.1)

  chain_end : (prefix : List (Stacked C)) (last : Stacked C) (M : ModelState) → Chain (prefix ++ last ∷ []) M → Link last M
  chain_end [] last M chain = chain.0
  chain_end (one ∷ prefix) last M chain = chain_end prefix last M chain.1

  chain_leads : (stack : List (Stacked C)) (M : ModelState) → Chain stack M → Leads P (map (given_of order) stack) (start_of before stack M) M
  chain_leads [] M chain = refl
  chain_leads (one ∷ stack) M chain = (chain.0.reply, start_of before stack M, chain.0.acts, chain_leads stack M chain.1)

-- sessions

module _ {C : Type 0} {order : C → Order} {MayGoBack : C → Program → ModelState → Type 0} {before : C → ModelState → ModelState}
    {P : Program} {t : TableState} {stack : List (Stacked C)} (session : IsSession order MayGoBack before P t stack) where
  abbrev given : List Given
  given = map (given_of order) stack

  abbrev Is : TableState → List (Stacked C) → Type 0
  Is t' others = IsSession order MayGoBack before P t' others

  -- its state is the one to which the orders of its stack lead
  pub session_leads_to : LeadsTo P given (state_of t)
  session_leads_to =
      subst (λ (M : ModelState). Leads P given M (state_of t)) session.start
      (chain_leads order MayGoBack before P stack (state_of t) session.unwinds)

  module _ {t' : TableState} (of : IsTableOf P t') where
    -- another table that shows the same
    pub session_kept : shown t' ≡ shown t → Is t' stack
    session_kept same =
        let state : state_of t ≡ state_of t' = sym (shown_state t' t same) in
        record {
          table = of;
          unwinds = subst (Chain order MayGoBack before P stack) state session.unwinds;
          start = subst (λ (M : ModelState). start_of before stack M ≡ opening P) state session.start;
        }

    -- one more command was accepted
    pub session_longer : (last : Stacked C) (given : Order) (reply : Reply) → order last.command ≡ given
        → FollowsOrRefuses P given (state_of t) (Ok reply) (state_of t')
        → LeadsBack (MayGoBack last.command P) (before last.command) (state_of t) (state_of t') → Is t' (stack ++ last ∷ [])
    session_longer last given reply same follows back =
        let acts : Follows P given (state_of t) (Accepted reply) (state_of t') =
        followed P given (state_of t) (state_of t') reply follows in
        let link : Link order MayGoBack before P last (state_of t') = record {
          may = back.may;
          reply = reply;
          acts = subst (λ (o : Order). Follows P o (before last.command (state_of t')) (Accepted reply) (state_of t')) (sym same)
              (subst (λ (M : ModelState). Follows P given M (Accepted reply) (state_of t')) (sym back.leads) acts);
        } in
        record {
          table = of;
          unwinds = chain_longer order MayGoBack before P stack last (state_of t')
              (subst (Chain order MayGoBack before P stack) (sym back.leads) session.unwinds) link;
          start = start_after order MayGoBack before P stack last (state_of t') ∙ ap (start_of before stack) back.leads ∙ session.start;
        }

  -- the last command
  module _ {n : ℕ} {last : Stacked C} (ends : EndsWith stack n last) where
    abbrev prefix : List (Stacked C)
    prefix = take (n - 1) stack

    whole : Is t (prefix ++ last ∷ [])
    whole = subst (Is t) (sym (last_split stack n last ends)) session

    pub last_may_go_back : MayGoBack last.command P (state_of t)
    last_may_go_back = (chain_end order MayGoBack before P prefix last (state_of t) whole.unwinds).may

    -- it was not undone, and the session stays
    pub last_stays : (command : C) → command ≡ last.command → set stack (n - 1) (record { seat = last.seat; command = command }) ≡ stack
    last_stays command same =
        ap (λ (one : C). set stack (n - 1) (record { seat = last.seat; command = one })) same ∙ last_written stack n last ends

    given_last : last_given given ≡ Some (given_of order last)
    given_last =
        ap (λ (k : ℕ). slice_get given (k - 1)) (length-map stack (given_of order) ∙ sym ends.long)
        ∙ last_found given n (given_of order last) (record {
          long = ends.long ∙ sym (length-map stack (given_of order));
          some = ends.some;
          is = ap (given_of order) ends.is ∙ sym (get_or-map (given_of order) stack (n - 1) last);
        })

    -- the seat that gave it
    pub gave_last : (seat : ℕ) → last.seat ≡ seat → GaveLast given seat
    gave_last seat same =
        (order last.command, given_last ∙ ap (λ (giver : ℕ). Some (record { seat = giver; order = order last.command })) same)

    -- it was undone
    module _ {t' : TableState} (of : IsTableOf P t') (back : state_of t' ≡ before last.command (state_of t)) where
      shorter : Is t' prefix
      shorter = record {
        table = of;
        unwinds = subst (Chain order MayGoBack before P prefix) (sym back)
            (chain_shorter order MayGoBack before P prefix last (state_of t) whole.unwinds);
        start = ap (start_of before prefix) back ∙ sym (start_after order MayGoBack before P prefix last (state_of t)) ∙ whole.start;
      }

      pub session_shorter : (rest : List (Stacked C)) (written : Stacked C) → rest ≡ take (n - 1) (set stack (n - 1) written) → Is t' rest
      session_shorter rest written left = subst (Is t') (sym (left ∙ take-set stack (n - 1) written)) shorter

      shorter_leads_to : LeadsTo P (without_back given) (state_of t')
      shorter_leads_to =
          subst (λ (orders : List Given). LeadsTo P orders (state_of t'))
          (sym (take-map (given_of order) (n - 1) stack)
          ∙ ap (λ (k : ℕ). take (k - 1) given) (ends.long ∙ sym (length-map stack (given_of order))))
          (subst (λ (M : ModelState). Leads P (map (given_of order) prefix) M (state_of t')) shorter.start
          (chain_leads order MayGoBack before P prefix (state_of t') shorter.unwinds))

      pub answers_back : (seat : ℕ) (reply : Reply) → last.seat ≡ seat → Replies P (state_of t') Plain reply
          → AnswersBack P given seat (last_given given) (Accepted reply)
      answers_back seat reply same replies =
          subst (λ (o : Option Given). AnswersBack P given seat o (Accepted reply)) (sym given_last)
          (subst (λ (b : Bool). MatchBool b ((M : ModelState) × LeadsTo P (without_back given) M × Accepts P Plain (Accepted reply) M)
          (Accepted reply ≡ Refused (OtherSeat last.seat)))
          (sym (eq-eqb last.seat seat same)) (state_of t', shorter_leads_to, accepted P (state_of t') Plain reply replies))

-- what contracts see of a session whose call failed
pub seen_same : {C T E : Type 0} {P : Program} {stack rest : List (Stacked C)} {old : SessionState} (order : C → Order) (t t' : TableState)
    (result : Result T E) → rest ≡ stack → shown t' ≡ shown t
    → record { program = P; effective = map (given_of order) stack; state = state_of t } ≡ old
    → OnErr result (record { program = P; effective = map (given_of order) rest; state = state_of t' } ≡ old)
seen_same order t t' (Ok done) same table is = tt
seen_same {C = C} {P = P} {stack = stack} order t t' (Err refusal) same table is =
    let seen : List (Stacked C) → ModelState → SessionState = λ list M. record {
      program = P;
      effective = map (given_of order) list;
      state = M;
    } in
    ap (λ (list : List (Stacked C)). seen list (state_of t')) same ∙ ap (seen stack) (shown_state t' t table) ∙ is
