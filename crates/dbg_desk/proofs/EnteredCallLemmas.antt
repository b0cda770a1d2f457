-- The answer to a call, and the value under the lock after it.
use Rattle.std.proofs.Common.{◌≡◌, inl, inr, ℕ, suc, ◌-◌, ◌<◌, List, [], ◌∷◌, ◌++◌, length, map, Result, Ok, Err, Some, refl, sym, ap}
use Rattle.std.proofs.Common.{◌∙◌, subst, arith, get_or}
use Rattle.std.specs.Prelude.{◌⊎◌, slice_get}
use Rattle.std.specs.List.{AllByRecursion}
use Rattle.std.proofs.lemmas.List.{length-map, map_push, length_push, get_or_push}
use Rattle.std.proofs.lemmas.Option.{slice_get_read}
use Rattle.dbg_base.specs.declared.limits.TheConstants.{CALLS}
use Rattle.dbg_base.specs.declared.refusal.Refusal.{Refusal}
use Rattle.dbg_base.specs.declared.refusal.Refusal.TheVariants.{Memory}
use Rattle.dbg_base.specs.declared.said.Answer.{Answer}
use Rattle.dbg_base.specs.declared.said.Reply.{Reply}
use Rattle.dbg_base.specs.declared.said.Said.{Said}
use Rattle.dbg_base.specs.declared.said.Said.TheVariants.{Refused}
use Rattle.dbg_base.specs.Trees.{Program}
use Rattle.dbg_base.specs.Fits.{FitsCall}
use Rattle.dbg_base.specs.Calls.{Order, Query, Call, Give, Back, Ask, call_of}
use Rattle.dbg_base.specs.ModelStates.{ModelState, IsHaltPlace}
use Rattle.dbg_base.specs.Journals.{Entry, Given, Journal, LeadsTo, IsDue, AnswersBack, Enters, Makes, IsLegal, counting, effective, last_given}
use Rattle.dbg_laws.proofs.LegalJournalLemmas.{effective_more, legal_more}
use Rattle.dbg_records.specs.Small.{small_call_of, small_said_of}
use Rattle.dbg_board.specs.declared.glance.Glance.{Glance}
use Rattle.dbg_board.specs.Pairs.{Begins}
use Rattle.dbg_command.specs.Tables.{FollowsOrRefuses, AnswersOrRefuses, said_of, reported_of}
use Rattle.dbg_session.specs.Sessions.{SessionState}
use Rattle.dbg_desk.specs.declared.entry.Entry as entry
use Rattle.dbg_desk.specs.declared.entry.RecordedCall as own
use Rattle.dbg_desk.specs.Desks.{RecordedCall, Standing, SeatState, IsAmong, Shows, ArePairs, IsLocked, Notes, entry_of, own_of}
use Rattle.dbg_desk.specs.Desks.{last_said, said_in}
use Rattle.dbg_desk.proofs.BoardPairLemmas.{pairs_more, all_more}

-- the answer to the call is due to it, if memory did not run out

refused_memory : (result : Result Reply Refusal) → said_of result ≡ Refused Memory → result ≡ Err Memory
refused_memory (Ok reply) is = cc
refused_memory (Err refusal) is = let same : refusal ≡ Memory = cc in ap (λ (r : Refusal). Err r) same

pub due_given : (P : Program) (given : List Given) (seat : ℕ) (order : Order) (M after : ModelState) (result : Result Reply Refusal)
    → LeadsTo P given M → FollowsOrRefuses P order M result after → (result ≡ Err Memory → ⊥)
    → IsDue P given seat (Give order) (said_of result)
due_given P given seat order M after result leads_to (inl follows) there = (M, after, leads_to, follows)
due_given P given seat order M after result leads_to (inr refuses) there = absurd (there (refused_memory result refuses.0))

pub due_back : (P : Program) (given : List Given) (seat : ℕ) (result : Result Reply Refusal)
    → AnswersBack P given seat (last_given given) (said_of result) ⊎ (result ≡ Err Memory) → (result ≡ Err Memory → ⊥)
    → IsDue P given seat Back (said_of result)
due_back P given seat result (inl due) there = due
due_back P given seat result (inr memory) there = absurd (there memory)

pub due_asked : (P : Program) (given : List Given) (seat : ℕ) (query : Query) (M : ModelState) (result : Result Answer Refusal)
    → LeadsTo P given M → AnswersOrRefuses P M query result → (result ≡ Err Memory → ⊥)
    → IsDue P given seat (Ask query) (reported_of result)
due_asked P given seat query M result leads_to (inl answers) there = (M, leads_to, answers)
due_asked P given seat query M result leads_to (inr memory) there = absurd (there memory)

-- a call that was made

-- The value under the lock once the call was entered, and what the seat and the board show of it.
pub record IsEntered (P : Program) (seats : ℕ) (call : Call) (said : Said) (old : Standing) (was : SeatState) (after : SessionState)
    (J : Journal) (reported : List Glance) (now : SeatState) : Type 0 where
  pub locked : IsLocked P seats after J reported
  pub few : length old.journal < CALLS
  pub last : last_said J ≡ said
  pub enters : Enters P old.journal was.number call said J
  pub notes : Notes P old was call said (record { journal = J; pairs = reported }) now

-- what contracts say of a call that was entered
module _ {P : Program} {seats : ℕ} {call : Call} {said : Said} {old : Standing} {was : SeatState} {after : SessionState} {J : Journal}
    {reported : List Glance} {now : SeatState} (e : IsEntered P seats call said old was after J reported now) where
  pub enters_last : Enters P old.journal was.number call (last_said J) J
  enters_last = subst (λ (s : Said). Enters P old.journal was.number call s J) (sym e.last) e.enters

  pub makes_last : Makes P old.journal was.number call (last_said J) J
  makes_last = inl (e.few, inl enters_last)

  pub notes_last : Notes P old was call (last_said J) (record { journal = J; pairs = reported }) now
  notes_last = subst (λ (s : Said). Notes P old was call s (record { journal = J; pairs = reported }) now) (sym e.last) e.notes

  pub fits_last : FitsCall P call said → FitsCall P call (last_said J)
  fits_last fits = subst (FitsCall P call) (sym e.last) fits

-- a session that was not called has the same state
pub leads_to_still : (P : Program) (seats : ℕ) (session : SessionState) (J : Journal) (pairs : List Glance)
    → IsLocked P seats session J pairs → LeadsTo session.program session.effective session.state
leads_to_still P seats session J pairs locked =
    subst (λ (Q : Program). LeadsTo Q session.effective session.state) (sym locked.program)
    (subst (λ (given : List Given). LeadsTo P given session.state) (sym locked.effective) locked.leads_to)

-- the last entry of a journal to which one was appended
pub last_pushed : (J : Journal) (one : Entry) → slice_get (J ++ one ∷ []) (length (J ++ one ∷ []) - 1) ≡ Some one
last_pushed J one =
    let more = length_push J one in
    let last : length (J ++ one ∷ []) - 1 ≡ length J = omega (arith, more) in
    slice_get_read (J ++ one ∷ []) (length (J ++ one ∷ [])) (length (J ++ one ∷ []) - 1) one refl (omega (arith, more))
    (sym (ap (λ (n : ℕ). get_or (J ++ one ∷ []) n one) last ∙ get_or_push J one one (length J) refl))

module _ (P : Program) (seats : ℕ) (session : SessionState) (items : List entry.Entry) (pairs : List Glance)
    (locked : IsLocked P seats session (map entry_of items) pairs) (seat : ℕ) (call : Call) (said : Said) (few : length items < CALLS)
    (due : IsDue P (effective (map entry_of items)) seat call said) where
  abbrev J : Journal
  J = map entry_of items

  abbrev one : Entry
  one = record { seat = seat; call = call; said = said }

  size : length J ≡ length items
  size = length-map items entry_of

  module _ (kept : entry.Entry) (of_seat : kept.seat ≡ seat) (of_call : call_of kept.call ≡ call) (of_said : kept.said ≡ said)
      (others : List entry.Entry) (pushed : others ≡ items ++ kept ∷ []) where
    longer : map entry_of others ≡ J ++ one ∷ []
    longer =
        ap (λ (l : List entry.Entry). map entry_of l) pushed ∙ map_push entry_of items kept
        ∙ ap (λ (e : Entry). J ++ e ∷ []) (λ i. record { seat = of_seat i; call = of_call i; said = of_said i })

    module _ (after : SessionState) (same : after.program ≡ session.program)
        (counts : after.effective ≡ counting session.effective seat call said)
        (leads_to : LeadsTo after.program after.effective after.state) (halt : ℕ)
        (halts : IsHaltPlace after.program after.state halt) (calls : ℕ) (long : calls ≡ length others) where
      abbrev pair : Glance
      pair = record { calls = calls; halt = halt }

      program : after.program ≡ P
      program = same ∙ locked.program

      now : after.effective ≡ effective (map entry_of others)
      now =
          counts ∙ ap (λ (given : List Given). counting given seat call said) locked.effective
          ∙ sym (effective_more J one) ∙ sym (ap effective longer)

      leads_to_now : LeadsTo P (effective (map entry_of others)) after.state
      leads_to_now =
          subst (λ (Q : Program). LeadsTo Q (effective (map entry_of others)) after.state) program
          (subst (λ (given : List Given). LeadsTo after.program given after.state) now leads_to)

      shows : Shows P (map entry_of others) pair
      shows = record {
        calls = long ∙ sym (length-map others entry_of);
        state = after.state;
        leads_to = leads_to_now;
        halt = subst (λ (Q : Program). IsHaltPlace Q after.state halt) program halts;
      }

      module _ (reported : List Glance) (published : reported ≡ pairs ++ pair ∷ []) where
        locked_more : IsAmong seats seat → IsLocked P seats after (map entry_of others) reported
        locked_more among = record {
          program = program;
          legal = subst (IsLegal P) (sym longer) (legal_more P J one locked.legal (let l = size in omega (arith, few, l)) due);
          effective = now;
          leads_to = leads_to_now;
          among = subst (AllByRecursion (λ (e : Entry). IsAmong seats e.seat)) (sym longer)
              (all_more (λ (e : Entry). IsAmong seats e.seat) J one locked.among among);
          shown = subst (ArePairs P [] (map entry_of others)) (sym published)
              (subst (λ (K : Journal). ArePairs P [] K (pairs ++ pair ∷ [])) (sym longer)
              (pairs_more P [] J pairs one pair locked.shown (subst (λ (K : Journal). Shows P K pair) longer shows)));
        }

        -- the call was entered, recorded and shown
        pub entered : IsAmong seats seat → (old : Standing) (was : SeatState) (mine : own.RecordedCall) (owns more : List own.RecordedCall)
            (seen sees : List Glance) → record { journal = J; pairs = pairs } ≡ old
            → record { number = seat; own = map own_of owns; seen = seen } ≡ was → small_call_of mine.call ≡ call
            → small_said_of mine.said ≡ said → more ≡ owns ++ mine ∷ [] → sees ≡ reported → Begins seen sees
            → IsEntered P seats call said old was after (map entry_of others) reported (record { number = seat; own = map own_of more; seen = sees })
        entered among old was mine owns more seen sees of was_seat own_call own_said kept_too same_seen begins =
            let size : length (map entry_of others) ≡ suc (length old.journal) =
            let more = ap (λ (K : Journal). length K) longer in
            let one_more = length_push J one in
            let before = ap (λ (s : Standing). length s.journal) of in
            omega (arith, more, one_more, before) in
            record {
              locked = locked_more among;
              few = let before = ap (λ (s : Standing). length s.journal) of in let l = length-map items entry_of in omega (arith, few, before, l);
              last = ap last_said longer ∙ ap said_in (last_pushed J one);
              enters = record {
                due = subst (λ (K : Journal). IsDue P (effective K) was.number call said) (ap (λ (s : Standing). s.journal) of)
                    (subst (λ (n : ℕ). IsDue P (effective J) n call said) (ap (λ (s : SeatState). s.number) was_seat) due);
                entered = longer ∙ (λ i. (of i).journal ++ record { seat = (was_seat i).number; call = call; said = said } ∷ []);
              };
              notes = inl (
                size,
                record {
                  number = ap (λ (s : SeatState). s.number) was_seat;
                  own = ap (λ (l : List own.RecordedCall). map own_of l) kept_too ∙ map_push own_of owns mine
                      ∙ ap (λ (e : RecordedCall). map own_of owns ++ e ∷ []) (λ i. record { call = own_call i; said = own_said i })
                      ∙ ap (λ (s : SeatState). s.own ++ record { call = call; said = said } ∷ []) was_seat;
                  pair = pair;
                  shows = shows;
                  shown = published ∙ ap (λ (s : Standing). s.pairs ++ pair ∷ []) of;
                  seen = same_seen;
                  begins = subst (λ (l : List Glance). Begins l sees) (ap (λ (s : SeatState). s.seen) was_seat) begins;
                },
              );
            }
