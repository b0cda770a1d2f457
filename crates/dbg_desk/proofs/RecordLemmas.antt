-- The state of a seat after its call.
use Rattle.std.proofs.Common.{◌≡◌, inl, inr, Bool, true, false, length, refl, sym, ap, subst, arith, MatchBool}
use Rattle.std.proofs.lemmas.List.{length_push}
use Rattle.dbg_base.specs.declared.said.Said.{Said}
use Rattle.dbg_base.specs.declared.said.Said.TheVariants.{Accepted, Answered, Refused}
use Rattle.dbg_base.specs.declared.refusal.Refusal.{Refusal}
use Rattle.dbg_base.specs.declared.refusal.Refusal.TheVariants as refusals
use Rattle.dbg_base.specs.Trees.{Program}
use Rattle.dbg_base.specs.Calls.{Call}
use Rattle.dbg_base.specs.Journals.{Journal, Makes, effective}
use Rattle.dbg_laws.specs.Reported.{IsReported}
use Rattle.dbg_laws.proofs.DueAnswerLemmas.{due_reported}
use Rattle.dbg_desk.specs.Desks.{Standing, SeatState, IsNoted, Notes, IsRecorded, Records, is_left_out}

-- the answer that is due is entered

refusal_reported : (refusal : Refusal) → IsReported (Refused refusal) → is_left_out (Refused refusal) ≡ false
refusal_reported refusals.UnknownProcess reported = refl
refusal_reported refusals.UnknownChoice reported = refl
refusal_reported refusals.GuardFalse reported = refl
refusal_reported refusals.Fault reported = refl
refusal_reported refusals.ChannelEmpty reported = refl
refusal_reported refusals.NothingToUndo reported = refl
refusal_reported (refusals.Consequence q) reported = refl
refusal_reported refusals.NothingToRedo reported = refl
refusal_reported (refusals.Halted name) reported = refl
refusal_reported refusals.BadPlace reported = refl
refusal_reported refusals.BreakTaken reported = refl
refusal_reported refusals.UnknownBreak reported = refl
refusal_reported refusals.NoCut reported = refl
refusal_reported refusals.NotArmed reported = refl
refusal_reported refusals.AlreadyArmed reported = refl
refusal_reported refusals.NothingBack reported = refl
refusal_reported (refusals.OtherSeat seat) reported = refl
refusal_reported refusals.ProcessFull reported = refl
refusal_reported refusals.BreaksFull reported = refl
refusal_reported refusals.JournalFull reported = absurd reported
refusal_reported refusals.Memory reported = absurd reported
refusal_reported refusals.BadLine reported = refl
refusal_reported refusals.BadPredicate reported = refl
refusal_reported refusals.NoneEnabled reported = refl
refusal_reported (refusals.InBatch at number) reported = refl

reported_entered : (said : Said) → IsReported said → is_left_out said ≡ false
reported_entered (Accepted reply) reported = refl
reported_entered (Answered answer) reported = refl
reported_entered (Refused refusal) reported = refusal_reported refusal reported

module _ (P : Program) (old new : Standing) (seat after : SeatState) (call : Call) (said : Said) where
  left_out : is_left_out said ≡ true → after ≡ seat → Records seat call said after
  left_out is same = subst (λ (b : Bool). MatchBool b (after ≡ seat) (IsRecorded seat call said after)) (sym is) same

  entered : is_left_out said ≡ false → IsRecorded seat call said after → Records seat call said after
  entered is recorded = subst (λ (b : Bool). MatchBool b (after ≡ seat) (IsRecorded seat call said after)) (sym is) recorded

  noted : IsNoted P old seat call said new after → IsRecorded seat call said after
  noted n = record { number = n.number; own = n.own; begins = n.begins }

  -- a journal that did not change has no further call
  kept : new.journal ≡ old.journal → is_left_out said ≡ true → Notes P old seat call said new after → Records seat call said after
  kept same is (inl (longer, n)) =
      let size = ap (λ (J : Journal). length J) same in absurd (omega (arith, longer, size))
  kept same is (inr (stays, seat_stays)) = left_out is seat_stays

  pub recorded : Makes P old.journal seat.number call said new.journal → Notes P old seat call said new after
      → Records seat call said after
  recorded (inl (few, inl enters)) (inl (longer, n)) =
      entered (reported_entered said (due_reported P (effective old.journal) seat.number call said enters.due)) (noted n)
  recorded (inl (few, inl enters)) (inr (stays, seat_stays)) =
      let size = ap (λ (J : Journal). length J) enters.entered in
      let one = length_push old.journal (record { seat = seat.number; call = call; said = said }) in
      let same = ap (λ (s : Standing). length s.journal) stays in
      absurd (omega (arith, size, one, same))
  recorded (inl (few, inr misses)) notes = kept misses.left (ap is_left_out misses.reported) notes
  recorded (inr overflows) notes = kept overflows.left (ap is_left_out overflows.reported) notes
