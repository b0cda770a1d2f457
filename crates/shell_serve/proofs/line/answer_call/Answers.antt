use Rattle.dbg_base.specs.Calls.{call_of}
use Rattle.shell_serve.proofs.CommandReplyLemmas.{call_told, is_last, has_last, fits_refusal}
use Rattle.shell_serve.proofs.SeatLemmas.{is_number}
use Rattle.shell_serve.proofs.line.answer_call.Goals as goal

pub tell_entered-requires-clause-last : goal.tell_entered-requires-clause-last
tell_entered-requires-clause-last g c κs within = has_last c.in-Ok.ensures.enters c.in-Ok.ensures.fits

pub refuse_line-requires-clause-fits : goal.refuse_line-requires-clause-fits
refuse_line-requires-clause-fits g c κs within =
    fits_refusal g.L.Run.program (call_of c.args.asked.call) c.in-Err.refusal c.in-Err.ensures.fits

pub returns-in-Ok-clause-answers : goal.returns-in-Ok-clause-answers
returns-in-Ok-clause-answers g c =
    λ bytes parsed.
    call_told g.T.Observer.manner (g.F.ReplyForm.Shows c.args.form.now) g.L.Run.program bytes c.args.locked.now.journal c.args.asked _ _ _ _ _
    (is_number c.args.seats.now c.args.asked.seat c.index-seats-seat.result c.requires.seats c.requires.seat.0 c.requires.seat.1)
    parsed c.in-Ok.ensures.makes (c.tell_entered.ensures.told _ (is_last c.in-Ok.ensures.enters))

pub returns-in-Err-clause-answers : goal.returns-in-Err-clause-answers
returns-in-Err-clause-answers g c =
    λ bytes parsed.
    call_told g.T.Observer.manner (g.F.ReplyForm.Shows c.args.form.now) g.L.Run.program bytes c.args.locked.now.journal c.args.asked _ _ _ _ _
    (is_number c.args.seats.now c.args.asked.seat c.index-seats-seat.result c.requires.seats c.requires.seat.0 c.requires.seat.1)
    parsed c.in-Err.ensures.makes c.refuse_line.ensures.told
