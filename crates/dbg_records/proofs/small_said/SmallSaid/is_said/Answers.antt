use Rattle.std.proofs.Common.{◌≡◌, ◌↔◌, Bool, IsTrue, rules, subst, sym}
use Rattle.std.proofs.lemmas.Bool.Decides.{Decides-int_eq}
use Rattle.std.proofs.lemmas.Slice.Eq.{slice_eq-Decides}
use Rattle.dbg_records.proofs.SameAnswerLemmas.{same_said}
use Rattle.dbg_records.proofs.small_said.SmallSaid.is_said.Goals as goal

pub returns-in-Values-Answered-Values : goal.returns-in-Values-Answered-Values
returns-in-Values-Answered-Values c =
    let same : IsTrue c.eq-in-Values-Answered-Values.result ↔ (c.as_slice.result.now ≡ c.items.result.now) =
    slice_eq-Decides Decides-int_eq _ _ _ c.eq-in-Values-Answered-Values.ensures in
    search rules

pub returns-in-Messages-Answered-Messages : goal.returns-in-Messages-Answered-Messages
returns-in-Messages-Answered-Messages c =
    let same : IsTrue c.eq-in-Messages-Answered-Messages.result
    ↔ (c.as_slice-in-Messages-Answered-Messages.result.now ≡ c.items-in-Messages-Answered-Messages.result.now) =
    slice_eq-Decides Decides-int_eq _ _ _ c.eq-in-Messages-Answered-Messages.ensures in
    search rules

pub returns-in-Frontier-Answered-Frontier : goal.returns-in-Frontier-Answered-Frontier
returns-in-Frontier-Answered-Frontier c =
    let same : IsTrue c.eq-in-Frontier-Answered-Frontier.result
    ↔ (c.as_slice-in-Frontier-Answered-Frontier.result.now ≡ c.items-in-Frontier-Answered-Frontier.result.now) =
    slice_eq-Decides (λ head next. search rules) _ _ _ c.eq-in-Frontier-Answered-Frontier.ensures in
    search rules

pub returns-in-Apart-default : goal.returns-in-Apart-default
returns-in-Apart-default c =
    let same : IsTrue c.eq-in-Apart-default.result ↔ (c.as_ref.result.now ≡ c.args.said.now) =
    subst (λ (same : Bool). IsTrue same ↔ (c.as_ref.result.now ≡ c.args.said.now)) (sym c.eq-in-Apart-default.ensures)
    (same_said c.as_ref.result.now c.args.said.now) in
    search rules
