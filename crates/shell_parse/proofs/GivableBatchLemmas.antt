-- Which batches may be given.
use Rattle.std.proofs.Common.{◌≡◌, inl, inr, ◌⊎◌, ℕ, true, List, map, Result, Ok, Err, sym, ap, ◌∙◌, subst}
use Rattle.std.specs.Prelude.{IfOk, Vec}
use Rattle.std.specs.List.{flat_map}
use Rattle.std.specs.declared.alloc.Global.{Global}
use Rattle.dbg_base.specs.declared.call.Call as call
use Rattle.dbg_base.specs.declared.call.Call.TheVariants as calls
use Rattle.dbg_base.specs.declared.call.Plan as plan
use Rattle.dbg_base.specs.declared.call.Plan.TheVariants as plans
use Rattle.dbg_base.specs.declared.call.Plan.TheOpen as layer
use Rattle.dbg_base.specs.declared.call.Plan.TheFolds.{fold-roll-Plan}
use Rattle.dbg_base.specs.declared.call.Plan.TheViews.{out-Plan}
use Rattle.dbg_base.specs.declared.refusal.Refusal.{Refusal}
use Rattle.dbg_base.specs.declared.refusal.Refusal.TheVariants.{Memory}
use Rattle.dbg_base.specs.Calls.{Order, Batch, Give, plans_of, order_of, call_of}
use Rattle.dbg_base.specs.Trees.{Program}
use Rattle.dbg_base.specs.Requests.{AsksOne, AsksBatch}
use Rattle.dbg_base.specs.CommandLines.{map_ok, commands_of}
use Rattle.shell_parse.specs.Lines.{has_shape, are_commands, AreRead, IsMember, IsOneParsed, IsBatchParsed, IsGivable, MayBeBatch}
use Rattle.shell_parse.proofs.Batches.{member, batch_refused, batch_made, may_be_batch}
use Rattle.shell_parse.proofs.LineRefusals.{IsAlone, of_one}

-- the order of a batch
pub batch_order : (batch : Vec plan.Plan Global) → order_of (plans.Batch batch) ≡ Batch (flat_map plans_of (map order_of batch.items))
batch_order batch = ap order_of (sym (plans.rolls-Batch batch)) ∙ fold-roll-Plan Order _ (layer.Batch batch)

-- a single command does not give a batch
pub one_fits : (P : Program) (bytes : List ℕ) (result : Result call.Call Refusal) → IsOneParsed P bytes result → IfOk result IsGivable
one_fits P bytes (Ok given) (inl asks) = λ batch e.
    let one : AsksOne P bytes (Ok (call_of (calls.Give (plans.Batch batch)))) =
    subst (λ (g : call.Call). AsksOne P bytes (Ok (call_of g))) e asks in
    absurd (subst (λ (order : Order). IsAlone (Give order)) (batch_order batch) (of_one P bytes _ one))
one_fits P bytes (Ok given) (inr (word, e)) = cc
one_fits P bytes (Err refusal) parsed = tt

-- a batch that was made is the one that is given
pub batch_fits : (made : Vec plan.Plan Global) → MayBeBatch made.items → IsGivable (calls.Give (plans.Batch made))
batch_fits made fits = λ batch e.
    let given : plans.Batch made ≡ plans.Batch batch = cc in
    let opened : layer.Batch made ≡ layer.Batch batch =
    sym (plans.outs-Batch made) ∙ ap out-Plan given ∙ plans.outs-Batch batch in
    let same : made ≡ batch = cc in
    subst (λ (b : Vec plan.Plan Global). MayBeBatch b.items) same fits

-- the command of a batch that was read
pub member_read : (P : Program) (bytes : List ℕ) (p : plan.Plan) → has_shape P bytes ≡ true → IsOneParsed P bytes (Ok (calls.Give p))
    → IsMember P bytes (Ok p) ⊎ (◌≡◌ {A = Result plan.Plan Refusal} (Ok p) (Err Memory))
member_read P bytes p shaped (inl asks) = inl (member P bytes p shaped asks)
member_read P bytes p shaped (inr (word, e)) = cc

-- the call of a batch whose commands were read
abbrev pub batch_call : Result (Vec plan.Plan Global) Refusal → Result call.Call Refusal
batch_call = map_ok (λ made. calls.Give (plans.Batch made))

module _ (P : Program) (bytes : List ℕ) (few : are_commands P bytes ≡ true) where
  abbrev WasRead : Result (Vec plan.Plan Global) Refusal → Type 0
  WasRead read = AreRead P (commands_of bytes) (map_ok (λ made. made.items) read) ⊎ (read ≡ Err Memory)

  pub batch_parsed : (read : Result (Vec plan.Plan Global) Refusal) → WasRead read → (result : Result call.Call Refusal)
      → result ≡ batch_call read → IsBatchParsed P bytes result
  batch_parsed read was result e = subst (IsBatchParsed P bytes) (sym e) (by read was)
    where
      by : (read : Result (Vec plan.Plan Global) Refusal) → WasRead read → IsBatchParsed P bytes (batch_call read)
      by (Ok made) (inl so) =
          inl (subst (λ (order : Order). AsksBatch P bytes (Ok (Give order))) (sym (batch_order made))
          (batch_made P bytes few made.items so))
      by (Err refusal) (inl so) = inl (batch_refused P bytes few refusal so)
      by read (inr no_memory) = inr (ap batch_call no_memory)

  pub made_fits : (made : Vec plan.Plan Global) → WasRead (Ok made) → IsGivable (calls.Give (plans.Batch made))
  made_fits made (inl so) = batch_fits made (may_be_batch P bytes few made.items so)
  made_fits made (inr no_memory) = cc
