-- Commands that are given one after the other, and the result of a batch of them.
use Rattle.std.proofs.Common.{◌≡◌, ◌⊎◌, inl, inr, ℕ, ◌+◌, ◌<◌, ◌≤◌, List, [], ◌∷◌, ◌++◌, length, get_or, drop, Ok, Err}
use Rattle.std.proofs.Common.{refl, sym, ap, ◌∙◌, subst, ⊎_elim, drop_of_length-le}
use Rattle.std.proofs.lemmas.List.{drop_more}
use Rattle.std.proofs.Math.Bridge.{le_prop}
use Rattle.std.specs.List.{AllByRecursion}
use Rattle.std.specs.Prelude.{Vec}
use Rattle.std.specs.declared.alloc.Global.{Global}
use Rattle.dbg_base.specs.declared.call.Plan as given
use Rattle.dbg_base.specs.declared.call.Plan.TheVariants as plans
use Rattle.dbg_base.specs.declared.call.Plan.TheOpen as layer
use Rattle.dbg_base.specs.declared.call.Plan.TheFolds.{fold-roll-Plan}
use Rattle.dbg_base.specs.declared.call.Plan.TheViews.{out-Plan}
use Rattle.dbg_base.specs.declared.said.Done.TheVariants.{Plain}
use Rattle.dbg_base.specs.declared.said.Reply.{Reply}
use Rattle.dbg_base.specs.declared.said.Said.{Said}
use Rattle.dbg_base.specs.declared.said.Said.TheVariants.{Accepted, Refused}
use Rattle.dbg_base.specs.declared.refusal.Refusal.{Refusal}
use Rattle.dbg_base.specs.declared.refusal.Refusal.TheVariants.{Memory, InBatch}
use Rattle.dbg_base.specs.Refusals.{refusal_number}
use Rattle.dbg_base.specs.Trees.{Program}
use Rattle.dbg_base.specs.ModelStates.{ModelState}
use Rattle.dbg_base.specs.Calls.{Plan, Order, One, Batch, IsOne, AreCommands, order_of, plans_of, plans_in}
use Rattle.dbg_base.specs.Acts.{Acts, Batches}
use Rattle.break_book.proofs.BookCallLemmas.{seen_breakpoints}
use Rattle.dbg_command.specs.Tables.{TableState, Replies, shown, state_of, FollowsOrRefuses, GivesEach, TellsWithin, IsGivable}
use Rattle.dbg_command.proofs.CommandAnswerLemmas.{accepted}

-- `IsOne` has at most one proof
one_prop : (o : Order) → IsProp (IsOne o)
one_prop (One plan) = λ x y. refl
one_prop (Batch plans) = λ x y. absurd x

each_prop : (items : List given.Plan) → IsProp (AllByRecursion (λ (p : given.Plan). IsOne (order_of p)) items)
each_prop [] = λ x y. refl
each_prop (p ∷ items) = λ x y i. (one_prop (order_of p) x.0 y.0 i, each_prop items x.1 y.1 i)

pub commands_prop : (items : List given.Plan) → IsProp (AreCommands items)
commands_prop items = λ x y i. record { few = le_prop x.few y.few i; each = each_prop items x.each y.each i }

-- the order of a batch
pub batch_order : (batch : Vec given.Plan Global) → order_of (plans.Batch batch) ≡ Batch (plans_in batch.items)
batch_order batch = ap order_of (sym (plans.rolls-Batch batch)) ∙ fold-roll-Plan Order _ (layer.Batch batch)

-- a batch of commands may be given
pub batch_givable : (batch : Vec given.Plan Global) → AreCommands batch.items → IsGivable (plans.Batch batch)
batch_givable batch are = λ other e.
    let opened : layer.Batch batch ≡ layer.Batch other = sym (plans.outs-Batch batch) ∙ ap out-Plan e ∙ plans.outs-Batch other in
    let same : batch ≡ other = cc in
    subst (λ (b : Vec given.Plan Global). AreCommands b.items) same are

-- tables of which calls show the same represent the same state
pub shown_state : (t u : TableState) → shown t ≡ shown u → state_of t ≡ state_of u
shown_state t u same = λ i. record {
  system = (same i).world.state;
  breakpoints = seen_breakpoints t.book u.book (λ j. (same j).book) i;
}

tells_either : (i : ℕ) (refusal reported : Refusal) → TellsWithin i refusal reported
    → (reported ≡ Memory) ⊎ (reported ≡ InBatch (i + 1) (refusal_number refusal))
tells_either i Memory reported tells = inl tells
tells_either i refusal reported tells = inr tells

-- The commands before this position, from 0, were accepted: the result of the others, from here on, is the result of all.
pub record GoesOn (P : Program) (start : ModelState) (items : List given.Plan) (i : ℕ) (M : ModelState) : Type 0 where
  pub rest : (said : Said) (M' : ModelState) → Batches P start (i + 1) (plans_in (drop i items)) M said M'
      → Batches P start 1 (plans_in items) start said M'

pub goes_begin : (P : Program) (start : ModelState) (items : List given.Plan) → GoesOn P start items 0 start
goes_begin P start items = record { rest = λ said M' batches. batches }

module _ (P : Program) (start : ModelState) (items : List given.Plan) (i : ℕ) (M : ModelState) (goes : GoesOn P start items i M)
    (x : given.Plan) (here : x ≡ get_or items i x) (lt : i < length items) where
  -- the next command, and those after it
  before : (p : Plan) → order_of x ≡ One p → plans_in (drop i items) ≡ p ∷ plans_in (drop (i + 1) items)
  before p is =
      ap plans_in (drop_more items i x lt ∙ ap (λ (y : given.Plan). y ∷ drop (i + 1) items) (sym here))
      ∙ ap (λ (o : Order). plans_of o ++ plans_in (drop (i + 1) items)) is

  -- its result, together with those after it
  then_all : (p : Plan) → order_of x ≡ One p → (said : Said) (M' : ModelState)
      → Batches P start (i + 1) (p ∷ plans_in (drop (i + 1) items)) M said M' → Batches P start 1 (plans_in items) start said M'
  then_all p is said M' batches =
      goes.rest said M' (subst (λ (plans : List Plan). Batches P start (i + 1) plans M said M') (sym (before p is)) batches)

  pub goes_more : (o : Order) (reply : Reply) (N : ModelState) → order_of x ≡ o → IsOne o → FollowsOrRefuses P o M (Ok reply) N
      → GoesOn P start items (i + 1) N
  goes_more (Batch plans) reply N is one follows = absurd one
  goes_more (One p) reply N is one (inr refuses) = cc
  goes_more (One p) reply N is one (inl acts) = record {
    rest = λ said M' batches. then_all p is said M' (inl (reply, N, acts, batches));
  }

  pub goes_refused : (o : Order) (refusal reported : Refusal) (N : ModelState) → order_of x ≡ o → IsOne o
      → FollowsOrRefuses P o M (Err refusal) N → N ≡ M → TellsWithin i refusal reported
      → (reported ≡ Memory) ⊎ Batches P start 1 (plans_in items) start (Refused reported) start
  goes_refused (Batch plans) refusal reported N is one follows same tells = absurd one
  goes_refused (One p) refusal reported N is one (inr refuses) same tells =
      let memory : refusal ≡ Memory = let e = refuses.0 in cc in
      inl (subst (λ (r : Refusal). TellsWithin i r reported) memory tells)
  goes_refused (One p) refusal reported N is one (inl acts) same tells =
      ⊎_elim (λ (memory : reported ≡ Memory). inl memory)
      (λ (within : reported ≡ InBatch (i + 1) (refusal_number refusal)). inr (then_all p is (Refused reported) start (inr (
        refusal,
        subst (λ (A : ModelState). Acts P p M (Refused refusal) A) same acts,
        (ap (λ (r : Refusal). Refused r) within, refl),
      )))) (tells_either i refusal reported tells)

-- all were accepted
pub goes_all : (P : Program) (start : ModelState) (items : List given.Plan) (i : ℕ) (M : ModelState) → GoesOn P start items i M
    → length items ≤ i → GivesEach P (plans_in items) start (Ok tt) M
goes_all P start items i M goes past = λ said accepts.
    goes.rest said M (subst (λ (rest : List given.Plan). Batches P start (i + 1) (plans_in rest) M said M)
    (sym (drop_of_length-le items past)) (accepts, refl))

-- a batch was given to a table that represents the same state
module _ (P : Program) (plans : List Plan) (M copied N : ModelState) (same : copied ≡ M) where
  pub batch_accepted : (done : Unit {0}) (reply : Reply) → GivesEach P plans copied (Ok done) N → Replies P N Plain reply
      → FollowsOrRefuses P (Batch plans) M (Ok reply) N
  batch_accepted done reply gives replies =
      inl (subst (λ (A : ModelState). Batches P A 1 plans A (Accepted reply) N) same
      (gives (Accepted reply) (accepted P N Plain reply replies)))

  pub batch_refused : (refusal : Refusal) → GivesEach P plans copied (Err refusal) N → FollowsOrRefuses P (Batch plans) M (Err refusal) M
  batch_refused refusal (inl memory) = inr (ap (λ (r : Refusal). Refused r) memory, refl)
  batch_refused refusal (inr batches) = inl (subst (λ (A : ModelState). Batches P A 1 plans A (Refused refusal) A) same batches)
