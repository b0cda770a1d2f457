-- Calls: what a seat can ask of a session. Processes have numbers, and calls own no heap memory, unlike those of the code.
use Rattle.std.specs.Prelude.{ℕ, ◌≤◌, List, [], ◌∷◌, length, map}
use Rattle.std.specs.List.{AllByRecursion, flat_map}
use Rattle.dbg_base.specs.declared.limits.TheConstants.{BATCH}
use Rattle.dbg_base.specs.declared.call.Plan as plan
use Rattle.dbg_base.specs.declared.call.Plan.TheOpen as plans
use Rattle.dbg_base.specs.declared.call.Plan.TheFolds.{fold-Plan}
use Rattle.dbg_base.specs.declared.call.Query as query
use Rattle.dbg_base.specs.declared.call.Query.TheVariants as queries
use Rattle.dbg_base.specs.declared.call.Call as call
use Rattle.dbg_base.specs.declared.call.Call.TheVariants as calls
use Rattle.dbg_base.specs.declared.call.Conjunct as conjunct
use Rattle.dbg_base.specs.Trees.{tree_of}
use Rattle.dbg_base.specs.Predicates.{Conjunct}

-- a command, which changes the session if it is accepted
pub data Plan : Type 0 where
  Step : (process choice : ℕ) → Plan
  Next : (process : ℕ) → Plan
  Undo : (process : ℕ) → Plan
  Redo : (process : ℕ) → Plan
  Rollback : (process place : ℕ) → Plan
  Goto : (name : List ℕ) → Plan
  Break : (name : List ℕ) (conjuncts : List Conjunct) → Plan
  Clear : (name : List ℕ) → Plan
  Arm : (name : List ℕ) → Plan
  Pass : (name : List ℕ) → Plan

-- what is given at once: one command, or a batch of commands, of which all are accepted or none
pub data Order : Type 0 where
  One : (plan : Plan) → Order
  Batch : (plans : List Plan) → Order

-- it is a batch
abbrev pub IsBatch : Order → Type 0
IsBatch (One plan) = ⊥
IsBatch (Batch plans) = Unit {0}

abbrev pub IsOne : Order → Type 0
IsOne (One plan) = Unit {0}
IsOne (Batch plans) = ⊥

-- a query, which changes nothing
pub data Query : Type 0 where
  Vars : (process : ℕ) → Query
  Chan : (source target : ℕ) → Query
  Clock : (process : ℕ) → Query
  Place : (process : ℕ) → Query
  Can : (process : ℕ) → Query
  CutOf : (name : List ℕ) → Query
  Why : (name : List ℕ) → Query
  Breaks : Query

-- an order, the command `back`, or a query
pub data Call : Type 0 where
  Give : (order : Order) → Call
  Back : Call
  Ask : (query : Query) → Call

abbrev pub conjunct_of : conjunct.Conjunct → Conjunct
conjunct_of given = record { process = given.pid.0; expression = tree_of given.expr }

-- the commands of an order
abbrev pub plans_of : Order → List Plan
plans_of (One plan) = plan ∷ []
plans_of (Batch plans) = plans

-- The order of a plan of the code, given the orders of the plans within it. A batch within a batch is its commands.
abbrev order_step : plans.Plan-F Order → Order
order_step (plans.Step pid choice) = One (Step pid.0 choice.0)
order_step (plans.Next pid) = One (Next pid.0)
order_step (plans.Undo pid) = One (Undo pid.0)
order_step (plans.Redo pid) = One (Redo pid.0)
order_step (plans.Rollback pid place) = One (Rollback pid.0 place)
order_step (plans.Goto name) = One (Goto name)
order_step (plans.Break name conjuncts) = One (Break name (map conjunct_of conjuncts))
order_step (plans.Clear name) = One (Clear name)
order_step (plans.Arm name) = One (Arm name)
order_step (plans.Pass name) = One (Pass name)
order_step (plans.Batch orders) = Batch (flat_map plans_of orders.items)

-- the plan of the code as the model's order
abbrev pub order_of : plan.Plan → Order
order_of = fold-Plan Order order_step

-- the commands of plans of the code, one after the other
abbrev pub plans_in : List plan.Plan → List Plan
plans_in given = flat_map plans_of (map order_of given)

-- The commands of a batch: at most 32, none of them a batch.
pub record AreCommands (given : List plan.Plan) : Type 0 where
  pub few : length given ≤ BATCH
  pub each : AllByRecursion (λ one. IsOne (order_of one)) given

-- the same for a query
abbrev pub query_of : query.Query → Query
query_of (queries.Vars pid) = Vars pid.0
query_of (queries.Chan source target) = Chan source.0 target.0
query_of (queries.Clock pid) = Clock pid.0
query_of (queries.Place pid) = Place pid.0
query_of (queries.Can pid) = Can pid.0
query_of (queries.CutOf name) = CutOf name
query_of (queries.Why name) = Why name
query_of queries.Breaks = Breaks

-- the same for a call
abbrev pub call_of : call.Call → Call
call_of (calls.Give given) = Give (order_of given)
call_of calls.Back = Back
call_of (calls.Ask asked) = Ask (query_of asked)
