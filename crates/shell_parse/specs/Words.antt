-- The calls of command words with one name after them.
use Rattle.std.specs.Prelude.{ℕ, List, Option, Some, None, Result, Err, codes}
use Rattle.dbg_base.specs.declared.refusal.Refusal.{Refusal}
use Rattle.dbg_base.specs.declared.refusal.Refusal.TheVariants.{BadLine}
use Rattle.dbg_base.specs.Calls.{Call, Next, Undo, Redo, Goto, Clear, Arm, Pass, Ask, Vars, Clock, Place, Can, CutOf, Why}
use Rattle.dbg_base.specs.Trees.{Program}
use Rattle.dbg_base.specs.CommandLines.{give, map_ok, named_process}
use Rattle.shell_parse.specs.declared.command.PlanWord.{PlanWord}
use Rattle.shell_parse.specs.declared.command.PlanWord.TheVariants as plan
use Rattle.shell_parse.specs.declared.command.QueryWord.{QueryWord}
use Rattle.shell_parse.specs.declared.command.QueryWord.TheVariants as query
use Rattle.shell_parse.specs.declared.command.ProcessWord.{ProcessWord}
use Rattle.shell_parse.specs.declared.command.ProcessWord.TheVariants as process
use Rattle.shell_parse.specs.declared.command.BreakWord.{BreakWord}
use Rattle.shell_parse.specs.declared.command.BreakWord.TheVariants as breakpoint

-- the bytes of a command word about a process
abbrev pub process_spelling : ProcessWord → List ℕ
process_spelling (process.Plan plan.Next) = codes "next"
process_spelling (process.Plan plan.Undo) = codes "undo"
process_spelling (process.Plan plan.Redo) = codes "redo"
process_spelling (process.Query query.Vars) = codes "vars"
process_spelling (process.Query query.Clock) = codes "clock"
process_spelling (process.Query query.Place) = codes "place"
process_spelling (process.Query query.Can) = codes "can"

-- the call of a command word about a process
abbrev pub plan_word_call : PlanWord → ℕ → Call
plan_word_call plan.Next p = give (Next p)
plan_word_call plan.Undo p = give (Undo p)
plan_word_call plan.Redo p = give (Redo p)

abbrev pub query_word_call : QueryWord → ℕ → Call
query_word_call query.Vars p = Ask (Vars p)
query_word_call query.Clock p = Ask (Clock p)
query_word_call query.Place p = Ask (Place p)
query_word_call query.Can p = Ask (Can p)

abbrev pub process_word_call : ProcessWord → ℕ → Call
process_word_call (process.Plan word) p = plan_word_call word p
process_word_call (process.Query word) p = query_word_call word p

-- the same, if there may be no such word or process
abbrev pub call_by_process : Option ProcessWord → Result ℕ Refusal → Result Call Refusal
call_by_process None process = Err BadLine
call_by_process (Some word) process = map_ok (process_word_call word) process

-- the call of a command word about a breakpoint
abbrev pub break_word_call : BreakWord → List ℕ → Call
break_word_call breakpoint.Goto name = give (Goto name)
break_word_call breakpoint.Clear name = give (Clear name)
break_word_call breakpoint.Arm name = give (Arm name)
break_word_call breakpoint.Pass name = give (Pass name)
break_word_call breakpoint.Cut name = Ask (CutOf name)
break_word_call breakpoint.Why name = Ask (Why name)

-- the process that a word names
abbrev pub process_word : Program → Option (List ℕ) → Result ℕ Refusal
process_word P None = Err BadLine
process_word P (Some name) = named_process P name
