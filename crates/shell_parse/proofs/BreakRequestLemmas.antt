-- A command that sets a breakpoint, from the parts that were read.
use Rattle.std.proofs.Common.{◌≡◌, ◌⊎◌, ℕ, true, List, ◌∷◌, [], map, Option, Some, None, Result, Ok, Err}
use Rattle.std.proofs.Common.{refl, sym, ap, ◌∙◌, subst, inl, inr}
use Rattle.dbg_base.specs.declared.call.Call as call
use Rattle.dbg_base.specs.declared.call.Call.TheVariants as calls
use Rattle.dbg_base.specs.declared.call.Plan.TheVariants as plans
use Rattle.dbg_base.specs.declared.call.Plan.TheOpen as layer
use Rattle.dbg_base.specs.declared.call.Plan.TheFolds.{fold-roll-Plan}
use Rattle.dbg_base.specs.declared.call.Conjunct as conjunct
use Rattle.dbg_base.specs.declared.refusal.Refusal.{Refusal}
use Rattle.dbg_base.specs.declared.refusal.Refusal.TheVariants.{Memory}
use Rattle.dbg_base.specs.Calls.{Order, One, Give, Break, conjunct_of, order_of, call_of}
use Rattle.dbg_base.specs.Trees.{Program}
use Rattle.dbg_base.specs.CommandLines.{Part, map_ok, give, name_word, next_word, after_word, parts_in}
use Rattle.dbg_base.specs.Requests.{ReadsParts, AsksBreak}
use Rattle.shell_parse.specs.Lines.{IsBreakParsed, has_parts}

-- the call that sets a breakpoint of these conjuncts, if they were read
abbrev pub break_made : List ℕ → Result (List conjunct.Conjunct) Refusal → Result call.Call Refusal
break_made name = map_ok (λ conjuncts. calls.Give (plans.Break name conjuncts))

-- the order of such a plan
order_made : (name : List ℕ) (conjuncts : List conjunct.Conjunct)
    → order_of (plans.Break name conjuncts) ≡ One (Break name (map conjunct_of conjuncts))
order_made name conjuncts =
    ap order_of (sym (plans.rolls-Break name conjuncts)) ∙ fold-roll-Plan Order _ (layer.Break name conjuncts)

same_call : (name : List ℕ) (read : Result (List conjunct.Conjunct) Refusal)
    → map_ok call_of (break_made name read) ≡ map_ok (λ made. give (Break name made)) (map_ok (map conjunct_of) read)
same_call name (Ok conjuncts) = ap (λ (order : Order). Ok (Give order)) (order_made name conjuncts)
same_call name (Err refusal) = refl

module _ (P : Program) (name : List ℕ) (read : Result (List conjunct.Conjunct) Refusal) where
  -- these parts were read like this, or memory ran out
  abbrev IsRead : List Part → Type 0
  IsRead parts = ReadsParts P [] parts (map_ok (map conjunct_of) read) ⊎ (read ≡ Err Memory)

  read_so : (part : Part) (parts : List Part) → IsRead (part ∷ parts)
      → AsksBreak P (Some name) (Some (part ∷ parts)) (map_ok call_of (break_made name read)) ⊎ (break_made name read ≡ Err Memory)
  read_so part parts (inl reads) = inl (map_ok (map conjunct_of) read, reads, same_call name read)
  read_so part parts (inr no_memory) = inr (ap (break_made name) no_memory)

  all_read : (found : Option (List Part)) → has_parts found ≡ true → ((parts : List Part) → found ≡ Some parts → IsRead parts)
      → AsksBreak P (Some name) found (map_ok call_of (break_made name read)) ⊎ (break_made name read ≡ Err Memory)
  all_read None formed reads = cc
  all_read (Some []) formed reads = cc
  all_read (Some (part ∷ parts)) formed reads = read_so part parts (reads (part ∷ parts) refl)

  -- a name and parts follow the word, and the parts were read
  pub asks_break : (bytes word rest : List ℕ) → word ≡ next_word bytes → rest ≡ after_word bytes → name_word word ≡ Some name
      → has_parts (parts_in rest) ≡ true → ((parts : List Part) → parts_in rest ≡ Some parts → IsRead parts)
      → (result : Result call.Call Refusal) → result ≡ break_made name read → IsBreakParsed P bytes result
  asks_break bytes word rest first after named formed reads result is =
      subst (IsBreakParsed P bytes) (sym is)
      (subst (λ (n : Option (List ℕ)). AsksBreak P n (parts_in (after_word bytes)) (map_ok call_of (break_made name read))
      ⊎ (break_made name read ≡ Err Memory)) (sym (ap name_word (sym first) ∙ named))
      (subst (λ (r : List ℕ). AsksBreak P (Some name) (parts_in r) (map_ok call_of (break_made name read))
      ⊎ (break_made name read ≡ Err Memory)) after (all_read (parts_in rest) formed reads)))
