-- What a line asks for is determined.
use Rattle.std.proofs.Common.{◌≡◌, inl, inr, ℕ, Bool, true, false, List, [], ◌∷◌, length, Option, Some, None, Result, Ok, Err, sym, ap}
use Rattle.std.proofs.Common.{◌∙◌, subst, MatchBool, ◌==◌}
use Rattle.std.specs.Prelude.{nat_le, nat_lt, codes}
use Rattle.std.specs.List.{list_any}
use Rattle.std.specs.Str.{bytes_eq}
use Rattle.dbg_base.specs.declared.expr.Sort.TheVariants as sort
use Rattle.dbg_base.specs.declared.fault.ProgFault.{ProgFault}
use Rattle.dbg_base.specs.declared.refusal.Refusal.{Refusal}
use Rattle.dbg_base.specs.declared.refusal.Refusal.TheVariants.{BadLine, BadPredicate}
use Rattle.dbg_base.specs.declared.limits.TheConstants.{LINE_BYTES}
use Rattle.dbg_base.specs.Trees.{Tree, Program}
use Rattle.dbg_base.specs.Predicates.{Conjunct}
use Rattle.dbg_base.specs.Grammar.{DerivesExpression}
use Rattle.dbg_base.specs.Checks.{scope_of, expression_faults, phrase_tree, ReadsPredicate, IsPredicateFault}
use Rattle.dbg_base.specs.Calls.{Plan, Break, Call}
use Rattle.dbg_base.specs.CommandLines.{Request, Part, words_of, without_return, seat_word, name_word, named_process, map_ok}
use Rattle.dbg_base.specs.CommandLines.{give, call_of_words, next_word, after_word, parts_in, sets_break, commands_of}
use Rattle.dbg_base.specs.Requests.{with_conjunct, ReadsPart, ReadsParts, AsksBreak, AsksOne, command_in, AsksEach, batch_of, AsksBatch, AsksCall}
use Rattle.dbg_base.specs.Requests.{AsksBy, AsksWithin, Asks}
use Rattle.proc_lang.proofs.WholeTextLemmas.{predicate_once}
use Rattle.proc_lang.proofs.Texts.{reads_well, reads_once}

-- one of two outcomes, by a test
match_once : {R : Type 0} (t : Bool) (A B : R → Type 0) (x y : R) → (A x → A y → x ≡ y) → (B x → B y → x ≡ y)
    → MatchBool t (A x) (B x) → MatchBool t (A y) (B y) → x ≡ y
match_once true A B x y first second = first
match_once false A B x y first second = second

-- the same outcome
both_are : {R : Type 0} (x y z : R) → x ≡ z → y ≡ z → x ≡ y
both_are x y z is too = is ∙ sym too

module _ (P : Program) where
  tree_once : (p : ℕ) (text : List ℕ) (tree other : Tree) → ReadsPredicate P p text tree → ReadsPredicate P p text other → tree ≡ other
  tree_once p = reads_once DerivesExpression (expression_faults (scope_of P p) sort.Truth) (phrase_tree (scope_of P p)) predicate_once

  tree_or_fault : (p : ℕ) (text : List ℕ) (tree : Tree) (fault : ProgFault) → ReadsPredicate P p text tree
      → IsPredicateFault P p text fault → ⊥
  tree_or_fault p = reads_well DerivesExpression (expression_faults (scope_of P p) sort.Truth) (phrase_tree (scope_of P p)) predicate_once

  part_once : (before : List ℕ) (o : Result ℕ Refusal) (text : List ℕ) (Rest : ℕ → Result (List Conjunct) Refusal → Type 0)
      → ((p : ℕ) (a b : Result (List Conjunct) Refusal) → Rest p a → Rest p b → a ≡ b) → (x y : Result (List Conjunct) Refusal)
      → ReadsPart P before o text Rest x → ReadsPart P before o text Rest y → x ≡ y
  part_once before (Err refusal) text Rest once x y is too = both_are x y (Err refusal) is too
  part_once before (Ok p) text Rest once x y (inl (tree, reads, is)) (inl (other, reads_other, too)) =
      let same : tree ≡ other = tree_once p text tree other reads reads_other in
      match_once (list_any (λ q. q == p) before) (λ r. r ≡ Err BadPredicate)
      (λ r. (others : Result (List Conjunct) Refusal) × Rest p others × (r ≡ with_conjunct p tree others)) x y (both_are x y (Err BadPredicate))
      (λ a b. a.2 ∙ ap (with_conjunct p tree) (once p a.0 b.0 a.1 b.1) ∙ sym b.2) is
      (subst (λ (t : Tree). MatchBool (list_any (λ q. q == p) before) (y ≡ Err BadPredicate)
      ((others : Result (List Conjunct) Refusal) × Rest p others × (y ≡ with_conjunct p t others))) (sym same) too)
  part_once before (Ok p) text Rest once x y (inl (tree, reads, is)) (inr (fault, faulty, too)) =
      absurd (tree_or_fault p text tree fault reads faulty)
  part_once before (Ok p) text Rest once x y (inr (fault, faulty, is)) (inl (tree, reads, too)) =
      absurd (tree_or_fault p text tree fault reads faulty)
  part_once before (Ok p) text Rest once x y (inr is) (inr too) = is.2 ∙ sym too.2

  parts_once : (before : List ℕ) (parts : List Part) (x y : Result (List Conjunct) Refusal) → ReadsParts P before parts x
      → ReadsParts P before parts y → x ≡ y
  parts_once before [] x y is too = both_are x y (Ok []) is too
  parts_once before (part ∷ parts) x y is too =
      part_once before (named_process P part.0) part.1 (λ p others. ReadsParts P (p ∷ before) parts others)
      (λ p a b. parts_once (p ∷ before) parts a b) x y is too

  break_once : (name : Option (List ℕ)) (parts : Option (List Part)) (x y : Result Call Refusal) → AsksBreak P name parts x
      → AsksBreak P name parts y → x ≡ y
  break_once (Some name) (Some (part ∷ parts)) x y is too =
      is.2 ∙ ap (λ conjuncts. map_ok (λ made. give (Break name made)) conjuncts) (parts_once [] (part ∷ parts) is.0 too.0 is.1 too.1) ∙ sym too.2
  break_once (Some name) (Some []) x y is too = both_are x y (Err BadLine) is too
  break_once (Some name) None x y is too = both_are x y (Err BadLine) is too
  break_once None parts x y is too = both_are x y (Err BadLine) is too

  one_once : (bytes : List ℕ) (x y : Result Call Refusal) → AsksOne P bytes x → AsksOne P bytes y → x ≡ y
  one_once bytes x y =
      match_once (sets_break bytes)
      (AsksBreak P (name_word (next_word (after_word bytes))) (parts_in (after_word (after_word bytes))))
      (λ r. r ≡ call_of_words P (next_word bytes) (words_of (after_word bytes))) x y
      (break_once (name_word (next_word (after_word bytes))) (parts_in (after_word (after_word bytes))) x y)
      (both_are x y (call_of_words P (next_word bytes) (words_of (after_word bytes))))

  each_once : (commands : List (List ℕ)) (x y : List (Result Plan Refusal)) → AsksEach P commands x → AsksEach P commands y → x ≡ y
  each_once [] x y is too = both_are x y [] is too
  each_once (command ∷ commands) x y (call, others, asks, rest, is) (other, others', asks', rest', too) =
      is
      ∙ ap (λ (c : Result Call Refusal). command_in c ∷ others) (one_once command call other asks asks')
      ∙ ap (λ (l : List (Result Plan Refusal)). command_in other ∷ l) (each_once commands others others' rest rest')
      ∙ sym too

  batch_once : (bytes : List ℕ) (x y : Result Call Refusal) → AsksBatch P bytes x → AsksBatch P bytes y → x ≡ y
  batch_once bytes x y is too = is.2 ∙ ap batch_of (each_once (commands_of bytes) is.0 too.0 is.1 too.1) ∙ sym too.2

  call_once : (bytes : List ℕ) (x y : Result Call Refusal) → AsksCall P bytes x → AsksCall P bytes y → x ≡ y
  call_once bytes x y =
      match_once (bytes_eq (next_word bytes) (codes "batch")) (AsksBatch P (after_word bytes)) (AsksOne P bytes) x y
      (batch_once (after_word bytes) x y) (one_once bytes x y)

  by_once : (seat : Option ℕ) (bytes : List ℕ) (x y : Result (Option Request) Refusal) → AsksBy P seat bytes x → AsksBy P seat bytes y → x ≡ y
  by_once None bytes x y is too = both_are x y (Err BadLine) is too
  by_once (Some seat) bytes x y is too =
      is.2 ∙ ap (λ call. map_ok (λ made. Some (record { seat = seat; call = made })) call) (call_once bytes is.0 too.0 is.1 too.1) ∙ sym too.2

  within_once : (bytes : List ℕ) (x y : Result (Option Request) Refusal) → AsksWithin P bytes x → AsksWithin P bytes y → x ≡ y
  within_once bytes x y =
      match_once (nat_le (length (next_word bytes)) 0) (λ r. r ≡ Ok None) (AsksBy P (seat_word (next_word bytes)) (after_word bytes)) x y
      (both_are x y (Ok None)) (by_once (seat_word (next_word bytes)) (after_word bytes) x y)

  pub asks_once : (line : List ℕ) (x y : Result (Option Request) Refusal) → Asks P line x → Asks P line y → x ≡ y
  asks_once line x y =
      match_once (nat_lt LINE_BYTES (length line)) (λ r. r ≡ Err BadLine) (AsksWithin P (without_return line)) x y (both_are x y (Err BadLine))
      (within_once (without_return line) x y)
