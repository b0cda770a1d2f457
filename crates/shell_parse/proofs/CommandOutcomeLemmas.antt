-- Each command is accepted or refused.
use Rattle.std.proofs.Common.{◌≡◌, ◌⊎◌, ℕ, Bool, true, false, eqb, List, [], ◌∷◌, Option, Some, None, Result, Ok, Err, refl, inl, inr}
use Rattle.std.specs.Bool.{MatchBool}
use Rattle.std.specs.List.{list_any}
use Rattle.dbg_base.specs.declared.expr.Sort.TheVariants as sort
use Rattle.dbg_base.specs.declared.fault.ProgFault.{ProgFault}
use Rattle.dbg_base.specs.declared.refusal.Refusal.{Refusal}
use Rattle.dbg_base.specs.declared.refusal.Refusal.TheVariants.{BadLine, BadPredicate}
use Rattle.dbg_base.specs.Calls.{Plan, Break, Call}
use Rattle.dbg_base.specs.Grammar.{DerivesExpression}
use Rattle.dbg_base.specs.Checks.{scope_of, expression_faults, phrase_tree, ReadsPredicate, IsPredicateFault}
use Rattle.dbg_base.specs.Predicates.{Conjunct}
use Rattle.dbg_base.specs.Trees.{Tree, Program}
use Rattle.dbg_base.specs.CommandLines.{Part, map_ok, give, call_of_words, words_of, named_process, name_word, parts_in, next_word, after_word, sets_break}
use Rattle.dbg_base.specs.Requests.{with_conjunct, ReadsPart, ReadsParts, AsksBreak, AsksOne, command_in, AsksEach}
use Rattle.dbg_base.proofs.FirstFaults.{first_of_expression}
use Rattle.proc_lang.proofs.WholeTextLemmas.{predicate_once, predicate_parses}
use Rattle.proc_lang.proofs.Texts.{each_text}

predicate_or_fault : (P : Program) (p : ℕ) (text : List ℕ)
    → ((tree : Tree) × ReadsPredicate P p text tree) ⊎ ((fault : ProgFault) × IsPredicateFault P p text fault)
predicate_or_fault P p =
    each_text DerivesExpression (expression_faults (scope_of P p) sort.Truth) (phrase_tree (scope_of P p)) predicate_once
    (first_of_expression (scope_of P p) sort.Truth) predicate_parses

some_of : {R : Type 0} (t : Bool) (A B : R → Type 0) → ((r : R) × A r) → ((r : R) × B r) → (r : R) × MatchBool t (A r) (B r)
some_of true A B a b = a
some_of false A B a b = b

some_part : (P : Program) (before : List ℕ) (process : Result ℕ Refusal) (text : List ℕ)
    (Rest : ℕ → Result (List Conjunct) Refusal → Type 0) → ((p : ℕ) → (others : Result (List Conjunct) Refusal) × Rest p others)
    → (result : Result (List Conjunct) Refusal) × ReadsPart P before process text Rest result
some_part P before (Err refusal) text Rest rest = (Err refusal, refl)
some_part P before (Ok p) text Rest rest = by (predicate_or_fault P p text)
  where
    by : ((tree : Tree) × ReadsPredicate P p text tree) ⊎ ((fault : ProgFault) × IsPredicateFault P p text fault)
        → (result : Result (List Conjunct) Refusal) × ReadsPart P before (Ok p) text Rest result
    by (inl (tree, reads)) =
        let found =
        some_of (list_any (λ q. eqb q p) before) (λ (result : Result (List Conjunct) Refusal). result ≡ Err BadPredicate)
        (λ result. (others : Result (List Conjunct) Refusal) × Rest p others × (result ≡ with_conjunct p tree others))
        (Err BadPredicate, refl) (with_conjunct p tree (rest p).0, ((rest p).0, (rest p).1, refl)) in
        (found.0, inl (tree, reads, found.1))
    by (inr (fault, is)) = (Err BadPredicate, inr (fault, is, refl))

some_parts : (P : Program) (before : List ℕ) (parts : List Part)
    → (result : Result (List Conjunct) Refusal) × ReadsParts P before parts result
some_parts P before [] = (Ok [], refl)
some_parts P before (part ∷ parts) =
    some_part P before (named_process P part.0) part.1 (λ p others. ReadsParts P (p ∷ before) parts others)
    (λ p. some_parts P (p ∷ before) parts)

some_break : (P : Program) (name : Option (List ℕ)) (parts : Option (List Part)) → (result : Result Call Refusal) × AsksBreak P name parts result
some_break P None parts = (Err BadLine, refl)
some_break P (Some name) None = (Err BadLine, refl)
some_break P (Some name) (Some []) = (Err BadLine, refl)
some_break P (Some name) (Some (part ∷ parts)) =
    let read = some_parts P [] (part ∷ parts) in (map_ok (λ made. give (Break name made)) read.0, (read.0, read.1, refl))

some_one : (P : Program) (bytes : List ℕ) → (result : Result Call Refusal) × AsksOne P bytes result
some_one P bytes =
    some_of (sets_break bytes) _ _ (some_break P (name_word (next_word (after_word bytes))) (parts_in (after_word (after_word bytes))))
    (call_of_words P (next_word bytes) (words_of (after_word bytes)), refl)

pub some_each : (P : Program) (commands : List (List ℕ)) → (results : List (Result Plan Refusal)) × AsksEach P commands results
some_each P [] = ([], refl)
some_each P (command ∷ commands) =
    let one = some_one P command in
    let others = some_each P commands in
    (command_in one.0 ∷ others.0, (one.0, others.0, one.1, others.1, refl))
