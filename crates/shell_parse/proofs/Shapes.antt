-- The shape of commands, whatever they name.
use Rattle.std.proofs.Common.{◌≡◌, ℕ, Bool, true, false, not, cond, ◌&&◌, ◌||◌, eqb, List, [], ◌∷◌, length, Option, Some, None, is_some}
use Rattle.std.proofs.Common.{Result, Ok, Err, refl, sym, ap, ◌∙◌, subst, inl, inr, arith}
use Rattle.std.specs.Prelude.{ok_or, nat_le, nat_lt}
use Rattle.std.specs.Bool.{MatchBool}
use Rattle.std.specs.List.{list_any, list_all}
use Rattle.std.proofs.lemmas.Bool.Decides.{nat_tests}
use Rattle.dbg_base.specs.declared.limits.TheConstants.{BATCH}
use Rattle.dbg_base.specs.declared.refusal.Refusal.{Refusal}
use Rattle.dbg_base.specs.declared.refusal.Refusal.TheVariants.{BadPredicate, UnknownProcess}
use Rattle.dbg_base.specs.Names.{place_of}
use Rattle.dbg_base.specs.Calls.{Plan, Break, Call}
use Rattle.dbg_base.specs.Predicates.{Conjunct}
use Rattle.dbg_base.specs.Trees.{Program, names_of}
use Rattle.dbg_base.specs.CommandLines.{Part, map_ok, give, named_process, name_word, parts_in, next_word, after_word}
use Rattle.dbg_base.specs.CommandLines.{sets_break, commands_of}
use Rattle.dbg_base.specs.Requests.{ReadsPart, ReadsParts, AsksBreak, AsksOne, command_in, AsksEach, is_shapeless}
use Rattle.shell_parse.specs.Lines.{has_parts, has_shape, are_commands}

-- it is accepted, or refused for a process or a predicate, but not for its shape
abbrev pub IsOfNames : Refusal → Type 0
IsOfNames UnknownProcess = Unit {0}
IsOfNames BadPredicate = Unit {0}
IsOfNames refusal = ⊥

abbrev pub IsFormed : {X : Type 0} → Result X Refusal → Type 0
IsFormed (Ok x) = Unit {0}
IsFormed (Err refusal) = IsOfNames refusal

mapped : {X Y : Type 0} (f : X → Y) (result : Result X Refusal) → IsFormed result → IsFormed (map_ok f result)
mapped f (Ok x) formed = tt
mapped f (Err refusal) formed = formed

found : (place : Option ℕ) → IsFormed (ok_or place UnknownProcess)
found None = tt
found (Some place) = tt

named : (P : Program) (name : List ℕ) → IsFormed (named_process P name)
named P name = found (place_of name (names_of P))

is_formed : {X : Type 0} (result known : Result X Refusal) → result ≡ known → IsFormed known → IsFormed result
is_formed result known e formed = subst IsFormed (sym e) formed

pub either : {A B C : Type 0} (t : Bool) → (A → C) → (B → C) → MatchBool t A B → C
either true a b = a
either false a b = b

of_part : (P : Program) (before : List ℕ) (process : Result ℕ Refusal) (text : List ℕ)
    (Rest : ℕ → Result (List Conjunct) Refusal → Type 0) (result : Result (List Conjunct) Refusal) → IsFormed process
    → ((p : ℕ) (others : Result (List Conjunct) Refusal) → Rest p others → IsFormed others) → ReadsPart P before process text Rest result
    → IsFormed result
of_part P before (Err refusal) text Rest result formed rest e = is_formed result _ e formed
of_part P before (Ok p) text Rest result formed rest (inl (tree, reads, read)) =
    either (list_any (λ q. eqb q p) before) (λ e. is_formed result _ e tt)
    (λ r. is_formed result _ r.2 (mapped _ r.0 (rest p r.0 r.1))) read
of_part P before (Ok p) text Rest result formed rest (inr (fault, is, e)) = is_formed result _ e tt

-- parts that are well formed
pub of_parts : (P : Program) (before : List ℕ) (parts : List Part) (result : Result (List Conjunct) Refusal)
    → ReadsParts P before parts result → IsFormed result
of_parts P before [] result e = is_formed result _ e tt
of_parts P before (part ∷ parts) result reads =
    of_part P before (named_process P part.0) part.1 (λ p others. ReadsParts P (p ∷ before) parts others) result (named P part.0)
    (λ p. of_parts P (p ∷ before) parts) reads

-- whether the result is that of a command without the right shape
abbrev shapeless : Result Call Refusal → Bool
shapeless asked = is_shapeless (command_in asked)

formed_break : (name : List ℕ) (conjuncts : Result (List Conjunct) Refusal) → IsFormed conjuncts
    → shapeless (map_ok (λ made. give (Break name made)) conjuncts) ≡ false
formed_break name (Ok conjuncts) formed = refl
formed_break name (Err UnknownProcess) formed = refl
formed_break name (Err BadPredicate) formed = refl
formed_break name (Err refusal) formed = absurd formed

break_shape : (P : Program) (name : Option (List ℕ)) (parts : Option (List Part)) (asked : Result Call Refusal)
    → AsksBreak P name parts asked → shapeless asked ≡ not (is_some name && has_parts parts)
break_shape P None parts asked e = ap shapeless e
break_shape P (Some name) None asked e = ap shapeless e
break_shape P (Some name) (Some []) asked e = ap shapeless e
break_shape P (Some name) (Some (part ∷ parts)) asked (conjuncts, reads, e) =
    ap shapeless e ∙ formed_break name conjuncts (of_parts P [] (part ∷ parts) conjuncts reads)

not_twice : (t : Bool) → t ≡ not (not t)
not_twice true = refl
not_twice false = refl

shape_by : (t x y s : Bool) (A B : Type 0) → (A → s ≡ not x) → (B → s ≡ not y) → MatchBool t A B → s ≡ not (cond t x y)
shape_by true x y s A B first second = first
shape_by false x y s A B first second = second

-- a command has its shape exactly if it is not refused for its shape
pub shape_is : (P : Program) (bytes : List ℕ) (asked : Result Call Refusal) → AsksOne P bytes asked
    → shapeless asked ≡ not (has_shape P bytes)
shape_is P bytes asked =
    shape_by (sets_break bytes) _ _ (shapeless asked) _ _
    (break_shape P (name_word (next_word (after_word bytes))) (parts_in (after_word (after_word bytes))) asked)
    (λ e. ap shapeless e ∙ not_twice _)

or_not : (x y a b : Bool) → x ≡ not a → y ≡ not b → (x || y) ≡ not (a && b)
or_not x y true b e f = ap (λ (t : Bool). t || y) e ∙ f
or_not x y false b e f = ap (λ (t : Bool). t || y) e

pub shapes_are : (P : Program) (commands : List (List ℕ)) (results : List (Result Plan Refusal)) → AsksEach P commands results
    → list_any is_shapeless results ≡ not (list_all (has_shape P) commands)
shapes_are P [] results e = ap (list_any is_shapeless) e
shapes_are P (command ∷ commands) results (asked, others, one, each, e) =
    ap (list_any is_shapeless) e
    ∙ or_not (shapeless asked) (list_any is_shapeless others) (has_shape P command) (list_all (has_shape P) commands)
    (shape_is P command asked one) (shapes_are P commands others each)

pub as_many : (P : Program) (commands : List (List ℕ)) (results : List (Result Plan Refusal)) → AsksEach P commands results
    → length results ≡ length commands
as_many P [] results e = ap length e
as_many P (command ∷ commands) results (asked, others, one, each, e) =
    let rest = as_many P commands others each in omega (arith, ap length e, rest)

not_more_by : (n : ℕ) (s t : Bool) → nat_lt BATCH n ≡ s → nat_le n BATCH ≡ t → s ≡ not t
not_more_by n true true e f = absurd (grind (arith, nat_tests))
not_more_by n true false e f = refl
not_more_by n false true e f = refl
not_more_by n false false e f = absurd (grind (arith, nat_tests))

-- the test of a batch
pub batch_test : (P : Program) (bytes : List ℕ) (results : List (Result Plan Refusal)) → AsksEach P (commands_of bytes) results
    → (list_any is_shapeless results || nat_lt BATCH (length results)) ≡ not (are_commands P bytes)
batch_test P bytes results each =
    or_not (list_any is_shapeless results) (nat_lt BATCH (length results)) (list_all (has_shape P) (commands_of bytes))
    (nat_le (length (commands_of bytes)) BATCH) (shapes_are P (commands_of bytes) results each)
    (ap (λ (n : ℕ). nat_lt BATCH n) (as_many P (commands_of bytes) results each)
    ∙ not_more_by (length (commands_of bytes)) _ _ refl refl)
