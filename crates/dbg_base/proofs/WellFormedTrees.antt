-- A parsed program that passes all checks has a well-formed tree, and an expression that passes all checks has a tree that fits.
use Rattle.std.proofs.Common.{◌≡◌, ◌≢◌, ℕ, ℤ, suc, ◌+◌, ◌<◌, ◌≤◌, eqb, Bool, true, false, not, ◌||◌, List, [], ◌∷◌, ◌++◌, length, map}
use Rattle.std.proofs.Common.{drop, get_or, Option, Some, refl, sym, ap, ◌∙◌, subst, arith}
use Rattle.std.specs.Prelude.{nat_lt, unwrap_or}
use Rattle.std.specs.List.{list_all, list_any, AllByRecursion}
use Rattle.std.specs.Str.{bytes_eq}
use Rattle.std.specs.Cmp.Derive.{both_true}
use Rattle.std.proofs.lemmas.Bool.{le-leb, lt-ltb, ne_eqb, false_from_ne_true}
use Rattle.std.proofs.lemmas.Bool.Decides.{nat_tests}
use Rattle.std.proofs.lemmas.List.{length-map, get_or-drop, drop-drop}
use Rattle.std.proofs.Math.ListN.{get_or-map}
use Rattle.std.proofs.lemmas.Slice.Eq.{bytes_eq-Decides}
use Rattle.dbg_base.specs.declared.expr.Sort.{Sort}
use Rattle.dbg_base.specs.declared.expr.Sort.TheVariants as sort
use Rattle.dbg_base.specs.declared.fault.FaultKind.{FaultKind}
use Rattle.dbg_base.specs.declared.limits.TheConstants.{PROCESSES, VARIABLES, COMMANDS}
use Rattle.dbg_base.specs.Names.{place_from, is_among}
use Rattle.dbg_base.specs.Sorts.{outcome_sort, operand_sort}
use Rattle.dbg_base.specs.Trees as tree
use Rattle.dbg_base.specs.Grammar.{Named, Phrase, Number, Name, Truth, Count, Not, Negate, Binary, WrittenAction, Local, Sends, Receives}
use Rattle.dbg_base.specs.Grammar.{WrittenAssignment, WrittenCommand, WrittenVariable, WrittenProcess}
use Rattle.dbg_base.specs.Checks.{Scope, fault_where, unknown, wrong_sort, target_faults, expression_faults, action_faults}
use Rattle.dbg_base.specs.Checks.{set_by_action, assigned_faults, assignment_faults, command_faults, name_faults, variables_faults}
use Rattle.dbg_base.specs.Checks.{commands_faults, scope_among, process_faults, processes_faults, process_names, check_faults, index_of}
use Rattle.dbg_base.specs.Checks.{phrase_tree, action_tree, assignment_tree, command_tree, process_tree, program_tree, scope_of}
use Rattle.dbg_base.specs.WellFormed.{Bounds, is_other, is_fit, are_fresh, are_unset, action_fits, set_before, assignments_fit}
use Rattle.dbg_base.specs.WellFormed.{command_fits, bounds_among, bounds_of, process_fits, processes_fit, is_well_formed}

both_empty : {A : Type 0} (xs ys : List A) → xs ++ ys ≡ [] → (xs ≡ []) × (ys ≡ [])
both_empty [] ys e = (refl, e)
both_empty (x ∷ xs) ys e = cc

neither : (b c : Bool) → (b || c) ≡ false → (b ≡ false) × (c ≡ false)
neither true c e = cc
neither false c e = (refl, e)

neither_true : (b c : Bool) → b ≡ false → c ≡ false → (b || c) ≡ false
neither_true true c x y = x
neither_true false c x y = y

-- a test without a fault; a negated test without one
fails : (b : Bool) (kind : FaultKind) (at : ℕ) → fault_where b kind at ≡ [] → b ≡ false
fails true kind at none = cc
fails false kind at none = refl

holds : (b : Bool) (kind : FaultKind) (at : ℕ) → fault_where (not b) kind at ≡ [] → b ≡ true
holds true kind at none = refl
holds false kind at none = cc

differ : (a b : List ℕ) → bytes_eq a b ≡ false → a ≢ b
differ a b other same = let equal : bytes_eq a b ≡ true = (bytes_eq-Decides a b).1 same in cc

-- a name among these has a position there
record HasPlace (first : ℕ) (name : List ℕ) (names : List (List ℕ)) : Type 0 where
  index : ℕ
  within : index < length names
  there : get_or names index [] ≡ name
  place : place_from first name names ≡ Some (first + index)

place_here : (first : ℕ) (name n : List ℕ) (names : List (List ℕ)) → bytes_eq n name ≡ true → HasPlace first name (n ∷ names)
place_here first name n names same = record {
  index = 0;
  within = omega arith;
  there = (bytes_eq-Decides n name).0 same;
  place = rw same (ap (λ (k : ℕ). Some k) (omega arith));
}

place_after : (first : ℕ) (name n : List ℕ) (names : List (List ℕ)) → bytes_eq n name ≡ false → HasPlace (first + 1) name names
    → HasPlace first name (n ∷ names)
place_after first name n names other h = record {
  index = suc h.index;
  within = omega (arith, h.within);
  there = h.there;
  place = rw other (h.place ∙ ap (λ (k : ℕ). Some k) (omega arith));
}

place_by : (first : ℕ) (name n : List ℕ) (names : List (List ℕ)) (b : Bool) → bytes_eq n name ≡ b
    → (bytes_eq n name ≡ false → HasPlace (first + 1) name names) → HasPlace first name (n ∷ names)
place_by first name n names true is beyond = place_here first name n names is
place_by first name n names false is beyond = place_after first name n names is (beyond is)

among_after : (name n : List ℕ) (names : List (List ℕ)) → is_among name (n ∷ names) ≡ true → bytes_eq n name ≡ false
    → is_among name names ≡ true
among_after name n names among other =
    let apart : bytes_eq name n ≡ false =
    false_from_ne_true _ (λ is. differ n name other (sym ((bytes_eq-Decides name n).0 is))) in
    rw apart at among

has_place : (first : ℕ) (name : List ℕ) (names : List (List ℕ)) → is_among name names ≡ true → HasPlace first name names
has_place first name [] among = absurd (let e : false ≡ true = among in cc)
has_place first name (n ∷ names) among =
    place_by first name n names (bytes_eq n name) refl (λ other. has_place (first + 1) name names (among_after name n names among other))

-- a name among these has an index within them, and the index leads to it
record IsKnown (names : List (List ℕ)) (name : List ℕ) : Type 0 where
  within : index_of names name < length names
  there : get_or names (index_of names name) [] ≡ name

among_known : (names : List (List ℕ)) (name : List ℕ) → is_among name names ≡ true → IsKnown names name
among_known names name among =
    let h = has_place 0 name names among in
    let index : index_of names name ≡ h.index = ap (λ (o : Option ℕ). unwrap_or o 0) h.place ∙ omega arith in
    record { within = omega (arith, h.within, index); there = ap (λ (k : ℕ). get_or names k []) index ∙ h.there }

named_known : (names : List (List ℕ)) (named : Named) → unknown names named ≡ [] → IsKnown names named.name
named_known names named none = among_known names named.name (holds _ _ _ none)

-- two names with one index are the same name
same_name : (names : List (List ℕ)) (a b : List ℕ) → IsKnown names a → IsKnown names b → index_of names a ≡ index_of names b → a ≡ b
same_name names a b x y e = sym x.there ∙ ap (λ (k : ℕ). get_or names k []) e ∙ y.there

-- a number of names that is at most the limit, and not the limit, is below it
below_limit : (n limit : ℕ) → n ≤ limit → eqb n limit ≡ false → n < limit
below_limit n limit few other = grind (arith, nat_tests)

-- what is named in this scope has numbers within these bounds
record Matches (scope : Scope) (bounds : Bounds) : Type 0 where
  processes : length scope.processes ≡ bounds.processes
  own : get_or scope.processes bounds.own [] ≡ scope.own
  variables : length scope.variables ≡ bounds.variables

module _ (scope : Scope) (bounds : Bounds) (same : Matches scope bounds) where
  variable_fits : (name : List ℕ) → IsKnown scope.variables name → nat_lt (index_of scope.variables name) bounds.variables ≡ true
  variable_fits name known = lt-ltb _ _ (omega (arith, known.within, same.variables))

  target_fits : (target : Named) → target_faults scope target ≡ [] → is_other bounds (index_of scope.processes target.name) ≡ true
  target_fits target none =
      let parts = both_empty (unknown scope.processes target) _ none in
      let known = named_known scope.processes target parts.0 in
      let other : index_of scope.processes target.name ≢ bounds.own = λ at_own.
      differ _ _ (fails _ _ _ parts.1) (sym known.there ∙ ap (λ (k : ℕ). get_or scope.processes k []) at_own ∙ same.own) in
      both_true (lt-ltb _ _ (omega (arith, known.within, same.processes))) (ap not (ne_eqb _ _ other))

  phrase_fits : (wanted : Sort) (phrase : Phrase) → expression_faults scope wanted phrase ≡ []
      → is_fit bounds wanted (phrase_tree scope phrase) ≡ true
  phrase_fits wanted (Number at value) none = both_true (holds _ _ _ none) refl
  phrase_fits wanted (Name at name) none =
      let parts = both_empty (unknown scope.variables (record { at = at; name = name })) _ none in
      both_true (holds _ _ _ parts.1) (variable_fits name (named_known scope.variables _ parts.0))
  phrase_fits wanted (Truth at value) none = both_true (holds _ _ _ none) refl
  phrase_fits wanted (Count at direction other) none =
      let parts = both_empty (wrong_sort wanted sort.Number at) _ none in
      both_true (holds _ _ _ parts.0) (target_fits other parts.1)
  phrase_fits wanted (Not at operand) none =
      let parts = both_empty (wrong_sort wanted sort.Truth at) _ none in
      both_true (holds _ _ _ parts.0) (phrase_fits sort.Truth operand parts.1)
  phrase_fits wanted (Negate at operand) none =
      let parts = both_empty (wrong_sort wanted sort.Number at) _ none in
      both_true (holds _ _ _ parts.0) (phrase_fits sort.Number operand parts.1)
  phrase_fits wanted (Binary at operator left right) none =
      let parts = both_empty (wrong_sort wanted (outcome_sort operator) at) _ none in
      let sides = both_empty (expression_faults scope (operand_sort operator) left) _ parts.1 in
      both_true (holds _ _ _ parts.0) (both_true (phrase_fits _ left sides.0) (phrase_fits _ right sides.1))

  -- no variable that is set before has the index of this one
  unset : (name : List ℕ) (earlier : List (List ℕ)) → IsKnown scope.variables name → AllByRecursion (IsKnown scope.variables) earlier
      → is_among name earlier ≡ false
      → list_any (λ other. eqb (index_of scope.variables name) other) (map (index_of scope.variables) earlier) ≡ false
  unset name [] known all none = refl
  unset name (e ∷ earlier) known all none =
      let parts = neither (bytes_eq name e) (is_among name earlier) none in
      let apart = ne_eqb _ _ (λ index. differ name e parts.0 (same_name scope.variables name e known all.0 index)) in
      neither_true _ _ apart (unset name earlier known all.1 parts.1)

  record AssignmentsFit (earlier : List (List ℕ)) (all : List WrittenAssignment) : Type 0 where
    fit : assignments_fit bounds (map (assignment_tree scope) all) ≡ true
    unset_before : are_unset (map (index_of scope.variables) earlier) (map (λ a. a.0) (map (assignment_tree scope) all)) ≡ true

  all_assigned : (earlier : List (List ℕ)) (all : List WrittenAssignment) → AllByRecursion (IsKnown scope.variables) earlier
      → assignment_faults scope earlier all ≡ [] → AssignmentsFit earlier all
  all_assigned earlier [] known none = record { fit = refl; unset_before = refl }
  all_assigned earlier (a ∷ all) known none =
      let parts = both_empty (assigned_faults scope earlier a) _ none in
      let first = both_empty (unknown scope.variables a.variable ++ _) (expression_faults scope sort.Number a.value) parts.0 in
      let name = both_empty (unknown scope.variables a.variable) _ first.0 in
      let here = named_known scope.variables a.variable name.0 in
      let beyond = all_assigned (a.variable.name ∷ earlier) all (here, known) parts.1 in
      record {
        fit = both_true (both_true (variable_fits _ here) (phrase_fits sort.Number a.value first.1)) beyond.fit;
        unset_before = both_true (ap not (unset _ earlier here known (fails _ _ _ name.1))) beyond.unset_before;
      }

  record ActionFits (action : WrittenAction) : Type 0 where
    fits : action_fits bounds (action_tree scope action) ≡ true
    known : AllByRecursion (IsKnown scope.variables) (set_by_action action)
    set : set_before (action_tree scope action) ≡ map (index_of scope.variables) (set_by_action action)

  action_fit : (action : WrittenAction) → action_faults scope action ≡ [] → ActionFits action
  action_fit Local none = record { fits = refl; known = tt; set = refl }
  action_fit (Sends target value) none =
      let parts = both_empty (target_faults scope target) _ none in
      record { fits = both_true (target_fits target parts.0) (phrase_fits sort.Number value parts.1); known = tt; set = refl }
  action_fit (Receives source variable) none =
      let parts = both_empty (target_faults scope source) _ none in
      let known = named_known scope.variables variable parts.1 in
      record { fits = both_true (target_fits source parts.0) (variable_fits _ known); known = (known, tt); set = refl }

  command_fit : (command : WrittenCommand) → command_faults scope command ≡ [] → command_fits bounds (command_tree scope command) ≡ true
  command_fit command none =
      let parts = both_empty (expression_faults scope sort.Truth command.guard) _ none in
      let rest = both_empty (action_faults scope command.action) _ parts.1 in
      let action = action_fit command.action rest.0 in
      let all = all_assigned (set_by_action command.action) command.assignments action.known rest.1 in
      both_true (both_true (phrase_fits sort.Truth command.guard parts.0) action.fits)
      (both_true all.fit (rw action.set all.unset_before))

  record CommandsFit (earlier : ℕ) (all : List WrittenCommand) : Type 0 where
    few : earlier + length all ≤ COMMANDS
    fit : list_all (command_fits bounds) (map (command_tree scope) all) ≡ true

  commands_fit : (earlier : ℕ) (all : List WrittenCommand) → earlier ≤ COMMANDS → commands_faults scope earlier all ≡ []
      → CommandsFit earlier all
  commands_fit earlier [] few none = record { few = omega arith; fit = refl }
  commands_fit earlier (command ∷ all) few none =
      let parts = both_empty (fault_where (eqb earlier COMMANDS) _ command.at ++ command_faults scope command) _ none in
      let here = both_empty (fault_where (eqb earlier COMMANDS) _ command.at) _ parts.0 in
      let room : earlier < COMMANDS = below_limit earlier COMMANDS few (fails _ _ _ here.0) in
      let beyond = commands_fit (earlier + 1) all (omega arith) parts.1 in
      record { few = omega (arith, beyond.few); fit = both_true (command_fit command here.1) beyond.fit }

-- names that differ from all earlier ones, and whose number with the earlier ones is within the limit
record NamesFit (limit : ℕ) (earlier names : List (List ℕ)) : Type 0 where
  few : length earlier + length names ≤ limit
  fresh : are_fresh earlier names ≡ true

no_name : (limit : ℕ) (earlier : List (List ℕ)) → length earlier ≤ limit → NamesFit limit earlier []
no_name limit earlier few = record { few = omega arith; fresh = refl }

-- there is room for this name, and it is new
record NameFits (limit : ℕ) (earlier : List (List ℕ)) (named : Named) : Type 0 where
  room : length (named.name ∷ earlier) ≤ limit
  fresh : not (is_among named.name earlier) ≡ true

name_fits : (limit : ℕ) (earlier : List (List ℕ)) (named : Named) → length earlier ≤ limit → name_faults limit earlier named ≡ []
    → NameFits limit earlier named
name_fits limit earlier named few none =
    let parts = both_empty (fault_where (is_among named.name earlier) _ named.at) _ none in
    let less : length earlier < limit = below_limit (length earlier) limit few (fails _ _ _ parts.1) in
    record { room = omega arith; fresh = ap not (fails _ _ _ parts.0) }

one_name_more : (limit : ℕ) (earlier names : List (List ℕ)) (named : Named) → NameFits limit earlier named
    → NamesFit limit (named.name ∷ earlier) names → NamesFit limit earlier (named.name ∷ names)
one_name_more limit earlier names named first rest =
    record { few = omega (arith, rest.few); fresh = both_true first.fresh rest.fresh }

abbrev variable_tree : WrittenVariable → List ℕ × ℤ
variable_tree variable = (variable.name.name, variable.start)

variables_fit : (earlier : List (List ℕ)) (all : List WrittenVariable) → length earlier ≤ VARIABLES → variables_faults earlier all ≡ []
    → NamesFit VARIABLES earlier (map (λ variable. variable.0) (map variable_tree all))
variables_fit earlier [] few none = no_name VARIABLES earlier few
variables_fit earlier (variable ∷ all) few none =
    let parts = both_empty (name_faults VARIABLES earlier variable.name) _ none in
    let first = name_fits VARIABLES earlier variable.name few parts.0 in
    one_name_more VARIABLES earlier _ variable.name first (variables_fit (variable.name.name ∷ earlier) all first.room parts.1)

-- a process with this position among all
process_fit : (names : List (List ℕ)) (own : ℕ) (process : WrittenProcess) → get_or names own [] ≡ process.name.name
    → process_faults names process ≡ [] → process_fits (length names) own (process_tree names process) ≡ true
process_fit names own process here none =
    let parts = both_empty (variables_faults [] process.variables) _ none in
    let made : tree.Process = process_tree names process in
    let scope : Scope = scope_among names process in
    let bounds : Bounds = bounds_among (length names) own made in
    let same : Matches scope bounds = record {
      processes = refl;
      own = here;
      variables = length-map process.variables _ ∙ sym (length-map process.variables _);
    } in
    let variables = variables_fit [] process.variables (omega arith) parts.0 in
    let commands = commands_fit scope bounds same 0 process.commands (omega arith) parts.1 in
    both_true
    (both_true (le-leb (length made.variables) VARIABLES (omega (arith, variables.few, length-map made.variables (λ variable. variable.0))))
    (le-leb (length made.commands) COMMANDS (omega (arith, commands.few, length-map process.commands (command_tree scope)))))
    (both_true variables.fresh commands.fit)

-- the first element of the rest of a list
prefix_there : (names : List (List ℕ)) (k : ℕ) (n : List ℕ) (others : List (List ℕ)) → drop k names ≡ n ∷ others → get_or names k [] ≡ n
prefix_there names k n others here =
    ap (λ (i : ℕ). get_or names i []) (omega arith) ∙ sym (get_or-drop k names 0 []) ∙ ap (λ (l : List (List ℕ)). get_or l 0 []) here

drop_next : (names : List (List ℕ)) (k : ℕ) (n : List ℕ) (others : List (List ℕ)) → drop k names ≡ n ∷ others → drop (k + 1) names ≡ others
drop_next names k n others here = sym (drop-drop 1 k names) ∙ ap (λ (l : List (List ℕ)). drop 1 l) here

record ProcessesFit (names : List (List ℕ)) (earlier : List (List ℕ)) (own : ℕ) (all : List tree.Process) : Type 0 where
  named : NamesFit PROCESSES earlier (tree.names_of all)
  fit : processes_fit (length names) own all ≡ true

-- the processes from a position on, after these names
processes_all : (names earlier : List (List ℕ)) (own : ℕ) (all : List WrittenProcess) → length earlier ≤ PROCESSES
    → drop own names ≡ process_names all → processes_faults names earlier all ≡ []
    → ProcessesFit names earlier own (map (process_tree names) all)
processes_all names earlier own [] few here none = record { named = no_name PROCESSES earlier few; fit = refl }
processes_all names earlier own (process ∷ all) few here none =
    let parts = both_empty (name_faults PROCESSES earlier process.name ++ process_faults names process) _ none in
    let first = both_empty (name_faults PROCESSES earlier process.name) _ parts.0 in
    let name = name_fits PROCESSES earlier process.name few first.0 in
    let rest = processes_all names (process.name.name ∷ earlier) (own + 1) all name.room (drop_next names own _ _ here) parts.1 in
    record {
      named = one_name_more PROCESSES earlier _ process.name name rest.named;
      fit = both_true (process_fit names own process (prefix_there names own _ _ here) first.1) rest.fit;
    }

-- a parsed program that passes all checks
pub says_well_formed : (written : List WrittenProcess) → check_faults written ≡ [] → is_well_formed (program_tree written) ≡ true
says_well_formed written none =
    let names : List (List ℕ) = process_names written in
    let made : List tree.Process = program_tree written in
    let all = processes_all names [] 0 written (omega arith) refl none in
    let count : length names ≡ length made = length-map written _ ∙ sym (length-map written (process_tree names)) in
    both_true
    (both_true (le-leb (length made) PROCESSES (omega (arith, all.named.few, length-map made (λ process. process.name)))) all.named.fresh)
    (subst (λ (n : ℕ). processes_fit n 0 made ≡ true) count all.fit)

-- an expression of a process that passes all checks
pub says_fit : (P : tree.Program) (p : ℕ) (phrase : Phrase) → expression_faults (scope_of P p) sort.Truth phrase ≡ []
    → is_fit (bounds_of P p) sort.Truth (phrase_tree (scope_of P p) phrase) ≡ true
says_fit P p phrase none =
    let same : Matches (scope_of P p) (bounds_of P p) = record {
      processes = length-map P (λ process. process.name);
      own = get_or-map (λ (process : tree.Process). process.name) P p tree.no_process;
      variables = length-map (tree.process_of P p).variables (λ variable. variable.0);
    } in
    phrase_fits (scope_of P p) (bounds_of P p) same sort.Truth phrase none
