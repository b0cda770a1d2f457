-- Checks along a list, one element at a time: the faults of the whole are those of what is left.
use Rattle.std.proofs.Common.{◌≡◌, ℕ, ◌+◌, ◌<◌, Bool, true, false, ◌||◌, ◌==◌, List, [], ◌∷◌, ◌++◌, length, get_or, take, drop, map}
use Rattle.std.proofs.Common.{refl, sym, ap, ◌∙◌, subst, arith}
use Rattle.std.specs.List.{list_any}
use Rattle.std.specs.Str.{bytes_eq}
use Rattle.std.proofs.lemmas.List.{at_drop_more, length-map, map_push, map_more, take_more, take-map, get_or-map, length-take-le}
use Rattle.std.proofs.lemmas.Simd.{map-map}
use Rattle.dbg_base.specs.declared.limits.TheConstants.{PROCESSES, VARIABLES, COMMANDS}
use Rattle.dbg_base.specs.declared.expr.Sort.TheVariants as sort
use Rattle.dbg_base.specs.declared.fault.ProgFault.{ProgFault}
use Rattle.dbg_base.specs.declared.fault.FaultKind.TheVariants.{NameTaken, Limit, SetTwice}
use Rattle.dbg_base.specs.Grammar.{Named}
use Rattle.dbg_base.specs.Checks.{Scope, fault_where, unknown, name_faults, variables_faults, processes_faults, process_faults}
use Rattle.dbg_base.specs.Checks.{assignment_faults, assigned_faults, expression_faults, commands_faults, command_faults, scope_among}
use Rattle.dbg_base.specs.Checks.{process_names}
use Rattle.dbg_base.specs.Names.{is_among}
use Rattle.proc_lang.specs.declared.fault.ProgError.{ProgError}
use Rattle.proc_lang.specs.declared.syntax.WrittenVariable.{WrittenVariable}
use Rattle.proc_lang.specs.declared.syntax.WrittenAssignment.{WrittenAssignment}
use Rattle.proc_lang.specs.declared.syntax.WrittenCommand.{WrittenCommand}
use Rattle.proc_lang.specs.declared.syntax.WrittenProcess.{WrittenProcess}
use Rattle.proc_lang.specs.Writing.{named_of, phrase_of, variable_of, assignment_of, command_of, process_of, processes_of}
use Rattle.proc_lang.specs.Checking.{IsFirst}
use Rattle.proc_lang.proofs.FirstCheckLemmas.{first_left}

-- an element without a fault: the faults of the whole are those of the rest
pub goes_on : (whole rest here next : List ProgFault) → whole ≡ rest → rest ≡ here ++ next → here ≡ [] → whole ≡ next
goes_on whole rest here next so_far step none = so_far ∙ step ∙ ap (λ (l : List ProgFault). l ++ next) none

-- the first fault is that of the next element
pub first_next : (e : ProgError) (whole rest here next : List ProgFault) → whole ≡ rest → rest ≡ here ++ next → IsFirst e here
    → IsFirst e whole
first_next e whole rest here next so_far step first =
    subst (λ (l : List ProgFault). IsFirst e l) (sym (so_far ∙ step)) (first_left e here next first)

-- one more element that was read
pub reads_more : {X Y Z W : Type 0} (f : Z → W) (g : Y → W) (h : X → Y) (before after : List Z) (z : Z) (xs : List X) (i : ℕ) (x : X)
    → after ≡ before ++ z ∷ [] → map f before ≡ map g (map h (take i xs)) → i < length xs → x ≡ get_or xs i x → f z ≡ g (h x)
    → map f after ≡ map g (map h (take (i + 1) xs))
reads_more {X} {Y} {Z} {W} f g h before after z xs i x pushed so_far lt here same =
    let more : map g (map h (take (i + 1) xs)) ≡ map g (map h (take i xs)) ++ g (h x) ∷ []
    = ap (λ (l : List Y). map g l) (map_more h xs i x lt) ∙ map_push g (map h (take i xs)) (h (get_or xs i x))
    ∙ ap (λ (y : X). map g (map h (take i xs)) ++ g (h y) ∷ []) (sym here) in
    ap (λ (l : List Z). map f l) pushed ∙ map_push f before z ∙ ap (λ (l : List W). l ++ f z ∷ []) so_far
    ∙ ap (λ (w : W). map g (map h (take i xs)) ++ w ∷ []) same ∙ sym more

-- names on a stack, the last on top
abbrev pub pile : List (List ℕ) → List (List ℕ) → List (List ℕ)
pile earlier [] = earlier
pile earlier (n ∷ names) = pile (n ∷ earlier) names

pile-push : (earlier names : List (List ℕ)) (name : List ℕ) → pile earlier (names ++ name ∷ []) ≡ name ∷ pile earlier names
pile-push earlier [] name = refl
pile-push earlier (n ∷ names) name = pile-push (n ∷ earlier) names name

length-pile : (earlier names : List (List ℕ)) → length (pile earlier names) ≡ length earlier + length names
length-pile earlier [] = omega arith
length-pile earlier (n ∷ names) = omega (arith, length-pile (n ∷ earlier) names)

or_swap : (a b c : Bool) → ((a || b) || c) ≡ (b || (a || c))
or_swap true true c = refl
or_swap true false c = refl
or_swap false true c = refl
or_swap false false c = refl

or_none : (a : Bool) → a ≡ (a || false)
or_none true = refl
or_none false = refl

-- a name is on the stack if it was there before or was pushed
pile_among : (name : List ℕ) (earlier names : List (List ℕ))
    → is_among name (pile earlier names) ≡ (is_among name earlier || is_among name names)
pile_among name earlier [] = or_none (is_among name earlier)
pile_among name earlier (n ∷ names) =
    pile_among name (n ∷ earlier) names ∙ or_swap (bytes_eq name n) (is_among name earlier) (is_among name names)

any_map : {X : Type 0} (name : List ℕ) (f : X → List ℕ) (xs : List X) → is_among name (map f xs) ≡ list_any (λ x. bytes_eq name (f x)) xs
any_map name f [] = refl
any_map name f (x ∷ xs) = ap (λ (b : Bool). bytes_eq name (f x) || b) (any_map name f xs)

-- the same with a test of what the code has seen
pile_any : {X : Type 0} (name : List ℕ) (earlier : List (List ℕ)) (f : X → List ℕ) (xs : List X)
    → is_among name (pile earlier (map f xs)) ≡ (is_among name earlier || list_any (λ x. bytes_eq name (f x)) xs)
pile_any name earlier f xs =
    pile_among name earlier (map f xs) ∙ ap (λ (b : Bool). is_among name earlier || b) (any_map name f xs)

-- a name after others has the same faults whether these are a list or a stack
piled_faults : (limit : ℕ) (names : List (List ℕ)) (named : Named) → name_faults limit (pile [] names) named ≡ name_faults limit names named
piled_faults limit names named =
    ap (λ (b : Bool). fault_where b NameTaken named.at ++ fault_where (length (pile [] names) == limit) Limit named.at)
    (pile_among named.name [] names)
    ∙ ap (λ (n : ℕ). fault_where (is_among named.name names) NameTaken named.at ++ fault_where (n == limit) Limit named.at)
    (let e : length (pile [] names) ≡ length names = omega (arith, length-pile [] names) in e)

-- the i-th element has i elements before it
pub length_before : {X : Type 0} (f : X → List ℕ) (names : List (List ℕ)) (xs : List X) (i : ℕ) → names ≡ map f xs → i < length xs
    → length (take i names) ≡ i
length_before f names xs i are lt = length-take-le i names (omega (arith, ap length are, length-map xs f))

-- Faults of named elements, each checked after the names before it: `F` gives the faults of several, and `here` those of one.
module _ {X Y : Type 0} (F : List (List ℕ) → List Y → List ProgFault) (h : X → Y) where
  -- the faults from the i-th on
  abbrev pub left : List (List ℕ) → List (List ℕ) → ℕ → List X → List ProgFault
  left earlier names i xs = F (pile earlier (take i names)) (map h (drop i xs))

  more_names : (name : Y → List ℕ) (earlier names : List (List ℕ)) (xs : List X) (i : ℕ) (x : X) → names ≡ map (λ x. name (h x)) xs
      → i < length xs → x ≡ get_or xs i x → pile earlier (take (i + 1) names) ≡ name (h x) ∷ pile earlier (take i names)
  more_names name earlier names xs i x are lt at =
      let within : i < length names = omega (arith, ap length are, length-map xs (λ x. name (h x))) in
      let read : get_or names i [] ≡ name (h x)
      = ap (λ (l : List (List ℕ)). get_or l i []) are ∙ get_or-map (λ x. name (h x)) xs i x [] lt ∙ ap (λ (y : X). name (h y)) (sym at) in
      ap (λ (l : List (List ℕ)). pile earlier l) (take_more names i [] within) ∙ pile-push earlier (take i names) (get_or names i [])
      ∙ ap (λ (n : List ℕ). n ∷ pile earlier (take i names)) read

  -- the faults of the i-th element, which the code has read, and those of the elements after it
  left_here : (here : List (List ℕ) → Y → List ProgFault) (name : Y → List ℕ)
      → ((earlier : List (List ℕ)) (y : Y) (ys : List Y) → F earlier (y ∷ ys) ≡ here earlier y ++ F (name y ∷ earlier) ys)
      → (earlier names : List (List ℕ)) (xs : List X) (i : ℕ) (x : X) → names ≡ map (λ x. name (h x)) xs → i < length xs
      → x ≡ get_or xs i x → left earlier names i xs ≡ here (pile earlier (take i names)) (h x) ++ left earlier names (i + 1) xs
  left_here here name turn earlier names xs i x are lt at =
      let before : List (List ℕ) = pile earlier (take i names) in
      let rest : List Y = map h (drop (i + 1) xs) in
      at_drop_more (λ (l : List X). F before (map h l)) xs i x lt
      ∙ ap (λ (y : X). F before (h y ∷ rest)) (sym at) ∙ turn before (h x) rest
      ∙ ap (λ (names : List (List ℕ)). here before (h x) ++ F names rest) (sym (more_names name earlier names xs i x are lt at))

-- variables
abbrev pub variables_left : List (List ℕ) → ℕ → List WrittenVariable → List ProgFault
variables_left = left variables_faults variable_of []

pub variables_here : (names : List (List ℕ)) (xs : List WrittenVariable) (i : ℕ) (x : WrittenVariable)
    → names ≡ map (λ x. x.name.name) xs → i < length xs → x ≡ get_or xs i x
    → variables_left names i xs ≡ name_faults VARIABLES (take i names) (named_of x.name) ++ variables_left names (i + 1) xs
variables_here names xs i x are lt at =
    left_here variables_faults variable_of (λ earlier v. name_faults VARIABLES earlier v.name) (λ v. v.name.name) (λ e v others. refl)
    [] names xs i x are lt at
    ∙ ap (λ (l : List ProgFault). l ++ variables_left names (i + 1) xs) (piled_faults VARIABLES (take i names) (named_of x.name))

-- processes, if these are the names of all
abbrev pub processes_left : List (List ℕ) → ℕ → List WrittenProcess → List ProgFault
processes_left names = left (processes_faults names) process_of [] names

pub processes_here : (names : List (List ℕ)) (xs : List WrittenProcess) (i : ℕ) (x : WrittenProcess)
    → names ≡ map (λ x. x.name.name) xs → i < length xs → x ≡ get_or xs i x
    → processes_left names i xs
    ≡ (name_faults PROCESSES (take i names) (named_of x.name) ++ process_faults names (process_of x)) ++ processes_left names (i + 1) xs
processes_here names xs i x are lt at =
    left_here (processes_faults names) process_of (λ earlier p. name_faults PROCESSES earlier p.name ++ process_faults names p)
    (λ p. p.name.name) (λ e p others. refl) [] names xs i x are lt at
    ∙ ap (λ (l : List ProgFault). (l ++ process_faults names (process_of x)) ++ processes_left names (i + 1) xs)
    (piled_faults PROCESSES (take i names) (named_of x.name))

-- assignments, if the command has already set these variables
abbrev pub assignments_left : Scope → List (List ℕ) → ℕ → List WrittenAssignment → List ProgFault
assignments_left scope earlier i xs = left (assignment_faults scope) assignment_of earlier (map (λ a. a.variable.name) xs) i xs

pub assignments_here : (scope : Scope) (earlier : List (List ℕ)) (xs : List WrittenAssignment) (i : ℕ) (x : WrittenAssignment) (b : Bool)
    → i < length xs → x ≡ get_or xs i x
    → b ≡ (is_among x.variable.name earlier || list_any (λ a. bytes_eq x.variable.name a.variable.name) (take i xs))
    → assignments_left scope earlier i xs
    ≡ ((unknown scope.variables (named_of x.variable) ++ fault_where b SetTwice x.variable.at)
    ++ expression_faults scope sort.Number (phrase_of x.value)) ++ assignments_left scope earlier (i + 1) xs
assignments_here scope earlier xs i x b lt at test =
    let set : is_among x.variable.name (pile earlier (take i (map (λ a. a.variable.name) xs))) ≡ b
    = ap (λ (l : List (List ℕ)). is_among x.variable.name (pile earlier l)) (take-map (λ a. a.variable.name) i xs)
    ∙ pile_any x.variable.name earlier (λ a. a.variable.name) (take i xs) ∙ sym test in
    left_here (assignment_faults scope) assignment_of (assigned_faults scope) (λ a. a.variable.name) (λ e a others. refl) earlier
    (map (λ a. a.variable.name) xs) xs i x refl lt at
    ∙ ap (λ (t : Bool). ((unknown scope.variables (named_of x.variable) ++ fault_where t SetTwice x.variable.at)
    ++ expression_faults scope sort.Number (phrase_of x.value)) ++ assignments_left scope earlier (i + 1) xs) set

-- commands
pub commands_here : (scope : Scope) (xs : List WrittenCommand) (i : ℕ) (x : WrittenCommand) → i < length xs → x ≡ get_or xs i x
    → commands_faults scope i (map command_of (drop i xs))
    ≡ (fault_where (i == COMMANDS) Limit x.at ++ command_faults scope (command_of x))
    ++ commands_faults scope (i + 1) (map command_of (drop (i + 1) xs))
commands_here scope xs i x lt at =
    at_drop_more (λ (l : List WrittenCommand). commands_faults scope i (map command_of l)) xs i x lt
    ∙ ap (λ (y : WrittenCommand). commands_faults scope i (command_of y ∷ map command_of (drop (i + 1) xs))) (sym at)

-- what a process can name, with the names of its variables that the code has collected
abbrev pub scope_with : List (List ℕ) → List ℕ → List (List ℕ) → Scope
scope_with processes own variables = record { processes = processes; own = own; variables = variables }

pub scope_with_is : (processes names collected : List (List ℕ)) (variables : List WrittenVariable) (written : WrittenProcess)
    → collected ≡ names → names ≡ map (λ variable. variable.name.name) variables → variables ≡ written.variables.items
    → scope_with processes written.name.name collected ≡ scope_among processes (process_of written)
scope_with_is processes names collected variables written same are read =
    ap (λ (l : List (List ℕ)). scope_with processes written.name.name l)
    (same ∙ are ∙ ap (λ (l : List WrittenVariable). map (λ variable. variable.name.name) l) read
    ∙ sym (map-map (λ variable. variable.name.name) variable_of written.variables.items))

-- the collected names are those of all processes
pub process_names_are : (names collected : List (List ℕ)) (written : List WrittenProcess) → collected ≡ names
    → names ≡ map (λ process. process.name.name) written → collected ≡ process_names (processes_of written)
process_names_are names collected written same are = same ∙ are ∙ sym (map-map (λ process. process.name.name) process_of written)
