-- A search for a name, one process at a time.
use Rattle.std.proofs.Common.{◌≡◌, ℕ, ◌+◌, ◌<◌, Bool, true, false, cond, List, length, drop, get_or, map, Option, Some, sym, ap, ◌∙◌, subst}
use Rattle.std.specs.Str.{bytes_eq}
use Rattle.std.proofs.lemmas.List.{at_drop_more}
use Rattle.dbg_base.specs.Names.{place_from}
use Rattle.dbg_base.specs.Trees.{names_of}
use Rattle.proc_tree.specs.declared.process.Process.{Process}
use Rattle.proc_tree.specs.ProcessTrees.{process_tree}

-- the search from the i-th process on
abbrev pub search_from : ℕ → List ℕ → List Process → Option ℕ
search_from i name processes = place_from i name (names_of (map process_tree (drop i processes)))

search_turn : (i : ℕ) (name : List ℕ) (read processes : List Process) (process : Process) (b : Bool) → read ≡ processes → i < length read
    → process ≡ get_or read i process → b ≡ bytes_eq process.name name
    → search_from i name processes ≡ cond b (Some i) (search_from (i + 1) name processes)
search_turn i name read processes process b same lt here test =
    subst (λ (ps : List Process). search_from i name ps ≡ cond b (Some i) (search_from (i + 1) name ps)) same
    (at_drop_more (λ rest. place_from i name (names_of (map process_tree rest))) read i process lt
    ∙ ap (λ (q : Process). cond (bytes_eq q.name name) (Some i) (search_from (i + 1) name read)) (sym here)
    ∙ ap (λ (t : Bool). cond t (Some i) (search_from (i + 1) name read)) (sym test))

-- the i-th process has the name
pub search_found : (i : ℕ) (name : List ℕ) (read processes : List Process) (process : Process) → read ≡ processes → i < length read
    → process ≡ get_or read i process → true ≡ bytes_eq process.name name → search_from i name processes ≡ Some i
search_found i name read processes process same lt here test = search_turn i name read processes process true same lt here test

-- the i-th process has another name
pub search_passed : (i : ℕ) (name : List ℕ) (read processes : List Process) (process : Process) → read ≡ processes → i < length read
    → process ≡ get_or read i process → false ≡ bytes_eq process.name name
    → search_from i name processes ≡ search_from (i + 1) name processes
search_passed i name read processes process same lt here test = search_turn i name read processes process false same lt here test
