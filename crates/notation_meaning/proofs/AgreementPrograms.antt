-- Items, processes and declarations, once their parts are known.
use Rattle.std.proofs.Common.{◌≡◌, ℕ, zero, suc, List, [], ◌∷◌, ◌++◌, length, map, take, drop, replicate, refl, sym, ap, subst, None, arith}
use Rattle.std.proofs.lemmas.List.{take_all, length-map}
use Rattle.dbg_base.specs.Evaluation.{Value}
use Rattle.dbg_base.specs.Trees as tree
use Rattle.dbg_base.specs.Trees.{process_of, no_process}
use Rattle.notation_tree.specs.declared.syntax.Constant.{Constant}
use Rattle.notation_tree.specs.declared.syntax.CommandNode.{CommandNode}
use Rattle.notation_tree.specs.declared.syntax.Definition.{Definition}
use Rattle.notation_tree.specs.declared.syntax.ItemNode.{ItemNode, out-ItemNode}
use Rattle.notation_tree.specs.declared.syntax.ItemNode.TheOpen as opened
use Rattle.notation_tree.specs.declared.syntax.ProcessNode.{ProcessNode}
use Rattle.notation_tree.specs.declared.syntax.DeclarationNode.{DeclarationNode}
use Rattle.notation_tree.specs.declared.syntax.DeclarationNode.TheVariants as declared
use Rattle.notation_meaning.specs.ModelScopes.{Constants, Scope, Top}
use Rattle.notation_meaning.specs.ModelValues.{HasValue}
use Rattle.notation_meaning.specs.ModelFamilies.{IsIndexed}
use Rattle.notation_meaning.specs.ModelPrograms.{Copy, ModelProgress, label_in, ItemsOf, ProcessOf}
use Rattle.notation_meaning.specs.ModelPrograms.{Variable, Frame, setting_in, with_constant, CommandOf, ItemOf, constant_item, command_item}
use Rattle.notation_meaning.specs.ModelPrograms.{DeclarationOf, constant_declared, DeclarationsOf}
use Rattle.notation_meaning.specs.declared.scopes.MemberHere.{MemberHere}
use Rattle.notation_meaning.specs.AgreementViews.{constants_of, place_of}

-- constants of which none has a value
pub constants_unknown : (n : ℕ) → constants_of (replicate n None) ≡ replicate n None
constants_unknown zero = refl
constants_unknown (suc n) = ap (λ cs. None ∷ cs) (constants_unknown n)

pub constant_done : (F : Frame) (s : Scope) (node : ItemNode) (c : Constant) (v : Value) (constants later : Constants) (vs : List Variable)
    (cs : List tree.Command) (ls : List (List ℕ)) → out-ItemNode node ≡ opened.Constant c → HasValue (setting_in F constants).context s c.value v
    → later ≡ with_constant constants c.number v
    → ItemOf F s node (record { constants = constants; variables = vs; commands = cs; labels = ls })
    (record { constants = later; variables = vs; commands = cs; labels = ls })
constant_done F s node c v constants later vs cs ls is h e = rw e (constant_item c is h)

pub command_done : (F : Frame) (s : Scope) (node : ItemNode) (k : CommandNode) (c : tree.Command) (constants : Constants) (vs : List Variable)
    (cs later : List tree.Command) (ls more : List (List ℕ)) → out-ItemNode node ≡ opened.Command k → CommandOf (setting_in F constants) s k c
    → later ≡ cs ++ (c ∷ []) → more ≡ ls ++ (label_in F.family s k.label ∷ [])
    → ItemOf F s node (record { constants = constants; variables = vs; commands = cs; labels = ls })
    (record { constants = constants; variables = vs; commands = later; labels = more })
command_done F s node k c constants vs cs later ls more is h e l = rw (e, l) (command_item k is h)

pub process_done : (D : List Definition) (names : List (List ℕ)) (n : ℕ) (node : ProcessNode) (place : List MemberHere)
    (constants later : Constants) (p : tree.Process) (copy : Copy) → IsIndexed node.name (map (λ m. m.value) place) p.name
    → ItemsOf
    (record { definitions = D; family = length place; processes = names; variables = map (λ v. v.0) p.variables })
    (place_of Top place).scope node.items.items (record { constants = constants; variables = []; commands = []; labels = [] })
    (record { constants = later; variables = p.variables; commands = p.commands; labels = copy.labels })
    → copy.declaration ≡ n → copy.members ≡ map (λ m. m.value) place → copy.constants ≡ take node.constants (drop node.first_constant later)
    → ProcessOf D names n node (place_of Top place) constants later p copy
process_done D names n node place constants later p copy name items declared members own =
    let count : length (map (λ (m : MemberHere). m.value) place) ≡ length place = length-map place (λ (m : MemberHere). m.value) in
    record {
      name = name;
      items =
          subst
          (λ k. ItemsOf
          (record { definitions = D; family = k; processes = names; variables = map (λ v. v.0) p.variables })
          (place_of Top place).scope node.items.items (record { constants = constants; variables = []; commands = []; labels = [] })
          (record { constants = later; variables = p.variables; commands = p.commands; labels = copy.labels }))
          (sym count) items;
      declared = declared;
      members = members;
      own = own;
    }

pub declared_constant : (D : List Definition) (names : List (List ℕ)) (n : ℕ) (c : Constant) (v : Value) (constants later : Constants)
    (ps : tree.Program) (copies : List Copy) → HasValue (record { definitions = D; constants = constants }) Top c.value v
    → later ≡ with_constant constants c.number v
    → DeclarationOf D names n (declared.Constant c) (record { constants = constants; processes = ps; copies = copies })
    (record { constants = later; processes = ps; copies = copies })
declared_constant D names n c v constants later ps copies h e = rw e (constant_declared h)

pub program_done : (D : List Definition) (names : List (List ℕ)) (nodes : List DeclarationNode) (count n : ℕ) (constants later wanted : Constants)
    (P : tree.Program) (copies : List Copy) → DeclarationsOf D names 0 nodes (record { constants = constants; processes = []; copies = [] })
    (record { constants = later; processes = take n P; copies = take n copies }) → constants ≡ replicate count None → n ≡ length P
    → n ≡ length copies → later ≡ wanted
    → DeclarationsOf D names 0 nodes (record { constants = replicate count None; processes = []; copies = [] })
    (record { constants = wanted; processes = P; copies = copies })
program_done D names nodes count n constants later wanted P copies rule none all known same =
    let whole : take n P ≡ P = take_all n P (omega arith) in
    let each : take n copies ≡ copies = take_all n copies (omega arith) in
    let start : Constants → ModelProgress = λ cs. record { constants = cs; processes = []; copies = [] } in
    subst (λ z. DeclarationsOf D names 0 nodes (start z) (record { constants = wanted; processes = P; copies = copies })) none
    (subst (λ z. DeclarationsOf D names 0 nodes (start constants) (record { constants = z; processes = P; copies = copies })) same
    (subst (λ z. DeclarationsOf D names 0 nodes (start constants) (record { constants = later; processes = z; copies = copies })) whole
    (subst (λ z. DeclarationsOf D names 0 nodes (start constants) (record { constants = later; processes = take n P; copies = z })) each rule)))
