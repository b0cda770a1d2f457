-- The parts of a line that sets a breakpoint, read one after the other.
use Rattle.std.proofs.Common.{◌≡◌, ◌⊎◌, ℕ, Bool, true, false, ◌||◌, eqb, List, [], ◌∷◌, ◌++◌, map, Option, Some, None}
use Rattle.std.proofs.Common.{Result, Ok, Err, refl, sym, ap, ◌∙◌, subst, inl, inr}
use Rattle.std.specs.Bool.{MatchBool}
use Rattle.std.specs.List.{list_any}
use Rattle.dbg_base.specs.declared.call.Conjunct as conjunct
use Rattle.dbg_base.specs.declared.refusal.Refusal.{Refusal}
use Rattle.dbg_base.specs.declared.refusal.Refusal.TheVariants.{BadPredicate, Memory}
use Rattle.dbg_base.specs.Calls.{conjunct_of}
use Rattle.dbg_base.specs.Checks.{ReadsPredicate}
use Rattle.dbg_base.specs.Predicates.{Conjunct}
use Rattle.dbg_base.specs.Trees.{Tree, Program}
use Rattle.dbg_base.specs.CommandLines.{Part, named_process, with_part, parts_in, map_ok}
use Rattle.dbg_base.specs.Requests.{ReadsPart, ReadsParts, with_conjunct}
use Rattle.shell_parse.specs.Lines.{has_part, ReadsNamed}

abbrev IsOutcome : Result Conjunct Refusal → Result Conjunct Refusal → Type 0
IsOutcome made known = made ≡ known

module _ (P : Program) (has : ℕ → Bool) (named : Result ℕ Refusal) (text : List ℕ) (p : ℕ) (here : Ok p ≡ named) where
  module _ (tree : Tree) (reads : ReadsPredicate P p text tree) where
    abbrev conjunct_here : Result Conjunct Refusal
    conjunct_here = Ok (record { process = p; expression = tree })

    -- the process has a part already
    pub stood : has p ≡ true → ReadsNamed P has named text (Err BadPredicate)
    stood e = subst (λ (n : Result ℕ Refusal). ReadsNamed P has n text (Err BadPredicate)) here
        (inl (
          tree,
          reads,
          subst (λ (t : Bool). MatchBool t (IsOutcome (Err BadPredicate) (Err BadPredicate))
              (IsOutcome (Err BadPredicate) conjunct_here)) (sym e) refl,
        ))

    -- it has none yet
    pub stood_not : has p ≡ false → ReadsNamed P has named text conjunct_here
    stood_not e = subst (λ (n : Result ℕ Refusal). ReadsNamed P has n text conjunct_here) here
        (inl (
          tree,
          reads,
          subst (λ (t : Bool). MatchBool t (IsOutcome conjunct_here (Err BadPredicate))
              (IsOutcome conjunct_here conjunct_here)) (sym e) refl,
        ))

abbrev after : List Conjunct → Result (List Conjunct) Refusal → Result (List Conjunct) Refusal
after made others = map_ok (λ conjuncts. made ++ conjuncts) others

-- these parts are left; all parts are read as these conjuncts followed by those of the parts that are left
pub record Leaves (P : Program) (parts left : List Part) (before : List ℕ) (made : List Conjunct) : Type 0 where
  pub onward : (others : Result (List Conjunct) Refusal) → ReadsParts P before left others → ReadsParts P [] parts (after made others)

-- these conjuncts were made so far, and these bytes are left
pub record ReadSoFar (P : Program) (all rest : List ℕ) (made : List conjunct.Conjunct) : Type 0 where
  pub before : List ℕ
  pub same : (p : ℕ) → list_any (λ q. eqb q p) before ≡ has_part made p
  pub leaves : (parts : List Part) → parts_in all ≡ Some parts
      → (left : List Part) × (parts_in rest ≡ Some left) × Leaves P parts left before (map conjunct_of made)

after_nothing : (others : Result (List Conjunct) Refusal) → others ≡ after [] others
after_nothing (Ok others) = refl
after_nothing (Err refusal) = refl

-- nothing was read yet
pub none_read : (P : Program) (all : List ℕ) → ReadSoFar P all all []
none_read P all = record {
  before = [];
  same = λ p. refl;
  leaves = λ parts e. (
    parts,
    e,
    record {
      onward = λ others r. subst (λ (o : Result (List Conjunct) Refusal). ReadsParts P [] parts o) (after_nothing others) r;
    },
  );
}

plus_nothing : (made : List Conjunct) → made ++ [] ≡ made
plus_nothing [] = refl
plus_nothing (c ∷ made) = ap (λ (rest : List Conjunct). c ∷ rest) (plus_nothing made)

splits : (part : Part) (found : Option (List Part)) (left : List Part) → with_part part found ≡ Some left
    → (others : List Part) × (found ≡ Some others) × (part ∷ others ≡ left)
splits part (Some others) left e = (others, refl, cc)
splits part None left e = cc

err_as_list : (refusal known : Refusal) → IsOutcome (Err refusal) (Err known)
    → ◌≡◌ {A = Result (List Conjunct) Refusal} (Err refusal) (Err known)
err_as_list refusal known e = let same : refusal ≡ known = cc in ap (λ (r : Refusal). Err r) same

refuses_by : (refusal : Refusal) (k : Conjunct) (Other : Type 0) (t u : Bool) → t ≡ u
    → MatchBool u (IsOutcome (Err refusal) (Err BadPredicate)) (IsOutcome (Err refusal) (Ok k))
    → MatchBool t (◌≡◌ {A = Result (List Conjunct) Refusal} (Err refusal) (Err BadPredicate)) Other
refuses_by refusal k Other true true e m = err_as_list refusal BadPredicate m
refuses_by refusal k Other true false e m = cc
refuses_by refusal k Other false true e m = cc
refuses_by refusal k Other false false e m = cc

module _ (P : Program) (before : List ℕ) (has : ℕ → Bool) (same : (p : ℕ) → list_any (λ q. eqb q p) before ≡ has p) where
  module _ (Rest : ℕ → Result (List Conjunct) Refusal → Type 0) where
    refuses_part : (named : Result ℕ Refusal) (text : List ℕ) (refusal : Refusal) → ReadsNamed P has named text (Err refusal)
        → ReadsPart P before named text Rest (Err refusal)
    refuses_part (Err known) text refusal h = err_as_list refusal known h
    refuses_part (Ok p) text refusal (inl (tree, reads, m)) =
        inl (
          tree,
          reads,
          refuses_by refusal (record { process = p; expression = tree }) _ (list_any (λ q. eqb q p) before) (has p)
              (same p) m,
        )
    refuses_part (Ok p) text refusal (inr (fault, is, e)) = inr (fault, is, err_as_list refusal BadPredicate e)

-- a text was read as this conjunct
record Accepts (P : Program) (has : ℕ → Bool) (named : Result ℕ Refusal) (text : List ℕ) (k : Conjunct) : Type 0 where
  process : named ≡ Ok k.process
  reads : ReadsPredicate P k.process text k.expression
  alone : has k.process ≡ false

accepts_by : (P : Program) (has : ℕ → Bool) (text : List ℕ) (k : Conjunct) (p : ℕ) (tree : Tree) (t : Bool) → has p ≡ t
    → ReadsPredicate P p text tree
    → MatchBool t (IsOutcome (Ok k) (Err BadPredicate)) (IsOutcome (Ok k) (Ok (record { process = p; expression = tree })))
    → Accepts P has (Ok p) text k
accepts_by P has text k p tree true e reads m = cc
accepts_by P has text k p tree false e reads m =
    let is : record { process = p; expression = tree } ≡ k = cc in
    subst (λ (c : Conjunct). Accepts P has (Ok p) text c) is (record { process = refl; reads = reads; alone = e })

accepts : (P : Program) (has : ℕ → Bool) (named : Result ℕ Refusal) (text : List ℕ) (k : Conjunct)
    → ReadsNamed P has named text (Ok k) → Accepts P has named text k
accepts P has (Err known) text k h = cc
accepts P has (Ok p) text k (inl (tree, reads, m)) = accepts_by P has text k p tree (has p) refl reads m
accepts P has (Ok p) text k (inr (fault, is, e)) = cc

or_turn : (a b c : Bool) → (a || (b || c)) ≡ (b || (a || c))
or_turn true true c = refl
or_turn true false c = refl
or_turn false true c = refl
or_turn false false c = refl

has_part_more : (made : List conjunct.Conjunct) (c : conjunct.Conjunct) (p : ℕ)
    → has_part (made ++ c ∷ []) p ≡ (eqb c.pid.0 p || has_part made p)
has_part_more [] c p = refl
has_part_more (m ∷ made) c p =
    ap (λ (rest : Bool). eqb m.pid.0 p || rest) (has_part_more made c p) ∙ or_turn (eqb m.pid.0 p) (eqb c.pid.0 p) (has_part made p)

map_more : (made : List conjunct.Conjunct) (c : conjunct.Conjunct) (others : List Conjunct)
    → map conjunct_of made ++ conjunct_of c ∷ others ≡ map conjunct_of (made ++ c ∷ []) ++ others
map_more [] c others = refl
map_more (m ∷ made) c others = ap (λ (rest : List Conjunct). conjunct_of m ∷ rest) (map_more made c others)

after_more : (made : List conjunct.Conjunct) (c : conjunct.Conjunct) (others : Result (List Conjunct) Refusal)
    → after (map conjunct_of made) (with_conjunct c.pid.0 (conjunct_of c).expression others)
    ≡ after (map conjunct_of (made ++ c ∷ [])) others
after_more made c (Ok others) = ap (λ (all : List Conjunct). Ok all) (map_more made c others)
after_more made c (Err refusal) = refl

module _ (P : Program) (all rest : List ℕ) (made : List conjunct.Conjunct) (so_far : ReadSoFar P all rest made) where
  module _ (parts : List Part) (whole : parts_in all ≡ Some parts) where
    -- no part is left
    pub all_read : parts_in rest ≡ Some [] → ReadsParts P [] parts (Ok (map conjunct_of made))
    all_read e =
        let left = so_far.leaves parts whole in
        let nothing : [] ≡ left.0 = cc in
        subst (λ (known : List Conjunct). ReadsParts P [] parts (Ok known)) (plus_nothing (map conjunct_of made))
        (left.2.onward (Ok []) (subst (λ (l : List Part). ReadsParts P so_far.before l (Ok [])) nothing refl))

    -- what is left is well formed
    pub has_form : {A : Type 0} → parts_in rest ≡ None → A
    has_form e = let left = so_far.leaves parts whole in absurd (let no_parts : None ≡ Some left.0 = sym e ∙ left.1 in cc)

    -- the next part is refused
    refused_next : (name text more : List ℕ) (refusal : Refusal) → parts_in rest ≡ with_part (name, text) (parts_in more)
        → ReadsNamed P (has_part made) (named_process P name) text (Err refusal) → ReadsParts P [] parts (Err refusal)
    refused_next name text more refusal e h =
        let left = so_far.leaves parts whole in
        let two = splits (name, text) (parts_in more) left.0 (sym e ∙ left.1) in
        left.2.onward (Err refusal)
        (subst (λ (l : List Part). ReadsParts P so_far.before l (Err refusal)) two.2
        (refuses_part P so_far.before (has_part made) so_far.same _ (named_process P name) text refusal h))

  -- the next part was read
  read_next : (name text more : List ℕ) (c : conjunct.Conjunct) → parts_in rest ≡ with_part (name, text) (parts_in more)
      → ReadsNamed P (has_part made) (named_process P name) text (Ok (conjunct_of c)) → ReadSoFar P all more (made ++ c ∷ [])
  read_next name text more c e h =
      let is = accepts P (has_part made) (named_process P name) text (conjunct_of c) h in
      let alone : list_any (λ q. eqb q c.pid.0) so_far.before ≡ false = so_far.same c.pid.0 ∙ is.alone in
      record {
        before = c.pid.0 ∷ so_far.before;
        same = λ p. ap (λ (b : Bool). eqb c.pid.0 p || b) (so_far.same p) ∙ sym (has_part_more made c p);
        leaves = λ parts whole.
            let left = so_far.leaves parts whole in
            let two = splits (name, text) (parts_in more) left.0 (sym e ∙ left.1) in (
              two.0,
              two.1,
              record {
                onward = λ others r.
                    let known = with_conjunct c.pid.0 (conjunct_of c).expression others in
                    subst (λ (o : Result (List Conjunct) Refusal). ReadsParts P [] parts o) (after_more made c others)
                    (left.2.onward known (subst (λ (l : List Part). ReadsParts P so_far.before l known) two.2
                    (subst (λ (n : Result ℕ Refusal). ReadsPart P so_far.before n text
                    (λ p o. ReadsParts P (p ∷ so_far.before) two.0 o) known) (sym is.process)
                    (inl (
                      (conjunct_of c).expression,
                      is.reads,
                      subst (λ (t : Bool). MatchBool t (known ≡ Err BadPredicate)
                          ((o : Result (List Conjunct) Refusal) × ReadsParts P (c.pid.0 ∷ so_far.before) two.0 o
                          × (known ≡ with_conjunct c.pid.0 (conjunct_of c).expression o))) (sym alone) (others, r, refl),
                    )))));
              },
            );
      }

  module _ (name text more : List ℕ) (slice : List conjunct.Conjunct) (is_slice : slice ≡ made)
      (e : parts_in rest ≡ with_part (name, text) (parts_in more)) where
    -- the same for a slice, if memory may run out
    pub read_more : (c : conjunct.Conjunct) (items : List conjunct.Conjunct) → items ≡ made ++ c ∷ []
        → ReadsNamed P (has_part slice) (named_process P name) text (Ok (conjunct_of c))
        ⊎ (◌≡◌ {A = Result conjunct.Conjunct Refusal} (Ok c) (Err Memory)) → ReadSoFar P all more items
    read_more c items pushed (inl h) =
        subst (λ (now : List conjunct.Conjunct). ReadSoFar P all more now) (sym pushed)
        (read_next name text more c e (subst (λ (m : List conjunct.Conjunct).
        ReadsNamed P (has_part m) (named_process P name) text (Ok (conjunct_of c))) is_slice h))
    read_more c items pushed (inr no_memory) = cc

    pub refused_more : (refusal : Refusal) → ReadsNamed P (has_part slice) (named_process P name) text (Err refusal)
        ⊎ (◌≡◌ {A = Result conjunct.Conjunct Refusal} (Err refusal) (Err Memory)) → (parts : List Part) → parts_in all ≡ Some parts
        → ReadsParts P [] parts (Err refusal) ⊎ (◌≡◌ {A = Result (List conjunct.Conjunct) Refusal} (Err refusal) (Err Memory))
    refused_more refusal (inl h) parts whole =
        inl (refused_next parts whole name text more refusal e (subst (λ (m : List conjunct.Conjunct).
        ReadsNamed P (has_part m) (named_process P name) text (Err refusal)) is_slice h))
    refused_more refusal (inr no_memory) parts whole =
        let same : refusal ≡ Memory = cc in inr (ap (λ (r : Refusal). Err r) same)
