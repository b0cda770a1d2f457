-- The commands of a batch, read one after the other.
use Rattle.std.proofs.Common.{◌≡◌, ◌⊎◌, inl, inr, ℕ, suc, ◌+◌, ◌<◌, ◌≤◌, Bool, true, false, not, cond, ◌&&◌, List, [], ◌∷◌, ◌++◌, length}
use Rattle.std.proofs.Common.{map, Option, Some, None, Result, Ok, Err, refl, sym, ap, ◌∙◌, subst, append_assoc, arith}
use Rattle.std.specs.Prelude.{nat_le, MatchOption}
use Rattle.std.specs.List.{list_all, flat_map, AllByRecursion}
use Rattle.std.proofs.lemmas.Bool.Decides.{nat_tests}
use Rattle.dbg_base.specs.declared.call.Plan as plan
use Rattle.dbg_base.specs.declared.limits.TheConstants.{BATCH}
use Rattle.dbg_base.specs.declared.refusal.Refusal.{Refusal}
use Rattle.dbg_base.specs.declared.refusal.Refusal.TheVariants.{BadLine, Memory}
use Rattle.dbg_base.specs.Calls.{Plan, Order, One, Batch, IsBatch, plans_of, order_of, Give}
use Rattle.dbg_base.specs.Trees.{Program}
use Rattle.dbg_base.specs.CommandLines.{map_ok, before_first_word, Spot, Between, is_separator, spot_after, sets_break, commands_from, commands_of}
use Rattle.dbg_base.specs.Requests.{AsksOne, command_in, AsksEach, is_shapeless, with_command, all_commands, batch_of, AsksBatch}
use Rattle.shell_parse.specs.Lines.{has_shape, are_commands, MayBeBatch, IsMember, AreRead}
use Rattle.shell_parse.proofs.CommandOutcomeLemmas.{some_each}
use Rattle.shell_parse.proofs.Shapes.{shape_is, as_many, batch_test}

-- The test of a batch, command by command.

both : (x y : Bool) → (x && y) ≡ true → (x ≡ true) × (y ≡ true)
both true y e = (refl, e)
both false y e = cc

-- so many of these commands were checked and have their shape, and those are left
pub record Counted (P : Program) (all left : List (List ℕ)) (count : ℕ) : Type 0 where
  pub counted : count + length left ≡ length all
  pub shapes : list_all (has_shape P) all ≡ list_all (has_shape P) left
  pub few : count ≤ BATCH

pub none_counted : (P : Program) (all : List (List ℕ)) → Counted P all all 0
none_counted P all = record { counted = omega arith; shapes = refl; few = omega arith }

-- all of these have their shape, and there are at most 32
abbrev are_few : Program → List (List ℕ) → Bool
are_few P commands = list_all (has_shape P) commands && nat_le (length commands) BATCH

too_long : (n : ℕ) (x t : Bool) → nat_le n BATCH ≡ t → BATCH < n → (x && t) ≡ false
too_long n x true e most = absurd (grind (arith, nat_tests))
too_long n true false e most = refl
too_long n false false e most = refl

not_long : (n : ℕ) (x t : Bool) → nat_le n BATCH ≡ t → n ≤ BATCH → x ≡ true → (x && t) ≡ true
not_long n x true e few shaped = ap (λ (y : Bool). y && true) shaped
not_long n x false e few shaped = absurd (grind (arith, nat_tests))

module _ (P : Program) (all commands left : List (List ℕ)) (command : List ℕ) (count : ℕ) (so_far : Counted P all commands count)
    (first : commands ≡ command ∷ left) where
  pub too_many : BATCH < count + 1 → are_few P all ≡ false
  too_many most = too_long (length all) (list_all (has_shape P) all) _ refl (omega (arith, so_far.counted, ap length first))

  begins : list_all (has_shape P) all ≡ (has_shape P command && list_all (has_shape P) left)
  begins = so_far.shapes ∙ ap (list_all (has_shape P)) first

  pub shapeless : has_shape P command ≡ false → are_few P all ≡ false
  shapeless e = ap (λ (x : Bool). x && nat_le (length all) BATCH) (begins ∙ ap (λ (x : Bool). x && list_all (has_shape P) left) e)

  module _ (shaped : has_shape P command ≡ true) (few : count + 1 ≤ BATCH) where
    pub counted_more : Counted P all left (count + 1)
    counted_more = record {
      counted = omega (arith, so_far.counted, ap length first);
      shapes = begins ∙ ap (λ (x : Bool). x && list_all (has_shape P) left) shaped;
      few = few;
    }

    pub all_counted : left ≡ [] → are_few P all ≡ true
    all_counted e =
        not_long (length all) (list_all (has_shape P) all) _ refl (omega (arith, counted_more.counted, ap length e))
        (counted_more.shapes ∙ ap (list_all (has_shape P)) e)

-- The plans of the commands.

-- a command that has its shape does not give a batch
pub member : (P : Program) (bytes : List ℕ) (p : plan.Plan) → has_shape P bytes ≡ true → AsksOne P bytes (Ok (Give (order_of p)))
    → IsMember P bytes (Ok p)
member P bytes p shaped one = (Ok (Give (order_of p)), one, by (order_of p) (shape_is P bytes _ one ∙ ap not shaped))
  where
    by : (order : Order) → is_shapeless (command_in (Ok (Give order))) ≡ false → Ok order ≡ map_ok One (command_in (Ok (Give order)))
    by (One m) e = refl
    by (Batch ms) e = cc

same_refusal : {X Y : Type 0} (f : X → Y) (refusal : Refusal) (result : Result X Refusal)
    → ◌≡◌ {A = Result Y Refusal} (Err refusal) (map_ok f result) → ◌≡◌ {A = Result X Refusal} result (Err refusal)
same_refusal f refusal (Ok x) e = cc
same_refusal f refusal (Err other) e = let same : refusal ≡ other = cc in ap (λ (r : Refusal). Err r) (sym same)

same_accepted : {X Y : Type 0} (f : X → Y) (y : Y) (result : Result X Refusal) → ◌≡◌ {A = Result Y Refusal} (Ok y) (map_ok f result)
    → (x : X) × (result ≡ Ok x) × (y ≡ f x)
same_accepted f y (Ok x) e = (x, refl, cc)
same_accepted f y (Err other) e = cc

abbrev after : List Plan → Result (List Plan) Refusal → Result (List Plan) Refusal
after models others = map_ok (λ plans. models ++ plans) others

after_nothing : (others : Result (List Plan) Refusal) → others ≡ after [] others
after_nothing (Ok plans) = refl
after_nothing (Err refusal) = refl

after_more : (models : List Plan) (m : Plan) (others : Result (List Plan) Refusal)
    → after models (with_command (Ok m) others) ≡ after (models ++ m ∷ []) others
after_more models m (Ok plans) = ap (λ (all : List Plan). Ok all) (sym (append_assoc models (m ∷ []) plans))
after_more models m (Err refusal) = refl

map_more : {X Y : Type 0} (f : X → Y) (made : List X) (x : X) → map f (made ++ x ∷ []) ≡ map f made ++ f x ∷ []
map_more f [] x = refl
map_more f (m ∷ made) x = ap (λ (rest : List _). f m ∷ rest) (map_more f made x)

nothing_after : (models : List Plan) → models ++ [] ≡ models
nothing_after [] = refl
nothing_after (m ∷ models) = ap (λ (rest : List Plan). m ∷ rest) (nothing_after models)

-- these plans of all these commands were read so far, and those commands are left
pub record ReadSoFar (P : Program) (all left : List (List ℕ)) (made : List plan.Plan) : Type 0 where
  pub models : List Plan
  pub same : map order_of made ≡ map One models
  pub shaped : list_all (has_shape P) left ≡ true
  pub onward : (others : List (Result Plan Refusal)) → AsksEach P left others
      → (results : List (Result Plan Refusal)) × AsksEach P all results × (all_commands results ≡ after models (all_commands others))

pub none_read : (P : Program) (all : List (List ℕ)) → list_all (has_shape P) all ≡ true → ReadSoFar P all all []
none_read P all shaped = record {
  models = [];
  same = refl;
  shaped = shaped;
  onward = λ others each. (others, each, after_nothing (all_commands others));
}

-- all were read
pub all_read : (P : Program) (all : List (List ℕ)) (made : List plan.Plan) → ReadSoFar P all [] made → AreRead P all (Ok made)
all_read P all made so_far =
    let found = so_far.onward [] refl in (
      found.0,
      found.1,
      ap (λ (orders : List Order). Ok orders) (so_far.same ∙ ap (map One) (sym (nothing_after so_far.models)))
          ∙ ap (map_ok (map One)) (sym found.2),
    )

module _ (P : Program) (all commands left : List (List ℕ)) (command : List ℕ) (made : List plan.Plan)
    (so_far : ReadSoFar P all commands made) (first : commands ≡ command ∷ left) where
  both_shaped : (has_shape P command ≡ true) × (list_all (has_shape P) left ≡ true)
  both_shaped = both _ _ (ap (list_all (has_shape P)) (sym first) ∙ so_far.shaped)

  pub first_shaped : has_shape P command ≡ true
  first_shaped = both_shaped.0

  -- the next command was read
  pub read_more : (p : plan.Plan) (items : List plan.Plan) → items ≡ made ++ p ∷ []
      → IsMember P command (Ok p) ⊎ (◌≡◌ {A = Result plan.Plan Refusal} (Ok p) (Err Memory)) → ReadSoFar P all left items
  read_more p items pushed (inr no_memory) = cc
  read_more p items pushed (inl (asked, one, e)) =
      let is = same_accepted One (order_of p) (command_in asked) e in
      record {
        models = so_far.models ++ is.0 ∷ [];
        same = ap (map order_of) pushed ∙ map_more order_of made p
            ∙ ap (λ (orders : List Order). orders ++ order_of p ∷ []) so_far.same
            ∙ ap (λ (order : Order). map One so_far.models ++ order ∷ []) is.2
            ∙ sym (map_more One so_far.models is.0);
        shaped = both_shaped.1;
        onward = λ others each.
            let found =
            so_far.onward (command_in asked ∷ others)
            (subst (λ (c : List (List ℕ)). AsksEach P c (command_in asked ∷ others)) (sym first) (asked, others, one, each, refl)) in (
              found.0,
              found.1,
              found.2
                  ∙ ap (λ (r : Result Plan Refusal). after so_far.models (with_command r (all_commands others))) is.1
                  ∙ after_more so_far.models is.0 (all_commands others),
            );
      }

  -- the next command is refused
  pub refused_next : (refusal : Refusal)
      → IsMember P command (Err refusal) ⊎ (◌≡◌ {A = Result plan.Plan Refusal} (Err refusal) (Err Memory))
      → AreRead P all (Err refusal) ⊎ (refusal ≡ Memory)
  refused_next refusal (inr no_memory) = inr cc
  refused_next refusal (inl (asked, one, e)) =
      let is = same_refusal One refusal (command_in asked) e in
      let rest = some_each P left in
      let found =
      so_far.onward (command_in asked ∷ rest.0)
      (subst (λ (c : List (List ℕ)). AsksEach P c (command_in asked ∷ rest.0)) (sym first) (asked, rest.0, one, rest.1, refl)) in
      inl (
        found.0,
        found.1,
        sym (ap (map_ok (map One)) (found.2
            ∙ ap (λ (r : Result Plan Refusal). after so_far.models (with_command r (all_commands rest.0))) is)),
      )

-- The call of a batch.

tested : (P : Program) (bytes : List ℕ) (results : List (Result Plan Refusal)) (t : Bool) → AsksEach P (commands_of bytes) results
    → are_commands P bytes ≡ t
    → batch_of results ≡ cond (not t) (Err BadLine) (map_ok (λ plans. Give (Batch plans)) (all_commands results))
tested P bytes results t each e =
    ap (λ (s : Bool). cond s (Err BadLine) (map_ok (λ plans. Give (Batch plans)) (all_commands results)))
    (batch_test P bytes results each ∙ ap not e)

-- the commands do not have their shape
pub no_batch : (P : Program) (bytes : List ℕ) → are_commands P bytes ≡ false → AsksBatch P bytes (Err BadLine)
no_batch P bytes e =
    let each = some_each P (commands_of bytes) in
    (each.0, each.1, sym (tested P bytes each.0 false each.1 e))

once : (models : List Plan) → flat_map plans_of (map One models) ≡ models
once [] = refl
once (m ∷ models) = ap (λ (rest : List Plan). m ∷ rest) (once models)

module _ (P : Program) (bytes : List ℕ) (few : are_commands P bytes ≡ true) where
  pub batch_refused : (refusal : Refusal) → AreRead P (commands_of bytes) (Err refusal) → AsksBatch P bytes (Err refusal)
  batch_refused refusal (results, each, e) = (
    results,
    each,
    sym (tested P bytes results true each few
        ∙ ap (map_ok (λ plans. Give (Batch plans))) (same_refusal (map One) refusal (all_commands results) e)),
  )

  pub batch_made : (made : List plan.Plan) → AreRead P (commands_of bytes) (Ok made)
      → AsksBatch P bytes (Ok (Give (Batch (flat_map plans_of (map order_of made)))))
  batch_made made (results, each, e) =
      let is = same_accepted (map One) (map order_of made) (all_commands results) e in (
        results,
        each,
        ap (λ (models : List Plan). Ok (Give (Batch models))) (ap (flat_map plans_of) is.2 ∙ once is.0)
            ∙ sym (tested P bytes results true each few ∙ ap (map_ok (λ plans. Give (Batch plans))) is.1),
      )

  each_alone : (made : List plan.Plan) (models : List Plan) → map order_of made ≡ map One models
      → AllByRecursion (λ p. ¬ IsBatch (order_of p)) made
  each_alone [] models e = tt
  each_alone (p ∷ made) [] e = cc
  each_alone (p ∷ made) (m ∷ models) e =
      let first : order_of p ≡ One m = cc in
      let others : map order_of made ≡ map One models = cc in
      (λ batch. subst IsBatch first batch, each_alone made models others)

  with_as_many : (r : Result Plan Refusal) (others : Result (List Plan) Refusal) (models : List Plan) (n : ℕ)
      → ((rest : List Plan) → others ≡ Ok rest → length rest ≡ n) → with_command r others ≡ Ok models → length models ≡ suc n
  with_as_many (Err refusal) others models n size e = cc
  with_as_many (Ok m) (Err refusal) models n size e = cc
  with_as_many (Ok m) (Ok rest) models n size e =
      let is : m ∷ rest ≡ models = cc in omega (arith, ap length (sym is), size rest refl)

  accepted_as_many : (results : List (Result Plan Refusal)) (models : List Plan) → all_commands results ≡ Ok models
      → length models ≡ length results
  accepted_as_many [] models e = let is : [] ≡ models = cc in ap length (sym is)
  accepted_as_many (r ∷ results) models e = with_as_many r (all_commands results) models (length results) (accepted_as_many results) e

  first_word_some : (b : ℕ) (commands : List (List ℕ)) → 1 ≤ length (before_first_word b commands)
  first_word_some b [] = omega arith
  first_word_some b (c ∷ commands) = omega arith

  some_of_two : (t : Bool) (x y : List (List ℕ)) → 1 ≤ length x → 1 ≤ length y → 1 ≤ length (cond t x y)
  some_of_two true x y a b = a
  some_of_two false x y a b = b

  some_command : (grouped : Bool) (spot : Spot) (rest : List ℕ) → 1 ≤ length (commands_from grouped spot rest)
  some_command grouped spot [] = omega arith
  some_command grouped spot (b ∷ rest) =
      some_of_two (is_separator spot b rest) _ _ (omega arith)
      (first_word_some b (commands_from grouped (spot_after grouped spot b) rest))

  fits_batch : (t : Bool) → nat_le (length (commands_of bytes)) BATCH ≡ t → (list_all (has_shape P) (commands_of bytes) && t) ≡ true
      → length (commands_of bytes) ≤ BATCH
  fits_batch true e test = grind (arith, nat_tests)
  fits_batch false e test = absurd (no_both (list_all (has_shape P) (commands_of bytes)) test)
    where
      no_both : (x : Bool) → (x && false) ≡ true → ⊥
      no_both true e = cc
      no_both false e = cc

  pub may_be_batch : (made : List plan.Plan) → AreRead P (commands_of bytes) (Ok made) → MayBeBatch made
  may_be_batch made (results, each, e) =
      let is = same_accepted (map One) (map order_of made) (all_commands results) e in
      let size : length made ≡ length (commands_of bytes) =
      as_long made is.0 is.2 ∙ accepted_as_many results is.0 is.1 ∙ as_many P (commands_of bytes) results each in
      let some = some_command (sets_break bytes) Between bytes in
      let most = fits_batch _ refl few in
      (omega (arith, size, some), omega (arith, size, most), each_alone made is.0 is.2)
    where
      as_long : (made : List plan.Plan) (models : List Plan) → map order_of made ≡ map One models → length made ≡ length models
      as_long [] [] e = refl
      as_long [] (m ∷ models) e = cc
      as_long (p ∷ made) [] e = cc
      as_long (p ∷ made) (m ∷ models) e = let others : map order_of made ≡ map One models = cc in ap suc (as_long made models others)

-- The bytes after the first command.
pub first_of : {X : Type 0} (whole : List (List ℕ)) (command : List ℕ) (found : Option X) (Less : X → Type 0)
    (left : X → List (List ℕ)) → MatchOption found (whole ≡ command ∷ []) (λ x. Less x × (whole ≡ command ∷ left x))
    → (others : List (List ℕ)) × (whole ≡ command ∷ others)
first_of whole command None Less left e = ([], e)
first_of whole command (Some x) Less left e = (left x, e.1)
