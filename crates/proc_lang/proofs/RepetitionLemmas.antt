-- Elements that are read one after the other, as long as a test of the first token passes.
use Rattle.std.proofs.Common.{◌≡◌, ℕ, ◌<◌, Bool, true, false, cond, List, [], ◌∷◌, ◌++◌, length, map, Ok, Err, refl, sym, ap}
use Rattle.std.proofs.Common.{◌∙◌, subst, append_assoc, append-nil}
use Rattle.std.proofs.lemmas.List.{map-append}
use Rattle.dbg_base.specs.Tokens.{Token, Placed}
use Rattle.dbg_base.specs.Grammar.{DeriveInTurn}
use Rattle.proc_lang.specs.Parsing.{Read, ◌>>=◌, begins, read_several, many_by, read_many}
use Rattle.proc_lang.specs.Reading.{Gives}
use Rattle.proc_lang.specs.declared.parser.Stop.{Stop}
use Rattle.proc_lang.specs.declared.parser.Stop.TheVariants.{Memory, Unexpected}
use Rattle.proc_lang.proofs.ReaderLemmas.{IsReader, Completes, Anything, Takes, Then, Last, bind_to, bind_agree, ok_is, derives_more, both_reader}
use Rattle.proc_lang.proofs.ReaderLemmas.{last_reader, either_reader, either_first, either_second}
use Rattle.proc_lang.proofs.RecursiveReaderLemmas.{fixed_parts, fixed_reader}

-- one element, and then the others
module _ {A : Type 0} (Derives : List Placed → A → Type 0) (one : List Placed → Read A) (rest : List Placed → Read (List A)) where
  several_derive : (tokens : List Placed) (xs : List A) → Then Derives (λ x. Last (λ others. x ∷ others) (DeriveInTurn Derives)) tokens xs
      → DeriveInTurn Derives tokens xs
  several_derive tokens xs d =
      subst (λ (l : List A). DeriveInTurn Derives tokens l) d.4.2 (d.1, d.2, d.3, d.4.1, d.5)

  pub several_reader : IsReader Derives one → IsReader (DeriveInTurn Derives) rest → IsReader (DeriveInTurn Derives) (read_several one rest)
  unfolding read_several
  several_reader reader others =
      derives_more (Then Derives (λ x. Last (λ others. x ∷ others) (DeriveInTurn Derives))) (DeriveInTurn Derives) (read_several one rest)
      several_derive
      (both_reader Derives (λ x. Last (λ others. x ∷ others) (DeriveInTurn Derives)) one
      (λ x tokens. rest tokens >>= λ others. Ok (x ∷ others.0, others.1)) reader
      (λ x. last_reader (λ others. x ∷ others) (DeriveInTurn Derives) rest others))

  pub several_complete : Completes Derives Anything one
      → (first others beyond : List Placed) (x : A) (xs : List A) → Derives first x → rest (others ++ beyond) ≡ Ok (xs, beyond)
      → read_several one rest ((first ++ others) ++ beyond) ≡ Ok (x ∷ xs, beyond)
  unfolding read_several
  several_complete complete first others beyond x xs d e =
      ap (read_several one rest) (append_assoc first others beyond)
      ∙ bind_to _ _ _ _ (complete first (others ++ beyond) x d tt) (bind_to _ _ _ _ e refl)

module _ {A : Type 0} (Derives : List Placed → A → Type 0) (test : Token → Bool) (one : List Placed → Read A)
    (reader : IsReader Derives one)
    (takes : Takes one) where
  nothing_reader : IsReader (DeriveInTurn Derives) (λ tokens. Ok ([], tokens))
  nothing_reader = record {
    some = ([], [], refl);
    succeeds = λ tokens rest xs e.
        let same = ok_is [] xs tokens rest e in
        record {
          prefix = [];
          derived = subst (λ (l : List A). DeriveInTurn Derives [] l) same.0 refl;
          whole = same.1;
          again = λ other is. ap (λ (l : List A). Ok (l, other)) same.0;
        };
    fails = λ tokens n e. absurd (let bad : ◌≡◌ {A = Read (List A)} (Ok ([], tokens)) (Err n) = e in cc);
  }

  keeps : (rest : List Placed → Read (List A)) → IsReader (DeriveInTurn Derives) rest
      → IsReader (DeriveInTurn Derives) (many_by test one rest)
  keeps rest others =
      either_reader (DeriveInTurn Derives) test (read_several one rest) (λ tokens. Ok ([], tokens))
      (several_reader Derives one rest reader others)
      nothing_reader

  several_agree : (rest other : List Placed → Read (List A)) (tokens : List Placed)
      → ((us : List Placed) → length us < length tokens → rest us ≡ other us) → read_several one rest tokens ≡ read_several one other tokens
  unfolding read_several
  several_agree rest other tokens same =
      bind_agree (one tokens) _ _ (λ x e. ap (λ r. r >>= λ others. Ok (x.0 ∷ others.0, others.1)) (same x.1 (takes tokens x e)))

  agrees : (rest other : List Placed → Read (List A)) → IsReader (DeriveInTurn Derives) rest → (tokens : List Placed)
      → ((us : List Placed) → length us < length tokens → rest us ≡ other us) → many_by test one rest tokens ≡ many_by test one other tokens
  agrees rest other is tokens same = ap (λ z. cond (begins test tokens) z (Ok ([], tokens))) (several_agree rest other tokens same)

  pub many_reader : IsReader (DeriveInTurn Derives) (read_many test one)
  many_reader = fixed_reader (DeriveInTurn Derives) (many_by test one) ([], [], refl) keeps agrees

  many_parts : (tokens : List Placed) → read_many test one tokens ≡ many_by test one (read_many test one) tokens
  many_parts = fixed_parts (DeriveInTurn Derives) (many_by test one) ([], [], refl) keeps agrees

  -- the end of a run of elements, and one more
  pub many_stop : (tokens : List Placed) → begins test tokens ≡ false → read_many test one tokens ≡ Ok ([], tokens)
  many_stop tokens stop =
      many_parts tokens
      ∙ either_second (DeriveInTurn Derives) test (read_several one (read_many test one)) (λ us. Ok ([], us)) tokens _ stop refl

  pub many_go : (tokens : List Placed) → begins test tokens ≡ true
      → read_many test one tokens ≡ read_several one (read_many test one) tokens
  many_go tokens go =
      many_parts tokens
      ∙ either_first (DeriveInTurn Derives) test (read_several one (read_many test one)) (λ us. Ok ([], us)) tokens _ go refl

  -- elements that each begin with a token that passes the test
  pub many_complete : Completes Derives Anything one
      → ((prefix rest : List Placed) (x : A) → Derives prefix x → begins test (prefix ++ rest) ≡ true)
      → Completes (DeriveInTurn Derives) (λ rest. begins test rest ≡ false) (read_many test one)
  many_complete complete first prefix rest [] d stop = ap (λ (l : List Placed). read_many test one (l ++ rest)) d ∙ many_stop rest stop
  many_complete complete first prefix rest (x ∷ xs) d stop =
      let begins_so : begins test ((d.0 ++ d.1) ++ rest) ≡ true =
      ap (begins test) (append_assoc d.0 d.1 rest) ∙ first d.0 (d.1 ++ rest) x d.2 in
      ap (λ (l : List Placed). read_many test one (l ++ rest)) d.4 ∙ many_go ((d.0 ++ d.1) ++ rest) begins_so
      ∙ several_complete Derives one (read_many test one) complete d.0 d.1 rest x xs d.2
      (many_complete complete first d.1 rest xs d.3 stop)

  -- these elements before those that were read
  abbrev pub with_prefix : List A → Read (List A) → Read (List A)
  with_prefix prefix read = read >>= λ found. Ok (prefix ++ found.0, found.1)

  prefix_first : (prefix : List A) (x : A) (read : Read (List A))
      → with_prefix prefix (read >>= λ others. Ok (x ∷ others.0, others.1)) ≡ with_prefix (prefix ++ x ∷ []) read
  prefix_first prefix x (Err n) = refl
  prefix_first prefix x (Ok found) = ap (λ (l : List A). Ok (l, found.1)) (sym (append_assoc prefix (x ∷ []) found.0))

  -- a loop that reads elements: the code's list so far, and the tokens that are left
  abbrev pub IsReading : {X : Type 0} → (X → A) → List X → List Placed → List Placed → Type 0
  IsReading view xs left tokens = with_prefix (map view xs) (read_many test one left) ≡ read_many test one tokens

  pub reading_more : {X : Type 0} (view : X → A) (xs ys : List X) (x : X) (left rest tokens : List Placed) → IsReading view xs left tokens
      → begins test left ≡ true → one left ≡ Ok (view x, rest) → ys ≡ xs ++ x ∷ [] → IsReading view ys rest tokens
  unfolding read_several
  reading_more view xs ys x left rest tokens so_far go found pushed =
      let mapped : map view ys ≡ map view xs ++ view x ∷ [] = ap (map view) pushed ∙ map-append view xs (x ∷ []) in
      let turn : read_many test one left ≡ (read_many test one rest >>= λ others. Ok (view x ∷ others.0, others.1)) =
      many_go left go ∙ ap (λ q. q >>= λ first. (read_many test one first.1 >>= λ others. Ok (first.0 ∷ others.0, others.1))) found in
      ap (λ prefix. with_prefix prefix (read_many test one rest)) mapped ∙ sym (prefix_first (map view xs) (view x) (read_many test one rest))
      ∙ sym (ap (with_prefix (map view xs)) turn) ∙ so_far

  pub reading_fails : {X : Type 0} (view : X → A) (xs : List X) (left tokens : List Placed) (n : ℕ) → IsReading view xs left tokens
      → begins test left ≡ true → one left ≡ Err n → read_many test one tokens ≡ Err n
  unfolding read_several
  reading_fails view xs left tokens n so_far go failed =
      sym so_far ∙ ap (with_prefix (map view xs))
      (many_go left go ∙ ap (λ q. q >>= λ first. (read_many test one first.1 >>= λ others. Ok (first.0 ∷ others.0, others.1))) failed)

  pub reading_ends : {X : Type 0} (view : X → A) (xs : List X) (left tokens : List Placed) → IsReading view xs left tokens
      → begins test left ≡ false → read_many test one tokens ≡ Ok (map view xs, left)
  reading_ends view xs left tokens so_far stop =
      sym so_far ∙ ap (with_prefix (map view xs)) (many_stop left stop) ∙ ap (λ (l : List A). Ok (l, left)) (append-nil (map view xs))

  -- if one element cannot be read, the whole cannot be
  pub reading_stops : {X : Type 0} (view : X → A) (Z : Type 0) (other : Z → List A) (xs : List X) (stop : Stop)
      (left tokens rest beyond : List Placed)
      → IsReading view xs left tokens → begins test left ≡ true → Gives view (Err stop) rest (one left)
      → Gives other (Err stop) beyond (read_many test one tokens)
  reading_stops view Z other xs Memory left tokens rest beyond so_far go given = tt
  reading_stops view Z other xs (Unexpected n) left tokens rest beyond so_far go given = reading_fails view xs left tokens n so_far go given
