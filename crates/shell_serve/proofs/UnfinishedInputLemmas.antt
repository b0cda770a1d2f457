-- An input that continues without a line end until it is too long. Its lines are the whole lines of the bytes that were read. So what holds
-- for each possible input holds for these lines.
use Rattle.std.proofs.Common.{◌≡◌, ℕ, suc, ◌+◌, ◌-◌, ◌<◌, ◌≤◌, Bool, true, false, eqb, cond, List, [], ◌∷◌, ◌++◌, length, take, drop}
use Rattle.std.proofs.Common.{replicate, refl, sym, ap, ◌∙◌, arith}
use Rattle.std.specs.Prelude.{nat_lt, IfErr, OnErr, Result, Ok, Err}
use Rattle.std.proofs.lemmas.Bool.Decides.{nat_tests}
use Rattle.std.proofs.lemmas.List.{drop-append-le, length-append, length-drop, length-replicate, take-append-drop}
use Rattle.std.proofs.lemmas.List.Folds.{list_all-append}
use Rattle.std.proofs.Math.Seq.{take-append-add}
use Rattle.dbg_base.specs.declared.limits.TheConstants.{INPUT_BYTES}
use Rattle.dbg_base.specs.Shell.{Lines, lines_of, byte_before, lines_within}
use Rattle.shell_print.specs.declared.outcome.ServeFault.{ServeFault}
use Rattle.shell_print.specs.declared.outcome.ServeFault.TheVariants.{Read, Write}
use Rattle.shell_serve.specs.Spans.{is_inside, is_unended, lines_from, MayBe, IsUnderWay}
use Rattle.shell_serve.proofs.LineEnds.{no_line_of}
use Rattle.proc_lang.proofs.PassingPrefixLemmas.{and_first}

-- the whole lines with one more byte before them
abbrev whole_by : Bool → ℕ → List (List ℕ) → List (List ℕ)
whole_by true b whole = [] ∷ whole
whole_by false b [] = []
whole_by false b (line ∷ whole) = (b ∷ line) ∷ whole

whole_before : (b : ℕ) (whole : List (List ℕ)) (rest : List ℕ) → (byte_before b whole rest).whole ≡ whole_by false b whole
whole_before b [] rest = refl
whole_before b (line ∷ whole) rest = refl

whole_where : (t : Bool) (b : ℕ) (lines : Lines)
    → (cond t (record { whole = [] ∷ lines.whole; rest = lines.rest }) (byte_before b lines.whole lines.rest)).whole ≡ whole_by t b
    lines.whole
whole_where true b lines = refl
whole_where false b lines = whole_before b lines.whole lines.rest

-- bytes without a line end add no whole line
adds_none : (bytes more : List ℕ) → is_unended more ≡ true → (lines_of (bytes ++ more)).whole ≡ (lines_of bytes).whole
adds_none [] more h = ap (λ (lines : Lines). lines.whole) (no_line_of more h)
adds_none (b ∷ bytes) more h =
    whole_where (eqb b 10) b (lines_of (bytes ++ more)) ∙ ap (whole_by (eqb b 10) b) (adds_none bytes more h)
    ∙ sym (whole_where (eqb b 10) b (lines_of bytes))

zeros_unended : (n : ℕ) → is_unended (replicate n 0) ≡ true
zeros_unended ℕ.zero = refl
zeros_unended (suc n) = zeros_unended n

-- more bytes than any number, without a line end
padding : (n : ℕ) → (more : List ℕ) × (is_unended more ≡ true) × (n < length more)
padding n =
    let zeros : List ℕ = replicate (suc n) 0 in
    let long : length zeros ≡ suc n = length-replicate (suc n) 0 in
    (zeros, zeros_unended (suc n), omega (arith, long))

prefix_unended : (n : ℕ) (bytes : List ℕ) → is_unended bytes ≡ true → is_unended (take n bytes) ≡ true
prefix_unended n bytes h =
    and_first (is_unended (take n bytes)) (is_unended (drop n bytes))
    (sym (list_all-append is_inside (take n bytes) (drop n bytes)) ∙ ap is_unended (take-append-drop n bytes) ∙ h)

within_whole : (bytes more : List ℕ) (limit : ℕ) → length bytes ≤ limit → limit < length (bytes ++ more) → is_unended more ≡ true
    → lines_within limit (bytes ++ more) ≡ (lines_of bytes).whole
within_whole bytes more limit le long h =
    let test : nat_lt limit (length (bytes ++ more)) ≡ true = grind (arith, nat_tests) in
    let n : ℕ = limit - length bytes in
    let all : limit ≡ length bytes + n = omega arith in
    rw test (ap (λ (k : ℕ). (lines_of (take k (bytes ++ more))).whole) all
    ∙ ap (λ (t : List ℕ). (lines_of t).whole) (take-append-add bytes more n)
    ∙ adds_none bytes (take n more) (prefix_unended n more h))

-- a possible input whose lines are the whole lines of these bytes, from each position in them on
pub record GoesOn (bytes : List ℕ) (ended : Bool) : Type 0 where
  pub input : List ℕ
  pub may : MayBe bytes ended input
  pub whole : (from : ℕ) → from ≤ length bytes → lines_from from input ≡ (lines_of (drop from bytes)).whole

padded : (bytes more : List ℕ) (ended : Bool) (at : ℕ) → IsUnderWay bytes ended at → is_unended more ≡ true → INPUT_BYTES < length more
    → GoesOn bytes ended
padded bytes more ended at way none long =
    let few : length bytes ≤ INPUT_BYTES = way.within in
    record {
      input = bytes ++ more;
      may = (more, refl, λ over. let bad : false ≡ true = sym way.unfinished ∙ over in absurd cc);
      whole = λ from le.
          let there : drop from (bytes ++ more) ≡ drop from bytes ++ more = drop-append-le from bytes more le in
          let left : length (drop from bytes) ≡ length bytes - from = length-drop from bytes in
          let sum : length (drop from bytes ++ more) ≡ length (drop from bytes) + length more = length-append (drop from bytes) more in
          ap (lines_within (INPUT_BYTES - from)) there
          ∙ within_whole (drop from bytes) more (INPUT_BYTES - from) (omega arith) (omega arith) none;
    }

pub goes_on : (bytes : List ℕ) (ended : Bool) (at : ℕ) → IsUnderWay bytes ended at → GoesOn bytes ended
goes_on bytes ended at way =
    let more = padding INPUT_BYTES in
    padded bytes more.0 ended at way more.1 more.2

-- and none of these is left from the position on at which the next line begins
pub none_left : (bytes : List ℕ) (ended : Bool) (at : ℕ) (way : IsUnderWay bytes ended at)
    → lines_from at (goes_on bytes ended at way).input ≡ []
none_left bytes ended at way = (goes_on bytes ended at way).whole at way.begun
    ∙ ap (λ (lines : Lines). lines.whole) (no_line_of (drop at bytes) way.unended)

-- what holds anyway holds after a failed call
pub where_failed : {A E P : Type 0} (r : Result A E) → P → OnErr r P
where_failed (Ok x) p = tt
where_failed (Err e) p = p

-- and after one that failed with this fault
pub where_fault : {A P : Type 0} (r : Result A ServeFault) (kind : ServeFault) → P → IfErr r (λ fault. fault ≡ kind → P)
where_fault (Ok x) kind p = tt
where_fault (Err fault) kind p = λ is. p

-- a fault of the writer is not one of the reader
pub not_read : ¬ (Write ≡ Read)
not_read same = cc

-- a fault of the writer has no other kind
pub where_other : {A : Type 0} (P : Type 0) (r : Result A ServeFault) (kind : ServeFault) → ¬ (Write ≡ kind)
    → IfErr r (λ fault. fault ≡ Write) → IfErr r (λ fault. fault ≡ kind → P)
where_other P (Ok x) kind other is = tt
where_other P (Err fault) kind other is = λ same. absurd (other (sym is ∙ same))
