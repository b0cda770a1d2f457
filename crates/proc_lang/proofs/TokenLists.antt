-- The tokens at the beginning of a text, one more at a time.
use Rattle.std.proofs.Common.{◌≡◌, ℕ, ◌+◌, ◌≤◌, Bool, true, List, [], ◌∷◌, ◌++◌, length, map, refl, sym, ap, ◌∙◌, subst, arith}
use Rattle.std.proofs.Common.{append_assoc, append-nil}
use Rattle.std.specs.List.{list_all, AllByRecursion}
use Rattle.std.proofs.lemmas.List.{length-append}
use Rattle.dbg_base.specs.declared.limits.TheConstants.{OPEN_PARENTHESES, INPUT_BYTES}
use Rattle.dbg_base.specs.Tokens.{Placed, is_space, BeginsWith, IsWithinLimits, StaysShallow, HasTokens, IsTokenFault, FaultsBefore}
use Rattle.dbg_base.specs.Tokens.{open_after, still_open}
use Rattle.dbg_base.specs.declared.fault.ProgFault.{ProgFault}
use Rattle.std.proofs.lemmas.List.{map-append}
use Rattle.proc_lang.specs.declared.token.Placed as code
use Rattle.proc_lang.specs.Scanning.{placed_of, TakesToken, MeetsFault}
use Rattle.proc_lang.proofs.PassingPrefixLemmas.{both_true, and_first, and_second}

all_append : (p : ℕ → Bool) (xs ys : List ℕ) → list_all p xs ≡ true → list_all p ys ≡ true → list_all p (xs ++ ys) ≡ true
all_append p [] ys all_xs all_ys = all_ys
all_append p (x ∷ xs) ys all_xs all_ys =
    both_true (p x) (list_all p (xs ++ ys)) (and_first (p x) (list_all p xs) all_xs)
    (all_append p xs ys (and_second (p x) (list_all p xs) all_xs) all_ys)

-- spaces after the tokens may be added
pub begins_with_gap : (tokens : List Placed) (at : ℕ) (text : List ℕ) (end : ℕ) (left gap rest : List ℕ)
    → BeginsWith at text tokens end left
    → list_all is_space gap ≡ true → left ≡ gap ++ rest → BeginsWith at text tokens (end + length gap) rest
begins_with_gap [] at text end left gap rest begins spaces whole = (
  begins.0 ++ gap,
  all_append is_space begins.0 gap begins.1 spaces,
  begins.2 ∙ ap (λ l. begins.0 ++ l) whole ∙ sym (append_assoc begins.0 gap rest),
  omega (arith, begins.3, length-append begins.0 gap),
)
begins_with_gap (p ∷ tokens) at text end left gap rest begins spaces whole = (
  begins.0,
  begins.1,
  begins.2,
  begins.3,
  begins.4,
  begins.5,
  begins.6,
  begins.7,
  begins_with_gap tokens (p.at + length begins.1) begins.2 end left gap rest begins.8 spaces whole,
)

regroup : (a b c d : List ℕ) → a ++ (b ++ c ++ d) ≡ (a ++ b) ++ c ++ d
regroup a b c d = simp append_assoc

-- one more token
pub begins_with_more : (tokens : List Placed) (at : ℕ) (text : List ℕ) (end depth : ℕ) (left : List ℕ) (p : Placed) (rest : List ℕ)
    (stop beyond : ℕ)
    → BeginsWith at text tokens end left → TakesToken left end depth p rest stop beyond → BeginsWith at text (tokens ++ p ∷ []) stop rest
begins_with_more [] at text end depth left p rest stop beyond begins step = (
  begins.0 ++ step.gap,
  step.piece,
  rest,
  all_append is_space begins.0 step.gap begins.1 step.spaces,
  begins.2 ∙ ap (λ l. begins.0 ++ l) step.whole ∙ regroup begins.0 step.gap step.piece rest,
  omega (arith, begins.3, step.place, length-append begins.0 step.gap),
  step.spelled,
  step.longest,
  ([], refl, refl, omega (arith, step.passed)),
)
begins_with_more (q ∷ tokens) at text end depth left p rest stop beyond begins step = (
  begins.0,
  begins.1,
  begins.2,
  begins.3,
  begins.4,
  begins.5,
  begins.6,
  begins.7,
  begins_with_more tokens (q.at + length begins.1) begins.2 end depth left p rest stop beyond begins.8 step,
)

pub all_within_more : (tokens : List Placed) (p : Placed) → AllByRecursion (λ q. IsWithinLimits q.token) tokens → IsWithinLimits p.token
    → AllByRecursion (λ q. IsWithinLimits q.token) (tokens ++ p ∷ [])
all_within_more [] p all one = (one, tt)
all_within_more (q ∷ tokens) p all one = (all.0, all_within_more tokens p all.1 one)

pub open_after_more : (depth : ℕ) (tokens : List Placed) (p : Placed)
    → open_after depth (tokens ++ p ∷ []) ≡ still_open (open_after depth tokens) p.token
open_after_more depth [] p = refl
open_after_more depth (q ∷ tokens) p = open_after_more (still_open depth q.token) tokens p

pub shallow_more : (depth : ℕ) (tokens : List Placed) (p : Placed) → StaysShallow depth tokens
    → still_open (open_after depth tokens) p.token ≤ OPEN_PARENTHESES
    → StaysShallow depth (tokens ++ p ∷ [])
shallow_more depth [] p all one = (one, tt)
shallow_more depth (q ∷ tokens) p all one = (all.0, shallow_more (still_open depth q.token) tokens p all.1 one)

-- the position of the lexer: after these tokens of the text
pub record IsAfter (text : List ℕ) (tokens : List Placed) (at depth : ℕ) (rest : List ℕ) : Type 0 where
  pub begins : BeginsWith 0 text tokens at rest
  pub within : AllByRecursion (λ q. IsWithinLimits q.token) tokens
  pub shallow : StaysShallow 0 tokens
  pub counted : depth ≡ open_after 0 tokens

pub after_more : (text : List ℕ) (tokens : List Placed) (at depth : ℕ) (left : List ℕ) (p : Placed) (rest : List ℕ) (stop beyond : ℕ)
    → IsAfter text tokens at depth left → TakesToken left at depth p rest stop beyond → IsAfter text (tokens ++ p ∷ []) stop beyond rest
after_more text tokens at depth left p rest stop beyond is step =
    let count : still_open (open_after 0 tokens) p.token ≡ beyond = ap (λ d. still_open d p.token) (sym is.counted) ∙ sym step.counted in
    record {
      begins = begins_with_more tokens 0 text at depth left p rest stop beyond is.begins step;
      within = all_within_more tokens p is.within step.within;
      shallow = shallow_more 0 tokens p is.shallow (omega (arith, count, step.shallow));
      counted = sym (open_after_more 0 tokens p ∙ count);
    }

-- the text ends after the tokens and the spaces that follow
begins_length : (tokens : List Placed) (at : ℕ) (text : List ℕ) (end : ℕ) → BeginsWith at text tokens end [] → end ≡ at + length text
begins_length [] at text end begins = omega (arith, begins.3, ap length (begins.2 ∙ append-nil begins.0))
begins_length (p ∷ tokens) at text end begins =
    let rest = begins_length tokens (p.at + length begins.1) begins.2 end begins.8 in
    omega (
      arith,
      rest,
      begins.5,
      ap length begins.4,
      length-append begins.0 (begins.1 ++ begins.2),
      length-append begins.1 begins.2,
      ap length (append_assoc begins.0 begins.1 begins.2),
    )

pub has_tokens : (text : List ℕ) (tokens : List Placed) (at depth : ℕ) (rest : List ℕ) → length text ≤ INPUT_BYTES
    → IsAfter text tokens at depth rest
    → list_all is_space rest ≡ true → HasTokens text tokens
has_tokens text tokens at depth rest few is spaces =
    let begins = begins_with_gap tokens 0 text at rest rest [] is.begins spaces (sym (append-nil rest)) in
    let end_is : at + length rest ≡ length text = omega (arith, begins_length tokens 0 text (at + length rest) begins) in
    (few, subst (λ end. BeginsWith 0 text tokens end []) end_is begins, (is.within, is.shallow))

pub has_fault : (text : List ℕ) (tokens : List Placed) (at depth : ℕ) (rest : List ℕ) (fault : ProgFault)
    → IsAfter text tokens at depth rest → MeetsFault rest at depth fault
    → IsTokenFault text fault
has_fault text tokens at depth rest fault is met =
    let begins = begins_with_gap tokens 0 text at rest met.gap met.rest is.begins met.spaces met.whole in (
      tokens,
      met.rest,
      subst (λ end. BeginsWith 0 text tokens end met.rest) (sym met.place) begins,
      (is.within, is.shallow),
      subst (λ d. FaultsBefore fault.kind d met.rest) is.counted met.faults,
    )

-- the code's list with one more token
pub after_pushed : (text : List ℕ) (old new : List code.Placed) (at depth : ℕ) (left : List ℕ) (p : code.Placed) (rest : List ℕ)
    (stop beyond : ℕ) → new ≡ old ++ p ∷ []
    → IsAfter text (map placed_of old) at depth left → TakesToken left at depth (placed_of p) rest stop beyond
    → IsAfter text (map placed_of new) stop beyond rest
after_pushed text old new at depth left p rest stop beyond pushed is step =
    let mapped : map placed_of new ≡ map placed_of old ++ placed_of p ∷ [] =
    ap (map placed_of) pushed ∙ map-append placed_of old (p ∷ []) in
    subst (λ (tokens : List Placed). IsAfter text tokens stop beyond rest) (sym mapped)
    (after_more text (map placed_of old) at depth left (placed_of p) rest stop beyond is step)
