-- The program text, for each possible input.
use Rattle.std.proofs.Common.{◌≡◌, ℕ, ◌-◌, ◌≤◌, Bool, true, cond, List, [], ◌++◌, take, drop, Option, Some, None, refl, sym, ap}
use Rattle.std.proofs.Common.{◌∙◌, subst, arith}
use Rattle.std.specs.Prelude.{slice_range, IfSome}
use Rattle.std.proofs.lemmas.List.{append-nil}
use Rattle.dbg_base.specs.declared.limits.TheConstants.{INPUT_BYTES}
use Rattle.dbg_base.specs.Shell.{parts_of, read_lines, lines_within}
use Rattle.shell_serve.specs.declared.framing.TheConstants.{CHUNK}
use Rattle.shell_serve.specs.declared.program_text.TextEnd.{TextEnd}
use Rattle.shell_serve.specs.declared.program_text.TextEnd.TheVariants as ends
use Rattle.shell_serve.specs.Spans.{lines_from, MayBe}
use Rattle.shell_serve.specs.ProgramTexts.{ReadsProgram, Splits, SplitsAny, alone_of, alone_text, IsTextAt}

within_all : (limit : ℕ) (input : List ℕ) → lines_within limit input ≡ lines_within (limit - 0) (drop 0 input)
within_all limit input =
    let none : limit ≡ limit - 0 = omega arith in
    ap (λ (n : ℕ). lines_within n input) none

-- from the first byte on the lines are all lines
pub all_from_start : (input : List ℕ) → parts_of (read_lines input) ≡ parts_of (lines_from 0 input)
all_from_start input = ap parts_of (within_all INPUT_BYTES input)

pub text_from_start : (bytes text : List ℕ) (n : ℕ) → text ≡ take n bytes → text ≡ slice_range bytes 0 n
text_from_start bytes text n e =
    let none : n ≡ n - 0 = omega arith in
    e ∙ ap (λ (k : ℕ). take k bytes) none

-- nothing was read
pub nothing_read : (known : Option (List ℕ)) → IfSome known (λ input. ReadsProgram input known)
nothing_read None = tt
nothing_read (Some xs) = ([], [], xs, refl, refl, (let none : 0 ≤ CHUNK = omega arith in none), refl)

-- a split of the input from the first byte on
module _ (bytes : List ℕ) (ended : Bool) (begin new : ℕ) (end : TextEnd) (begun : begin ≡ 0) (splits : SplitsAny bytes ended begin new end)
  where
    pub split_here : (to : TextEnd) → end ≡ to → (input : List ℕ) → MayBe bytes ended input → Splits input bytes 0 new to
    split_here to is input may =
        subst (λ (n : ℕ). Splits input bytes n new to) begun (subst (λ (e : TextEnd). Splits input bytes begin new e) is (splits input may))

-- the text alone, for each possible input
module _ (bytes : List ℕ) (ended : Bool) (begin new : ℕ) (end : TextEnd) (begun : begin ≡ 0) (splits : SplitsAny bytes ended begin new end)
    (stopped : end ≡ ends.End → ended ≡ true) (text : Option (List ℕ)) (found : IsTextAt bytes end text) where
  alone_here : (input : List ℕ) → MayBe bytes ended input → alone_text input ≡ text
  alone_here input may =
      ap (alone_of input) (all_from_start input)
      ∙ by end (split_here bytes ended begin new end begun splits end refl input may) stopped found
    where
      by : (to : TextEnd) → Splits input bytes 0 new to → (to ≡ ends.End → ended ≡ true) → IsTextAt bytes to text
          → alone_of input (parts_of (lines_from 0 input)) ≡ text
      by (ends.Before span) reported stopped found =
          ap (alone_of input) reported.0 ∙ ap Some (sym (text_from_start bytes (take span.from bytes) span.from refl)) ∙ sym (found reported.1)
      by ends.End reported stopped found =
          let none : may.0 ≡ [] = may.2 (stopped refl) in
          let whole : input ≡ bytes = may.1 ∙ ap (λ (t : List ℕ). bytes ++ t) none ∙ append-nil bytes in
          ap (alone_of input) reported.0 ∙ ap (λ (t : Bool). cond t None (Some input)) reported.1 ∙ ap Some whole ∙ sym found
      by ends.TooLong reported stopped found =
          ap (alone_of input) reported.0 ∙ ap (λ (t : Bool). cond t None (Some input)) reported.1 ∙ sym found

  -- what holds for the text
  pub reported_alone : {A : Type 0} (Reported : Option (List ℕ) → A → List ℕ → Type 0) (known : Option (List ℕ)) → text ≡ known
      → (input : List ℕ) → MayBe bytes ended input → (end : A) (out : List ℕ) → Reported known end out → Reported (alone_text input) end out
  reported_alone {A} Reported known is input may end out reported =
      subst (λ (t : Option (List ℕ)). Reported t end out) (sym (alone_here input may ∙ is)) reported
