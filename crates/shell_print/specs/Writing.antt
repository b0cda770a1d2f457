-- What a call that writes a text does to the sink.
use Rattle.std.specs.Prelude.{◌≡◌, ℕ, List, [], ◌∷◌, ◌++◌, Result, OnOk, OnErr, IfErr}
use Rattle.shell_io.specs.Seen.{Seen, Appended, CutShort}
use Rattle.shell_print.specs.declared.outcome.ServeFault.{ServeFault}
use Rattle.shell_print.specs.declared.outcome.ServeFault.TheVariants.{Write}

-- a prefix of the text was appended, and then the sink failed
abbrev pub AppendsPrefix : Seen → Seen → List ℕ → Type 0
AppendsPrefix old new text = (prefix back : List ℕ) × (text ≡ prefix ++ back) × CutShort old new prefix

-- At `Ok` the whole text was appended, and the sink has not failed. At `Err`, which is `Write`, a prefix of it was appended, and then the
-- sink failed, once: it was not called again.
pub record Writes {A : Type 0} (old new : Seen) (result : Result A ServeFault) (text : List ℕ) : Type 0 where
  pub whole : OnOk result (Appended old new text)
  pub part : OnErr result (AppendsPrefix old new text)
  pub fault : IfErr result (λ fault. fault ≡ Write)

-- these bytes of the text were appended, and the rest is not written yet
pub record Progress (old new : Seen) (text rest : List ℕ) : Type 0 where
  pub done : List ℕ
  pub all : text ≡ done ++ rest
  pub appends : Appended old new done

-- A call that puts words after `kept`, which is composed and not written yet. At `Ok` a prefix of all of this was appended, which may be
-- empty, and `left` is the rest. At `Err`, which is `Write`, a prefix was appended, and then the sink failed, once.
pub record Puts {A : Type 0} (old : Seen) (kept : List ℕ) (new : Seen) (left : List ℕ) (result : Result A ServeFault) (words : List ℕ)
    : Type 0 where
  pub some : OnOk result (Progress old new (kept ++ words) left)
  pub part : OnErr result (AppendsPrefix old new (kept ++ words))
  pub fault : IfErr result (λ fault. fault ≡ Write)

-- the results of f for each item, one after the other
abbrev pub in_a_row : {A B : Type 0} → (A → List B) → List A → List B
in_a_row f [] = []
in_a_row f (x ∷ []) = f x
in_a_row f (x ∷ y ∷ xs) = f x ++ in_a_row f (y ∷ xs)
