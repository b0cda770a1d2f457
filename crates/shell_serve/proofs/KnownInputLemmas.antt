-- The output, for each possible input, if the reader's bytes are known.
use Rattle.std.proofs.Common.{◌≡◌, ℕ, Bool, List, [], ◌++◌, Option, Some, None, sym, ap, ◌∙◌, subst}
use Rattle.std.specs.Prelude.{IfSome, IfOk, IfErr, Result, Ok, Err}
use Rattle.shell_io.specs.Seen.{Seen}
use Rattle.shell_print.specs.declared.outcome.ServeFault.{ServeFault}
use Rattle.shell_print.specs.declared.outcome.ServeFault.TheVariants.{Write}
use Rattle.shell_serve.specs.Spans.{MayBe, ReadsOn}
use Rattle.shell_print.specs.Writing.{Writes}
use Rattle.shell_serve.specs.Written.{WritesSome, WritesPrefix}

-- the result of a run, and its output
abbrev pub Ending : Type 0 → Type 1
Ending A = A → List ℕ → Type 0

-- a text of this form was written if the run succeeded
abbrev pub Done : {A : Type 0} → Ending A → Result A ServeFault → Seen → Seen → Type 0
Done Form r old out = IfOk r (λ served. WritesSome old out (Form served))

-- a prefix of one was written if the writer failed
abbrev pub Cut : {A : Type 0} → Ending A → Result A ServeFault → Seen → Seen → Type 0
Cut {A} Form r old out = IfErr r (λ fault. fault ≡ Write → (served : A) × WritesPrefix old out (Form served))

-- the same for the reader's bytes, if they are known
abbrev pub DoneKnown : {A : Type 0} → (List ℕ → Ending A) → Option (List ℕ) → Result A ServeFault → Seen → Seen → Type 0
DoneKnown Form known r old out = IfOk r (λ served. IfSome known (λ input. WritesSome old out (Form input served)))

abbrev pub CutKnown : {A : Type 0} → (List ℕ → Ending A) → Option (List ℕ) → Result A ServeFault → Seen → Seen → Type 0
CutKnown {A} Form known r old out =
    IfErr r (λ fault. fault ≡ Write → IfSome known (λ input. (served : A) × WritesPrefix old out (Form input served)))

-- one line was written
module _ {A : Type 0} (Form : Ending A) (text : List ℕ) (end : A) (form : Form end text) where
  pub line_done : (r : Result A ServeFault) (old out : Seen) → Writes old out r text → IfOk r (λ served. served ≡ end)
      → Done Form r old out
  line_done (Err fault) old out wrote same = tt
  line_done (Ok served) old out wrote same = (text, subst (λ (s : A). Form s text) (sym same) form, wrote.whole)

  pub line_cut : (r : Result A ServeFault) (old out : Seen) → Writes old out r text → Cut Form r old out
  line_cut (Ok served) old out wrote = tt
  line_cut (Err fault) old out wrote = λ is_write. (end, (text, form, wrote.part))

-- what holds for each possible input holds for the input
module _ {A : Type 0} (bytes : List ℕ) (ended : Bool) (Form : List ℕ → Ending A) where
  pub done_known : (known : Option (List ℕ)) (r : Result A ServeFault) (old out : Seen) → IfSome known (MayBe bytes ended)
      → ((input : List ℕ) → MayBe bytes ended input → Done (Form input) r old out) → DoneKnown Form known r old out
  done_known known (Err fault) old out may wrote = tt
  done_known None (Ok served) old out may wrote = tt
  done_known (Some input) (Ok served) old out may wrote = wrote input may

  pub cut_known : (known : Option (List ℕ)) (r : Result A ServeFault) (old out : Seen) → IfSome known (MayBe bytes ended)
      → ((input : List ℕ) → MayBe bytes ended input → Cut (Form input) r old out) → CutKnown Form known r old out
  cut_known known (Ok served) old out may wrote = tt
  cut_known None (Err fault) old out may wrote = λ is_write. tt
  cut_known (Some input) (Err fault) old out may wrote = wrote input may

-- one form implies another
module _ {A : Type 0} (Form Other : Ending A) (leads : (served : A) (out : List ℕ) → Form served out → Other served out) where
  pub done_leads : (r : Result A ServeFault) (old out : Seen) → Done Form r old out → Done Other r old out
  done_leads (Err fault) old out wrote = tt
  done_leads (Ok served) old out wrote = (wrote.0, leads served wrote.0 wrote.1, wrote.2)

  pub cut_leads : (r : Result A ServeFault) (old out : Seen) → Cut Form r old out → Cut Other r old out
  cut_leads (Ok served) old out wrote = tt
  cut_leads (Err fault) old out wrote = λ is_write.
      let reported = wrote is_write in (reported.0, (reported.1.0, leads reported.0 reported.1.0 reported.1.1, reported.1.2))

-- one line was written, or a text of another form; both imply this form for each possible input
module _ {A : Type 0} (bytes : List ℕ) (ended : Bool) (Form : List ℕ → Ending A) where
  module _ (text : List ℕ) (end : A) (form : (input : List ℕ) → MayBe bytes ended input → Form input end text) where
    pub reported_done : (known : Option (List ℕ)) (r : Result A ServeFault) (old out : Seen) → IfSome known (MayBe bytes ended)
        → Writes old out r text → IfOk r (λ served. served ≡ end) → DoneKnown Form known r old out
    reported_done known r old out may wrote same =
        done_known bytes ended Form known r old out may (λ input m. line_done (Form input) text end (form input m) r old out wrote same)

    pub reported_cut : (known : Option (List ℕ)) (r : Result A ServeFault) (old out : Seen) → IfSome known (MayBe bytes ended)
        → Writes old out r text → CutKnown Form known r old out
    reported_cut known r old out may wrote =
        cut_known bytes ended Form known r old out may (λ input m. line_cut (Form input) text end (form input m) r old out wrote)

  module _ (Reported : Ending A)
      (leads : (input : List ℕ) → MayBe bytes ended input → (served : A) (out : List ℕ) → Reported served out → Form input served out)
    where
      pub leads_done : (known : Option (List ℕ)) (r : Result A ServeFault) (old out : Seen)
          → IfSome known (MayBe bytes ended) → Done Reported r old out → DoneKnown Form known r old out
      leads_done known r old out may wrote =
          done_known bytes ended Form known r old out may (λ input m. done_leads Reported (Form input) (leads input m) r old out wrote)

      pub leads_cut : (known : Option (List ℕ)) (r : Result A ServeFault) (old out : Seen)
          → IfSome known (MayBe bytes ended) → Cut Reported r old out → CutKnown Form known r old out
      leads_cut known r old out may wrote =
          cut_known bytes ended Form known r old out may (λ input m. cut_leads Reported (Form input) (leads input m) r old out wrote)

-- the reader's bytes are those that were read followed by those that are left
pub whole_is : (first bytes xs ys : List ℕ) → first ≡ [] → bytes ++ ys ≡ first ++ xs → xs ≡ bytes ++ ys
whole_is first bytes xs ys empty keeps = sym (keeps ∙ ap (λ (t : List ℕ). t ++ xs) empty)

-- and they are a possible input
pub known_may : {first : List ℕ} {was : Bool} {known : Option (List ℕ)} {bytes : List ℕ} {ended : Bool} {left : Option (List ℕ)}
    → first ≡ []
    → ReadsOn first was known bytes ended left → IfSome known (MayBe bytes ended)
known_may {known = None} empty reads = tt
known_may {known = Some xs} {left = None} empty reads = absurd reads.keeps
known_may {first = first} {known = Some xs} {bytes = bytes} {left = Some ys} empty reads =
    (ys, whole_is first bytes xs ys empty reads.keeps, reads.ends)
