-- The lines that an input gave.
use Rattle.std.proofs.Common.{◌≡◌, ◌≤◌, ℕ, Bool, List, [], ◌∷◌, ◌++◌, Option, Some, None, refl, sym, ap, ◌∙◌, subst, arith}
use Rattle.std.specs.Prelude.{◌<◌, map, slice_range, length, nat_le, IfOk, OnErr, Result, Ok, Err}
use Rattle.dbg_base.specs.declared.limits.TheConstants.{INPUT_BYTES}
use Rattle.shell_print.specs.declared.outcome.ServeFault.{ServeFault}
use Rattle.shell_serve.specs.declared.framing.Span.{Span}
use Rattle.shell_serve.specs.declared.framing.Next.{Next}
use Rattle.shell_serve.specs.declared.framing.Next.TheVariants.{Line, End, TooLong}
use Rattle.shell_serve.specs.declared.framing.Input.{Input}
use Rattle.shell_serve.specs.Spans.{lines_from, MayBe, EndsWith, ReadsOn, AdvancesAt, Tells, TellsAny, IsUnderWay}
use Rattle.std.proofs.lemmas.List.{append-nil}
use Rattle.shell_serve.proofs.ReadStepLemmas.{reads_nothing, reads_then}
use Rattle.shell_serve.specs.Sources.{Given, Advances, GivesAll}
use Rattle.shell_serve.specs.InputSteps.{InputGives, InputStops, InputHolds, input_left}

-- These lines were given, which are the first that were left of each input that is possible now.
pub record Gave {R : Type 0} (remaining : R → Option (List ℕ)) (s : Input) (r : R) (given : List Given) (t : Input) (u : R) : Type 0 where
  pub lines : List (List ℕ)
  pub is : given ≡ map Some lines
  pub reads : ReadsOn s.bytes.items s.ended (remaining r) t.bytes.items t.ended (remaining u)
  pub begun : s.at ≤ t.at
  pub left : (input : List ℕ) → MayBe t.bytes.items t.ended input → lines_from s.at input ≡ lines ++ lines_from t.at input

module _ {R : Type 0} (remaining : R → Option (List ℕ)) where
  none_gave : (s : Input) (r : R) → EndsWith s.ended (remaining r) → Gave remaining s r [] s r
  none_gave s r ends = record {
    lines = [];
    is = refl;
    reads = reads_nothing ends;
    begun = omega arith;
    left = λ input may. refl;
  }

  pub all_gave : (given : List Given) (s : Input) (r : R) (t : Input) (u : R) → EndsWith s.ended (remaining r)
      → GivesAll (InputGives remaining) s r given t u → Gave remaining s r given t u
  all_gave [] s r t u ends gives =
      subst (λ (v : R). Gave remaining s r [] t v) (sym gives.1)
      (subst (λ (i : Input). Gave remaining s r [] i r) (sym gives.0) (none_gave s r ends))
  all_gave (line ∷ given) s r t u ends gives =
      let first : InputGives remaining s r line gives.0 gives.1 = gives.2 in
      let others = all_gave given gives.0 gives.1 t u first.reads.ends gives.3 in
      let one : s.at ≤ gives.0.at = first.begun in
      let more : gives.0.at ≤ t.at = others.begun in
      record {
        lines = first.line ∷ others.lines;
        is = ap (λ (g : Given). g ∷ given) first.is ∙ ap (λ (gs : List Given). Some first.line ∷ gs) others.is;
        reads = reads_then first.reads others.reads;
        begun = omega arith;
        left = λ input may.
            first.first input (others.reads.narrows input may)
            ∙ ap (λ (ls : List (List ℕ)). first.line ∷ ls) (others.left input may);
      }

-- a step of an input
pub input_advances : {R : Type 0} (remaining : R → Option (List ℕ)) (s : Input) (r : R) (result : Result Next ServeFault) (t : Input) (u : R)
    → ReadsOn s.bytes.items s.ended (remaining r) t.bytes.items t.ended (remaining u) → IfOk result (AdvancesAt s.at t.at)
    → IfOk result (TellsAny t.bytes.items t.ended s.at t.at) → OnErr result (IsUnderWay t.bytes.items t.ended s.at) → t.at ≤ INPUT_BYTES
    → Advances (InputGives remaining) (InputStops remaining) InputHolds input_left s r result t u
input_advances remaining s r (Ok (Line span)) t u reads on tells way few =
    let here : Tells t.bytes.items t.bytes.items s.at t.at (Line span) = tells t.bytes.items ([], sym (append-nil t.bytes.items), λ is. refl) in
    let further : s.at < t.at = on in (
      Some (slice_range t.bytes.items span.from span.to),
      record {
        line = slice_range t.bytes.items span.from span.to;
        is = refl;
        reads = reads;
        begun = omega (arith, further);
        first = λ input may. (tells input may).0;
      },
      (refl, here.2, here.3),
      omega (arith, further, few),
    )
input_advances remaining s r (Ok End) t u reads on tells way few = record { reads = reads; why = tells }
input_advances remaining s r (Ok TooLong) t u reads on tells way few = record { reads = reads; why = tells }
input_advances remaining s r (Err fault) t u reads on tells way few = record { reads = reads; why = way }
