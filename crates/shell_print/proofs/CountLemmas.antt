-- The commands of a program, counted process by process.
use Rattle.std.proofs.Common.{◌≡◌, ℕ, suc, ◌+◌, ◌<◌, List, [], ◌∷◌, ◌++◌, length, take, refl, ap, ◌∙◌, arith}
use Rattle.std.proofs.lemmas.List.Sums.{sum_by-append}
use Rattle.dbg_base.specs.Trees.{Program, process_of}
use Rattle.dbg_base.specs.Shell.{size_text}
use Rattle.shell_print.specs.Closings.{command_count, program_size_text}

take_on : (P : Program) (i : ℕ) → i < length P → take (i + 1) P ≡ take i P ++ process_of P i ∷ []
take_on [] i h = absurd (omega arith)
take_on (process ∷ P) ℕ.zero h = refl
take_on (process ∷ P) (suc i) h =
    let longer : suc i + 1 ≡ suc (i + 1) = omega arith in
    ap (λ (n : ℕ). take n (process ∷ P)) longer ∙ ap (λ (others : Program). process ∷ others) (take_on P i (omega arith))

pub count_on : (P : Program) (i : ℕ) → i < length P
    → command_count (take (i + 1) P) ≡ command_count (take i P) + length (process_of P i).commands
count_on P i h =
    let commands : ℕ = length (process_of P i).commands in
    let one : 0 + commands ≡ commands = omega arith in
    ap command_count (take_on P i h) ∙ sum_by-append (λ process. length process.commands) (take i P) (process_of P i ∷ [])
    ∙ ap (λ (n : ℕ). command_count (take i P) + n) one

pub size_of : (P : Program) (processes commands : ℕ) → processes ≡ length P → commands ≡ command_count P
    → size_text processes commands ≡ program_size_text P
size_of P processes commands few count =
    ap (λ (n : ℕ). size_text n commands) few ∙ ap (λ (n : ℕ). size_text (length P) n) count
