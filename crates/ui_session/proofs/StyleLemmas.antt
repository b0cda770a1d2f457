-- Bytes that are written piece by piece, with styles.
use Rattle.std.proofs.Common.{◌≡◌, ℕ, List, [], ◌++◌, Result, Ok, Err, sym, subst, ap, ◌∙◌}
use Rattle.std.specs.Prelude.{IsErrAnd}
use Rattle.std.proofs.lemmas.List.{append-nil}
use Rattle.shell_io.specs.Seen.{Seen, Appended}
use Rattle.shell_io.proofs.AppendLemmas.{appended_then}
use Rattle.shell_print.specs.declared.outcome.ServeFault.{ServeFault}
use Rattle.shell_print.specs.Writing.{Writes, Progress}
use Rattle.shell_print.proofs.WriteLemmas.{writes_then, writes_same, stopped}

-- a piece was written, and then the style was set
pub then_styled : {A B : Type 0} {u : A} {v : B} {a b c : Seen} {piece : List ℕ} → Writes {A = A} a b (Ok u) piece
    → Writes {A = B} b c (Ok v) [] → Appended a c piece
then_styled {a = a} {b = b} {c = c} {piece = piece} h k =
    subst (λ (t : List ℕ). Appended a c t) (append-nil piece) (appended_then a b c piece [] h.whole k.whole)

-- the next piece was not written
pub piece_stopped : {A B : Type 0} {e : ServeFault} {r : Result B ServeFault} {a b c : Seen} {bytes rest : List ℕ} (piece others : List ℕ)
    → Progress a b bytes rest → rest ≡ piece ++ others → Writes {A = A} b c (Err e) piece → IsErrAnd r (λ f. f ≡ e) → Writes a c r bytes
piece_stopped {b = b} piece others p is h same =
    let after = writes_then {u = tt {0}} {b = b} (record { whole = p.appends; part = tt; fault = tt }) (stopped others h same) in
    writes_same (sym (p.all ∙ ap (λ (t : List ℕ). p.done ++ t) is)) after

-- the last piece was written, and then the style was set or not
pub pieces_end : {A B : Type 0} {u : A} {r : Result B ServeFault} {a b c d : Seen} {bytes rest : List ℕ} → Progress a b bytes rest
    → Writes {A = A} b c (Ok u) rest → Writes c d r [] → Writes a d r bytes
pieces_end {A = A} {u = u} {b = b} {rest = rest} p h k =
    let before = writes_then {A = A} {u = u} {b = b} (record { whole = p.appends; part = tt; fault = tt }) h in
    writes_same (append-nil (p.done ++ rest) ∙ sym p.all) (writes_then before k)
