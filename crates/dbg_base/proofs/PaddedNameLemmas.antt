-- The bytes of a name, padded with zeros.
use Rattle.std.proofs.Common.{◌≡◌, ℕ, ◌-◌, ◌≤◌, List, ◌++◌, length, drop, replicate, arith, ap, sym, ◌∙◌}
use Rattle.std.proofs.lemmas.List.{drop-replicate, length-append, length-replicate}
use Rattle.std.proofs.Math.Seq.{take-append_seam}
use Rattle.dbg_base.specs.declared.limits.TheConstants.{NAME_BYTES}
use Rattle.dbg_base.specs.Names.{padded_name, IsPadded}

pub padded : (bytes : List ℕ) → 1 ≤ length bytes → length bytes ≤ NAME_BYTES
    → IsPadded (bytes ++ drop (length bytes) (replicate NAME_BYTES 0)) (length bytes)
padded bytes some few =
    let zeros : drop (length bytes) (replicate NAME_BYTES 0) ≡ replicate (NAME_BYTES - length bytes) 0 =
    drop-replicate (length bytes) NAME_BYTES 0 in
    let whole : bytes ++ drop (length bytes) (replicate NAME_BYTES 0) ≡ padded_name bytes = ap (λ z. bytes ++ z) zeros in
    record {
      some = some;
      few = few;
      whole =
          ap length whole ∙ length-append bytes (replicate (NAME_BYTES - length bytes) 0)
          ∙ omega (arith, length-replicate {A = ℕ} (NAME_BYTES - length bytes) 0);
      zeros = whole ∙ ap padded_name (sym (take-append_seam bytes (drop (length bytes) (replicate NAME_BYTES 0))));
    }
