-- Commands with two arguments, by their words.
use Rattle.std.proofs.Common.{◌≡◌, ℕ, true, false, List, refl}
use Rattle.std.specs.Prelude.{codes}
use Rattle.std.specs.Str.{bytes_eq}
use Rattle.dbg_base.specs.Trees.{Program}
use Rattle.dbg_base.specs.CommandLines.{with_word, name_word, rollback_call, chan_call, pair_call}

module _ (P : Program) (word first second : List ℕ) (no_step : bytes_eq word (codes "step") ≡ false) where
  pub is_rollback : bytes_eq word (codes "rollback") ≡ true
      → with_word (name_word first) (λ name. rollback_call P name second) ≡ with_word (name_word first) (λ name. pair_call P word name second)
  is_rollback e = rw (no_step, e) refl

  pub is_chan : bytes_eq word (codes "rollback") ≡ false → bytes_eq word (codes "chan") ≡ true
      → with_word (name_word first) (λ name. chan_call P name second) ≡ with_word (name_word first) (λ name. pair_call P word name second)
  is_chan e f = rw (no_step, e, f) refl
