-- What a copy is: the same value. Values that own heap memory are compared by their meaning.
use Rattle.std.specs.Prelude.{◌≡◌, ℕ, length, Result, Ok, Err}
use Rattle.dbg_base.specs.declared.said.Done.{Done}
use Rattle.dbg_base.specs.declared.said.Done.TheVariants.{Played, Undone, Places, Plain}
use Rattle.dbg_base.specs.declared.refusal.Refusal.{Refusal}
use Rattle.dbg_base.specs.declared.refusal.Refusal.TheVariants.{Memory}

-- a call that copies returned a value with this property, or ran out of memory
abbrev pub IsCopy : {T : Type 0} → Result T Refusal → (T → Type 0) → Type 0
IsCopy (Ok made) same = same made
IsCopy (Err refusal) same = refusal ≡ Memory

-- how many counts a result has
abbrev pub counts_in : Done → ℕ
counts_in (Places cut) = length cut
counts_in (Played pid choice) = 0
counts_in (Undone pid choice) = 0
counts_in Plain = 0
