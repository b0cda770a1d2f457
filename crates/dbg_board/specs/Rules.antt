-- The rule of the word: one publisher has a list of pairs, the word holds the last of them, and each view has seen a prefix of the list.
use Rattle.std.specs.Prelude.{◌≡◌, ℕ, ◌++◌, true, false, List, [], ◌∷◌}
use mathlib.Core.Option.{some}
use lib.ListN.{get_elem?}
use Rattle.atomic_table.specs.Table.{State, Me, Step}
use Rattle.dbg_board.specs.declared.glance.Glance.{Glance}
use Rattle.dbg_board.specs.declared.word.Known.{Known}
use Rattle.dbg_board.specs.Pairs.{Begins, last_of, IsNumbered}
use Rattle.dbg_board.specs.Words.{code_of, glance_of}

-- what the publisher knows, without a guest
abbrev pub publishing : List Glance → Known
publishing pairs = record { publishes = true; pairs = pairs; guest = [] }

-- what the publisher knows, with a guest that has seen these
abbrev pub hosting : List Glance → List Glance → Known
hosting pairs guest = record { publishes = true; pairs = pairs; guest = guest }

-- what a view knows
abbrev pub following : List Glance → Known
following pairs = record { publishes = false; pairs = pairs; guest = [] }

-- What a holder knows, given the publisher and the published pairs: a prefix of them, and all of them if it publishes.
pub record Knows (publisher : ℕ) (published : List Glance) (seat : ℕ) (known : Known) : Type 0 where
  pub publishes : known.publishes ≡ true → (seat ≡ publisher) × (known.pairs ≡ published)
  pub pairs : Begins known.pairs published
  pub guest : Begins known.guest published

-- The word holds the last of the published pairs, and each holder knows a prefix of them.
pub record IsKept (state : State (Unit {0}) Known) : Type 0 where
  pub publisher : ℕ
  pub published : List Glance
  pub word : state.words ≡ code_of (last_of published) ∷ []
  pub numbered : IsNumbered 0 published
  pub known : (seat : ℕ) (known : Known) → get_elem? state.views seat ≡ some known → Knows publisher published seat known

abbrev pub Sat : Type 0
Sat = Me (Unit {0}) Known

-- A store by the publisher: one more pair.
abbrev pub Adds : Step (Unit {0}) → Sat → ℕ → Sat → Type 0
Adds step before written after = after ≡ (publishing (before.0.pairs ++ glance_of written ∷ []), before.1)

-- A load by a view: it has seen its earlier pairs and perhaps more, and the word holds the last of them.
abbrev pub Sees : Step (Unit {0}) → Sat → ℕ → Sat → Type 0
Sees step before found after = (after ≡ (following after.0.pairs, before.1)) × Begins before.0.pairs after.0.pairs
    × IsNumbered 0 after.0.pairs × (glance_of found ≡ last_of after.0.pairs)

-- A load by the publisher: the pairs that its guest has seen are a prefix of those that were published.
abbrev pub Compared : Step (Unit {0}) → Sat → ℕ → Sat → Type 0
Compared step before found after = (after ≡ (publishing before.0.pairs, before.1)) × Begins before.0.guest before.0.pairs
