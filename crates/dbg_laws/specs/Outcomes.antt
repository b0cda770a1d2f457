-- What is determined: a reply with the state after it, or a state.
use Rattle.std.specs.Prelude.{◌≡◌}
use Rattle.dbg_base.specs.declared.said.Said.{Said}
use Rattle.dbg_base.specs.ModelStates.{ModelState}

-- exactly one reply, with one state after it, has this property
pub record HasOne (Is : Said → ModelState → Type 0) : Type 0 where
  pub said : Said
  pub left : ModelState
  pub is : Is said left
  pub only : (other : Said) (after : ModelState) → Is other after → (other ≡ said) × (after ≡ left)

-- exactly one state has this property
pub record HasOneState (Is : ModelState → Type 0) : Type 0 where
  pub state : ModelState
  pub is : Is state
  pub only : (other : ModelState) → Is other → other ≡ state
