-- Boxes with equal commands are equal.
use Rattle.std.proofs.Common.{◌≡◌, ◌∙◌, ap}
use Rattle.std.specs.Prelude.{OnErr, Result, Ok, Err}
use Rattle.std.specs.declared.dyn_box.DynBox.{DynBox}

pub box_same : {I Z T E : Type 0} {F : I → Type 0} (box : DynBox I Z F) (lent : (i : I) × F i) (command : F lent.0) (result : Result T E)
    → lent ≡ (box.vtable, box.value) → OnErr result (command ≡ lent.1)
    → OnErr result (record { ptr = box.ptr; vtable = lent.0; alloc = box.alloc; value = command } ≡ box)
box_same box lent command (Ok x) of same = tt
box_same {I = I} {Z = Z} {F = F} box lent command (Err e) of same =
    let held : (i : I) × F i → DynBox I Z F = λ h. record { ptr = box.ptr; vtable = h.0; alloc = box.alloc; value = h.1 } in
    ap (λ (v : F lent.0). held (lent.0, v)) same ∙ ap held of

-- the same where something else holds of a refusal besides
pub box_refused : (K : Type 0) {I Z T E : Type 0} {F : I → Type 0} (box : DynBox I Z F) (lent : (i : I) × F i) (command : F lent.0) (result : Result T E)
    → lent ≡ (box.vtable, box.value) → OnErr result (K × (command ≡ lent.1))
    → OnErr result (K × (record { ptr = box.ptr; vtable = lent.0; alloc = box.alloc; value = command } ≡ box))
box_refused K box lent command (Ok x) of same = tt
box_refused K {T = T} box lent command (Err e) of same = (same.0, box_same {T = T} box lent command (Err e) of same.1)
