-- A call that undoes another one restores the channels.
use Rattle.std.proofs.Common.{◌≡◌, ℕ, zero, suc, ◌-◌, ℤ, List, [], ◌∷◌, ◌++◌, length, take, drop, get_or, set, Some, refl, sym, ap}
use Rattle.std.proofs.Common.{◌∙◌, arith}
use Rattle.std.proofs.Common.{length-append}
use Rattle.std.proofs.Math.Seq.{take-append_seam}
use Rattle.std.specs.Prelude.{slice_get}
use Rattle.fifo_grid.specs.Grids.{messages_at, with_messages}

module _ (change back : List ℤ → List ℤ) where
  row_restored : (row : List (List ℤ)) (j : ℕ) → back (change (get_or row j [])) ≡ get_or row j []
      → set (set row j (change (get_or row j []))) j (back (get_or (set row j (change (get_or row j []))) j [])) ≡ row
  row_restored [] j same = refl
  row_restored (messages ∷ row) zero same = ap (λ (m : List ℤ). m ∷ row) same
  row_restored (messages ∷ row) (suc j) same = ap (λ (r : List (List ℤ)). messages ∷ r) (row_restored row j same)

  -- one list changes, and changes back
  pub restored : (channels : List (List (List ℤ))) (i j : ℕ) → back (change (messages_at channels i j)) ≡ messages_at channels i j
      → with_messages (with_messages channels i j (change (messages_at channels i j))) i j
      (back (messages_at (with_messages channels i j (change (messages_at channels i j))) i j)) ≡ channels
  restored [] i j same = refl
  restored (row ∷ rows) zero j same = ap (λ (r : List (List ℤ)). r ∷ rows) (row_restored row j same)
  restored (row ∷ rows) (suc i) j same = ap (λ (rs : List (List (List ℤ))). row ∷ rs) (restored rows i j same)

module _ (before between after : List (List (List ℤ))) (i j : ℕ) (message : ℤ) where
  both : (change back : List ℤ → List ℤ) → back (change (messages_at before i j)) ≡ messages_at before i j
      → between ≡ with_messages before i j (change (messages_at before i j))
      → after ≡ with_messages between i j (back (messages_at between i j)) → after ≡ before
  both change back same to from =
      from ∙ ap (λ (channels : List (List (List ℤ))). with_messages channels i j (back (messages_at channels i j))) to
      ∙ restored change back before i j same

  prefix_of : (messages : List ℤ) → take (length (messages ++ message ∷ []) - 1) (messages ++ message ∷ []) ≡ messages
  prefix_of messages =
      let n : length (messages ++ message ∷ []) - 1 ≡ length messages = omega (arith, length-append messages (message ∷ [])) in
      ap (λ (k : ℕ). take k (messages ++ message ∷ [])) n ∙ take-append_seam messages (message ∷ [])

  -- `unpush_back` after `push_back`
  pub unpushed_back : between ≡ with_messages before i j (messages_at before i j ++ message ∷ [])
      → after ≡ with_messages between i j (take (length (messages_at between i j) - 1) (messages_at between i j)) → after ≡ before
  unpushed_back to from =
      both (λ messages. messages ++ message ∷ []) (λ messages. take (length messages - 1) messages)
      (prefix_of (messages_at before i j)) to from

  first_again : (messages : List ℤ) → slice_get messages 0 ≡ Some message → message ∷ drop 1 messages ≡ messages
  first_again [] h = cc
  first_again (m ∷ messages) h = let same : m ≡ message = cc in ap (λ (z : ℤ). z ∷ messages) (sym same)

  -- `unpop_front` after `pop_front` gave this message
  pub unpopped_prefix : slice_get (messages_at before i j) 0 ≡ Some message
      → between ≡ with_messages before i j (drop 1 (messages_at before i j))
      → after ≡ with_messages between i j (message ∷ messages_at between i j) → after ≡ before
  unpopped_prefix first to from =
      both (λ messages. drop 1 messages) (λ messages. message ∷ messages) (first_again (messages_at before i j) first) to from
