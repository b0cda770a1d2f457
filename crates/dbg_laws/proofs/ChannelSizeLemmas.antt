-- How many messages a channel has before and after an event. The channels are always a square.
use Rattle.std.proofs.Common.{◌≡◌, ◌≢◌, ℕ, ℤ, suc, ◌<◌, ◌≤◌, ◌⊎◌, List, [], ◌∷◌, ◌++◌, length, get_or, set, drop, Some, Ok, sym, ap, ◌∙◌}
use Rattle.std.proofs.Common.{subst, inl, inr, ⊎_elim, arith, replicate}
use Rattle.std.proofs.lemmas.Bool.{cases_eq}
use Rattle.std.proofs.lemmas.List.{length-append, set_past, set-get_or, length-set, length-replicate, get_or-replicate, get_or-set_same}
use Rattle.std.proofs.lemmas.List.{get_or-set_other}
use Rattle.dbg_base.specs.Trees.{Program, command_of}
use Rattle.dbg_base.specs.Configurations.{Configuration, channel_of, start_of}
use Rattle.dbg_base.specs.Firing.{fire}
use Rattle.dbg_base.specs.Orders.{target_in, source_in, Event, order_from}
use Rattle.dbg_base.specs.Histories.{History, IsPossible, play}
use Rattle.dbg_laws.proofs.Lists.{Grid, row, cell, put, change, Apart, within_or_past, row_within, cell_within, cell-put_other}
use Rattle.dbg_laws.proofs.Lists.{cell-put_same}
use Rattle.dbg_laws.proofs.Moves.{Move, Keeps, Puts, Takes, channels_after, IsReady, move_target, move_source, fires}
use Rattle.dbg_laws.proofs.OrderSwapLemmas.{first_step}
use Rattle.dbg_laws.proofs.PlayLemmas.{listed}

put_past_row : (g : Grid) (i j : ℕ) (x : List ℤ) → length g ≤ i → put g i j x ≡ g
put_past_row g i j x past = set_past g i (set (get_or g i []) j x) past

put_past_cell : (g : Grid) (i j : ℕ) (x : List ℤ) → length (row g i) ≤ j → put g i j x ≡ g
put_past_cell g i j x past = ap (λ (r : List (List ℤ)). set g i r) (set_past (get_or g i []) j x past) ∙ set-get_or g i []

-- a cell that is changed has the new value, or it does not exist
pub put_cases : (g : Grid) (i j : ℕ) (x : List ℤ) → (cell (put g i j x) i j ≡ x) ⊎ ((y : List ℤ) → put g i j y ≡ g)
put_cases g i j x =
    ⊎_elim
    (λ (here : i < length g). ⊎_elim
    (λ (there : j < length (row g i)). inl (cell-put_same g i j x here there))
    (λ (past : length (row g i) ≤ j). inr (λ y. put_past_cell g i j y past))
    (within_or_past (length (row g i)) j))
    (λ (past : length g ≤ i). inr (λ y. put_past_row g i j y past))
    (within_or_past (length g) i)

pub size_taken : (g : Grid) (i j : ℕ) (m : ℤ) (rest : List ℤ) → cell g i j ≡ m ∷ rest
    → suc (length (cell (change g i j (drop 1)) i j)) ≡ length (cell g i j)
size_taken g i j m rest prefix =
    let now : cell (change g i j (drop 1)) i j ≡ drop 1 (cell g i j) =
    cell-put_same g i j (drop 1 (cell g i j)) (row_within g i j m rest prefix) (cell_within g i j m rest prefix) in
    ap (λ (l : List ℤ). suc (length l)) (now ∙ ap (drop 1) prefix) ∙ sym (ap (λ (l : List ℤ). length l) prefix)

size_more : (l : List ℤ) (v : ℤ) → length (l ++ v ∷ []) ≡ suc (length l)
size_more l v = length-append l (v ∷ []) ∙ omega arith

pub size_put : (g : Grid) (i j : ℕ) (v : ℤ) → i < length g → j < length (row g i)
    → length (cell (change g i j (λ messages. messages ++ v ∷ [])) i j) ≡ suc (length (cell g i j))
size_put g i j v here there =
    ap (λ (l : List ℤ). length l) (cell-put_same g i j (cell g i j ++ v ∷ []) here there) ∙ size_more (cell g i j) v

pub size_put_most : (g : Grid) (i j : ℕ) (v : ℤ)
    → length (cell (change g i j (λ messages. messages ++ v ∷ [])) i j) ≤ suc (length (cell g i j))
size_put_most g i j v =
    ⊎_elim
    (λ (same : cell (change g i j (λ messages. messages ++ v ∷ [])) i j ≡ cell g i j ++ v ∷ []).
    let size : length (cell (change g i j (λ messages. messages ++ v ∷ [])) i j) ≡ suc (length (cell g i j)) =
    ap (λ (l : List ℤ). length l) same ∙ size_more (cell g i j) v in
    omega arith)
    (λ (same : (y : List ℤ) → put g i j y ≡ g).
    let size : length (cell (change g i j (λ messages. messages ++ v ∷ [])) i j) ≡ length (cell g i j) =
    ap (λ (x : Grid). length (cell x i j)) (same (cell g i j ++ v ∷ [])) in
    omega arith)
    (put_cases g i j (cell g i j ++ v ∷ []))

pub size_other : (g : Grid) (i j k l : ℕ) (x : List ℤ) → Apart i j k l → length (cell (put g i j x) k l) ≡ length (cell g k l)
size_other g i j k l x apart = ap (λ (c : List ℤ). length c) (cell-put_other g i j k l x apart)

-- a move of p, seen from a channel that it does not send to
pub size_not_put : (move : Move) (p i j : ℕ) (g : Grid) → (p ≡ i → move_target move ≡ Some j → ⊥) → IsReady move p g
    → length (cell (channels_after move p g) i j) ≤ length (cell g i j)
size_not_put Keeps p i j g apart ready = omega arith
size_not_put (Puts target value) p i j g apart ready =
    let size = size_other g p target i j (cell g p target ++ value ∷ [])
    (λ (x : p ≡ i) (y : target ≡ j). apart x (ap (λ (t : ℕ). Some t) y)) in
    omega (arith, size)
size_not_put (Takes source message) p i j g apart ready =
    ⊎_elim
    (λ (same : source ≡ i). ⊎_elim
    (λ (one : p ≡ j).
    let size = size_taken g source p message ready.0 ready.1 in
    let there : suc (length (cell (change g source p (drop 1)) i j)) ≡ length (cell g i j) =
    subst (λ (x : ℕ). suc (length (cell (change g source p (drop 1)) x j)) ≡ length (cell g x j)) same
    (subst (λ (y : ℕ). suc (length (cell (change g source p (drop 1)) source y)) ≡ length (cell g source y)) one size) in
    omega arith)
    (λ (other : p ≢ j).
    let size = size_other g source p i j (drop 1 (cell g source p)) (λ x. other) in omega (arith, size))
    (cases_eq p j))
    (λ (other : source ≢ i).
    let size = size_other g source p i j (drop 1 (cell g source p)) (λ x y. other x) in omega (arith, size))
    (cases_eq source i)

-- a move makes a channel longer by at most one
pub size_most : (move : Move) (p i j : ℕ) (g : Grid) → IsReady move p g
    → length (cell (channels_after move p g) i j) ≤ suc (length (cell g i j))
size_most Keeps p i j g ready = omega arith
size_most (Puts target value) p i j g ready =
    ⊎_elim
    (λ (same : p ≡ i). ⊎_elim
    (λ (one : target ≡ j).
    subst (λ (x : ℕ). length (cell (change g p target (λ messages. messages ++ value ∷ [])) x j) ≤ suc (length (cell g x j))) same
    (subst (λ (y : ℕ). length (cell (change g p target (λ messages. messages ++ value ∷ [])) p y) ≤ suc (length (cell g p y))) one
    (size_put_most g p target value)))
    (λ (other : target ≢ j).
    let size = size_other g p target i j (cell g p target ++ value ∷ []) (λ x. other) in omega (arith, size))
    (cases_eq target j))
    (λ (other : p ≢ i).
    let size = size_other g p target i j (cell g p target ++ value ∷ []) (λ x y. other x) in omega (arith, size))
    (cases_eq p i)
size_most (Takes source message) p i j g ready =
    let less = size_not_put (Takes source message) p i j g (λ x y. (cc)) ready in omega (arith, less)

-- the same for a command that fires
pub fire_not_put : (P : Program) (c d : Configuration) (p k i j : ℕ) → fire P c p k ≡ Ok d
    → (p ≡ i → target_in (command_of P p k) ≡ Some j → ⊥) → length (channel_of d i j) ≤ length (channel_of c i j)
fire_not_put P c d p k i j fire_is apart =
    let f = fires (command_of P p k) c p d fire_is in
    subst (λ (x : Configuration). length (channel_of x i j) ≤ length (channel_of c i j)) (sym f.leads)
    (size_not_put f.move p i j c.channels (λ x y. apart x (f.sends ∙ y)) f.ready)

pub fire_most : (P : Program) (c d : Configuration) (p k i j : ℕ) → fire P c p k ≡ Ok d
    → length (channel_of d i j) ≤ suc (length (channel_of c i j))
fire_most P c d p k i j fire_is =
    let f = fires (command_of P p k) c p d fire_is in
    subst (λ (x : Configuration). length (channel_of x i j) ≤ suc (length (channel_of c i j))) (sym f.leads)
    (size_most f.move p i j c.channels f.ready)

move_takes : (move : Move) (p source : ℕ) (g : Grid) → move_source move ≡ Some source → IsReady move p g
    → suc (length (cell (channels_after move p g) source p)) ≡ length (cell g source p)
move_takes Keeps p source g from ready = cc
move_takes (Puts target value) p source g from ready = cc
move_takes (Takes other message) p source g from ready =
    let same : other ≡ source = cc in
    subst (λ (x : ℕ). suc (length (cell (change g other p (drop 1)) x p)) ≡ length (cell g x p)) same
    (size_taken g other p message ready.0 ready.1)

pub fire_takes : (P : Program) (c d : Configuration) (p k source : ℕ) → fire P c p k ≡ Ok d → source_in (command_of P p k) ≡ Some source
    → suc (length (channel_of d source p)) ≡ length (channel_of c source p)
fire_takes P c d p k source fire_is from =
    let f = fires (command_of P p k) c p d fire_is in
    ap (λ (x : Configuration). suc (length (channel_of x source p))) f.leads
    ∙ move_takes f.move p source c.channels (sym f.receives ∙ from) f.ready

-- The channels of each configuration that is reached are a square.

-- so many rows, and as many columns in each
pub record IsSquare (n : ℕ) (g : Grid) : Type 0 where
  pub rows : length g ≡ n
  pub columns : (i : ℕ) → i < n → length (row g i) ≡ n

put_square : (n : ℕ) (g : Grid) (i j : ℕ) (x : List ℤ) → IsSquare n g → IsSquare n (put g i j x)
put_square n g i j x s = record {
  rows = length-set g i (set (get_or g i []) j x) ∙ s.rows;
  columns = λ k within. ⊎_elim
      (λ (same : i ≡ k). subst (λ (y : ℕ). y < n → length (row (put g i j x) y) ≡ n) same
      (λ there. ap (λ (r : List (List ℤ)). length r) (get_or-set_same g i (set (get_or g i []) j x) [] (rw s.rows there))
      ∙ length-set (get_or g i []) j x ∙ s.columns i there) within)
      (λ (apart : i ≡ k → ⊥). ap (λ (r : List (List ℤ)). length r)
      (get_or-set_other g i k (set (get_or g i []) j x) [] (λ (y : k ≡ i). apart (sym y))) ∙ s.columns k within)
      (cases_eq i k);
}

move_square : (n : ℕ) (move : Move) (p : ℕ) (g : Grid) → IsSquare n g → IsSquare n (channels_after move p g)
move_square n Keeps p g s = s
move_square n (Puts target value) p g s = put_square n g p target (cell g p target ++ value ∷ []) s
move_square n (Takes source message) p g s = put_square n g source p (drop 1 (cell g source p)) s

pub square_start : (P : Program) → IsSquare (length P) (start_of P).channels
square_start P = record {
  rows = length-replicate (length P) (replicate (length P) []);
  columns = λ i within. ap (λ (r : List (List ℤ)). length r) (get_or-replicate (length P) i (replicate (length P) []) [] within)
      ∙ length-replicate (length P) [];
}

pub square_fire : (P : Program) (n : ℕ) (c d : Configuration) (p k : ℕ) → fire P c p k ≡ Ok d → IsSquare n c.channels
    → IsSquare n d.channels
square_fire P n c d p k fire_is s =
    let f = fires (command_of P p k) c p d fire_is in
    subst (λ (x : Configuration). IsSquare n x.channels) (sym f.leads) (move_square n f.move p c.channels s)

pub square_order : (P : Program) (n : ℕ) (c d : Configuration) (E : List Event) → order_from P c E ≡ Ok d → IsSquare n c.channels
    → IsSquare n d.channels
square_order P n c d [] legal s = let same : c ≡ d = cc in subst (λ (x : Configuration). IsSquare n x.channels) same s
square_order P n c d (e ∷ E) legal s =
    let step = first_step (fire P c e.process e.choice) (λ x. order_from P x E) d legal in
    square_order P n step.0 d E step.2 (square_fire P n c step.0 e.process e.choice step.1 s)

pub square_play : (P : Program) (H : History) → IsPossible P H → IsSquare (length P) (play P H).channels
square_play P H all =
    let l = listed P H all in
    square_order P (length P) (start_of P) (play P H) l.events l.legal (square_start P)
