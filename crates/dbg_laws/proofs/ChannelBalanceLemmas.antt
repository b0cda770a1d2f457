-- A sent message is received or still on its way. The messages of a channel and those still to be sent to it are, together, those still to
-- be received from it and those left at the end.
use Rattle.std.proofs.Common.{◌≡◌, ◌≢◌, ℕ, suc, ◌+◌, ◌<◌, ◌≤◌, ◌⊎◌, Bool, true, false, cond, ◌==◌, List, [], ◌∷◌, ◌++◌, length, get_or}
use Rattle.std.proofs.Common.{set, drop, Option, Some, None, Ok, refl, sym, ap, ◌∙◌, subst, inl, inr, ⊎_elim, arith, count_by}
use Rattle.std.proofs.lemmas.Bool.{cases_eq, eq-eqb, ne_eqb}
use Rattle.std.proofs.lemmas.List.{get_or-set_same, get_or-set_other}
use Rattle.std.proofs.lemmas.List.Sums.{sum_by-cons}
use Rattle.dbg_base.specs.Trees.{Program, command_of}
use Rattle.dbg_base.specs.Configurations.{Configuration, channel_of}
use Rattle.dbg_base.specs.Firing.{fire}
use Rattle.dbg_base.specs.Histories.{History}
use Rattle.dbg_base.specs.Orders.{Event, order_from, target_in, source_in}
use Rattle.dbg_base.specs.Counts.{is_process, sends_to, receives_from}
use Rattle.dbg_laws.proofs.Lists.{Grid, row, cell, change}
use Rattle.dbg_laws.proofs.Moves.{Move, Keeps, Puts, Takes, channels_after, move_target, move_source, Fires, fires}
use Rattle.dbg_laws.proofs.OrderSwapLemmas.{IsOrderOf, none_left, first_step, is_there}
use Rattle.dbg_laws.proofs.PrefixLemmas.{prefix_within}
use Rattle.dbg_laws.proofs.ChannelSizeLemmas.{size_put, size_other, fire_not_put, fire_most, fire_takes, IsSquare, square_fire}

-- the messages that the remaining choices of process i send to process j, and those that the remaining choices of j receive from i
abbrev pub sends_left : Program → History → ℕ → ℕ → ℕ
sends_left P H i j = count_by (sends_to P i j) (get_or H i [])

abbrev pub gets_left : Program → History → ℕ → ℕ → ℕ
gets_left P H j i = count_by (receives_from P j i) (get_or H j [])

-- 1 if process q is i and the other process is j
abbrev pub once : ℕ → ℕ → Option ℕ → ℕ → ℕ
once q i o j = cond (q == i) (cond (is_process j o) 1 0) 0

-- a choice of q that sends to j counts once for i
abbrev pub sends_by : Program → ℕ → ℕ → ℕ → ℕ → ℕ
sends_by P q k i j = once q i (target_in (command_of P q k)) j

abbrev pub gets_by : Program → ℕ → ℕ → ℕ → ℕ → ℕ
gets_by P q k j i = once q j (source_in (command_of P q k)) i

pub record IsOne (q i : ℕ) (o : Option ℕ) (j : ℕ) : Type 0 where
  pub own : q ≡ i
  pub other : o ≡ Some j
  pub one : once q i o j ≡ 1

pub record IsNone (q i : ℕ) (o : Option ℕ) (j : ℕ) : Type 0 where
  pub apart : q ≡ i → o ≡ Some j → ⊥
  pub none : once q i o j ≡ 0

none_of_none : (b : Bool) → cond {A = ℕ} b (cond false 1 0) 0 ≡ 0
none_of_none true = refl
none_of_none false = refl

pub one_or_none : (q i : ℕ) (o : Option ℕ) (j : ℕ) → IsOne q i o j ⊎ IsNone q i o j
one_or_none q i None j = inr (record { apart = λ x y. (cc); none = none_of_none (q == i) })
one_or_none q i (Some t) j =
    ⊎_elim
    (λ (same : q ≡ i). ⊎_elim
    (λ (own : t ≡ j). inl (record {
      own = same;
      other = ap (λ (x : ℕ). Some x) own;
      one = ap (λ (b : Bool). cond b (cond (t == j) 1 0) 0) (eq-eqb q i same) ∙ ap (λ (b : Bool). cond b 1 0) (eq-eqb t j own);
    }))
    (λ (apart : t ≢ j). inr (record {
      apart = λ x y. apart (cc);
      none = ap (λ (b : Bool). cond (q == i) (cond b 1 0) 0) (ne_eqb t j apart) ∙ none_of_none (q == i);
    }))
    (cases_eq t j))
    (λ (apart : q ≢ i). inr (record {
      apart = λ x y. apart x;
      none = ap (λ (b : Bool). cond b (cond (t == j) 1 0) 0) (ne_eqb q i apart);
    }))
    (cases_eq q i)

pub sends_one : (P : Program) (p k t : ℕ) → target_in (command_of P p k) ≡ Some t → sends_by P p k p t ≡ 1
sends_one P p k t to =
    ⊎_elim
    (λ (s : IsOne p p (target_in (command_of P p k)) t). s.one)
    (λ (s : IsNone p p (target_in (command_of P p k)) t). absurd (s.apart refl to))
    (one_or_none p p (target_in (command_of P p k)) t)

pub gets_none : (P : Program) (p k j i : ℕ) → p ≢ j → gets_by P p k j i ≡ 0
gets_none P p k j i apart =
    ⊎_elim
    (λ (s : IsOne p j (source_in (command_of P p k)) i). absurd (apart s.own))
    (λ (s : IsNone p j (source_in (command_of P p k)) i). s.none)
    (one_or_none p j (source_in (command_of P p k)) i)

-- the count of a line whose first choice is taken
pub line_count : (H : History) (q k i : ℕ) (rest : List ℕ) (f : ℕ → ℕ → Bool) → get_or H q [] ≡ k ∷ rest
    → count_by (f i) (get_or H i []) ≡ cond (q == i) (cond (f q k) 1 0) 0 + count_by (f i) (get_or (set H q rest) i [])
line_count H q k i rest f prefix =
    ⊎_elim
    (λ (same : q ≡ i).
    let now : get_or (set H q rest) q [] ≡ rest = get_or-set_same H q rest [] (prefix_within H q k rest prefix) in
    let is : (q == i) ≡ true = eq-eqb q i same in
    let here : count_by (f q) (get_or H q []) ≡ cond (f q k) 1 0 + count_by (f q) (get_or (set H q rest) q []) =
    ap (λ (l : List ℕ). count_by (f q) l) prefix
    ∙ sum_by-cons (λ (x : ℕ). cond (f q x) 1 0) k rest
    ∙ ap (λ (l : List ℕ). cond (f q k) 1 0 + count_by (f q) l) (sym now) in
    subst (λ (x : ℕ). count_by (f x) (get_or H x []) ≡ cond (f q k) 1 0 + count_by (f x) (get_or (set H q rest) x [])) same here
    ∙ ap (λ (b : Bool). cond b (cond (f q k) 1 0) 0 + count_by (f i) (get_or (set H q rest) i [])) (sym is))
    (λ (apart : q ≢ i).
    let line : get_or (set H q rest) i [] ≡ get_or H i [] = get_or-set_other H q i rest [] (λ (x : i ≡ q). apart (sym x)) in
    let is : (q == i) ≡ false = ne_eqb q i apart in
    let size : count_by (f i) (get_or (set H q rest) i []) ≡ count_by (f i) (get_or H i []) =
    ap (λ (l : List ℕ). count_by (f i) l) line in
    let none : cond {A = ℕ} (q == i) (cond (f q k) 1 0) 0 ≡ 0 = ap (λ (b : Bool). cond b (cond (f q k) 1 0) 0) is in
    omega (arith, size, none))
    (cases_eq q i)

pub sends_step : (P : Program) (H : History) (q k i j : ℕ) (rest : List ℕ) → get_or H q [] ≡ k ∷ rest
    → sends_left P H i j ≡ sends_by P q k i j + sends_left P (set H q rest) i j
sends_step P H q k i j rest prefix = line_count H q k i rest (λ x. sends_to P x j) prefix

pub gets_step : (P : Program) (H : History) (q k j i : ℕ) (rest : List ℕ) → get_or H q [] ≡ k ∷ rest
    → gets_left P H j i ≡ gets_by P q k j i + gets_left P (set H q rest) j i
gets_step P H q k j i rest prefix = line_count H q k j rest (λ x. receives_from P x i) prefix

-- no command both sends and receives
not_both : (move : Move) (i j : ℕ) → move_target move ≡ Some j → move_source move ≡ Some i → ⊥
not_both Keeps i j to from = cc
not_both (Puts target value) i j to from = cc
not_both (Takes source message) i j to from = cc

-- What an event of process q did to the channel from i to j: it appended a message, took one, or neither.
record PutOne (P : Program) (q k i j : ℕ) : Type 0 where
  sends : IsOne q i (target_in (command_of P q k)) j
  gets : IsNone q j (source_in (command_of P q k)) i

record TookOne (P : Program) (c d : Configuration) (q k i j : ℕ) : Type 0 where
  sends : IsNone q i (target_in (command_of P q k)) j
  gets : IsOne q j (source_in (command_of P q k)) i
  takes : suc (length (channel_of d i j)) ≡ length (channel_of c i j)

record LeftAlone (P : Program) (q k i j : ℕ) : Type 0 where
  sends : IsNone q i (target_in (command_of P q k)) j
  gets : IsNone q j (source_in (command_of P q k)) i

abbrev Turn : Program → Configuration → Configuration → ℕ → ℕ → ℕ → ℕ → Type 0
Turn P c d q k i j = PutOne P q k i j ⊎ TookOne P c d q k i j ⊎ LeftAlone P q k i j

turn : (P : Program) (c d : Configuration) (q k i j : ℕ) → fire P c q k ≡ Ok d → Turn P c d q k i j
turn P c d q k i j fire_is = by (one_or_none q i (target_in (command_of P q k)) j) (one_or_none q j (source_in (command_of P q k)) i)
  where
    by : IsOne q i (target_in (command_of P q k)) j ⊎ IsNone q i (target_in (command_of P q k)) j
        → IsOne q j (source_in (command_of P q k)) i ⊎ IsNone q j (source_in (command_of P q k)) i → Turn P c d q k i j
    by (inl s) (inl g) =
        let f = fires (command_of P q k) c q d fire_is in
        absurd (not_both f.move i j (sym f.sends ∙ s.other) (sym f.receives ∙ g.other))
    by (inl s) (inr g) = inl (record { sends = s; gets = g })
    by (inr s) (inl g) = inr (inl (record {
      sends = s;
      gets = g;
      takes = subst (λ (x : ℕ). suc (length (channel_of d i x)) ≡ length (channel_of c i x)) g.own
          (fire_takes P c d q k i fire_is g.other);
    }))
    by (inr s) (inr g) = inr (inr (record { sends = s; gets = g }))

-- one event: at most so many messages; between processes of the program exactly so many (`step_balance`)
pub step_most : (P : Program) (c d : Configuration) (q k i j : ℕ) → fire P c q k ≡ Ok d
    → gets_by P q k j i + length (channel_of d i j) ≤ length (channel_of c i j) + sends_by P q k i j
step_most P c d q k i j fire_is = by (turn P c d q k i j fire_is)
  where
    by : Turn P c d q k i j → gets_by P q k j i + length (channel_of d i j) ≤ length (channel_of c i j) + sends_by P q k i j
    by (inl put) = let most = fire_most P c d q k i j fire_is in omega (arith, put.sends.one, put.gets.none, most)
    by (inr (inl taken)) = omega (arith, taken.sends.none, taken.gets.one, taken.takes)
    by (inr (inr apart)) =
        let most = fire_not_put P c d q k i j fire_is apart.sends.apart in omega (arith, apart.sends.none, apart.gets.none, most)

puts_more : (move : Move) (q j : ℕ) (g : Grid) → move_target move ≡ Some j → q < length g → j < length (row g q)
    → length (cell (channels_after move q g) q j) ≡ suc (length (cell g q j))
puts_more Keeps q j g to here there = cc
puts_more (Puts target value) q j g to here there =
    let same : target ≡ j = cc in
    subst (λ (x : ℕ). x < length (row g q)
    → length (cell (change g q target (λ messages. messages ++ value ∷ [])) q x) ≡ suc (length (cell g q x))) same
    (λ y. size_put g q target value here y) there
puts_more (Takes source message) q j g to here there = cc

stays_size : (move : Move) (q i j : ℕ) (g : Grid) → (q ≡ i → move_target move ≡ Some j → ⊥) → (q ≡ j → move_source move ≡ Some i → ⊥)
    → length (cell (channels_after move q g) i j) ≡ length (cell g i j)
stays_size Keeps q i j g not_put not_taken = refl
stays_size (Puts target value) q i j g not_put not_taken =
    size_other g q target i j (cell g q target ++ value ∷ []) (λ x (y : target ≡ j). not_put x (ap (λ (t : ℕ). Some t) y))
stays_size (Takes source message) q i j g not_put not_taken =
    size_other g source q i j (drop 1 (cell g source q)) (λ (x : source ≡ i) (y : q ≡ j). not_taken y (ap (λ (t : ℕ). Some t) x))

pub step_balance : (P : Program) (c d : Configuration) (q k i j : ℕ) → IsSquare (length P) c.channels → i < length P → j < length P
    → fire P c q k ≡ Ok d → length (channel_of c i j) + sends_by P q k i j ≡ gets_by P q k j i + length (channel_of d i j)
step_balance P c d q k i j square i_there j_there fire_is = by (turn P c d q k i j fire_is)
  where
    f : Fires (command_of P q k) c q d
    f = fires (command_of P q k) c q d fire_is

    by : Turn P c d q k i j → length (channel_of c i j) + sends_by P q k i j ≡ gets_by P q k j i + length (channel_of d i j)
    by (inl put) =
        let q_there : q < length P = is_there P c d q k fire_is in
        let q_row : q < length c.channels = omega (arith, q_there, square.rows) in
        let j_cell : j < length (row c.channels q) = omega (arith, j_there, square.columns q q_there) in
        let more : length (channel_of d q j) ≡ suc (length (channel_of c q j)) =
        ap (λ (x : Configuration). length (channel_of x q j)) f.leads
        ∙ puts_more f.move q j c.channels (sym f.sends ∙ put.sends.other) q_row j_cell in
        let here : length (channel_of d i j) ≡ suc (length (channel_of c i j)) =
        subst (λ (x : ℕ). length (channel_of d x j) ≡ suc (length (channel_of c x j))) put.sends.own more in
        omega (arith, put.sends.one, put.gets.none, here)
    by (inr (inl taken)) = omega (arith, taken.sends.none, taken.gets.one, taken.takes)
    by (inr (inr apart)) =
        let same : length (channel_of d i j) ≡ length (channel_of c i j) =
        ap (λ (x : Configuration). length (channel_of x i j)) f.leads
        ∙ stays_size f.move q i j c.channels (λ x y. apart.sends.apart x (f.sends ∙ y)) (λ x y. apart.gets.apart x (f.receives ∙ y)) in
        omega (arith, apart.sends.none, apart.gets.none, same)

-- the counts of an empty line
pub no_counts : (H : History) (i : ℕ) (f : ℕ → Bool) → get_or H i [] ≡ [] → count_by f (get_or H i []) ≡ 0
no_counts H i f none = ap (λ (l : List ℕ). count_by f l) none

pub balance_most : (P : Program) (c d : Configuration) (H : History) (E : List Event) (i j : ℕ) → order_from P c E ≡ Ok d → IsOrderOf H E
    → gets_left P H j i + length (channel_of d i j) ≤ length (channel_of c i j) + sends_left P H i j
balance_most P c d H [] i j legal empty =
    let same : c ≡ d = cc in
    let size : length (channel_of c i j) ≡ length (channel_of d i j) = ap (λ (x : Configuration). length (channel_of x i j)) same in
    let got = no_counts H j (receives_from P j i) (none_left H j empty) in
    omega (arith, size, got)
balance_most P c d H (e ∷ E) i j legal takes =
    let step = first_step (fire P c e.process e.choice) (λ x. order_from P x E) d legal in
    let one = step_most P c step.0 e.process e.choice i j step.1 in
    let rest = balance_most P step.0 d (set H e.process takes.0) E i j step.2 takes.2 in
    let sends = sends_step P H e.process e.choice i j takes.0 takes.1 in
    let gets = gets_step P H e.process e.choice j i takes.0 takes.1 in
    omega (arith, one, rest, sends, gets)

pub balanced : (P : Program) (c d : Configuration) (H : History) (E : List Event) (i j : ℕ) → IsSquare (length P) c.channels
    → i < length P → j < length P → order_from P c E ≡ Ok d → IsOrderOf H E
    → length (channel_of c i j) + sends_left P H i j ≡ gets_left P H j i + length (channel_of d i j)
balanced P c d H [] i j square i_there j_there legal empty =
    let same : c ≡ d = cc in
    let size : length (channel_of c i j) ≡ length (channel_of d i j) = ap (λ (x : Configuration). length (channel_of x i j)) same in
    let got = no_counts H j (receives_from P j i) (none_left H j empty) in
    let sent = no_counts H i (sends_to P i j) (none_left H i empty) in
    omega (arith, size, got, sent)
balanced P c d H (e ∷ E) i j square i_there j_there legal takes =
    let step = first_step (fire P c e.process e.choice) (λ x. order_from P x E) d legal in
    let one = step_balance P c step.0 e.process e.choice i j square i_there j_there step.1 in
    let rest = balanced P step.0 d (set H e.process takes.0) E i j (square_fire P (length P) c step.0 e.process e.choice step.1 square)
    i_there j_there step.2 takes.2 in
    let sends = sends_step P H e.process e.choice i j takes.0 takes.1 in
    let gets = gets_step P H e.process e.choice j i takes.0 takes.1 in
    omega (arith, one, rest, sends, gets)
