-- What an event does to a channel: it appends a value, takes the head, or neither. So a value moves up by one place with each message that
-- is received.
use Rattle.std.proofs.Common.{◌≡◌, ◌≢◌, ◌⊎◌, inl, inr, ⊎_elim, ℕ, ℤ, zero, suc, ◌+◌, ◌<◌, List, [], ◌∷◌, ◌++◌, length}
use Rattle.std.proofs.Common.{set, drop, Option, Some, None, Ok, sym, ap, ◌∙◌, subst, arith, append_assoc}
use Rattle.std.proofs.lemmas.Bool.{cases_eq}
use Rattle.dbg_base.specs.Trees.{Program, command_of}
use Rattle.dbg_base.specs.Configurations.{Configuration, channel_of}
use Rattle.dbg_base.specs.Firing.{fire}
use Rattle.dbg_base.specs.Histories.{History}
use Rattle.dbg_base.specs.Orders.{Event, order_from, target_in, source_in}
use Rattle.dbg_base.specs.Counts.{receives_from}
use Rattle.dbg_laws.proofs.Lists.{Grid, row, cell, change, cell-put_same, cell-put_other}
use Rattle.dbg_laws.proofs.Moves.{Move, Keeps, Puts, Takes, channels_after, IsReady, move_target, move_source, fires}
use Rattle.dbg_laws.proofs.OrderSwapLemmas.{IsOrderOf, none_left, first_step}
use Rattle.dbg_laws.proofs.ChannelSizeLemmas.{IsSquare, square_fire}
use Rattle.dbg_laws.proofs.ChannelBalanceLemmas.{gets_left, sends_by, gets_by, once, one_or_none, IsOne, IsNone, gets_step, no_counts}

-- What an event did to the channel from i to j.

pub record Put (P : Program) (c d : Configuration) (q k i j : ℕ) : Type 0 where
  pub value : ℤ
  pub gets : gets_by P q k j i ≡ 0
  pub puts : channel_of d i j ≡ channel_of c i j ++ value ∷ []

pub record Took (P : Program) (c d : Configuration) (q k i j : ℕ) : Type 0 where
  pub value : ℤ
  pub sends : sends_by P q k i j ≡ 0
  pub gets : gets_by P q k j i ≡ 1
  pub takes : channel_of c i j ≡ value ∷ channel_of d i j

pub record Left (P : Program) (c d : Configuration) (q k i j : ℕ) : Type 0 where
  pub sends : sends_by P q k i j ≡ 0
  pub gets : gets_by P q k j i ≡ 0
  pub same : channel_of d i j ≡ channel_of c i j

abbrev pub Did : Program → Configuration → Configuration → ℕ → ℕ → ℕ → ℕ → Type 0
Did P c d q k i j = Put P c d q k i j ⊎ Took P c d q k i j ⊎ Left P c d q k i j

once_none : (q i : ℕ) (o : Option ℕ) (j : ℕ) → (q ≡ i → o ≡ Some j → ⊥) → once q i o j ≡ 0
once_none q i o j apart =
    ⊎_elim (λ (one : IsOne q i o j). absurd (apart one.own one.other)) (λ (none : IsNone q i o j). none.none) (one_or_none q i o j)

once_one : (q i : ℕ) (o : Option ℕ) (j : ℕ) → q ≡ i → o ≡ Some j → once q i o j ≡ 1
once_one q i o j own other =
    ⊎_elim (λ (one : IsOne q i o j). one.one) (λ (none : IsNone q i o j). absurd (none.apart own other)) (one_or_none q i o j)

module _ (P : Program) (c d : Configuration) (q k i j : ℕ) (square : IsSquare (length P) c.channels) (i_there : i < length P)
    (j_there : j < length P) where
  i_row : i < length c.channels
  i_row = omega (arith, i_there, square.rows)

  j_cell : j < length (row c.channels i)
  j_cell = let columns = square.columns i i_there in omega (arith, j_there, columns)

  -- the event is of no such pair of processes
  left_by : (move : Move) → target_in (command_of P q k) ≡ move_target move → source_in (command_of P q k) ≡ move_source move
      → (q ≡ i → move_target move ≡ Some j → ⊥) → (q ≡ j → move_source move ≡ Some i → ⊥)
      → channel_of d i j ≡ channel_of c i j → Left P c d q k i j
  left_by move to from not_put not_taken same = record {
    sends = once_none q i (target_in (command_of P q k)) j (λ own e. not_put own (sym to ∙ e));
    gets = once_none q j (source_in (command_of P q k)) i (λ own e. not_taken own (sym from ∙ e));
    same = same;
  }

  put_by : (target : ℕ) (value : ℤ) → source_in (command_of P q k) ≡ None
      → d.channels ≡ channels_after (Puts target value) q c.channels → q ≡ i → target ≡ j → Put P c d q k i j
  put_by target value from leads own to = record {
    value = value;
    gets = once_none q j (source_in (command_of P q k)) i (λ o e. let wrong : None ≡ Some i = sym from ∙ e in (cc));
    puts = ap (λ (g : Grid). cell g i j) leads
        ∙ subst (λ (x : ℕ). cell (change c.channels x target (λ messages. messages ++ value ∷ [])) i j ≡ cell c.channels i j ++ value ∷ [])
        (sym own)
        (subst (λ (y : ℕ). cell (change c.channels i y (λ messages. messages ++ value ∷ [])) i j ≡ cell c.channels i j ++ value ∷ [])
        (sym to) (cell-put_same c.channels i j (cell c.channels i j ++ value ∷ []) i_row j_cell));
  }

  took_by : (source : ℕ) (value : ℤ) → target_in (command_of P q k) ≡ None → source_in (command_of P q k) ≡ Some source
      → IsReady (Takes source value) q c.channels → d.channels ≡ channels_after (Takes source value) q c.channels → source ≡ i → q ≡ j
      → Took P c d q k i j
  took_by source value to from ready leads same own =
      let rest : List ℤ = ready.0 in
      let head : cell c.channels i j ≡ value ∷ rest =
      subst (λ (x : ℕ). cell c.channels x j ≡ value ∷ rest) same
      (subst (λ (y : ℕ). cell c.channels source y ≡ value ∷ rest) own ready.1) in
      let now : channel_of d i j ≡ rest =
      ap (λ (g : Grid). cell g i j) leads
      ∙ subst (λ (y : ℕ). cell (change c.channels source y (drop 1)) i j ≡ rest) (sym own)
      (subst (λ (x : ℕ). cell (change c.channels x j (drop 1)) i j ≡ rest) (sym same)
      (cell-put_same c.channels i j (drop 1 (cell c.channels i j)) i_row j_cell ∙ ap (λ (l : List ℤ). drop 1 l) head)) in
      record {
        value = value;
        sends = once_none q i (target_in (command_of P q k)) j (λ o e. let wrong : None ≡ Some j = sym to ∙ e in (cc));
        gets = once_one q j (source_in (command_of P q k)) i own (from ∙ ap (λ (x : ℕ). Some x) same);
        takes = head ∙ ap (λ (l : List ℤ). value ∷ l) (sym now);
      }

  did_by : (move : Move) → target_in (command_of P q k) ≡ move_target move → source_in (command_of P q k) ≡ move_source move
      → IsReady move q c.channels → d.channels ≡ channels_after move q c.channels → Did P c d q k i j
  did_by Keeps to from ready leads =
      inr (inr (left_by Keeps to from (λ own e. (cc)) (λ own e. (cc)) (ap (λ (g : Grid). cell g i j) leads)))
  did_by (Puts target value) to from ready leads =
      let other : (q ≡ i → target ≢ j) → Did P c d q k i j = λ apart.
      inr (inr (left_by (Puts target value) to from (λ own e. let same : target ≡ j = cc in apart own same) (λ own e. (cc))
      (ap (λ (g : Grid). cell g i j) leads
      ∙ cell-put_other c.channels q target i j (cell c.channels q target ++ value ∷ []) apart))) in
      ⊎_elim
      (λ (own : q ≡ i). ⊎_elim
      (λ (same : target ≡ j). inl (put_by target value from leads own same))
      (λ (apart : target ≢ j). other (λ x. apart))
      (cases_eq target j))
      (λ (apart : q ≢ i). other (λ x. absurd (apart x)))
      (cases_eq q i)
  did_by (Takes source value) to from ready leads =
      let other : (source ≡ i → q ≢ j) → Did P c d q k i j = λ apart.
      inr (inr (left_by (Takes source value) to from (λ own e. (cc)) (λ own e. let same : source ≡ i = cc in apart same own)
      (ap (λ (g : Grid). cell g i j) leads ∙ cell-put_other c.channels source q i j (drop 1 (cell c.channels source q)) apart))) in
      ⊎_elim
      (λ (same : source ≡ i). ⊎_elim
      (λ (own : q ≡ j). inr (inl (took_by source value to from ready leads same own)))
      (λ (apart : q ≢ j). other (λ x. apart))
      (cases_eq q j))
      (λ (apart : source ≢ i). other (λ x. absurd (apart x)))
      (cases_eq source i)

  pub did : fire P c q k ≡ Ok d → Did P c d q k i j
  did fire_is =
      let f = fires (command_of P q k) c q d fire_is in
      did_by f.move f.sends f.receives f.ready (ap (λ (x : Configuration). x.channels) f.leads)

-- A value moves up by one place with each message that is received.

-- it has so many messages before it in the channel from i to j
pub record Behind (d : Configuration) (i j : ℕ) (value : ℤ) (places : ℕ) : Type 0 where
  pub prefix : List ℤ
  pub beyond : List ℤ
  pub is : channel_of d i j ≡ prefix ++ value ∷ beyond
  pub size : length prefix ≡ places

behind_put : (c d : Configuration) (i j : ℕ) (value last : ℤ) (places : ℕ) → channel_of d i j ≡ channel_of c i j ++ last ∷ []
    → Behind c i j value places → Behind d i j value places
behind_put c d i j value last places puts b = record {
  prefix = b.prefix;
  beyond = b.beyond ++ last ∷ [];
  is = puts ∙ ap (λ (l : List ℤ). l ++ last ∷ []) b.is ∙ append_assoc b.prefix (value ∷ b.beyond) (last ∷ []);
  size = b.size;
}

behind_took : (c d : Configuration) (i j : ℕ) (value head : ℤ) (places : ℕ) → channel_of c i j ≡ head ∷ channel_of d i j
    → Behind c i j value (suc places) → Behind d i j value places
behind_took c d i j value head places takes b = by b.prefix b.beyond b.is b.size
  where
    by : (prefix beyond : List ℤ) → channel_of c i j ≡ prefix ++ value ∷ beyond → length prefix ≡ suc places → Behind d i j value places
    by [] beyond is size = absurd (omega (arith, size))
    by (first ∷ prefix) beyond is size =
        let whole : head ∷ channel_of d i j ≡ first ∷ (prefix ++ value ∷ beyond) = sym takes ∙ is in
        record { prefix = prefix; beyond = beyond; is = cc; size = omega (arith, size) }

behind_left : (c d : Configuration) (i j : ℕ) (value : ℤ) (places : ℕ) → channel_of d i j ≡ channel_of c i j
    → Behind c i j value places → Behind d i j value places
behind_left c d i j value places same b =
    record { prefix = b.prefix; beyond = b.beyond; is = same ∙ b.is; size = b.size }

-- after all these events it is at the head
pub moved_up : (P : Program) (c d : Configuration) (H : History) (E : List Event) (i j : ℕ) (value : ℤ) (places : ℕ)
    → IsSquare (length P) c.channels → i < length P → j < length P → order_from P c E ≡ Ok d → IsOrderOf H E
    → gets_left P H j i ≡ places → Behind c i j value places → Behind d i j value 0
moved_up P c d H [] i j value places square i_there j_there legal empty gets b =
    let same : c ≡ d = cc in
    let none = no_counts H j (receives_from P j i) (none_left H j empty) in
    let is_0 : places ≡ 0 = omega (arith, none, gets) in
    subst (λ (x : Configuration). Behind x i j value 0) same (subst (λ (n : ℕ). Behind c i j value n) is_0 b)
moved_up P c d H (e ∷ E) i j value places square i_there j_there legal takes gets b =
    let step = first_step (fire P c e.process e.choice) (λ x. order_from P x E) d legal in
    let m : Configuration = step.0 in
    let count = gets_step P H e.process e.choice j i takes.0 takes.1 in
    let later = λ (n : ℕ) (left : gets_left P (set H e.process takes.0) j i ≡ n) (now : Behind m i j value n).
    moved_up P m d (set H e.process takes.0) E i j value n (square_fire P (length P) c m e.process e.choice step.1 square) i_there j_there
    step.2 takes.2 left now in
    by places gets b count later (did P c m e.process e.choice i j square i_there j_there step.1)
  where
    by : {m : Configuration} {left : ℕ} {Goal : Type 0} (n : ℕ) → gets_left P H j i ≡ n → Behind c i j value n
        → gets_left P H j i ≡ gets_by P e.process e.choice j i + left
        → ((k : ℕ) → left ≡ k → Behind m i j value k → Goal) → Did P c m e.process e.choice i j → Goal
    by {m} n gets b count later (inl put) =
        let none = put.gets in
        later n (omega (arith, gets, count, none)) (behind_put c m i j value put.value n put.puts b)
    by {m} zero gets b count later (inr (inl took)) = absurd (let one = took.gets in omega (arith, gets, count, one))
    by {m} (suc n) gets b count later (inr (inl took)) =
        let one = took.gets in
        later n (omega (arith, gets, count, one)) (behind_took c m i j value took.value n took.takes b)
    by {m} n gets b count later (inr (inr left)) =
        let none = left.gets in later n (omega (arith, gets, count, none)) (behind_left c m i j value n left.same b)
