-- The event that sends a message puts a value at the tail of the channel, and the event that receives it takes this value from the head.
use Rattle.std.proofs.Common.{◌≡◌, ◌≢◌, inl, inr, ⊎_elim, ℕ, ℤ, zero, suc, ◌<◌, Bool, true, cond, List, [], ◌∷◌, ◌++◌, length}
use Rattle.std.proofs.Common.{get_or, set, take, replicate, Ok, refl, sym, ap, ◌∙◌, subst, arith, count_by, append_assoc}
use Rattle.std.proofs.lemmas.Bool.{cases_eq, eq-eqb}
use Rattle.std.proofs.lemmas.List.{get_or-set_same, get_or-set_other, get_or-replicate, take_at}
use Rattle.std.proofs.lemmas.List.Sums.{sum_by-append}
use Rattle.dbg_base.specs.Trees.{Program}
use Rattle.dbg_base.specs.Configurations.{Configuration, start_of, channel_of}
use Rattle.dbg_base.specs.Firing.{fire}
use Rattle.dbg_base.specs.Histories.{History}
use Rattle.dbg_base.specs.Orders.{Event, order, order_from, choices_of}
use Rattle.dbg_base.specs.Counts.{sends_to, receives_from}
use Rattle.dbg_base.specs.Reference.{line, IsMessage, ByMessage, Happens}
use Rattle.dbg_laws.proofs.Lists.{none_in_replicate}
use Rattle.dbg_laws.proofs.OrderSwapLemmas.{first_step, is_there, length-choices_of, takes}
use Rattle.dbg_laws.proofs.PrefixLemmas.{order_both, one_event}
use Rattle.dbg_laws.proofs.ChannelSizeLemmas.{IsSquare, square_start, square_fire, square_order}
use Rattle.dbg_laws.proofs.ChannelBalanceLemmas.{gets_left, sends_by, gets_by, balanced}
use Rattle.dbg_laws.proofs.UndoLemmas.{within_by}
use Rattle.dbg_laws.proofs.ForwardLemmas.{line_append, first_part, stands_before}
use Rattle.dbg_laws.proofs.ChannelStepLemmas.{Put, Took, Did, did, Behind, moved_up}

-- Where an event is in a list.

-- the choices of one more event before the others
line_own : (n : ℕ) (e : Event) (E : List Event) (q : ℕ) → q < n → e.process ≡ q
    → get_or (choices_of n (e ∷ E)) q [] ≡ e.choice ∷ get_or (choices_of n E) q []
line_own n e E q here same =
    let X : History = choices_of n E in
    let size = length-choices_of n E in
    subst (λ (x : ℕ). get_or (set X x (e.choice ∷ get_or X x [])) q [] ≡ e.choice ∷ get_or X q []) (sym same)
    (get_or-set_same X q (e.choice ∷ get_or X q []) [] (omega (arith, here, size)))

line_apart : (n : ℕ) (e : Event) (E : List Event) (q : ℕ) → e.process ≢ q
    → get_or (choices_of n (e ∷ E)) q [] ≡ get_or (choices_of n E) q []
line_apart n e E q apart =
    get_or-set_other (choices_of n E) e.process q (e.choice ∷ get_or (choices_of n E) e.process []) [] (λ (x : q ≡ e.process). apart (sym x))

-- event m of process p in a list
record Placed (n p m : ℕ) (E : List Event) : Type 0 where
  before : List Event
  event : Event
  after : List Event
  is : E ≡ before ++ event ∷ after
  own : event.process ≡ p
  nth : length (get_or (choices_of n before) p []) ≡ m

placed_own : (n p m : ℕ) (e : Event) (E : List Event) → p < n → e.process ≡ p → m < length (get_or (choices_of n (e ∷ E)) p [])
    → ((k : ℕ) → k < length (get_or (choices_of n E) p []) → Placed n p k E) → Placed n p m (e ∷ E)
placed_own n p zero e E here same less later = record {
  before = [];
  event = e;
  after = E;
  is = refl;
  own = same;
  nth = ap (λ (l : List ℕ). length l) (none_in_replicate {A = ℕ} n p);
}
placed_own n p (suc m) e E here same less later =
    let size = ap (λ (l : List ℕ). length l) (line_own n e E p here same) in
    let l = later m (omega (arith, less, size)) in
    record {
      before = e ∷ l.before;
      event = l.event;
      after = l.after;
      is = ap (λ (X : List Event). e ∷ X) l.is;
      own = l.own;
      nth = ap (λ (c : List ℕ). length c) (line_own n e l.before p here same) ∙ ap suc l.nth;
    }

placed : (n p m : ℕ) (E : List Event) → p < n → m < length (get_or (choices_of n E) p []) → Placed n p m E
placed n p m [] here less =
    absurd (let none = ap (λ (l : List ℕ). length l) (none_in_replicate {A = ℕ} n p) in omega (arith, less, none))
placed n p m (e ∷ E) here less =
    ⊎_elim
    (λ (same : e.process ≡ p). placed_own n p m e E here same less (λ k few. placed n p k E here few))
    (λ (apart : e.process ≢ p).
    let size = ap (λ (l : List ℕ). length l) (line_apart n e E p apart) in
    let l = placed n p m E here (omega (arith, less, size)) in
    record {
      before = e ∷ l.before;
      event = l.event;
      after = l.after;
      is = ap (λ (X : List Event). e ∷ X) l.is;
      own = l.own;
      nth = ap (λ (c : List ℕ). length c) (line_apart n e l.before p apart) ∙ l.nth;
    })
    (cases_eq e.process p)

at_end : (l r : List ℕ) (x : ℕ) → get_or (l ++ x ∷ r) (length l) 0 ≡ x
at_end [] r x = refl
at_end (k ∷ l) r x = at_end l r x

-- the choice of the event at a place
choice_at : (n : ℕ) (A B : List Event) (e : Event) → e.process < n
    → get_or (get_or (choices_of n (A ++ e ∷ B)) e.process []) (length (get_or (choices_of n A) e.process [])) 0 ≡ e.choice
choice_at n A B e here =
    let p : ℕ = e.process in
    ap (λ (l : List ℕ). get_or l (length (get_or (choices_of n A) p [])) 0)
    (line_append n A (e ∷ B) p
    ∙ ap (λ (l : List ℕ). get_or (choices_of n A) p [] ++ l) (line_own n e B p here refl))
    ∙ at_end (get_or (choices_of n A) p []) (get_or (choices_of n B) p []) e.choice

-- the choices before it
choices_before : (n : ℕ) (A B : List Event) (p : ℕ)
    → take (length (get_or (choices_of n A) p [])) (get_or (choices_of n (A ++ B)) p []) ≡ get_or (choices_of n A) p []
choices_before n A B p =
    ap (λ (l : List ℕ). take (length (get_or (choices_of n A) p [])) l) (line_append n A B p)
    ∙ take_at (get_or (choices_of n A) p []) (get_or (choices_of n B) p []) (length (get_or (choices_of n A) p [])) refl

-- One value is put at the tail by event m of process i, and taken from the head by event n of process j.
abbrev pub Handed : Program → List Event → ℕ → ℕ → ℕ → ℕ → Type 0
Handed P E i m j n = (value : ℤ) × (a b c d : Configuration) × Happens P E i m a b
    × (channel_of b i j ≡ channel_of a i j ++ value ∷ []) × Happens P E j n c d × (channel_of c i j ≡ value ∷ channel_of d i j)

-- The event s happens at a and leads to b. Then T leads to c, where r happens, which leads to d. It receives the message of s.
module _ (P : Program) (S T B : List Event) (s r : Event) (a b c d : Configuration) (first : order P S ≡ Ok a)
    (s_fires : fire P a s.process s.choice ≡ Ok b) (between : order_from P b T ≡ Ok c) (whole : order P (S ++ s ∷ T) ≡ Ok c)
    (r_fires : fire P c r.process r.choice ≡ Ok d) where
  abbrev A : List Event
  A = S ++ s ∷ T

  abbrev F : List Event
  F = A ++ r ∷ B

  abbrev i : ℕ
  i = s.process

  abbrev j : ℕ
  j = r.process

  module _ (x : IsMessage P F i (length (line P S i)) j (length (line P A j))) where
    i_there : i < length P
    i_there = is_there P a b i s.choice s_fires

    j_there : j < length P
    j_there = is_there P c d j r.choice r_fires

    square_s : IsSquare (length P) a.channels
    square_s = square_order P (length P) (start_of P) a S first (square_start P)

    square_r : IsSquare (length P) c.channels
    square_r = square_order P (length P) (start_of P) c A whole (square_start P)

    regrouped : F ≡ S ++ s ∷ (T ++ r ∷ B)
    regrouped = append_assoc S (s ∷ T) (r ∷ B)

    sends : sends_to P i j s.choice ≡ true
    sends =
        subst (λ (k : ℕ). sends_to P i j k ≡ true)
        (ap (λ (X : List Event). get_or (line P X i) (length (line P S i)) 0) regrouped
        ∙ choice_at (length P) S (T ++ r ∷ B) s i_there) x.sends

    receives : receives_from P j i r.choice ≡ true
    receives = subst (λ (k : ℕ). receives_from P j i k ≡ true) (choice_at (length P) A B r j_there) x.receives

    put : Put P a b i s.choice i j
    put = by (did P a b i s.choice i j square_s i_there j_there s_fires)
      where
        one : sends_by P i s.choice i j ≡ 1
        one =
            ap (λ (b : Bool). cond b (cond (sends_to P i j s.choice) 1 0) 0) (eq-eqb i i refl)
            ∙ ap (λ (b : Bool). cond {A = ℕ} b 1 0) sends

        by : Did P a b i s.choice i j → Put P a b i s.choice i j
        by (inl is) = is
        by (inr (inl is)) = absurd (let none = is.sends in let some = one in omega (arith, none, some))
        by (inr (inr is)) = absurd (let none = is.sends in let some = one in omega (arith, none, some))

    took : Took P c d j r.choice i j
    took = by (did P c d j r.choice i j square_r i_there j_there r_fires)
      where
        one : gets_by P j r.choice j i ≡ 1
        one =
            ap (λ (b : Bool). cond b (cond (receives_from P j i r.choice) 1 0) 0) (eq-eqb j j refl)
            ∙ ap (λ (b : Bool). cond {A = ℕ} b 1 0) receives

        by : Did P c d j r.choice i j → Took P c d j r.choice i j
        by (inl is) = absurd (let none = is.gets in let some = one in omega (arith, none, some))
        by (inr (inl is)) = is
        by (inr (inr is)) = absurd (let none = is.gets in let some = one in omega (arith, none, some))

    -- between the two events, as many messages are received as are in the channel when the first happens
    gets_between : gets_left P (choices_of (length P) T) j i ≡ length (channel_of a i j)
    gets_between =
        let none = ap (λ (l : List ℤ). length l)
        (ap (λ (columns : List (List ℤ)). get_or columns j [])
        (get_or-replicate (length P) i (replicate (length P) []) [] i_there) ∙ none_in_replicate (length P) j) in
        let balance = balanced P (start_of P) a (choices_of (length P) S) S i j (square_start P) i_there j_there first
        (takes P (start_of P) a S first) in
        let before_s = ap (λ (l : List ℕ). count_by (sends_to P i j) l)
        (ap (λ (X : List Event). take (length (line P S i)) (line P X i)) regrouped
        ∙ choices_before (length P) S (s ∷ (T ++ r ∷ B)) i) in
        let before_r = ap (λ (l : List ℕ). count_by (receives_from P j i) l) (choices_before (length P) A (r ∷ B) j) in
        let parts = ap (λ (l : List ℕ). count_by (receives_from P j i) l)
        (line_append (length P) S (s ∷ T) j ∙ ap (λ (l : List ℕ). line P S j ++ l) (line_apart (length P) s T j x.apart)) in
        let sum = sum_by-append (λ (k : ℕ). cond (receives_from P j i k) 1 0) (line P S j) (line P T j) in
        let same = x.same in
        omega (arith, none, balance, before_s, before_r, parts, sum, same)

    at_head : Behind c i j put.value 0
    at_head =
        moved_up P b c (choices_of (length P) T) T i j put.value (length (channel_of a i j))
        (square_fire P (length P) a b i s.choice s_fires square_s) i_there j_there between
        (takes P b c T between) gets_between
        (record { prefix = channel_of a i j; beyond = []; is = put.puts; size = refl })

    head_is : (prefix beyond : List ℤ) → channel_of c i j ≡ prefix ++ put.value ∷ beyond → length prefix ≡ 0
        → channel_of c i j ≡ put.value ∷ channel_of d i j
    head_is [] beyond is none =
        let both : put.value ∷ beyond ≡ took.value ∷ channel_of d i j = sym is ∙ took.takes in
        let same : took.value ≡ put.value = cc in
        took.takes ∙ ap (λ (v : ℤ). v ∷ channel_of d i j) same
    head_is (x ∷ prefix) beyond is none = absurd (omega (arith, none))

    handed_between : Handed P F i (length (line P S i)) j (length (line P A j))
    handed_between = (
      put.value,
      a,
      b,
      c,
      d,
      (
        S,
        T ++ r ∷ B,
        s,
        regrouped,
        refl,
        refl,
        first,
        order_both P (start_of P) a b S (s ∷ []) first (one_event P a b i s.choice s_fires),
      ),
      put.puts,
      (
        A,
        B,
        r,
        refl,
        refl,
        refl,
        whole,
        order_both P (start_of P) c d A (r ∷ []) whole (one_event P c d j r.choice r_fires),
      ),
      head_is at_head.prefix at_head.beyond at_head.is at_head.size,
    )

handed_parts : (P : Program) (S T B : List Event) (s r : Event) (d : Configuration) → order P ((S ++ s ∷ T) ++ r ∷ B) ≡ Ok d
    → IsMessage P ((S ++ s ∷ T) ++ r ∷ B) s.process (length (line P S s.process)) r.process (length (line P (S ++ s ∷ T) r.process))
    → Handed P ((S ++ s ∷ T) ++ r ∷ B) s.process (length (line P S s.process)) r.process (length (line P (S ++ s ∷ T) r.process))
handed_parts P S T B s r d legal x =
    let at_r = first_part P (start_of P) d (S ++ s ∷ T) (r ∷ B) legal in
    let at_s = first_part P (start_of P) at_r.0 S (s ∷ T) at_r.1 in
    let s_fires = first_step (fire P at_s.0 s.process s.choice) (λ y. order_from P y T) at_r.0 at_s.2 in
    let r_fires = first_step (fire P at_r.0 r.process r.choice) (λ y. order_from P y B) d at_r.2 in
    handed_between P S T B s r at_s.0 s_fires.0 at_r.0 r_fires.0 at_s.1 s_fires.1 s_fires.2 at_r.1 r_fires.1 x

-- the send is in each prefix that has the receive
handed_at : (P : Program) (A B : List Event) (r : Event) (c : Configuration) → order P (A ++ r ∷ B) ≡ Ok c → (i m : ℕ)
    → IsMessage P (A ++ r ∷ B) i m r.process (length (line P A r.process)) → Handed P (A ++ r ∷ B) i m r.process (length (line P A r.process))
handed_at P A B r c legal i m x =
    let sent = stands_before P A B r c legal i m (ByMessage x) in
    let within = within_by (choices_of (length P) A) i (omega (arith, sent)) in
    let size = length-choices_of (length P) A in
    let p = placed (length P) i m A (omega (arith, within, size)) sent in
    subst (λ (X : List Event). order P (X ++ r ∷ B) ≡ Ok c → IsMessage P (X ++ r ∷ B) i m r.process (length (line P X r.process))
    → Handed P (X ++ r ∷ B) i m r.process (length (line P X r.process))) (sym p.is)
    (subst (λ (q : ℕ). length (line P p.before q) ≡ m → order P ((p.before ++ p.event ∷ p.after) ++ r ∷ B) ≡ Ok c
    → IsMessage P ((p.before ++ p.event ∷ p.after) ++ r ∷ B) q m r.process (length (line P (p.before ++ p.event ∷ p.after) r.process))
    → Handed P ((p.before ++ p.event ∷ p.after) ++ r ∷ B) q m r.process (length (line P (p.before ++ p.event ∷ p.after) r.process))) p.own
    (λ nth.
    subst (λ (o : ℕ). order P ((p.before ++ p.event ∷ p.after) ++ r ∷ B) ≡ Ok c
    → IsMessage P ((p.before ++ p.event ∷ p.after) ++ r ∷ B) p.event.process o r.process
    (length (line P (p.before ++ p.event ∷ p.after) r.process))
    → Handed P ((p.before ++ p.event ∷ p.after) ++ r ∷ B) p.event.process o r.process
    (length (line P (p.before ++ p.event ∷ p.after) r.process))) nth
    (λ fires y. handed_parts P p.before p.after B p.event r c fires y)) p.nth) legal x

pub handed : (P : Program) (E : List Event) (c : Configuration) → order P E ≡ Ok c → (i m j n : ℕ) → IsMessage P E i m j n
    → Handed P E i m j n
handed P E c legal i m j n x =
    let received = x.received in
    let p = placed (length P) j n E (there (omega (arith, received))) received in
    subst (λ (X : List Event). order P X ≡ Ok c → IsMessage P X i m j n → Handed P X i m j n) (sym p.is)
    (subst (λ (q : ℕ). length (line P p.before q) ≡ n → order P (p.before ++ p.event ∷ p.after) ≡ Ok c
    → IsMessage P (p.before ++ p.event ∷ p.after) i m q n → Handed P (p.before ++ p.event ∷ p.after) i m q n) p.own
    (λ nth.
    subst (λ (o : ℕ). order P (p.before ++ p.event ∷ p.after) ≡ Ok c → IsMessage P (p.before ++ p.event ∷ p.after) i m p.event.process o
    → Handed P (p.before ++ p.event ∷ p.after) i m p.event.process o) nth
    (λ fires y. handed_at P p.before p.after p.event c fires i m y)) p.nth) legal x
  where
    there : 0 < length (line P E j) → j < length P
    there some =
        let within = within_by (choices_of (length P) E) j some in
        let size = length-choices_of (length P) E in
        omega (arith, within, size)
