-- A legal list of a prefix of a history can be continued to the end of the history. So one more choice makes the play one event longer, and
-- the last choice of a process fires after the play of the history without it.
use Rattle.std.proofs.Common.{◌≡◌, ◌≢◌, ℕ, suc, ◌+◌, ◌<◌, ◌≤◌, List, [], ◌∷◌, ◌++◌, length, get_or, set, map, Ok, refl, sym, ap, ◌∙◌}
use Rattle.std.proofs.Common.{subst, ⊎_elim, arith, replicate, append-nil}
use Rattle.std.proofs.lemmas.Bool.{cases_eq}
use Rattle.std.proofs.lemmas.List.{set-get_or, get_or-map, length-map, length-set, length-append, get_or_append_left, get_or_push}
use Rattle.std.proofs.lemmas.List.{get_or_past, get_or-set_same, get_or-set_other, length-replicate, ext_get_or}
use Rattle.dbg_base.specs.Trees.{Program}
use Rattle.dbg_base.specs.LocalStates.{LocalState, no_state, start_among}
use Rattle.dbg_base.specs.Configurations.{Configuration, start_of, state_in}
use Rattle.dbg_base.specs.Firing.{fire}
use Rattle.dbg_base.specs.Histories.{History, IsPossible, play, progress_of, local_state}
use Rattle.dbg_base.specs.Orders.{Event, order_from, order, with_last, states_from, states_of, with_state_of}
use Rattle.dbg_laws.proofs.OrderSwapLemmas.{IsEmpty, IsOrderOf, none_left, first_step, legal_after, bubble}
use Rattle.dbg_laws.proofs.PlayLemmas.{possible, listed, states_step, same_states}
use Rattle.dbg_laws.proofs.Lists.{push, push_same, push_other, set_push, push_set, push_set_other, length-push, none_in_replicate}
use Rattle.dbg_laws.proofs.Moves.{kept_state}

-- One more choice: the history stays possible, and its play and its local states are one event longer.

-- one list after another
pub order_both : (P : Program) (c d b : Configuration) (E F : List Event) → order_from P c E ≡ Ok d → order_from P d F ≡ Ok b
    → order_from P c (E ++ F) ≡ Ok b
order_both P c d b [] F first second =
    let same : c ≡ d = cc in
    subst (λ (x : Configuration). order_from P x F ≡ Ok b) (sym same) second
order_both P c d b (e ∷ E) F first second =
    let step = first_step (fire P c e.process e.choice) (λ x. order_from P x E) d first in
    legal_after P c step.0 b e (E ++ F) step.1 (order_both P step.0 d b E F step.2 second)

pub one_event : (P : Program) (c d : Configuration) (p k : ℕ) → fire P c p k ≡ Ok d
    → order_from P c (record { process = p; choice = k } ∷ []) ≡ Ok d
one_event P c d p k fires = legal_after P c d d (record { process = p; choice = k }) [] fires refl

-- one more choice at the end of an order
more_same : (H : History) (k : ℕ) (e : Event) (left : List ℕ) (E : List Event) → e.process < length H
    → get_or H e.process [] ≡ e.choice ∷ left → IsOrderOf (with_last (set H e.process left) e.process k) E
    → IsOrderOf (with_last H e.process k) (e ∷ E)
more_same H k e left E within prefix rest = (
  left ++ k ∷ [],
  push_same H e.process k within ∙ ap (λ (l : List ℕ). l ++ k ∷ []) prefix,
  subst (λ (X : History). IsOrderOf X E)
      (push_set H e.process k left within ∙ sym (set_push H e.process k (left ++ k ∷ []))) rest,
)

more_other : (H : History) (p k : ℕ) (e : Event) (left : List ℕ) (E : List Event) → e.process ≢ p
    → get_or H e.process [] ≡ e.choice ∷ left → IsOrderOf (with_last (set H e.process left) p k) E → IsOrderOf (with_last H p k) (e ∷ E)
more_other H p k e left E apart prefix rest = (
  left,
  push_other H p e.process k apart ∙ prefix,
  subst (λ (X : History). IsOrderOf X E) (push_set_other H p e.process k left apart) rest,
)

pub order_more : (H : History) (p k : ℕ) (E : List Event) → p < length H → IsOrderOf H E
    → IsOrderOf (with_last H p k) (E ++ record { process = p; choice = k } ∷ [])
order_more H p k [] within empty =
    let none : get_or H p [] ≡ [] = none_left H p empty in (
      [],
      push_same H p k within ∙ ap (λ (l : List ℕ). l ++ k ∷ []) none,
      subst IsEmpty
          (sym (set_push H p k [] ∙ ap (λ (l : List ℕ). set H p l) (sym none) ∙ set-get_or H p [])) empty,
    )
order_more H p k (e ∷ E) within takes =
    let rest = order_more (set H e.process takes.0) p k E (rw (length-set H e.process takes.0) within) takes.2 in
    let more : List Event = E ++ record { process = p; choice = k } ∷ [] in
    ⊎_elim
    (λ (same : e.process ≡ p).
    subst (λ (x : ℕ). x < length H → IsOrderOf (with_last (set H e.process takes.0) x k) more → IsOrderOf (with_last H x k) (e ∷ more))
    same (λ x y. more_same H k e takes.0 more x takes.1 y) within rest)
    (λ (apart : e.process ≢ p). more_other H p k e takes.0 more apart takes.1 rest)
    (cases_eq e.process p)

-- if H is possible and choice k of p fires after its play, H with k is possible, and its play ends where k leads
pub one_more : (P : Program) (H : History) (p k : ℕ) (d : Configuration) → IsPossible P H → p < length H → fire P (play P H) p k ≡ Ok d
    → IsPossible P (with_last H p k) × (play P (with_last H p k) ≡ d)
one_more P H p k d all within fires =
    let l = listed P H all in
    possible P (with_last H p k) (l.events ++ record { process = p; choice = k } ∷ []) d
    (order_both P (start_of P) (play P H) d l.events (record { process = p; choice = k } ∷ []) l.legal
    (one_event P (play P H) d p k fires))
    (order_more H p k l.events within l.takes)

-- the local states of one more event
states_append : (P : Program) (c d b : Configuration) (states : List (List LocalState)) (E : List Event) (e : Event)
    → order_from P c E ≡ Ok d → fire P d e.process e.choice ≡ Ok b
    → states_from P c states (E ++ e ∷ []) ≡ push (states_from P c states E) e.process (state_in b e.process)
states_append P c d b states [] e legal fires =
    let same : c ≡ d = cc in
    states_step P c b states e [] (subst (λ (x : Configuration). fire P x e.process e.choice ≡ Ok b) (sym same) fires)
states_append P c d b states (f ∷ E) e legal fires =
    let step = first_step (fire P c f.process f.choice) (λ x. order_from P x E) d legal in
    states_step P c step.0 states f (E ++ e ∷ []) step.1
    ∙ states_append P step.0 d b (with_state_of states f.process step.0) E e step.2 fires
    ∙ ap (λ (l : List (List LocalState)). push l e.process (state_in b e.process)) (sym (states_step P c step.0 states f E step.1))

pub states_more : (P : Program) (H : History) (p k : ℕ) (d : Configuration) → IsPossible P H → p < length H
    → fire P (play P H) p k ≡ Ok d
    → (progress_of P (with_last H p k)).states ≡ push (progress_of P H).states p (state_in d p)
states_more P H p k d all within fires =
    let l = listed P H all in
    let e : Event = record { process = p; choice = k } in
    let legal : order P (l.events ++ e ∷ []) ≡ Ok d =
    order_both P (start_of P) (play P H) d l.events (e ∷ []) l.legal (one_event P (play P H) d p k fires) in
    sym (same_states P (with_last H p k) (l.events ++ e ∷ []) d legal (order_more H p k l.events within l.takes)
    (one_more P H p k d all within fires).0)
    ∙ states_append P (start_of P) (play P H) d _ l.events e l.legal fires
    ∙ ap (λ (s : List (List LocalState)). push s p (state_in d p)) l.states

-- the n-th local state of process p exists, and is its local state at c
pub record IsStateAt (states : List (List LocalState)) (p n : ℕ) (c : Configuration) : Type 0 where
  pub there : p < length states
  pub size : length (get_or states p []) ≡ suc n
  pub last : get_or (get_or states p []) n no_state ≡ state_in c p

state_is_same : (states : List (List LocalState)) (p n : ℕ) (c d : Configuration) → IsStateAt states p n c
    → IsStateAt (with_state_of states p d) p (suc n) d
state_is_same states p n c d s =
    let line = get_or states p [] in
    let more : get_or (with_state_of states p d) p [] ≡ line ++ state_in d p ∷ [] = push_same states p (state_in d p) s.there in
    record {
      there = rw (length-push states p (state_in d p)) s.there;
      size = ap (λ (l : List LocalState). length l) more ∙ length-append line (state_in d p ∷ []) ∙ omega (arith, s.size);
      last = ap (λ (l : List LocalState). get_or l (suc n) no_state) more
          ∙ get_or_push line (state_in d p) no_state (suc n) s.size;
    }

state_is_other : (states : List (List LocalState)) (p q n : ℕ) (c d : Configuration) → p ≢ q → state_in d p ≡ state_in c p
    → IsStateAt states p n c → IsStateAt (with_state_of states q d) p n d
state_is_other states p q n c d apart kept s =
    let line : get_or (with_state_of states q d) p [] ≡ get_or states p [] = push_other states q p (state_in d q) apart in
    record {
      there = rw (length-push states q (state_in d q)) s.there;
      size = ap (λ (l : List LocalState). length l) line ∙ s.size;
      last = ap (λ (l : List LocalState). get_or l n no_state) line ∙ s.last ∙ sym kept;
    }

-- a process with a remaining choice exists
pub prefix_within : (H : History) (p k : ℕ) (rest : List ℕ) → get_or H p [] ≡ k ∷ rest → p < length H
prefix_within H p k rest prefix = grind (arith, get_or_past {X = List ℕ})

left_same : (H : History) (q p k n : ℕ) (rest : List ℕ) → q ≡ p → get_or H q [] ≡ k ∷ rest
    → suc n + length (get_or (set H q rest) p []) ≡ n + length (get_or H p [])
left_same H q p k n rest same prefix =
    let now : get_or (set H q rest) q [] ≡ rest = get_or-set_same H q rest [] (prefix_within H q k rest prefix) in
    let size : length (get_or (set H q rest) q []) ≡ length rest = ap (λ (l : List ℕ). length l) now in
    let before : length (get_or H q []) ≡ suc (length rest) = ap (λ (l : List ℕ). length l) prefix in
    let sum : suc n + length (get_or (set H q rest) q []) ≡ n + length (get_or H q []) = omega arith in
    subst (λ (x : ℕ). suc n + length (get_or (set H q rest) x []) ≡ n + length (get_or H x [])) same sum

left_other : (H : History) (q p n : ℕ) (rest : List ℕ) → q ≢ p
    → n + length (get_or (set H q rest) p []) ≡ n + length (get_or H p [])
left_other H q p n rest apart =
    ap (λ (l : List ℕ). n + length l) (get_or-set_other H q p rest [] (λ (x : p ≡ q). apart (sym x)))

state_is_there : (P : Program) (c d : Configuration) (states : List (List LocalState)) (H : History) (E : List Event) (p n : ℕ)
    → order_from P c E ≡ Ok d → IsOrderOf H E → IsStateAt states p n c
    → IsStateAt (states_from P c states E) p (n + length (get_or H p [])) d
state_is_there P c d states H [] p n legal empty s =
    let none : length (get_or H p []) ≡ 0 = ap (λ (l : List ℕ). length l) (none_left H p empty) in
    let same : n ≡ n + length (get_or H p []) = omega arith in
    let here : c ≡ d = cc in
    subst (λ (x : Configuration). IsStateAt states p (n + length (get_or H p [])) x) here (subst (λ (m : ℕ). IsStateAt states p m c) same s)
state_is_there P c d states H (e ∷ E) p n legal takes s =
    let step = first_step (fire P c e.process e.choice) (λ x. order_from P x E) d legal in
    let after = set H e.process takes.0 in
    let later = λ (m : ℕ) (t : IsStateAt (with_state_of states e.process step.0) p m step.0).
    state_is_there P step.0 d (with_state_of states e.process step.0) after E p m step.2 takes.2 t in
    subst (λ (x : List (List LocalState)). IsStateAt x p (n + length (get_or H p [])) d)
    (sym (states_step P c step.0 states e E step.1))
    (⊎_elim
    (λ (same : e.process ≡ p).
    let size : suc n + length (get_or after p []) ≡ n + length (get_or H p []) =
    left_same H e.process p e.choice n takes.0 same takes.1 in
    subst (λ (m : ℕ). IsStateAt (states_from P step.0 (with_state_of states e.process step.0) E) p m d) size
    (later (suc n) (subst (λ (x : ℕ). IsStateAt (with_state_of states x step.0) p (suc n) step.0) (sym same)
    (state_is_same states p n c step.0 s))))
    (λ (apart : e.process ≢ p).
    let size : n + length (get_or after p []) ≡ n + length (get_or H p []) =
    left_other H e.process p n takes.0 apart in
    subst (λ (m : ℕ). IsStateAt (states_from P step.0 (with_state_of states e.process step.0) E) p m d) size
    (later n (state_is_other states p e.process n c step.0 (λ (x : p ≡ e.process). apart (sym x))
    (kept_state P c step.0 e.process e.choice p apart step.1) s)))
    (cases_eq e.process p))

starts : (P : Program) (p : ℕ) → p < length P → IsStateAt (map (λ state. state ∷ []) (start_of P).states) p 0 (start_of P)
starts P p within =
    let start = (start_of P).states in
    let here : p < length start = rw (length-map P (start_among (length P))) within in
    let line : get_or (map (λ (state : LocalState). state ∷ []) start) p [] ≡ get_or start p no_state ∷ [] =
    get_or-map (λ (state : LocalState). state ∷ []) start p no_state [] here in
    record {
      there = rw (length-map start (λ (state : LocalState). state ∷ [])) here;
      size = ap (λ (l : List LocalState). length l) line;
      last = ap (λ (l : List LocalState). get_or l 0 no_state) line;
    }

-- in the play of a possible history each process makes all its choices, and its last local state is that of the play
pub last_is_there : (P : Program) (H : History) (p : ℕ) → IsPossible P H → p < length P
    → IsStateAt (progress_of P H).states p (length (get_or H p [])) (play P H)
last_is_there P H p all within =
    let l = listed P H all in
    let opening = map (λ (state : LocalState). state ∷ []) (start_of P).states in
    let s = state_is_there P (start_of P) (play P H) opening H l.events p 0 l.legal l.takes (starts P p within) in
    let size : 0 + length (get_or H p []) ≡ length (get_or H p []) = omega arith in
    subst (λ (x : List (List LocalState)). IsStateAt x p (length (get_or H p [])) (play P H)) l.states
    (subst (λ (m : ℕ). IsStateAt (states_of P l.events) p m (play P H)) size s)

pub last_state : (P : Program) (H : History) (p : ℕ) → IsPossible P H → p < length P
    → local_state P H p (length (get_or H p [])) ≡ state_in (play P H) p
last_state P H p all within = (last_is_there P H p all within).last

-- earlier local states stay when one more choice is made
pub local_kept : (P : Program) (H : History) (p k q n : ℕ) (d : Configuration) → IsPossible P H → p < length H
    → fire P (play P H) p k ≡ Ok d → q < length P → n ≤ length (get_or H q [])
    → local_state P (with_last H p k) q n ≡ local_state P H q n
local_kept P H p k q n d all within fires there few =
    let states = (progress_of P H).states in
    let s = last_is_there P H q all there in
    ap (λ (x : List (List LocalState)). get_or (get_or x q []) n no_state) (states_more P H p k d all within fires)
    ∙ ⊎_elim
    (λ (same : q ≡ p).
    subst (λ (x : ℕ). get_or (get_or (push states x (state_in d x)) q []) n no_state ≡ get_or (get_or states q []) n no_state) same
    (ap (λ (l : List LocalState). get_or l n no_state) (push_same states q (state_in d q) s.there)
    ∙ get_or_append_left (get_or states q []) (state_in d q ∷ []) no_state n (omega (arith, s.size))))
    (λ (apart : q ≢ p). ap (λ (l : List LocalState). get_or l n no_state) (push_other states p q (state_in d p) apart))
    (cases_eq q p)

-- A legal list of a prefix of a history can be continued to its end.

-- the events take the first choices off the lines of H, one by one, and leave R
abbrev pub Leaves : History → List Event → History → Type 0
Leaves H [] R = H ≡ R
Leaves H (e ∷ E) R = (rest : List ℕ) × (get_or H e.process [] ≡ e.choice ∷ rest) × Leaves (set H e.process rest) E R

-- from the end of F, a list continues with what F leaves
pub record Extended (P : Program) (b d : Configuration) (R : History) : Type 0 where
  pub events : List Event
  pub legal : order_from P b events ≡ Ok d
  pub takes : IsOrderOf R events

pub extends : (P : Program) (c d b : Configuration) (H R : History) (E F : List Event) → order_from P c E ≡ Ok d → IsOrderOf H E
    → order_from P c F ≡ Ok b → Leaves H F R → Extended P b d R
extends P c d b H R E [] legal takes other leaves =
    let same : c ≡ b = cc in
    record {
      events = E;
      legal = subst (λ (x : Configuration). order_from P x E ≡ Ok d) same legal;
      takes = subst (λ (x : History). IsOrderOf x E) leaves takes;
    }
extends P c d b H R E (f ∷ F) legal takes other leaves =
    let step = first_step (fire P c f.process f.choice) (λ x. order_from P x F) b other in
    let first = bubble P c step.0 d H f leaves.0 E legal takes leaves.1 step.1 in
    extends P step.0 d b (set H f.process leaves.0) R first.others F first.legal first.order step.2 leaves.2

-- each line of H is a line of the prefix followed by a line of the rest
pub record IsSplit (H prefix rest : History) : Type 0 where
  pub size : length H ≡ length rest
  pub lines : (q : ℕ) → get_or H q [] ≡ get_or prefix q [] ++ get_or rest q []

pub split_after : (H prefix rest : History) (p k : ℕ) (left : List ℕ) → get_or prefix p [] ≡ k ∷ left → p < length H → IsSplit H prefix rest
    → IsSplit (set H p (left ++ get_or rest p [])) (set prefix p left) rest
split_after H prefix rest p k left e within s = record {
  size = length-set H p (left ++ get_or rest p []) ∙ s.size;
  lines = λ q. ⊎_elim
      (λ (same : p ≡ q). subst
      (λ (x : ℕ). get_or (set H p (left ++ get_or rest p [])) x [] ≡ get_or (set prefix p left) x [] ++ get_or rest x []) same
      (get_or-set_same H p (left ++ get_or rest p []) [] within
      ∙ ap (λ (l : List ℕ). l ++ get_or rest p []) (sym (get_or-set_same prefix p left [] (prefix_within prefix p k left e)))))
      (λ (apart : p ≢ q).
      let back : q ≢ p = λ x. apart (sym x) in
      get_or-set_other H p q (left ++ get_or rest p []) [] back
      ∙ s.lines q
      ∙ ap (λ (l : List ℕ). l ++ get_or rest q []) (sym (get_or-set_other prefix p q left [] back)))
      (cases_eq p q);
}

pub leaves : (H prefix rest : History) (F : List Event) → IsOrderOf prefix F → IsSplit H prefix rest → Leaves H F rest
leaves H prefix rest [] empty s =
    ext_get_or [] H rest s.size (λ q within. s.lines q ∙ ap (λ (l : List ℕ). l ++ get_or rest q []) (none_left prefix q empty))
leaves H prefix rest (f ∷ F) takes s =
    let there : get_or H f.process [] ≡ f.choice ∷ (takes.0 ++ get_or rest f.process []) =
    s.lines f.process ∙ ap (λ (l : List ℕ). l ++ get_or rest f.process []) takes.1 in (
      takes.0 ++ get_or rest f.process [],
      there,
      leaves (set H f.process (takes.0 ++ get_or rest f.process [])) (set prefix f.process takes.0) rest F takes.2
          (split_after H prefix rest f.process f.choice takes.0 takes.1
          (prefix_within H f.process f.choice (takes.0 ++ get_or rest f.process []) there) s),
    )

-- one choice alone
abbrev no_choices : ℕ → History
no_choices n = replicate n []

abbrev alone : ℕ → ℕ → ℕ → History
alone n p k = set (no_choices n) p (k ∷ [])

alone_same : (n p k : ℕ) → p < n → get_or (alone n p k) p [] ≡ k ∷ []
alone_same n p k within = get_or-set_same (no_choices n) p (k ∷ []) [] (rw (length-replicate {A = List ℕ} n []) within)

alone_other : (n p q k : ℕ) → q ≢ p → get_or (alone n p k) q [] ≡ []
alone_other n p q k apart = get_or-set_other (no_choices n) p q (k ∷ []) [] apart ∙ none_in_replicate n q

split_last : (B : History) (p k : ℕ) → p < length B → IsSplit (with_last B p k) B (alone (length B) p k)
split_last B p k within = record {
  size = length-push B p k ∙ sym (length-set (no_choices (length B)) p (k ∷ []) ∙ length-replicate {A = List ℕ} (length B) []);
  lines = λ q. ⊎_elim
      (λ (same : p ≡ q). subst
      (λ (x : ℕ). get_or (with_last B p k) x [] ≡ get_or B x [] ++ get_or (alone (length B) p k) x []) same
      (push_same B p k within ∙ ap (λ (l : List ℕ). get_or B p [] ++ l) (sym (alone_same (length B) p k within))))
      (λ (apart : p ≢ q).
      let back : q ≢ p = λ x. apart (sym x) in
      push_other B p q k back
      ∙ sym (append-nil (get_or B q []))
      ∙ ap (λ (l : List ℕ). get_or B q [] ++ l) (sym (alone_other (length B) p q k back)))
      (cases_eq p q);
}

-- an order of no choices changes nothing
nothing_left : (P : Program) (m d : Configuration) (H : History) (E : List Event) → ((q : ℕ) → get_or H q [] ≡ [])
    → order_from P m E ≡ Ok d → IsOrderOf H E → m ≡ d
nothing_left P m d H [] none legal takes = cc
nothing_left P m d H (e ∷ E) none legal takes = absurd (let empty = none e.process in let some = takes.1 in cc)

none_after : (n p q k : ℕ) → p < n → get_or (set (alone n p k) p []) q [] ≡ []
none_after n p q k within =
    ⊎_elim
    (λ (same : p ≡ q). subst (λ (x : ℕ). get_or (set (alone n p k) p []) x [] ≡ []) same
    (get_or-set_same (alone n p k) p [] [] (rw (length-set (no_choices n) p (k ∷ []), length-replicate {A = List ℕ} n []) within)))
    (λ (apart : p ≢ q).
    let back : q ≢ p = λ x. apart (sym x) in
    get_or-set_other (alone n p k) p q [] [] back ∙ alone_other n p q k back)
    (cases_eq p q)

-- an order of one choice alone is that event
alone_here : (P : Program) (b m d : Configuration) (n p k q l : ℕ) (rest : List ℕ) (E : List Event) → p < n → q ≡ p
    → get_or (alone n p k) q [] ≡ l ∷ rest → fire P b q l ≡ Ok m → order_from P m E ≡ Ok d
    → IsOrderOf (set (alone n p k) q rest) E → fire P b p k ≡ Ok d
alone_here P b m d n p k q l rest E within same prefix fires legal takes =
    let some = alone_same n p k within in
    let here : get_or (alone n p k) p [] ≡ l ∷ rest = subst (λ (x : ℕ). get_or (alone n p k) x [] ≡ l ∷ rest) same prefix in
    let choice : l ≡ k = cc in
    let none : rest ≡ [] = cc in
    let last : m ≡ d = nothing_left P m d (set (alone n p k) p []) E (λ x. none_after n p x k within) legal
    (subst (λ (x : ℕ). IsOrderOf (set (alone n p k) x []) E) same
    (subst (λ (l : List ℕ). IsOrderOf (set (alone n p k) q l) E) none takes)) in
    subst (λ (x : ℕ). fire P b x k ≡ Ok d) same
    (subst (λ (x : ℕ). fire P b q x ≡ Ok d) choice (fires ∙ ap (λ (x : Configuration). Ok x) last))

alone_fires : (P : Program) (b d : Configuration) (n p k : ℕ) (E : List Event) → p < n → order_from P b E ≡ Ok d
    → IsOrderOf (alone n p k) E → fire P b p k ≡ Ok d
alone_fires P b d n p k [] within legal empty =
    absurd (let none : get_or (alone n p k) p [] ≡ [] = none_left (alone n p k) p empty in let some = alone_same n p k within in cc)
alone_fires P b d n p k (e ∷ E) within legal takes =
    let step = first_step (fire P b e.process e.choice) (λ x. order_from P x E) d legal in
    ⊎_elim
    (λ (same : e.process ≡ p).
    alone_here P b step.0 d n p k e.process e.choice takes.0 E within same takes.1 step.1 step.2 takes.2)
    (λ (apart : e.process ≢ p). absurd (let none = alone_other n p e.process k apart in let some = takes.1 in cc))
    (cases_eq e.process p)

-- If B is possible, and B with one more choice k of p is possible, k fires after the play of B and leads to the play of the longer history.
pub last_fires : (P : Program) (B : History) (p k : ℕ) → p < length B → IsPossible P B → IsPossible P (with_last B p k)
    → fire P (play P B) p k ≡ Ok (play P (with_last B p k))
last_fires P B p k within shorter longer =
    let s = listed P B shorter in
    let l = listed P (with_last B p k) longer in
    let rest = extends P (start_of P) (play P (with_last B p k)) (play P B) (with_last B p k) (alone (length B) p k) l.events s.events
    l.legal l.takes s.legal (leaves (with_last B p k) B (alone (length B) p k) s.events s.takes (split_last B p k within)) in
    alone_fires P (play P B) (play P (with_last B p k)) (length B) p k rest.events within rest.legal rest.takes
