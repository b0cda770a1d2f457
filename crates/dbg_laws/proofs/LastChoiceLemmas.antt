-- In the play, the last choice of a process is followed by events of other processes. It moves after all of these, unless one of them
-- received its message.
use Rattle.std.proofs.Common.{◌≡◌, ◌≢◌, ℕ, ℤ, ◌<◌, ◌≤◌, List, [], ◌∷◌, ◌++◌, length, get_or, set, drop, Some, Ok, refl, sym, ap, ◌∙◌}
use Rattle.std.proofs.Common.{subst, ⊎_elim, arith, zero, suc, Option, None}
use Rattle.std.proofs.lemmas.Bool.{cases_eq}
use Rattle.std.proofs.lemmas.List.{get_or-set_other, length-set, set-get_or}
use Rattle.dbg_base.specs.Trees.{Program, command_of}
use Rattle.dbg_base.specs.Configurations.{Configuration, channel_of}
use Rattle.dbg_base.specs.Firing.{fire}
use Rattle.dbg_base.specs.Histories.{History, Progress, opening_of, moved, next_move, go_on, play_moves, choice_count, play, IsPossible}
use Rattle.dbg_base.specs.Orders.{Event, order_from, target_in, source_in, with_last}
use Rattle.dbg_base.specs.Reversal.{where_none, last_or_later, last_from}
use Rattle.dbg_laws.proofs.Lists.{Grid, cell, put, change, cell-put_other, push, push_same, push_other, set_push, push_set}
use Rattle.dbg_laws.proofs.Lists.{push_set_other}
use Rattle.dbg_laws.proofs.ChannelSizeLemmas.{put_cases, fire_not_put, fire_most, fire_takes}
use Rattle.dbg_laws.proofs.Moves.{Move, Keeps, Puts, Takes, channels_after, IsReady, move_target, move_source, after_move, fires}
use Rattle.dbg_laws.proofs.Moves.{put_after, other_state, diamond}
use Rattle.dbg_laws.proofs.OrderSwapLemmas.{IsOrderOf, first_step, legal_after, is_there, IsEmpty, none_left}
use Rattle.dbg_laws.proofs.PlayLemmas.{found, lists}

-- An event moves after the events of other processes that follow it, unless one of them received its message.

-- none of the events is of process p
abbrev pub AreOthers : ℕ → List Event → Type 0
AreOthers p [] = Unit {0}
AreOthers p (e ∷ E) = (e.process ≢ p) × AreOthers p E

pub are_others : (H : History) (p : ℕ) (E : List Event) → get_or H p [] ≡ [] → IsOrderOf H E → AreOthers p E
are_others H p [] none takes = tt
are_others H p (e ∷ E) none takes =
    let apart : e.process ≢ p = λ same.
    (let some : get_or H p [] ≡ e.choice ∷ takes.0 = subst (λ (x : ℕ). get_or H x [] ≡ e.choice ∷ takes.0) same takes.1 in cc) in (
      apart,
      are_others (set H e.process takes.0) p E
          (get_or-set_other H e.process p takes.0 [] (λ (x : p ≡ e.process). apart (sym x)) ∙ none) takes.2,
    )

-- while p does not fire, a channel from p does not get longer
pub shorter : (P : Program) (c d : Configuration) (p t : ℕ) (E : List Event) → order_from P c E ≡ Ok d → AreOthers p E
    → length (channel_of d p t) ≤ length (channel_of c p t)
shorter P c d p t [] legal others =
    let same : c ≡ d = cc in
    let size : length (channel_of d p t) ≡ length (channel_of c p t) = ap (λ (x : Configuration). length (channel_of x p t)) (sym same) in
    omega arith
shorter P c d p t (e ∷ E) legal others =
    let step = first_step (fire P c e.process e.choice) (λ x. order_from P x E) d legal in
    let first = fire_not_put P c step.0 e.process e.choice p t step.1 (λ x y. others.0 x) in
    let rest = shorter P step.0 d p t E step.2 others.1 in
    omega (arith, first, rest)

-- while p does not fire, the head of a channel to p stays
move_prefix : (move : Move) (s p q : ℕ) (m : ℤ) (rest : List ℤ) (g : Grid) → q ≢ p → cell g s p ≡ m ∷ rest
    → (later : List ℤ) × (cell (channels_after move q g) s p ≡ m ∷ later)
move_prefix Keeps s p q m rest g apart prefix = (rest, prefix)
move_prefix (Puts target value) s p q m rest g apart prefix = put_after g q target s p value m rest prefix
move_prefix (Takes source message) s p q m rest g apart prefix =
    (rest, cell-put_other g source q s p (drop 1 (cell g source q)) (λ x. apart) ∙ prefix)

pub prefix_stays : (P : Program) (c d : Configuration) (s p : ℕ) (m : ℤ) (rest : List ℤ) (E : List Event) → order_from P c E ≡ Ok d
    → AreOthers p E → channel_of c s p ≡ m ∷ rest → (later : List ℤ) × (channel_of d s p ≡ m ∷ later)
prefix_stays P c d s p m rest [] legal others prefix =
    let same : c ≡ d = cc in (rest, ap (λ (x : Configuration). channel_of x s p) (sym same) ∙ prefix)
prefix_stays P c d s p m rest (e ∷ E) legal others prefix =
    let step = first_step (fire P c e.process e.choice) (λ x. order_from P x E) d legal in
    let f = fires (command_of P e.process e.choice) c e.process step.0 step.1 in
    let next = move_prefix f.move s p e.process m rest c.channels others.0 prefix in
    prefix_stays P step.0 d s p m next.0 E step.2 others.1 (ap (λ (x : Configuration). channel_of x s p) f.leads ∙ next.1)

-- what p sends last is still on its way at c: a condition on channels from p to other existing processes
abbrev pub IsWaiting : Program → Configuration → ℕ → ℕ → Type 0
IsWaiting P c p k = (t : ℕ) → target_in (command_of P p k) ≡ Some t → t ≢ p → t < length P → 0 < length (channel_of c p t)

-- a move of q after one of p could already fire before it, if p's message was not the only one
prefix_before : (l : List ℤ) (v m : ℤ) (rest : List ℤ) → 0 < length l → l ++ v ∷ [] ≡ m ∷ rest → (earlier : List ℤ) × (l ≡ m ∷ earlier)
prefix_before [] v m rest some prefix = absurd (omega arith)
prefix_before (x ∷ l) v m rest some prefix = (l, cc)

put_before : (g : Grid) (s q : ℕ) (v m : ℤ) (rest : List ℤ) → 0 < length (cell g s q)
    → cell (change g s q (λ messages. messages ++ v ∷ [])) s q ≡ m ∷ rest → (earlier : List ℤ) × (cell g s q ≡ m ∷ earlier)
put_before g s q v m rest some prefix =
    ⊎_elim
    (λ (now : cell (change g s q (λ messages. messages ++ v ∷ [])) s q ≡ cell g s q ++ v ∷ []).
    prefix_before (cell g s q) v m rest some (sym now ∙ prefix))
    (λ (same : (y : List ℤ) → put g s q y ≡ g).
    (rest, ap (λ (x : Grid). cell x s q) (sym (same (cell g s q ++ v ∷ []))) ∙ prefix))
    (put_cases g s q (cell g s q ++ v ∷ []))

ready_before : (a b : Move) (p q : ℕ) (g : Grid) → p ≢ q
    → (move_target a ≡ Some q → move_source b ≡ Some p → 0 < length (cell g p q))
    → IsReady b q (channels_after a p g) → IsReady b q g
ready_before a Keeps p q g apart some ready = tt
ready_before a (Puts target value) p q g apart some ready = tt
ready_before Keeps (Takes source message) p q g apart some ready = ready
ready_before (Takes other taken) (Takes source message) p q g apart some ready =
    (ready.0, sym (cell-put_other g other p source q (drop 1 (cell g other p)) (λ x. apart)) ∙ ready.1)
ready_before (Puts target value) (Takes source message) p q g apart some ready =
    let other = λ (away : p ≡ source → target ≢ q).
    (sym (cell-put_other g p target source q (cell g p target ++ value ∷ []) away) ∙ ready.1) in
    ⊎_elim
    (λ (same : p ≡ source). ⊎_elim
    (λ (one : target ≡ q).
    let there : cell (change g source q (λ messages. messages ++ value ∷ [])) source q ≡ message ∷ ready.0 =
    subst (λ (x : ℕ). cell (change g x q (λ messages. messages ++ value ∷ [])) source q ≡ message ∷ ready.0) same
    (subst (λ (y : ℕ). cell (change g p y (λ messages. messages ++ value ∷ [])) source q ≡ message ∷ ready.0) one ready.1) in
    put_before g source q value message ready.0
    (subst (λ (x : ℕ). 0 < length (cell g x q)) same
    (some (ap (λ (t : ℕ). Some t) one) (ap (λ (t : ℕ). Some t) (sym same))))
    there)
    (λ (away : target ≢ q). (ready.0, other (λ x. away)))
    (cases_eq target q))
    (λ (away : p ≢ source). (ready.0, other (λ x y. away x)))
    (cases_eq p source)

-- two events in the other order
pub record Pulled (P : Program) (c g : Configuration) (p k q l : ℕ) : Type 0 where
  pub between : Configuration
  pub first : fire P c q l ≡ Ok between
  pub second : fire P between p k ≡ Ok g

pub pull : (P : Program) (c d g : Configuration) (p k q l : ℕ) → p ≢ q → fire P c p k ≡ Ok d → fire P d q l ≡ Ok g
    → (target_in (command_of P p k) ≡ Some q → source_in (command_of P q l) ≡ Some p → 0 < length (channel_of c p q))
    → Pulled P c g p k q l
pull P c d g p k q l apart one other some =
    let a = fires (command_of P p k) c p d one in
    let b = fires (command_of P q l) d q g other in
    let ready_there : IsReady b.move q (channels_after a.move p c.channels) =
    subst (λ (x : Configuration). IsReady b.move q x.channels) a.leads b.ready in
    let there : fire P c q l ≡ Ok (after_move b.move q b.state c) =
    b.again c (sym (other_state a.move a.state c d p q apart a.leads))
    (ready_before a.move b.move p q c.channels apart (λ x y. some (a.sends ∙ x) (b.receives ∙ y)) ready_there) in
    let dia = diamond P c p k q l d (after_move b.move q b.state c) apart one there in
    let meets = dia.one in
    let same : dia.meet ≡ g = cc in
    record { between = after_move b.move q b.state c; first = there; second = dia.other ∙ ap (λ (x : Configuration). Ok x) same }

-- an event moves after those that follow it
pub record Beyond (P : Program) (c g : Configuration) (p k : ℕ) (E : List Event) : Type 0 where
  pub between : Configuration
  pub first : order_from P c E ≡ Ok between
  pub last : fire P between p k ≡ Ok g

pub to_end : (P : Program) (c d g : Configuration) (p k : ℕ) (E : List Event) → fire P c p k ≡ Ok d → order_from P d E ≡ Ok g
    → AreOthers p E → IsWaiting P g p k → Beyond P c g p k E
to_end P c d g p k [] one legal others waiting =
    let same : d ≡ g = cc in
    record { between = c; first = refl; last = one ∙ ap (λ (x : Configuration). Ok x) same }
to_end P c d g p k (e ∷ E) one legal others waiting =
    let q = e.process in
    let step = first_step (fire P d q e.choice) (λ x. order_from P x E) g legal in
    let apart : p ≢ q = λ same. others.0 (sym same) in
    let some = λ (target : target_in (command_of P p k) ≡ Some q) (source : source_in (command_of P q e.choice) ≡ Some p).
    still_there P c d step.0 g p k e E one step.1 step.2 others.1 source
    (waiting q target others.0 (is_there P d step.0 q e.choice step.1)) in
    let pulled = pull P c d step.0 p k q e.choice apart one step.1 some in
    let rest = to_end P pulled.between step.0 g p k E pulled.second step.2 others.1 waiting in
    record {
      between = rest.between;
      first = legal_after P c pulled.between rest.between e E pulled.first rest.first;
      last = rest.last;
    }
  where
    still_there : (P : Program) (c d m g : Configuration) (p k : ℕ) (e : Event) (E : List Event) → fire P c p k ≡ Ok d
        → fire P d e.process e.choice ≡ Ok m → order_from P m E ≡ Ok g → AreOthers p E
        → source_in (command_of P e.process e.choice) ≡ Some p → 0 < length (channel_of g p e.process)
        → 0 < length (channel_of c p e.process)
    still_there P c d m g p k e E one two legal others source some =
        let a = fire_most P c d p k p e.process one in
        let b = fire_takes P d m e.process e.choice p two source in
        let last = shorter P m g p e.process E legal others in
        omega (arith, a, b, last, some)

-- The position of the last choice of a process in the play.

-- The remaining choices are B, and k of process p after them. The play makes k between these two lists, and the events after it are of
-- other processes.
pub record Around (n : ℕ) (P : Program) (from : Progress) (B : History) (p k : ℕ) (d : Configuration) : Type 0 where
  pub prefix : List Event
  pub before : Configuration
  pub after : Configuration
  pub beyond : List Event
  pub leads : order_from P from.configuration prefix ≡ Ok before
  pub fires : fire P before p k ≡ Ok after
  pub goes_on : order_from P after beyond ≡ Ok d
  pub others : AreOthers p beyond
  pub takes : IsOrderOf B (prefix ++ beyond)
  pub made : last_from n P from p ≡ before

last_here : (n : ℕ) (P : Program) (from to : Progress) (p : ℕ) → next_move P from ≡ Some to → get_or to.unplayed p [] ≡ []
    → last_from (suc n) P from p ≡ from.configuration
last_here n P from to p next none =
    ap (λ (o : Option Progress). last_or_later o from.configuration p (λ x. last_from n P x p)) next
    ∙ ap (λ (l : List ℕ). where_none l from.configuration (last_from n P to p)) none

not_last : (l : List ℕ) (k : ℕ) (here later : Configuration) → where_none (l ++ k ∷ []) here later ≡ later
not_last [] k here later = refl
not_last (x ∷ l) k here later = refl

last_later : (n : ℕ) (P : Program) (from to : Progress) (p k : ℕ) (l : List ℕ) → next_move P from ≡ Some to
    → get_or to.unplayed p [] ≡ l ++ k ∷ [] → last_from (suc n) P from p ≡ last_from n P to p
last_later n P from to p k l next some =
    ap (λ (o : Option Progress). last_or_later o from.configuration p (λ x. last_from n P x p)) next
    ∙ ap (λ (m : List ℕ). where_none m from.configuration (last_from n P to p)) some
    ∙ not_last l k from.configuration (last_from n P to p)

pub some_left : (l : List ℕ) (k : ℕ) → l ++ k ∷ [] ≡ [] → ⊥
some_left [] k none = cc
some_left (x ∷ l) k none = cc

not_done : (H B : History) (p k : ℕ) → H ≡ push B p k → p < length B → IsEmpty H → ⊥
not_done H B p k is within empty =
    let none : get_or H p [] ≡ [] = none_left H p empty in
    some_left (get_or B p []) k
    (sym (push_same B p k within) ∙ ap (λ (x : History). get_or x p []) (sym is) ∙ none)

-- the next move is p's choice k
around_here : (n : ℕ) (P : Program) (from : Progress) (B : History) (p k : ℕ) (m : Configuration) → from.unplayed ≡ push B p k
    → p < length B → get_or B p [] ≡ [] → fire P from.configuration p k ≡ Ok m → next_move P from ≡ Some (moved from p [] m)
    → IsEmpty (play_moves n P (moved from p [] m)).unplayed
    → Around (suc n) P from B p k (play_moves n P (moved from p [] m)).configuration
around_here n P from B p k m is within none fires next empty =
    let l = lists n P (moved from p [] m) empty in
    let left : set from.unplayed p [] ≡ B =
    ap (λ (x : History). set x p []) is ∙ set_push B p k [] ∙ ap (λ (x : List ℕ). set B p x) (sym none) ∙ set-get_or B p [] in
    let takes : IsOrderOf B l.events = subst (λ (x : History). IsOrderOf x l.events) left l.order in
    record {
      prefix = [];
      before = from.configuration;
      after = m;
      beyond = l.events;
      leads = refl;
      fires = fires;
      goes_on = l.legal;
      others = are_others B p l.events none takes;
      takes = takes;
      made = last_here n P from (moved from p [] m) p next (ap (λ (x : History). get_or x p []) left ∙ none);
    }

-- the next move is an earlier one
around_later : (n : ℕ) (P : Program) (from : Progress) (B : History) (p k q l : ℕ) (rest left : List ℕ) (m d : Configuration)
    → p < length B → get_or B q [] ≡ l ∷ left → fire P from.configuration q l ≡ Ok m → next_move P from ≡ Some (moved from q rest m)
    → set from.unplayed q rest ≡ push (set B q left) p k → Around n P (moved from q rest m) (set B q left) p k d
    → Around (suc n) P from B p k d
around_later n P from B p k q l rest left m d within prefix fires next is a = record {
  prefix = record { process = q; choice = l } ∷ a.prefix;
  before = a.before;
  after = a.after;
  beyond = a.beyond;
  leads = legal_after P from.configuration m a.before (record { process = q; choice = l }) a.prefix fires a.leads;
  fires = a.fires;
  goes_on = a.goes_on;
  others = a.others;
  takes = (left, prefix, a.takes);
  made = last_later n P from (moved from q rest m) p k (get_or (set B q left) p []) next
      (ap (λ (x : History). get_or x p []) is ∙ push_same (set B q left) p k (rw (length-set B q left) within)) ∙ a.made;
}

abbrev Later : ℕ → Program → Type 0
Later n P = (to : Progress) (B : History) (p k : ℕ) → to.unplayed ≡ push B p k → p < length B → IsEmpty (play_moves n P to).unplayed
    → Around n P to B p k (play_moves n P to).configuration

around_other : (n : ℕ) (P : Program) (from : Progress) (B : History) (p k q l : ℕ) (rest : List ℕ) (m : Configuration)
    → from.unplayed ≡ push B p k → p < length B → q ≢ p → get_or from.unplayed q [] ≡ l ∷ rest → fire P from.configuration q l ≡ Ok m
    → next_move P from ≡ Some (moved from q rest m) → IsEmpty (play_moves n P (moved from q rest m)).unplayed → Later n P
    → Around (suc n) P from B p k (play_moves n P (moved from q rest m)).configuration
around_other n P from B p k q l rest m is within apart prefix fires next empty later =
    let there : get_or B q [] ≡ l ∷ rest =
    sym (push_other B p q k apart) ∙ ap (λ (x : History). get_or x q []) (sym is) ∙ prefix in
    let now : set from.unplayed q rest ≡ push (set B q rest) p k =
    ap (λ (x : History). set x q rest) is ∙ sym (push_set_other B p q k rest apart) in
    around_later n P from B p k q l rest rest m (play_moves n P (moved from q rest m)).configuration within there fires next now
    (later (moved from q rest m) (set B q rest) p k now (rw (length-set B q rest) within) empty)

around_same : (n : ℕ) (P : Program) (from : Progress) (B : History) (p k l : ℕ) (rest b : List ℕ) (m : Configuration)
    → from.unplayed ≡ push B p k → p < length B → get_or B p [] ≡ b → get_or from.unplayed p [] ≡ l ∷ rest
    → fire P from.configuration p l ≡ Ok m → next_move P from ≡ Some (moved from p rest m)
    → IsEmpty (play_moves n P (moved from p rest m)).unplayed → Later n P
    → Around (suc n) P from B p k (play_moves n P (moved from p rest m)).configuration
around_same n P from B p k l rest [] m is within line prefix fires next empty later =
    let now : get_or from.unplayed p [] ≡ k ∷ [] =
    ap (λ (x : History). get_or x p []) is ∙ push_same B p k within ∙ ap (λ (x : List ℕ). x ++ k ∷ []) line in
    let choice : l ≡ k = cc in
    let none : [] ≡ rest = cc in
    subst (λ (r : List ℕ). next_move P from ≡ Some (moved from p r m) → IsEmpty (play_moves n P (moved from p r m)).unplayed
    → Around (suc n) P from B p k (play_moves n P (moved from p r m)).configuration) none
    (λ x y. around_here n P from B p k m is within line (subst (λ (z : ℕ). fire P from.configuration p z ≡ Ok m) choice fires) x y)
    next empty
around_same n P from B p k l rest (x ∷ b) m is within line prefix fires next empty later =
    let whole : get_or from.unplayed p [] ≡ x ∷ (b ++ k ∷ []) =
    ap (λ (y : History). get_or y p []) is ∙ push_same B p k within ∙ ap (λ (y : List ℕ). y ++ k ∷ []) line in
    let choice : x ≡ l = cc in
    let left : rest ≡ b ++ k ∷ [] = cc in
    let now : set from.unplayed p rest ≡ push (set B p b) p k =
    ap (λ (y : History). set y p rest) is ∙ set_push B p k rest ∙ ap (λ (y : List ℕ). set B p y) left ∙ sym (push_set B p k b within) in
    around_later n P from B p k p l rest b m (play_moves n P (moved from p rest m)).configuration within
    (line ∙ ap (λ (y : ℕ). y ∷ b) choice) fires next now
    (later (moved from p rest m) (set B p b) p k now (rw (length-set B p b) within) empty)

around_by : (n : ℕ) (P : Program) (from : Progress) (B : History) (p k : ℕ) (o : Option Progress) → next_move P from ≡ o
    → from.unplayed ≡ push B p k → p < length B → IsEmpty (go_on from o (play_moves n P)).unplayed → Later n P
    → Around (suc n) P from B p k (go_on from o (play_moves n P)).configuration
around_by n P from B p k None next is within empty later = absurd (not_done from.unplayed B p k is within empty)
around_by n P from B p k (Some to) next is within empty later =
    let f = found P from 0 from.unplayed to next in
    let place : f.offset ≡ f.process = omega (arith, f.place) in
    let prefix : get_or from.unplayed f.process [] ≡ f.choice ∷ f.rest =
    subst (λ (x : ℕ). get_or from.unplayed x [] ≡ f.choice ∷ f.rest) place f.prefix in
    let made : next_move P from ≡ Some (moved from f.process f.rest f.reached) = next ∙ ap (λ (x : Progress). Some x) f.leads in
    subst (λ (x : Progress). Around (suc n) P from B p k (play_moves n P x).configuration) (sym f.leads)
    (around_found n P from B p k f.process f.choice f.rest f.reached is within prefix f.fires made
    (subst (λ (x : Progress). IsEmpty (play_moves n P x).unplayed) f.leads empty) later)
  where
    around_found : (n : ℕ) (P : Program) (from : Progress) (B : History) (p k q l : ℕ) (rest : List ℕ) (m : Configuration)
        → from.unplayed ≡ push B p k → p < length B → get_or from.unplayed q [] ≡ l ∷ rest → fire P from.configuration q l ≡ Ok m
        → next_move P from ≡ Some (moved from q rest m) → IsEmpty (play_moves n P (moved from q rest m)).unplayed → Later n P
        → Around (suc n) P from B p k (play_moves n P (moved from q rest m)).configuration
    around_found n P from B p k q l rest m is within prefix fires next empty later =
        ⊎_elim
        (λ (same : p ≡ q).
        subst (λ (x : ℕ). get_or from.unplayed x [] ≡ l ∷ rest → fire P from.configuration x l ≡ Ok m
        → next_move P from ≡ Some (moved from x rest m) → IsEmpty (play_moves n P (moved from x rest m)).unplayed
        → Around (suc n) P from B p k (play_moves n P (moved from x rest m)).configuration) same
        (λ x y z w. around_same n P from B p k l rest (get_or B p []) m is within refl x y z w later) prefix fires next empty)
        (λ (apart : p ≢ q).
        around_other n P from B p k q l rest m is within (λ x. apart (sym x)) prefix fires next empty later)
        (cases_eq p q)

pub around : (n : ℕ) (P : Program) (from : Progress) (B : History) (p k : ℕ) → from.unplayed ≡ push B p k → p < length B
    → IsEmpty (play_moves n P from).unplayed → Around n P from B p k (play_moves n P from).configuration
around zero P from B p k is within empty = absurd (not_done from.unplayed B p k is within empty)
around (suc n) P from B p k is within empty =
    around_by n P from B p k (next_move P from) refl is within empty (λ to x y z u v w. around n P to x y z u v w)

-- in the play of a possible history
pub around_last : (P : Program) (B : History) (p k : ℕ) → p < length B → IsPossible P (with_last B p k)
    → Around (choice_count (with_last B p k)) P (opening_of P (with_last B p k)) B p k (play P (with_last B p k))
around_last P B p k within all = around (choice_count (with_last B p k)) P (opening_of P (with_last B p k)) B p k refl within all
