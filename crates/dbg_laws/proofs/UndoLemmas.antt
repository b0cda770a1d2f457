-- The last choice of a process can be undone exactly if its message is still on its way. Undoing its change from the play on leads to the
-- play of the history without it.
use Rattle.std.proofs.Common.{◌≡◌, ℕ, ◌<◌, ◌++◌, length, Some, sym, ◌∙◌, subst, arith, ℤ, pos, ◌+◌, ◌-◌, ◌≤◌, List, [], ◌∷◌, get_or, set}
use Rattle.std.proofs.Common.{drop, Option, None, Ok, refl, ap, ⊎_elim}
use Rattle.std.specs.Prelude.{slice_index, slice_index_or}
use Rattle.std.proofs.lemmas.List.{set-set, set-get_or, length-append, length-set, take_at, take_more, take_all, get_or_push, get_or_past}
use Rattle.dbg_base.specs.Trees.{Program, command_of, Action, Local, Sends, Receives, Command}
use Rattle.dbg_base.specs.Configurations.{Configuration, start_of, channel_of, state_in, with_channel, with_state}
use Rattle.dbg_base.specs.Histories.{History, IsPossible, play, local_state}
use Rattle.dbg_base.specs.Orders.{with_last, target_in, Event, order_from, target_of, source_of, source_in}
use Rattle.dbg_base.specs.LocalStates.{LocalState, no_state}
use Rattle.dbg_base.specs.Reversal.{without_back, without_last, choice_at_end, MayUndo, before_last, taken_in, unmoved, unmoved_if, unfire}
use Rattle.dbg_base.specs.Reversal.{IsPermitted, after_undos, unfire_all}
use Rattle.dbg_laws.proofs.Lists.{Grid, row, cell, put, change, row_within, cell_within, cell-put_same, put-put, put_kept, push_same}
use Rattle.dbg_laws.proofs.Lists.{set_push, push_set}
use Rattle.dbg_laws.proofs.Moves.{Move, Keeps, Puts, Takes, channels_after, move_target, fires, IsReady, move_source, after_move}
use Rattle.dbg_laws.proofs.PlayLemmas.{possible}
use Rattle.dbg_laws.proofs.OrderSwapLemmas.{is_there}
use Rattle.dbg_laws.proofs.PrefixLemmas.{order_both, last_fires, last_state, local_kept}
use Rattle.dbg_laws.proofs.ChannelSizeLemmas.{size_put, square_play, put_cases}
use Rattle.dbg_laws.proofs.LastChoiceLemmas.{IsWaiting, to_end, around_last, AreOthers, prefix_stays}

-- The last choice of a process can be undone exactly if its message is still on its way.

-- If B with one more choice k of p is possible, and what k sent is still on its way, B is possible too.
pub undone : (P : Program) (B : History) (p k : ℕ) → p < length B → IsPossible P (with_last B p k)
    → IsWaiting P (play P (with_last B p k)) p k → IsPossible P B
undone P B p k within all waiting =
    let a = around_last P B p k within all in
    let e = to_end P a.before a.after (play P (with_last B p k)) p k a.beyond a.fires a.goes_on a.others waiting in
    (possible P B (a.prefix ++ a.beyond) e.between (order_both P (start_of P) a.before e.between a.prefix a.beyond a.leads e.first) a.takes).0

puts_one : (move : Move) (p t : ℕ) (g : Grid) → move_target move ≡ Some t → p < length g → t < length (row g p)
    → 0 < length (cell (channels_after move p g) p t)
puts_one Keeps p t g to here there = cc
puts_one (Puts target value) p t g to here there =
    let same : t ≡ target = cc in
    let size = size_put g p target value here (subst (λ (x : ℕ). x < length (row g p)) same there) in
    subst (λ (x : ℕ). 0 < length (cell (channels_after (Puts target value) p g) p x)) (sym same) (omega (arith, size))
puts_one (Takes source message) p t g to here there = cc

-- If both are possible, what k sent is still on its way.
pub message_left : (P : Program) (B : History) (p k t : ℕ) → p < length B → IsPossible P B → IsPossible P (with_last B p k)
    → target_in (command_of P p k) ≡ Some t → t < length P → 0 < length (channel_of (play P (with_last B p k)) p t)
message_left P B p k t within shorter longer to there =
    let last = last_fires P B p k within shorter longer in
    let f = fires (command_of P p k) (play P B) p (play P (with_last B p k)) last in
    let s = square_play P B shorter in
    let here : p < length P = is_there P (play P B) (play P (with_last B p k)) p k last in
    let row_there : p < length (play P B).channels = omega (arith, here, s.rows) in
    let cell_there : t < length (row (play P B).channels p) = omega (arith, there, s.columns p here) in
    subst (λ (x : Configuration). 0 < length (channel_of x p t)) (sym f.leads)
    (puts_one f.move p t (play P B).channels (sym f.sends ∙ to) row_there cell_there)

pub waits : (P : Program) (B : History) (p k : ℕ) → p < length B → IsPossible P B → IsPossible P (with_last B p k)
    → IsWaiting P (play P (with_last B p k)) p k
waits P B p k within shorter longer = λ t to apart there. message_left P B p k t within shorter longer to there

-- Undoing the last choice gives the play of the history without it.

-- the last element of a list
pub size_before : {A : Type 0} (l : List A) (x : A) → length (l ++ x ∷ []) - 1 ≡ length l
size_before l x = omega (arith, length-append l (x ∷ []))

pub back_off : {A : Type 0} (l : List A) (x : A) → without_back (l ++ x ∷ []) ≡ l
back_off l x = take_at l (x ∷ []) (length (l ++ x ∷ []) - 1) (sym (size_before l x))

pub without_with : (B : History) (p k : ℕ) → p < length B → without_last (with_last B p k) p ≡ B
without_with B p k within =
    set_push B p k (without_back (get_or (with_last B p k) p []))
    ∙ ap (λ (l : List ℕ). set B p (without_back l)) (push_same B p k within)
    ∙ ap (λ (l : List ℕ). set B p l) (back_off (get_or B p []) k)
    ∙ set-get_or B p []

pub last_with : (B : History) (p k : ℕ) → p < length B → choice_at_end (with_last B p k) p ≡ k
last_with B p k within =
    ap (λ (l : List ℕ). slice_index l (length l - 1)) (push_same B p k within)
    ∙ get_or_push (get_or B p []) k 0 (length (get_or B p [] ++ k ∷ []) - 1) (sym (size_before (get_or B p []) k))

pub size_with : (B : History) (p k : ℕ) → p < length B → length (get_or (with_last B p k) p []) - 1 ≡ length (get_or B p [])
size_with B p k within = ap (λ (l : List ℕ). length l - 1) (push_same B p k within) ∙ size_before (get_or B p []) k

-- a history with a last choice of p is the one without it, plus that choice
back_and_last : (l : List ℕ) → 0 < length l → without_back l ++ slice_index l (length l - 1) ∷ [] ≡ l
back_and_last l some =
    let last : length l - 1 < length l = omega arith in
    let whole : length l ≤ length l - 1 + 1 = omega arith in
    sym (take_more l (length l - 1) 0 last) ∙ take_all (length l - 1 + 1) l whole

pub within_by : (H : History) (p : ℕ) → 0 < length (get_or H p []) → p < length H
within_by H p some = grind (arith, get_or_past {X = List ℕ})

pub with_without : (H : History) (p : ℕ) → 0 < length (get_or H p []) → with_last (without_last H p) p (choice_at_end H p) ≡ H
with_without H p some =
    push_set H p (choice_at_end H p) (without_back (get_or H p [])) (within_by H p some)
    ∙ ap (λ (l : List ℕ). set H p l) (back_and_last (get_or H p []) some)
    ∙ set-get_or H p []

pub within_without : (H : History) (p : ℕ) → 0 < length (get_or H p []) → p < length (without_last H p)
within_without H p some = rw (length-set H p (without_back (get_or H p []))) (within_by H p some)

-- the channels as they were, by what the command did
unmoved_keeps : (P : Program) (H : History) (c : Configuration) (p : ℕ) (o : Option Command) → target_in o ≡ None → source_in o ≡ None
    → unmoved_if P H c p o ≡ c
unmoved_keeps P H c p None to from = refl
unmoved_keeps P H c p (Some command) to from = by command.action to from
  where
    by : (action : Action) → target_of action ≡ None → source_of action ≡ None → unmoved P H c p action ≡ c
    by Local to from = refl
    by (Sends target value) to from = cc
    by (Receives source variable) to from = cc

unmoved_puts : (P : Program) (H : History) (c : Configuration) (p t : ℕ) (o : Option Command) → target_in o ≡ Some t
    → unmoved_if P H c p o ≡ with_channel c p t (without_back (channel_of c p t))
unmoved_puts P H c p t None to = cc
unmoved_puts P H c p t (Some command) to = by command.action to
  where
    by : (action : Action) → target_of action ≡ Some t → unmoved P H c p action ≡ with_channel c p t (without_back (channel_of c p t))
    by Local to = cc
    by (Sends target value) to =
        let same : target ≡ t = cc in ap (λ (x : ℕ). with_channel c p x (without_back (channel_of c p x))) same
    by (Receives source variable) to = cc

unmoved_takes : (P : Program) (H : History) (c : Configuration) (p s : ℕ) (o : Option Command) → source_in o ≡ Some s
    → unmoved_if P H c p o ≡ with_channel c s p (taken_in P H p s ∷ channel_of c s p)
unmoved_takes P H c p s None from = cc
unmoved_takes P H c p s (Some command) from = by command.action from
  where
    by : (action : Action) → source_of action ≡ Some s
        → unmoved P H c p action ≡ with_channel c s p (taken_in P H p s ∷ channel_of c s p)
    by Local from = cc
    by (Sends target value) from = cc
    by (Receives source variable) from =
        let same : source ≡ s = cc in ap (λ (x : ℕ). with_channel c x p (taken_in P H p x ∷ channel_of c x p)) same

-- the message is removed from the tail again
put_back : (g : Grid) (i j : ℕ) (v : ℤ)
    → put (change g i j (λ messages. messages ++ v ∷ [])) i j
    (without_back (cell (change g i j (λ messages. messages ++ v ∷ [])) i j)) ≡ g
put_back g i j v =
    let after = change g i j (λ messages. messages ++ v ∷ []) in
    put-put g i j (cell g i j ++ v ∷ []) (without_back (cell after i j))
    ∙ ⊎_elim
    (λ (same : cell (put g i j (cell g i j ++ v ∷ [])) i j ≡ cell g i j ++ v ∷ []).
    ap (λ (l : List ℤ). put g i j (without_back l)) same
    ∙ ap (λ (l : List ℤ). put g i j l) (back_off (cell g i j) v)
    ∙ put_kept g i j)
    (λ (same : (y : List ℤ) → put g i j y ≡ g). same (without_back (cell after i j)))
    (put_cases g i j (cell g i j ++ v ∷ []))

-- the message is at the head again
take_back : (g : Grid) (i j : ℕ) (m : ℤ) (rest : List ℤ) → cell g i j ≡ m ∷ rest
    → put (change g i j (drop 1)) i j (m ∷ cell (change g i j (drop 1)) i j) ≡ g
take_back g i j m rest prefix =
    put-put g i j (drop 1 (cell g i j)) (m ∷ cell (change g i j (drop 1)) i j)
    ∙ ap (λ (l : List ℤ). put g i j (m ∷ l))
    (cell-put_same g i j (drop 1 (cell g i j)) (row_within g i j m rest prefix) (cell_within g i j m rest prefix) ∙ ap (drop 1) prefix)
    ∙ ap (λ (l : List ℤ). put g i j l) (sym prefix)
    ∙ put_kept g i j

state_back : (b : Configuration) (p : ℕ) (state : LocalState) → set (set b.states p state) p (state_in b p) ≡ b.states
state_back b p state = set-set b.states p state (state_in b p) ∙ set-get_or b.states p no_state

restored : (P : Program) (H : History) (b : Configuration) (p : ℕ) (o : Option Command) (move : Move) (state : LocalState)
    → target_in o ≡ move_target move → source_in o ≡ move_source move
    → ((s : ℕ) → source_in o ≡ Some s → (rest : List ℤ) × (channel_of b s p ≡ taken_in P H p s ∷ rest))
    → with_state (unmoved_if P H (after_move move p state b) p o) p (state_in b p) ≡ b
restored P H b p o Keeps state to from prefix =
    ap (λ (c : Configuration). with_state c p (state_in b p)) (unmoved_keeps P H (after_move Keeps p state b) p o to from)
    ∙ (let states = state_back b p state in λ i. record { states = states i; channels = b.channels })
restored P H b p o (Puts t v) state to from prefix =
    ap (λ (c : Configuration). with_state c p (state_in b p)) (unmoved_puts P H (after_move (Puts t v) p state b) p t o to)
    ∙ (let states = state_back b p state in
    let channels = put_back b.channels p t v in
    λ i. record { states = states i; channels = channels i })
restored P H b p o (Takes s m) state to from prefix =
    let there = prefix s from in
    ap (λ (c : Configuration). with_state c p (state_in b p)) (unmoved_takes P H (after_move (Takes s m) p state b) p s o from)
    ∙ (let states = state_back b p state in
    let channels = take_back b.channels s p (taken_in P H p s) there.0 there.1 in
    λ i. record { states = states i; channels = channels i })

ready_prefix : (move : Move) (p s : ℕ) (g : Grid) → move_source move ≡ Some s → IsReady move p g
    → (m : ℤ) × (rest : List ℤ) × (cell g s p ≡ m ∷ rest)
ready_prefix Keeps p s g from ready = cc
ready_prefix (Puts target value) p s g from ready = cc
ready_prefix (Takes source message) p s g from ready =
    let same : source ≡ s = cc in (message, ready.0, subst (λ (x : ℕ). cell g x p ≡ message ∷ ready.0) same ready.1)

-- a message that was at the head when p made its last choice is at the head after the events of the other processes
taken_after : (P : Program) (H : History) (p s : ℕ) (before between : Configuration) (E : List Event)
    → (m : ℤ) × (rest : List ℤ) × (channel_of before s p ≡ m ∷ rest) → before_last P H p ≡ before → order_from P before E ≡ Ok between
    → AreOthers p E → (rest : List ℤ) × (channel_of between s p ≡ taken_in P H p s ∷ rest)
taken_after P H p s before between E prefix made legal others =
    let taken : taken_in P H p s ≡ prefix.0 = taken_at (before_last P H p) made in
    let later = prefix_stays P before between s p prefix.0 prefix.1 E legal others prefix.2 in
    (later.0, later.1 ∙ ap (λ (m : ℤ). m ∷ later.0) (sym taken))
  where
    taken_at : (c : Configuration) → c ≡ before → slice_index_or (channel_of c s p) 0 (pos 0) ≡ prefix.0
    taken_at c same =
        ap (λ (x : Configuration). slice_index_or (channel_of x s p) 0 (pos 0)) same
        ∙ ap (λ (l : List ℤ). slice_index_or l 0 (pos 0)) prefix.2

-- what the last choice received in the play is at the head of its channel in the play of the history without it
pub taken_prefix : (P : Program) (B : History) (p k s : ℕ) → p < length B → IsPossible P B → IsPossible P (with_last B p k)
    → source_in (command_of P p k) ≡ Some s → (rest : List ℤ) × (channel_of (play P B) s p ≡ taken_in P (with_last B p k) p s ∷ rest)
taken_prefix P B p k s within shorter longer from =
    let a = around_last P B p k within longer in
    let e = to_end P a.before a.after (play P (with_last B p k)) p k a.beyond a.fires a.goes_on a.others
    (waits P B p k within shorter longer) in
    let ends : play P B ≡ e.between =
    (possible P B (a.prefix ++ a.beyond) e.between
    (order_both P (start_of P) a.before e.between a.prefix a.beyond a.leads e.first) a.takes).1 in
    let f = fires (command_of P p k) a.before p a.after a.fires in
    subst (λ (x : Configuration). (rest : List ℤ) × (channel_of x s p ≡ taken_in P (with_last B p k) p s ∷ rest)) (sym ends)
    (taken_after P (with_last B p k) p s a.before e.between a.beyond
    (ready_prefix f.move p s a.before.channels (sym f.receives ∙ from) f.ready) a.made e.first a.others)

-- Undoing the last choice of a history from its play on leads to the play of the history without it.
pub unfired : (P : Program) (B : History) (p k : ℕ) → p < length B → IsPossible P B → IsPossible P (with_last B p k)
    → unfire P (with_last B p k) (play P (with_last B p k)) p ≡ play P B
unfired P B p k within shorter longer =
    let H : History = with_last B p k in
    let last = last_fires P B p k within shorter longer in
    let f = fires (command_of P p k) (play P B) p (play P H) last in
    let here : p < length P = is_there P (play P B) (play P H) p k last in
    let few : length (get_or B p []) ≤ length (get_or B p []) = omega arith in
    let state : local_state P H p (length (get_or H p []) - 1) ≡ state_in (play P B) p =
    ap (λ (n : ℕ). local_state P H p n) (size_with B p k within)
    ∙ local_kept P B p k p (length (get_or B p [])) (play P H) shorter within last here few
    ∙ last_state P B p shorter here in
    ap (λ (l : ℕ). with_state (unmoved_if P H (play P H) p (command_of P p l)) p (local_state P H p (length (get_or H p []) - 1)))
    (last_with B p k within)
    ∙ ap (λ (s : LocalState). with_state (unmoved_if P H (play P H) p (command_of P p k)) p s) state
    ∙ ap (λ (c : Configuration). with_state (unmoved_if P H c p (command_of P p k)) p (state_in (play P B) p)) f.leads
    ∙ restored P H (play P B) p (command_of P p k) f.move f.state f.sends f.receives
    (λ s from. taken_prefix P B p k s within shorter longer from)

-- the same for a permitted undo
pub unfired_once : (P : Program) (H : History) (p : ℕ) → IsPossible P H → MayUndo P H p
    → unfire P H (play P H) p ≡ play P (without_last H p)
unfired_once P H p all may =
    let same = with_without H p may.some in
    subst (λ (X : History). unfire P X (play P X) p ≡ play P (without_last H p)) same
    (unfired P (without_last H p) p (choice_at_end H p) (within_without H p may.some) may.rest
    (subst (λ (X : History). IsPossible P X) (sym same) all))

-- and for a list of them
pub unfired_all : (P : Program) (H : History) (undos : List ℕ) → IsPossible P H → IsPermitted P H undos
    → IsPossible P (after_undos H undos) × (unfire_all P H undos (play P H) ≡ play P (after_undos H undos))
unfired_all P H [] all permitted = (all, refl)
unfired_all P H (p ∷ undos) all permitted =
    let rest = unfired_all P (without_last H p) undos permitted.0.rest permitted.1 in (
      rest.0,
      ap (λ (c : Configuration). unfire_all P (without_last H p) undos c) (unfired_once P H p all permitted.0) ∙ rest.1,
    )
