-- A process has sent to another process, and received from it, at most one message for each of its choices.
use Rattle.std.proofs.Common.{◌≡◌, ◌≢◌, ℕ, ◌+◌, ◌<◌, ◌≤◌, List, [], ◌∷◌, length, get_or, Ok, sym, ap, ◌∙◌}
use Rattle.std.proofs.Common.{subst, ⊎_elim, arith}
use Rattle.std.proofs.lemmas.Bool.{cases_eq}
use Rattle.std.proofs.lemmas.List.{get_or-set_same, get_or-set_other, set_past}
use Rattle.dbg_base.specs.declared.expr.Direction.{Direction}
use Rattle.dbg_base.specs.declared.expr.Direction.TheVariants.{Sent, Got}
use Rattle.dbg_base.specs.Trees.{Program, command_of}
use Rattle.dbg_base.specs.LocalStates.{LocalState, counts_of, no_state, one_more}
use Rattle.dbg_base.specs.Configurations.{Configuration, state_in}
use Rattle.dbg_base.specs.Firing.{fire}
use Rattle.dbg_base.specs.Histories.{History}
use Rattle.dbg_base.specs.Orders.{Event, order_from, with_first, choices_of}
use Rattle.dbg_laws.proofs.Lists.{within_or_past}
use Rattle.dbg_laws.proofs.Moves.{Move, Keeps, Puts, Takes, sent_after, got_after, fires, kept_state}
use Rattle.dbg_laws.proofs.OrderSwapLemmas.{first_step, length-choices_of}

-- each count grows by at most n
abbrev GrowsBy : ℕ → List ℕ → List ℕ → Type 0
GrowsBy n old new = (q : ℕ) → get_or new q 0 ≤ get_or old q 0 + n

-- each count of a process grows by at most n
abbrev CountsMore : ℕ → LocalState → LocalState → Type 0
CountsMore n old new = (direction : Direction) → GrowsBy n (counts_of direction old) (counts_of direction new)

one_more_grows : (counts : List ℕ) (other : ℕ) → GrowsBy 1 counts (one_more counts other)
one_more_grows counts other = λ q. ⊎_elim
    (λ (same : other ≡ q). ⊎_elim
    (λ (there : other < length counts).
    let next : get_or (one_more counts other) other 0 ≡ get_or counts other 0 + 1 =
    get_or-set_same counts other (get_or counts other 0 + 1) 0 there in
    subst (λ (x : ℕ). get_or (one_more counts other) x 0 ≤ get_or counts x 0 + 1) same (omega (arith, next)))
    (λ (past : length counts ≤ other).
    let none = set_past counts other (get_or counts other 0 + 1) past in rw none (omega arith))
    (within_or_past (length counts) other))
    (λ (apart : other ≢ q).
    let kept = get_or-set_other counts other q (get_or counts other 0 + 1) 0 (λ (x : q ≡ other). apart (sym x)) in
    omega (arith, kept))
    (cases_eq other q)

sent_grows : (move : Move) (counts : List ℕ) → GrowsBy 1 counts (sent_after move counts)
sent_grows Keeps counts = λ q. (omega arith)
sent_grows (Puts target value) counts = one_more_grows counts target
sent_grows (Takes source message) counts = λ q. (omega arith)

got_grows : (move : Move) (counts : List ℕ) → GrowsBy 1 counts (got_after move counts)
got_grows Keeps counts = λ q. (omega arith)
got_grows (Puts target value) counts = λ q. (omega arith)
got_grows (Takes source message) counts = one_more_grows counts source

-- the counts of the process that makes a choice grow by at most one
own_choice : (P : Program) (c d : Configuration) (p k : ℕ) → fire P c p k ≡ Ok d → CountsMore 1 (state_in c p) (state_in d p)
own_choice P c d p k fire_is =
    let f = fires (command_of P p k) c p d fire_is in
    let made : (direction : Direction) → GrowsBy 1 (counts_of direction (state_in c p)) (counts_of direction f.state) =
    own f.move f.state f.sent f.got in
    ⊎_elim
    (λ (there : p < length c.states).
    let is : state_in d p ≡ f.state =
    ap (λ (x : Configuration). state_in x p) f.leads ∙ get_or-set_same c.states p f.state no_state there in
    rw is made)
    (λ (past : length c.states ≤ p).
    let is : state_in d p ≡ state_in c p =
    ap (λ (x : Configuration). state_in x p) f.leads ∙ ap (λ (l : List LocalState). get_or l p no_state) (set_past c.states p f.state past) in
    rw is (λ direction q. (omega arith)))
    (within_or_past (length c.states) p)
  where
    own : (move : Move) (state : LocalState) → state.sent ≡ sent_after move (state_in c p).sent
        → state.got ≡ got_after move (state_in c p).got
        → (direction : Direction) → GrowsBy 1 (counts_of direction (state_in c p)) (counts_of direction state)
    own move state sent got Sent = rw sent (sent_grows move (state_in c p).sent)
    own move state sent got Got = rw got (got_grows move (state_in c p).got)

-- The counts of process p grow by at most one for each of its choices.
pub counts_grow : (P : Program) (c d : Configuration) (n p : ℕ) (E : List Event) → order_from P c E ≡ Ok d → p < n
    → CountsMore (length (get_or (choices_of n E) p [])) (state_in c p) (state_in d p)
counts_grow P c d n p [] legal here =
    let same : c ≡ d = cc in
    subst (λ (x : Configuration). CountsMore (length (get_or (choices_of n []) p [])) (state_in c p) (state_in x p)) same
    (λ direction q. (omega arith))
counts_grow P c d n p (e ∷ E) legal here =
    let step = first_step (fire P c e.process e.choice) (λ x. order_from P x E) d legal in
    let H : History = choices_of n E in
    let rest : CountsMore (length (get_or H p [])) (state_in step.0 p) (state_in d p) = counts_grow P step.0 d n p E step.2 here in
    let within : p < length H = rw (length-choices_of n E) here in
    ⊎_elim
    (λ (same : e.process ≡ p).
    let choices : get_or (with_first H e.process e.choice) p [] ≡ e.choice ∷ get_or H p [] =
    ap (λ (q : ℕ). get_or (with_first H q e.choice) p []) same ∙ get_or-set_same H p (e.choice ∷ get_or H p []) [] within in
    let first : CountsMore 1 (state_in c p) (state_in step.0 p) =
    subst (λ (q : ℕ). CountsMore 1 (state_in c q) (state_in step.0 q)) same (own_choice P c step.0 e.process e.choice step.1) in
    rw choices (λ direction q. (omega (arith, first direction q, rest direction q))))
    (λ (apart : e.process ≢ p).
    let choices : get_or (with_first H e.process e.choice) p [] ≡ get_or H p [] =
    get_or-set_other H e.process p (e.choice ∷ get_or H e.process []) [] (λ (x : p ≡ e.process). apart (sym x)) in
    let kept : state_in step.0 p ≡ state_in c p = kept_state P c step.0 e.process e.choice p apart step.1 in
    rw choices (rw (← kept) rest))
    (cases_eq e.process p)
