-- Two legal lists of one history become each other by swaps. The first event of one can fire now, so swaps move it to the first position of
-- the other. Then the rest follows.
use Rattle.std.proofs.Common.{◌≡◌, ◌≢◌, ℕ, zero, suc, List, [], ◌∷◌, length, get_or, set, Result, Ok, Err, refl, sym, ap, ◌∙◌, subst}
use Rattle.std.proofs.Common.{⊎_elim, ◌<◌, ◌≤◌, replicate}
use Rattle.std.specs.List.{AllByRecursion}
use Rattle.std.specs.Prelude.{slice_get}
use Rattle.std.proofs.lemmas.Bool.{cases_eq}
use Rattle.std.proofs.lemmas.List.{set_comm, get_or-set_other, set-set, set-get_or, get_or_past, get_or-set_same, length-set}
use Rattle.std.proofs.lemmas.List.{length-replicate}
use Rattle.dbg_base.specs.declared.refusal.Refusal.{Refusal}
use Rattle.dbg_base.specs.Trees.{Program, Process, no_process, process_of}
use Rattle.dbg_base.specs.Configurations.{Configuration}
use Rattle.dbg_base.specs.Firing.{fire, fire_if}
use Rattle.dbg_base.specs.Histories.{History}
use Rattle.dbg_base.specs.Orders.{Event, and_then, order_from, IsSwap, GoesOver, Stays, Swaps, choices_of}
use Rattle.dbg_laws.proofs.Moves.{diamond}
use Rattle.dbg_laws.proofs.Lists.{within_or_past}

-- An event that can fire now, and comes later in a list, can become the first by swaps.

-- no choice remains
abbrev pub IsEmpty : History → Type 0
IsEmpty H = AllByRecursion (λ (choices : List ℕ). choices ≡ []) H

-- the events take the history apart: each is the next choice of its process
abbrev pub IsOrderOf : History → List Event → Type 0
IsOrderOf H [] = IsEmpty H
IsOrderOf H (e ∷ E) = (rest : List ℕ) × (get_or H e.process [] ≡ e.choice ∷ rest) × IsOrderOf (set H e.process rest) E

pub none_left : (H : History) (p : ℕ) → IsEmpty H → get_or H p [] ≡ []
none_left [] p empty = refl
none_left (choices ∷ H) zero empty = empty.0
none_left (choices ∷ H) (suc p) empty = none_left H p empty.1

pub first_step : (r : Result Configuration Refusal) (next : Configuration → Result Configuration Refusal) (d : Configuration)
    → and_then r next ≡ Ok d → (m : Configuration) × (r ≡ Ok m) × (next m ≡ Ok d)
first_step (Ok m) next d legal = (m, refl, legal)
first_step (Err refusal) next d legal = cc

-- a legal list continues legally after its first event, and conversely
pub legal_after : (P : Program) (c m d : Configuration) (e : Event) (E : List Event) → fire P c e.process e.choice ≡ Ok m
    → order_from P m E ≡ Ok d → order_from P c (e ∷ E) ≡ Ok d
legal_after P c m d e E fires legal = ap (λ (r : Result Configuration Refusal). and_then r (λ x. order_from P x E)) fires ∙ legal

pub legal_rest : (P : Program) (c m d : Configuration) (e : Event) (E : List Event) → fire P c e.process e.choice ≡ Ok m
    → order_from P c (e ∷ E) ≡ Ok d → order_from P m E ≡ Ok d
legal_rest P c m d e E fires legal =
    sym (ap (λ (r : Result Configuration Refusal). and_then r (λ x. order_from P x E)) fires) ∙ legal

swap_after : (e : Event) (E F : List Event) → IsSwap E F → IsSwap (e ∷ E) (e ∷ F)
swap_after e E F s = record {
  prefix = e ∷ s.prefix;
  one = s.one;
  other = s.other;
  beyond = s.beyond;
  before = ap (λ (X : List Event). e ∷ X) s.before;
  after = ap (λ (X : List Event). e ∷ X) s.after;
  apart = s.apart;
}

pub goes_after : (P : Program) (c m : Configuration) (e : Event) (E F : List Event) → fire P c e.process e.choice ≡ Ok m
    → GoesOver P m E F → GoesOver P c (e ∷ E) (e ∷ F)
goes_after P c m e E F fires (Stays l) = Stays (l.0, legal_after P c m l.0 e E fires l.1)
goes_after P c m e E F fires (Swaps {F = G} l swap goes) =
    Swaps (l.0, legal_after P c m l.0 e E fires l.1) (swap_after e E G swap) (goes_after P c m e G F fires goes)

pub goes_both : (P : Program) (c : Configuration) (E F G : List Event) → GoesOver P c E F → GoesOver P c F G → GoesOver P c E G
goes_both P c E F G (Stays l) later = later
goes_both P c E F G (Swaps {F = D} l swap goes) later = Swaps l swap (goes_both P c D F G goes later)

-- The event f becomes the first: the others are legal after it, and lead to the same end.
pub record Bubbled (P : Program) (c m d : Configuration) (H : History) (f : Event) (rest : List ℕ) (E : List Event) : Type 0 where
  pub others : List Event
  pub order : IsOrderOf (set H f.process rest) others
  pub legal : order_from P m others ≡ Ok d
  pub swaps : GoesOver P c E (f ∷ others)
  pub shorter : length E ≡ suc (length others)

-- it is the first already
taken_here : (P : Program) (c m d : Configuration) (H : History) (e : Event) (rest left : List ℕ) (E : List Event)
    → order_from P c (e ∷ E) ≡ Ok d → get_or H e.process [] ≡ e.choice ∷ left → IsOrderOf (set H e.process left) E
    → get_or H e.process [] ≡ e.choice ∷ rest → fire P c e.process e.choice ≡ Ok m → Bubbled P c m d H e rest (e ∷ E)
taken_here P c m d H e rest left E legal here order prefix fires =
    let same : left ≡ rest = cc in
    record {
      others = E;
      order = subst (λ (x : List ℕ). IsOrderOf (set H e.process x) E) same order;
      legal = legal_rest P c m d e E fires legal;
      swaps = Stays (d, legal);
      shorter = refl;
    }

taken_same : (P : Program) (c m d : Configuration) (H : History) (e f : Event) (rest left : List ℕ) (E : List Event) → e.process ≡ f.process
    → order_from P c (e ∷ E) ≡ Ok d → get_or H e.process [] ≡ e.choice ∷ left → IsOrderOf (set H e.process left) E
    → get_or H f.process [] ≡ f.choice ∷ rest → fire P c f.process f.choice ≡ Ok m → Bubbled P c m d H f rest (e ∷ E)
taken_same P c m d H e f rest left E process legal here order prefix fires =
    let choice : e.choice ≡ f.choice = cc in
    let same : e ≡ f = (λ i. record { process = process i; choice = choice i }) in
    subst (λ (x : Event). get_or H x.process [] ≡ x.choice ∷ rest → fire P c x.process x.choice ≡ Ok m → Bubbled P c m d H x rest (e ∷ E))
    same (λ x y. taken_here P c m d H e rest left E legal here order x y) prefix fires

pub bubble : (P : Program) (c m d : Configuration) (H : History) (f : Event) (rest : List ℕ) (E : List Event) → order_from P c E ≡ Ok d
    → IsOrderOf H E → get_or H f.process [] ≡ f.choice ∷ rest → fire P c f.process f.choice ≡ Ok m → Bubbled P c m d H f rest E
bubble P c m d H f rest [] legal order prefix fires =
    absurd (let none : get_or H f.process [] ≡ [] = none_left H f.process order in cc)
bubble P c m d H f rest (e ∷ E) legal order prefix fires =
    ⊎_elim
    (λ (same : e.process ≡ f.process). taken_same P c m d H e f rest order.0 E same legal order.1 order.2 prefix fires)
    (λ (apart : e.process ≢ f.process).
    let back : f.process ≢ e.process = λ x. apart (sym x) in
    let step = first_step (fire P c e.process e.choice) (λ x. order_from P x E) d legal in
    let dia = diamond P c e.process e.choice f.process f.choice step.0 m apart step.1 fires in
    let left = order.0 in
    let deeper = bubble P step.0 dia.meet d (set H e.process left) f rest E step.2 order.2
    (get_or-set_other H e.process f.process left [] back ∙ prefix) dia.one in
    let legal_here : order_from P m (e ∷ deeper.others) ≡ Ok d =
    legal_after P m dia.meet d e deeper.others dia.other deeper.legal in
    let before : order_from P c (e ∷ f ∷ deeper.others) ≡ Ok d =
    legal_after P c step.0 d e (f ∷ deeper.others) step.1
    (legal_after P step.0 dia.meet d f deeper.others dia.one deeper.legal) in
    record {
      others = e ∷ deeper.others;
      order = (
        left,
        get_or-set_other H f.process e.process rest [] apart ∙ order.1,
        subst (λ (x : History). IsOrderOf x deeper.others) (set_comm H e.process f.process left rest apart) deeper.order,
      );
      legal = legal_here;
      swaps = goes_both P c (e ∷ E) (e ∷ f ∷ deeper.others) (f ∷ e ∷ deeper.others)
          (goes_after P c step.0 e E (f ∷ deeper.others) step.1 deeper.swaps)
          (Swaps (d, before)
          (record {
            prefix = [];
            one = e;
            other = f;
            beyond = deeper.others;
            before = refl;
            after = refl;
            apart = apart;
          })
          (Stays (d, legal_after P c m d f (e ∷ deeper.others) fires legal_here)));
      shorter = ap (λ (n : ℕ). suc n) deeper.shorter;
    })
    (cases_eq e.process f.process)

-- Two legal lists of one history become each other by swaps.

pub joined : (P : Program) (c d b : Configuration) (H : History) (E F : List Event) → order_from P c E ≡ Ok d → order_from P c F ≡ Ok b
    → IsOrderOf H E → IsOrderOf H F → GoesOver P c E F
joined P c d b H [] [] legal other order empty = Stays (d, legal)
joined P c d b H (e ∷ E) [] legal other order empty =
    absurd (let none : get_or H e.process [] ≡ [] = none_left H e.process empty in let some = order.1 in cc)
joined P c d b H E (f ∷ F) legal other order later =
    let step = first_step (fire P c f.process f.choice) (λ x. order_from P x F) b other in
    let first = bubble P c step.0 d H f later.0 E legal order later.1 step.1 in
    goes_both P c E (f ∷ first.others) (f ∷ F) first.swaps
    (goes_after P c step.0 f first.others F step.1
    (joined P step.0 d b (set H f.process later.0) first.others F first.legal step.2 first.order later.2))

-- The history of a legal list, with one more choice.

-- a process that fires exists
not_there : (P : Program) (c d : Configuration) (p k : ℕ) → length P ≤ p → fire P c p k ≡ Ok d → ⊥
not_there P c d p k past fires =
    let none : process_of P p ≡ no_process = get_or_past P p no_process past in
    let same : fire P c p k ≡ fire_if (slice_get no_process.commands k) c p =
    ap (λ (process : Process). fire_if (slice_get process.commands k) c p) none in
    cc

pub is_there : (P : Program) (c d : Configuration) (p k : ℕ) → fire P c p k ≡ Ok d → p < length P
is_there P c d p k fires =
    ⊎_elim (λ (here : p < length P). here) (λ (past : length P ≤ p). absurd (not_there P c d p k past fires)) (within_or_past (length P) p)

empty_replicate : (n : ℕ) → IsEmpty (replicate n [])
empty_replicate zero = tt
empty_replicate (suc n) = (refl, empty_replicate n)

pub length-choices_of : (n : ℕ) (E : List Event) → length (choices_of n E) ≡ n
length-choices_of n [] = length-replicate n []
length-choices_of n (e ∷ E) =
    length-set (choices_of n E) e.process (e.choice ∷ get_or (choices_of n E) e.process []) ∙ length-choices_of n E

-- a legal list is an order of its history
pub takes : (P : Program) (c d : Configuration) (E : List Event) → order_from P c E ≡ Ok d → IsOrderOf (choices_of (length P) E) E
takes P c d [] legal = empty_replicate (length P)
takes P c d (e ∷ E) legal =
    let step = first_step (fire P c e.process e.choice) (λ x. order_from P x E) d legal in
    let H : History = choices_of (length P) E in
    let rest : List ℕ = get_or H e.process [] in
    let within : e.process < length H = rw (length-choices_of (length P) E) (is_there P c step.0 e.process e.choice step.1) in (
      rest,
      get_or-set_same H e.process (e.choice ∷ rest) [] within,
      subst (λ (X : History). IsOrderOf X E)
          (sym (set-set H e.process (e.choice ∷ rest) rest ∙ set-get_or H e.process [])) (takes P step.0 d E step.2),
    )
