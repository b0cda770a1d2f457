-- A consistent cut of a possible history is a possible history. In a legal list of the whole, each event outside the cut moves after the
-- events of the cut, and none of these receives its message. So the events of the cut fire alone, in the order of the list.
use Rattle.std.proofs.Common.{◌≡◌, ◌≢◌, ℕ, zero, suc, ◌+◌, ◌<◌, ◌≤◌, List, [], ◌∷◌, ◌++◌, length, get_or, set, take, drop, Some, Ok, refl}
use Rattle.std.proofs.Common.{sym, ap, ◌∙◌, ◌-◌, subst, ⊎_elim, arith, count_by, take-append-drop, Bool, if◌then◌else◌}
use Rattle.std.proofs.lemmas.Bool.{cases_eq, lt-ltb, le-ltb}
use Rattle.std.proofs.lemmas.List.{get_or-set_same, get_or-set_other, get_or_past, length-set, length-take-le}
use Rattle.dbg_base.specs.Trees.{Program, command_of}
use Rattle.dbg_base.specs.Configurations.{Configuration, start_of, channel_of}
use Rattle.dbg_base.specs.Firing.{fire}
use Rattle.dbg_base.specs.Histories.{History, IsPossible, play}
use Rattle.dbg_base.specs.Orders.{Event, order, order_from, target_in}
use Rattle.dbg_base.specs.Reference.{events_of}
use Rattle.dbg_base.specs.Counts.{sends_to, receives_from}
use Rattle.dbg_base.specs.Cuts.{IsConsistent, history_at}
use Rattle.dbg_laws.proofs.OrderSwapLemmas.{IsEmpty, IsOrderOf, none_left, first_step, legal_after, is_there}
use Rattle.dbg_laws.proofs.PlayLemmas.{possible, listed}
use Rattle.dbg_laws.proofs.PrefixLemmas.{prefix_within, IsSplit, split_after}
use Rattle.dbg_laws.proofs.LastChoiceLemmas.{IsWaiting, are_others, to_end}
use Rattle.dbg_laws.proofs.ChannelSizeLemmas.{IsSquare, square_fire, square_start}
use Rattle.dbg_laws.proofs.ChannelBalanceLemmas.{sends_left, gets_left, sends_by, gets_by, sends_step, gets_step, step_balance, balanced, no_counts}
use Rattle.dbg_laws.proofs.ChannelBalanceLemmas.{sends_one, gets_none}

-- an event of the set, and one that is not
pub kept : (cut : List ℕ) (e : Event) (E : List Event) → 0 < get_or cut e.process 0
    → events_of cut (e ∷ E) ≡ e ∷ events_of (set cut e.process (get_or cut e.process 0 - 1)) E
kept cut e E some =
    ap (λ (b : Bool). if b then e ∷ events_of (set cut e.process (get_or cut e.process 0 - 1)) E else events_of cut E)
    (lt-ltb 0 (get_or cut e.process 0) some)

pub left_out : (cut : List ℕ) (e : Event) (E : List Event) → get_or cut e.process 0 ≡ 0 → events_of cut (e ∷ E) ≡ events_of cut E
left_out cut e E none =
    ap (λ (b : Bool). if b then e ∷ events_of (set cut e.process (get_or cut e.process 0 - 1)) E else events_of cut E)
    (le-ltb 0 (get_or cut e.process 0) (omega (arith, none)))

-- the set has as many events of each process as F has choices
abbrev pub Counts : List ℕ → History → Type 0
Counts cut F = (q : ℕ) → get_or cut q 0 ≡ length (get_or F q [])

counts_less : (cut : List ℕ) (F : History) (p k : ℕ) (left : List ℕ) → get_or F p [] ≡ k ∷ left → Counts cut F
    → Counts (set cut p (get_or cut p 0 - 1)) (set F p left)
counts_less cut F p k left line counts q =
    let count : get_or cut p 0 ≡ suc (length left) = counts p ∙ ap (λ (l : List ℕ). length l) line in
    ⊎_elim
    (λ (same : p ≡ q). subst (λ (x : ℕ). get_or (set cut p (get_or cut p 0 - 1)) x 0 ≡ length (get_or (set F p left) x [])) same
    (get_or-set_same cut p (get_or cut p 0 - 1) 0 (there count)
    ∙ less count
    ∙ sym (ap (λ (l : List ℕ). length l) (get_or-set_same F p left [] (prefix_within F p k left line)))))
    (λ (apart : p ≢ q).
    let back : q ≢ p = λ x. apart (sym x) in
    get_or-set_other cut p q (get_or cut p 0 - 1) 0 back
    ∙ counts q
    ∙ sym (ap (λ (l : List ℕ). length l) (get_or-set_other F p q left [] back)))
    (cases_eq p q)
  where
    there : get_or cut p 0 ≡ suc (length left) → p < length cut
    there count = grind (arith, get_or_past {X = ℕ})

    less : get_or cut p 0 ≡ suc (length left) → get_or cut p 0 - 1 ≡ length left
    less count = omega (arith, count)

-- no process receives more messages in F than its channels have at c and others send in F
abbrev Fits : Program → Configuration → History → Type 0
Fits P c F = (i j : ℕ) → i ≢ j → i < length P → j < length P → gets_left P F j i ≤ length (channel_of c i j) + sends_left P F i j

-- the events of the set are a legal list of F from c on
pub record Ordered (P : Program) (c : Configuration) (F : History) (cut : List ℕ) (E : List Event) : Type 0 where
  pub end : Configuration
  pub legal : order_from P c (events_of cut E) ≡ Ok end
  pub takes : IsOrderOf F (events_of cut E)

all_empty : (F : History) → ((q : ℕ) → get_or F q [] ≡ []) → IsEmpty F
all_empty [] none = tt
all_empty (choices ∷ F) none = (none 0, all_empty F (λ q. none (suc q)))

no_prefix : (l m : List ℕ) → l ++ m ≡ [] → l ≡ []
no_prefix [] m none = refl
no_prefix (x ∷ l) m none = cc

-- the first event is in the cut
cut_inside : (P : Program) (c m : Configuration) (H F R : History) (cut : List ℕ) (e : Event) (E : List Event) (rest left : List ℕ)
    → IsSquare (length P) c.channels
    → fire P c e.process e.choice ≡ Ok m → get_or H e.process [] ≡ e.choice ∷ rest → get_or F e.process [] ≡ e.choice ∷ left
    → rest ≡ left ++ get_or R e.process [] → IsSplit H F R → Fits P c F → Counts cut F
    → (IsSplit (set H e.process rest) (set F e.process left) R → Fits P m (set F e.process left)
    → Counts (set cut e.process (get_or cut e.process 0 - 1)) (set F e.process left)
    → Ordered P m (set F e.process left) (set cut e.process (get_or cut e.process 0 - 1)) E)
    → Ordered P c F cut (e ∷ E)
cut_inside P c m H F R cut e E rest left square fires prefix line whole split fits counts later =
    let parts : IsSplit (set H e.process rest) (set F e.process left) R =
    subst (λ (l : List ℕ). IsSplit (set H e.process l) (set F e.process left) R) (sym whole)
    (split_after H F R e.process e.choice left line (prefix_within H e.process e.choice rest prefix) split) in
    let rest_fits = λ (i j : ℕ) (apart : i ≢ j) (i_there : i < length P) (j_there : j < length P).
    fits_after P c m F e.process e.choice left i j (fits i j apart i_there j_there)
    (step_balance P c m e.process e.choice i j square i_there j_there fires) line in
    let o = later parts rest_fits (counts_less cut F e.process e.choice left line counts) in
    let some : 0 < get_or cut e.process 0 = some_left (counts e.process ∙ ap (λ (l : List ℕ). length l) line) in
    let same = kept cut e E some in
    record {
      end = o.end;
      legal = subst (λ (X : List Event). order_from P c X ≡ Ok o.end) (sym same)
          (legal_after P c m o.end e (events_of (set cut e.process (get_or cut e.process 0 - 1)) E) fires o.legal);
      takes = subst (λ (X : List Event). IsOrderOf F X) (sym same) (left, line, o.takes);
    }
  where
    some_left : {n k : ℕ} → n ≡ suc k → 0 < n
    some_left e = omega (arith, e)

    fits_after : (P : Program) (c m : Configuration) (F : History) (q k : ℕ) (left : List ℕ) (i j : ℕ)
        → gets_left P F j i ≤ length (channel_of c i j) + sends_left P F i j
        → length (channel_of c i j) + sends_by P q k i j ≡ gets_by P q k j i + length (channel_of m i j)
        → get_or F q [] ≡ k ∷ left
        → gets_left P (set F q left) j i ≤ length (channel_of m i j) + sends_left P (set F q left) i j
    fits_after P c m F q k left i j fits step line =
        let sends = sends_step P F q k i j left line in
        let gets = gets_step P F q k j i left line in
        omega (arith, fits, step, sends, gets)

-- the first event is not in the cut: it moves after the events of the cut
cut_outside : (P : Program) (c m : Configuration) (H F R : History) (cut : List ℕ) (e : Event) (E : List Event) (rest : List ℕ)
    → IsSquare (length P) c.channels
    → fire P c e.process e.choice ≡ Ok m → get_or H e.process [] ≡ e.choice ∷ rest → get_or F e.process [] ≡ []
    → IsSplit H F R → Fits P c F → Counts cut F
    → (IsSplit (set H e.process rest) F (set R e.process rest) → Fits P m F → Ordered P m F cut E)
    → Ordered P c F cut (e ∷ E)
cut_outside P c m H F R cut e E rest square fires prefix none split fits counts later =
    let p = e.process in
    let line : get_or R p [] ≡ e.choice ∷ rest =
    ap (λ (l : List ℕ). l ++ get_or R p []) (sym none) ∙ sym (split.lines p) ∙ prefix in
    let parts : IsSplit (set H p rest) F (set R p rest) = split_rest H F R p e.choice rest prefix line none split in
    let rest_fits = λ (i j : ℕ) (apart : i ≢ j) (i_there : i < length P) (j_there : j < length P).
    fits_still P c m F p e.choice i j none (fits i j apart i_there j_there)
    (step_balance P c m p e.choice i j square i_there j_there fires) in
    let o = later parts rest_fits in
    let p_there : p < length P = is_there P c m p e.choice fires in
    let waiting : IsWaiting P o.end p e.choice = λ t to apart t_there.
    waits P c m o.end F p e.choice t none to apart
    (fits p t (λ x. apart (sym x)) p_there t_there)
    (step_balance P c m p e.choice p t square p_there t_there fires)
    (balanced P m o.end F (events_of cut E) p t (square_fire P (length P) c m p e.choice fires square) p_there t_there o.legal o.takes) in
    let b = to_end P c m o.end p e.choice (events_of cut E) fires o.legal (are_others F p (events_of cut E) none o.takes) waiting in
    let same = left_out cut e E (counts p ∙ ap (λ (l : List ℕ). length l) none) in
    record {
      end = b.between;
      legal = subst (λ (X : List Event). order_from P c X ≡ Ok b.between) (sym same) b.first;
      takes = subst (λ (X : List Event). IsOrderOf F X) (sym same) o.takes;
    }
  where
    split_rest : (H F R : History) (p k : ℕ) (rest : List ℕ) → get_or H p [] ≡ k ∷ rest → get_or R p [] ≡ k ∷ rest → get_or F p [] ≡ []
        → IsSplit H F R → IsSplit (set H p rest) F (set R p rest)
    split_rest H F R p k rest prefix line none split = record {
      size = length-set H p rest ∙ split.size ∙ sym (length-set R p rest);
      lines = λ q. ⊎_elim
          (λ (same : p ≡ q). subst (λ (x : ℕ). get_or (set H p rest) x [] ≡ get_or F x [] ++ get_or (set R p rest) x []) same
          (get_or-set_same H p rest [] (prefix_within H p k rest prefix)
          ∙ sym (get_or-set_same R p rest [] (prefix_within R p k rest line))
          ∙ ap (λ (l : List ℕ). l ++ get_or (set R p rest) p []) (sym none)))
          (λ (apart : p ≢ q).
          let back : q ≢ p = λ x. apart (sym x) in
          get_or-set_other H p q rest [] back
          ∙ split.lines q
          ∙ ap (λ (l : List ℕ). get_or F q [] ++ l) (sym (get_or-set_other R p q rest [] back)))
          (cases_eq p q);
    }

    fits_still : (P : Program) (c m : Configuration) (F : History) (p k i j : ℕ) → get_or F p [] ≡ []
        → gets_left P F j i ≤ length (channel_of c i j) + sends_left P F i j
        → length (channel_of c i j) + sends_by P p k i j ≡ gets_by P p k j i + length (channel_of m i j)
        → gets_left P F j i ≤ length (channel_of m i j) + sends_left P F i j
    fits_still P c m F p k i j none fits step =
        ⊎_elim
        (λ (same : p ≡ j).
        let empty : gets_left P F j i ≡ 0 = no_counts F j (receives_from P j i) (subst (λ (x : ℕ). get_or F x [] ≡ []) same none) in
        omega (arith, empty))
        (λ (apart : p ≢ j).
        let takes = gets_none P p k j i apart in omega (arith, fits, step, takes))
        (cases_eq p j)

    waits : (P : Program) (c m b : Configuration) (F : History) (p k t : ℕ) → get_or F p [] ≡ [] → target_in (command_of P p k) ≡ Some t
        → t ≢ p → gets_left P F t p ≤ length (channel_of c p t) + sends_left P F p t
        → length (channel_of c p t) + sends_by P p k p t ≡ gets_by P p k t p + length (channel_of m p t)
        → length (channel_of m p t) + sends_left P F p t ≡ gets_left P F t p + length (channel_of b p t)
        → 0 < length (channel_of b p t)
    waits P c m b F p k t none to apart fits step rest =
        let sends : sends_left P F p t ≡ 0 = no_counts F p (sends_to P p t) none in
        let one = sends_one P p k t to in
        let takes = gets_none P p k t p (λ x. apart (sym x)) in
        omega (arith, fits, step, rest, sends, one, takes)

cut_by : (P : Program) (c m : Configuration) (H F R : History) (cut : List ℕ) (e : Event) (E : List Event) (rest line : List ℕ)
    → get_or F e.process [] ≡ line
    → IsSquare (length P) c.channels → fire P c e.process e.choice ≡ Ok m → get_or H e.process [] ≡ e.choice ∷ rest → IsSplit H F R
    → Fits P c F → Counts cut F
    → ((G S : History) (v : List ℕ) → IsSplit (set H e.process rest) G S → Fits P m G → Counts v G → Ordered P m G v E)
    → Ordered P c F cut (e ∷ E)
cut_by P c m H F R cut e E rest [] line square fires prefix split fits counts later =
    cut_outside P c m H F R cut e E rest square fires prefix line split fits counts
    (λ x y. later F (set R e.process rest) cut x y counts)
cut_by P c m H F R cut e E rest (k ∷ left) line square fires prefix split fits counts later =
    let whole : e.choice ∷ rest ≡ k ∷ (left ++ get_or R e.process []) =
    sym prefix ∙ split.lines e.process ∙ ap (λ (l : List ℕ). l ++ get_or R e.process []) line in
    let choice : k ≡ e.choice = cc in
    let beyond : rest ≡ left ++ get_or R e.process [] = cc in
    cut_inside P c m H F R cut e E rest left square fires prefix (line ∙ ap (λ (x : ℕ). x ∷ left) choice) beyond split fits counts
    (λ x y z. later (set F e.process left) R (set cut e.process (get_or cut e.process 0 - 1)) x y z)

cut_order : (P : Program) (c d : Configuration) (H F R : History) (cut : List ℕ) (E : List Event) → IsSquare (length P) c.channels
    → order_from P c E ≡ Ok d → IsOrderOf H E → IsSplit H F R → Fits P c F → Counts cut F → Ordered P c F cut E
cut_order P c d H F R cut [] square legal empty split fits counts = record {
  end = c;
  legal = refl;
  takes = all_empty F (λ q. no_prefix (get_or F q []) (get_or R q []) (sym (split.lines q) ∙ none_left H q empty));
}
cut_order P c d H F R cut (e ∷ E) square legal takes split fits counts =
    let step = first_step (fire P c e.process e.choice) (λ x. order_from P x E) d legal in
    cut_by P c step.0 H F R cut e E takes.0 (get_or F e.process []) refl square step.1 takes.1 split fits counts
    (λ G S v x y z. cut_order P step.0 d (set H e.process takes.0) G S v E
    (square_fire P (length P) c step.0 e.process e.choice step.1 square) step.2 takes.2 x y z)

-- the choices beyond a cut
abbrev pub rest_at : History → List ℕ → History
rest_at [] cut = []
rest_at (line ∷ H) [] = line ∷ rest_at H []
rest_at (line ∷ H) (n ∷ cut) = drop n line ∷ rest_at H cut

pub line_at : (H : History) (cut : List ℕ) (q : ℕ) → get_or (history_at H cut) q [] ≡ take (get_or cut q 0) (get_or H q [])
line_at [] cut q = take_nothing (get_or cut q 0)
  where
    take_nothing : (n : ℕ) → [] ≡ take {A = ℕ} n []
    take_nothing zero = refl
    take_nothing (suc n) = refl
line_at (line ∷ H) [] zero = refl
line_at (line ∷ H) [] (suc q) = line_at H [] q
line_at (line ∷ H) (n ∷ cut) zero = refl
line_at (line ∷ H) (n ∷ cut) (suc q) = line_at H cut q

pub length-history_at : (H : History) (cut : List ℕ) → length (history_at H cut) ≡ length H
length-history_at [] cut = refl
length-history_at (line ∷ H) [] = ap (λ (n : ℕ). suc n) (length-history_at H [])
length-history_at (line ∷ H) (n ∷ cut) = ap (λ (m : ℕ). suc m) (length-history_at H cut)

pub split_at : (H : History) (cut : List ℕ) → IsSplit H (history_at H cut) (rest_at H cut)
split_at H cut = record { size = size H cut; lines = λ q. lines H cut q }
  where
    size : (H : History) (cut : List ℕ) → length H ≡ length (rest_at H cut)
    size [] cut = refl
    size (line ∷ H) [] = ap (λ (n : ℕ). suc n) (size H [])
    size (line ∷ H) (n ∷ cut) = ap (λ (m : ℕ). suc m) (size H cut)

    lines : (H : History) (cut : List ℕ) (q : ℕ) → get_or H q [] ≡ get_or (history_at H cut) q [] ++ get_or (rest_at H cut) q []
    lines [] cut q = refl
    lines (line ∷ H) [] zero = refl
    lines (line ∷ H) [] (suc q) = lines H [] q
    lines (line ∷ H) (n ∷ cut) zero = sym (take-append-drop n line)
    lines (line ∷ H) (n ∷ cut) (suc q) = lines H cut q

-- a cut of a list of events is consistent: its events fire alone, in the order of the list
module _ (P : Program) (H : History) (E : List Event) (c : Configuration) (legal : order P E ≡ Ok c) (whole : IsOrderOf H E)
    (cut : List ℕ) (is : IsConsistent P H cut) where
  pub counts_at : Counts cut (history_at H cut)
  counts_at q =
      let line = ap (λ (l : List ℕ). length l) (line_at H cut q) in
      let within = is.within q in
      let size = length-take-le (get_or cut q 0) (get_or H q []) within in
      omega (arith, line, size)

  fits_start : Fits P (start_of P) (history_at H cut)
  fits_start i j apart i_there j_there =
      let gets : gets_left P (history_at H cut) j i ≡ count_by (receives_from P j i) (take (get_or cut j 0) (get_or H j [])) =
      ap (λ (l : List ℕ). count_by (receives_from P j i) l) (line_at H cut j) in
      let sends : sends_left P (history_at H cut) i j ≡ count_by (sends_to P i j) (take (get_or cut i 0) (get_or H i [])) =
      ap (λ (l : List ℕ). count_by (sends_to P i j) l) (line_at H cut i) in
      let causes = is.causes i j apart in
      omega (arith, gets, sends, causes)

  pub ordered_at : Ordered P (start_of P) (history_at H cut) cut E
  ordered_at =
      cut_order P (start_of P) c H (history_at H cut) (rest_at H cut) cut E (square_start P) legal whole (split_at H cut) fits_start counts_at

pub cut_possible : (P : Program) (H : History) (cut : List ℕ) → IsPossible P H → IsConsistent P H cut → IsPossible P (history_at H cut)
cut_possible P H cut all is =
    let l = listed P H all in
    let o = ordered_at P H l.events (play P H) l.legal l.takes cut is in
    (possible P (history_at H cut) (events_of cut l.events) o.end o.legal o.takes).0
