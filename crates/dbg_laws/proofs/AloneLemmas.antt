-- A set of first events can be replayed alone only if it is closed: the history of its events is then possible.
use Rattle.std.proofs.Common.{◌≡◌, ◌≢◌, ⊎_elim, ℕ, zero, suc, ◌-◌, ◌<◌, ◌≤◌, List, [], ◌∷◌, length, take, get_or, set, Ok, refl, sym}
use Rattle.std.proofs.Common.{ap, ◌∙◌, subst, arith}
use Rattle.std.proofs.lemmas.Bool.{cases_eq, cases_lt}
use Rattle.std.proofs.lemmas.List.{get_or-set_same, get_or-set_other, get_or_past, length-map, ext_get_or, length-take-le}
use Rattle.dbg_base.specs.Trees.{Program}
use Rattle.dbg_base.specs.Configurations.{Configuration, start_of}
use Rattle.dbg_base.specs.Histories.{History, IsPossible}
use Rattle.dbg_base.specs.Orders.{Event, order, choices_of}
use Rattle.dbg_base.specs.Cuts.{history_at}
use Rattle.dbg_base.specs.Reference.{line, IsClosed, events_of}
use Rattle.dbg_laws.proofs.Lists.{none_in_replicate}
use Rattle.dbg_laws.proofs.OrderSwapLemmas.{takes, length-choices_of}
use Rattle.dbg_laws.proofs.PlayLemmas.{possible}
use Rattle.dbg_laws.proofs.ConsistentCutLemmas.{rest_at, line_at, length-history_at, split_at}
use Rattle.dbg_laws.proofs.UndoneCutLemmas.{cut_of, count_at, IsPrefix, prefix_consistent}
use Rattle.dbg_laws.proofs.ClosedSetLemmas.{closed}
use Rattle.dbg_laws.proofs.ConsistentCutLemmas.{kept, left_out}

none_taken : (n : ℕ) → ◌≡◌ {A = List ℕ} (take n []) []
none_taken zero = refl
none_taken (suc n) = refl

more_taken : (n k : ℕ) (l : List ℕ) → 0 < n → take n (k ∷ l) ≡ k ∷ take (n - 1) l
more_taken zero k l some = absurd (omega (arith, some))
more_taken (suc n) k l some = let e : n ≡ suc n - 1 = omega arith in ap (λ (m : ℕ). k ∷ take m l) e

-- the choices of the events of a set
line_of : (n : ℕ) (E : List Event) (cut : List ℕ) (q : ℕ) → q < n
    → get_or (choices_of n (events_of cut E)) q [] ≡ take (get_or cut q 0) (get_or (choices_of n E) q [])
line_of n [] cut q here =
    none_in_replicate n q ∙ sym (none_taken (get_or cut q 0)) ∙ ap (λ (l : List ℕ). take (get_or cut q 0) l) (sym (none_in_replicate n q))
line_of n (e ∷ E) cut q here =
    ⊎_elim
    (λ (some : 0 < get_or cut e.process 0).
    let v : List ℕ = set cut e.process (get_or cut e.process 0 - 1) in
    let F : List Event = events_of v E in
    let size_F = length-choices_of n F in
    ap (λ (X : List Event). get_or (choices_of n X) q []) (kept cut e E some)
    ∙ ⊎_elim
    (λ (same : e.process ≡ q).
    let some_q : 0 < get_or cut q 0 = subst (λ (x : ℕ). 0 < get_or cut x 0) same some in
    let less : get_or v q 0 ≡ get_or cut q 0 - 1 =
    subst (λ (x : ℕ). get_or (set cut x (get_or cut x 0 - 1)) q 0 ≡ get_or cut q 0 - 1) (sym same)
    (get_or-set_same cut q (get_or cut q 0 - 1) 0 (there q some_q)) in
    subst (λ (x : ℕ). get_or (set (choices_of n F) x (e.choice ∷ get_or (choices_of n F) x [])) q []
    ≡ take (get_or cut q 0) (get_or (set (choices_of n E) x (e.choice ∷ get_or (choices_of n E) x [])) q [])) (sym same)
    (get_or-set_same (choices_of n F) q (e.choice ∷ get_or (choices_of n F) q []) [] (omega (arith, size_F, here))
    ∙ ap (λ (l : List ℕ). e.choice ∷ l) (line_of n E v q here)
    ∙ ap (λ (m : ℕ). e.choice ∷ take m (get_or (choices_of n E) q [])) less
    ∙ sym (more_taken (get_or cut q 0) e.choice (get_or (choices_of n E) q []) some_q)
    ∙ ap (λ (l : List ℕ). take (get_or cut q 0) l)
    (sym (get_or-set_same (choices_of n E) q (e.choice ∷ get_or (choices_of n E) q []) []
    (let size = length-choices_of n E in omega (arith, size, here))))))
    (λ (apart : e.process ≢ q).
    let back : q ≢ e.process = λ x. apart (sym x) in
    get_or-set_other (choices_of n F) e.process q (e.choice ∷ get_or (choices_of n F) e.process []) [] back
    ∙ line_of n E v q here
    ∙ ap (λ (m : ℕ). take m (get_or (choices_of n E) q [])) (get_or-set_other cut e.process q (get_or cut e.process 0 - 1) 0 back)
    ∙ ap (λ (l : List ℕ). take (get_or cut q 0) l)
    (sym (get_or-set_other (choices_of n E) e.process q (e.choice ∷ get_or (choices_of n E) e.process []) [] back)))
    (cases_eq e.process q))
    (λ (few : get_or cut e.process 0 ≤ 0).
    let none : get_or cut e.process 0 ≡ 0 = omega (arith, few) in
    ap (λ (X : List Event). get_or (choices_of n X) q []) (left_out cut e E none)
    ∙ line_of n E cut q here
    ∙ ⊎_elim
    (λ (same : e.process ≡ q).
    let none_q : get_or cut q 0 ≡ 0 = subst (λ (x : ℕ). get_or cut x 0 ≡ 0) same none in
    ap (λ (m : ℕ). take m (get_or (choices_of n E) q [])) none_q
    ∙ ap (λ (m : ℕ). take m (get_or (choices_of n (e ∷ E)) q [])) (sym none_q))
    (λ (apart : e.process ≢ q).
    ap (λ (l : List ℕ). take (get_or cut q 0) l)
    (sym (get_or-set_other (choices_of n E) e.process q (e.choice ∷ get_or (choices_of n E) e.process []) [] (λ x. apart (sym x)))))
    (cases_eq e.process q))
    (cases_lt 0 (get_or cut e.process 0))
  where
    there : (p : ℕ) → 0 < get_or cut p 0 → p < length cut
    there p some = grind (arith, get_or_past {X = ℕ})

choices_at : (n : ℕ) (E : List Event) (cut : List ℕ) → choices_of n (events_of cut E) ≡ history_at (choices_of n E) cut
choices_at n E cut =
    let size = length-choices_of n (events_of cut E) in
    ext_get_or [] (choices_of n (events_of cut E)) (history_at (choices_of n E) cut)
    (size ∙ sym (length-history_at (choices_of n E) cut ∙ length-choices_of n E))
    (λ q here. line_of n E cut q (omega (arith, here, size)) ∙ sym (line_at (choices_of n E) cut q))

pub only_closed : (P : Program) (E : List Event) (cut : List ℕ) → length cut ≡ length P
    → ((p : ℕ) → get_or cut p 0 ≤ length (line P E p)) → (d : Configuration) → order P (events_of cut E) ≡ Ok d → IsClosed P E cut
only_closed P E cut sizes within d legal =
    let H : History = choices_of (length P) E in
    let F : History = history_at H cut in
    let same : choices_of (length P) (events_of cut E) ≡ F = choices_at (length P) E cut in
    let all : IsPossible P F = subst (λ (X : History). IsPossible P X) same
    (possible P (choices_of (length P) (events_of cut E)) (events_of cut E) d legal (takes P (start_of P) d (events_of cut E) legal)).0 in
    let prefix : IsPrefix H F = record {
      size = length-history_at H cut;
      lines = λ q. (get_or (rest_at H cut) q [], (split_at H cut).lines q);
    } in
    let size_H = length-choices_of (length P) E in
    let size_F = length-history_at H cut in
    let cut_is : cut_of F ≡ cut =
    ext_get_or 0 (cut_of F) cut (length-map F (λ (l : List ℕ). length l) ∙ size_F ∙ size_H ∙ sym sizes)
    (λ q here.
    let few = within q in
    let count = count_at F q in
    let taken = ap (λ (l : List ℕ). length l) (line_at H cut q) in
    let size = length-take-le (get_or cut q 0) (get_or H q []) few in
    omega (arith, count, taken, size)) in
    subst (λ (v : List ℕ). IsClosed P E v) cut_is (closed P E (cut_of F) (prefix_consistent P H F all prefix))
