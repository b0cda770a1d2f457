-- What happened before an event is before it in each legal list: each prefix of the list is closed.
use Rattle.std.proofs.Common.{◌≡◌, ◌≢◌, ⊎_elim, ℕ, ◌<◌, ◌≤◌, List, [], ◌∷◌, ◌++◌, length, get_or, set, Ok, refl, sym, ap, ◌∙◌, subst, arith, ◌+◌, append_assoc, append-nil}
use Rattle.std.proofs.lemmas.Bool.{cases_eq, cases_lt}
use Rattle.std.proofs.lemmas.List.{get_or-set_same, get_or-set_other, get_or_past, length-append}
use Rattle.dbg_base.specs.Trees.{Program}
use Rattle.dbg_base.specs.Configurations.{Configuration, start_of}
use Rattle.dbg_base.specs.Firing.{fire}
use Rattle.dbg_base.specs.Histories.{History, IsPossible}
use Rattle.dbg_base.specs.Orders.{Event, order, order_from, choices_of}
use Rattle.dbg_base.specs.Reference.{line, IsMessage, HappenedBefore, Earlier, ByMessage, Through}
use Rattle.dbg_laws.proofs.Lists.{none_in_replicate}
use Rattle.dbg_laws.proofs.OrderSwapLemmas.{first_step, legal_after, length-choices_of, takes}
use Rattle.dbg_laws.proofs.PlayLemmas.{possible}
use Rattle.dbg_laws.proofs.UndoLemmas.{within_by}
use Rattle.dbg_laws.proofs.UndoneCutLemmas.{cut_of, count_at, IsPrefix, prefix_consistent}
use Rattle.dbg_laws.proofs.ClosedSetLemmas.{closed}

-- the choices of one list after another
pub line_append : (n : ℕ) (A B : List Event) (q : ℕ)
    → get_or (choices_of n (A ++ B)) q [] ≡ get_or (choices_of n A) q [] ++ get_or (choices_of n B) q []
line_append n [] B q = ap (λ (l : List ℕ). l ++ get_or (choices_of n B) q []) (sym (none_in_replicate n q))
line_append n (e ∷ A) B q =
    let X : History = choices_of n (A ++ B) in
    let Y : History = choices_of n A in
    let Z : List ℕ = get_or (choices_of n B) q [] in
    let size_X = length-choices_of n (A ++ B) in
    let size_Y = length-choices_of n A in
    let size_Z = length-choices_of n B in
    ⊎_elim
    (λ (same : e.process ≡ q).
    ⊎_elim
    (λ (here : q < n).
    subst (λ (x : ℕ). get_or (set X x (e.choice ∷ get_or X x [])) q [] ≡ get_or (set Y x (e.choice ∷ get_or Y x [])) q [] ++ Z) (sym same)
    (get_or-set_same X q (e.choice ∷ get_or X q []) [] (omega (arith, here, size_X))
    ∙ ap (λ (l : List ℕ). e.choice ∷ l) (line_append n A B q)
    ∙ ap (λ (l : List ℕ). l ++ Z) (sym (get_or-set_same Y q (e.choice ∷ get_or Y q []) [] (omega (arith, here, size_Y))))))
    (λ (past : n ≤ q).
    let more_X = length-choices_of n (e ∷ (A ++ B)) in
    let more_Y = length-choices_of n (e ∷ A) in
    get_or_past (choices_of n (e ∷ (A ++ B))) q [] (omega (arith, past, more_X))
    ∙ sym (get_or_past (choices_of n B) q [] (omega (arith, past, size_Z)))
    ∙ ap (λ (l : List ℕ). l ++ Z) (sym (get_or_past (choices_of n (e ∷ A)) q [] (omega (arith, past, more_Y)))))
    (cases_lt q n))
    (λ (apart : e.process ≢ q).
    let back : q ≢ e.process = λ x. apart (sym x) in
    get_or-set_other X e.process q (e.choice ∷ get_or X e.process []) [] back
    ∙ line_append n A B q
    ∙ ap (λ (l : List ℕ). l ++ Z) (sym (get_or-set_other Y e.process q (e.choice ∷ get_or Y e.process []) [] back)))
    (cases_eq e.process q)

-- a prefix of a legal list is legal, and so is the rest after it
pub first_part : (P : Program) (c d : Configuration) (A B : List Event) → order_from P c (A ++ B) ≡ Ok d
    → (m : Configuration) × (order_from P c A ≡ Ok m) × (order_from P m B ≡ Ok d)
first_part P c d [] B legal = (c, refl, legal)
first_part P c d (e ∷ A) B legal =
    let step = first_step (fire P c e.process e.choice) (λ x. order_from P x (A ++ B)) d legal in
    let rest = first_part P step.0 d A B step.2 in
    (rest.0, legal_after P c step.0 rest.0 e A step.1 rest.1, rest.2)

-- each prefix is closed
forward : (P : Program) (A B : List Event) (c : Configuration) → order P (A ++ B) ≡ Ok c → (i m j n : ℕ)
    → HappenedBefore P (A ++ B) i m j n → n < length (line P A j) → m < length (line P A i)
forward P A B c legal i m j n before inside =
    let part = first_part P (start_of P) c A B legal in
    let F : History = choices_of (length P) A in
    let H : History = choices_of (length P) (A ++ B) in
    let all : IsPossible P F = (possible P F A part.0 part.1 (takes P (start_of P) part.0 A part.1)).0 in
    let prefix : IsPrefix H F = record {
      size = length-choices_of (length P) A ∙ sym (length-choices_of (length P) (A ++ B));
      lines = λ q. (get_or (choices_of (length P) B) q [], line_append (length P) A B q);
    } in
    let is = closed P (A ++ B) (cut_of F) (prefix_consistent P H F all prefix) in
    let at_j = count_at F j in
    let at_i = count_at F i in
    let less = is.closed i m j n before (omega (arith, at_j, inside)) in
    omega (arith, at_i, less)

-- the choices of one more event, of another process
other_line : (n : ℕ) (A : List Event) (e : Event) (q : ℕ) → q ≢ e.process
    → get_or (choices_of n (A ++ e ∷ [])) q [] ≡ get_or (choices_of n A) q []
other_line n A e q apart =
    line_append n A (e ∷ []) q
    ∙ ap (λ (l : List ℕ). get_or (choices_of n A) q [] ++ l)
    (get_or-set_other (choices_of n []) e.process q (e.choice ∷ get_or (choices_of n []) e.process []) [] apart ∙ none_in_replicate n q)
    ∙ append-nil (get_or (choices_of n A) q [])

own_line : (n : ℕ) (A : List Event) (e : Event) → e.process < n
    → length (get_or (choices_of n (A ++ e ∷ [])) e.process []) ≡ length (get_or (choices_of n A) e.process []) + 1
own_line n A e here =
    let size = length-choices_of n [] in
    let one = ap (λ (l : List ℕ). length l)
    (get_or-set_same (choices_of n []) e.process (e.choice ∷ get_or (choices_of n []) e.process []) [] (omega (arith, here, size))) in
    let none = ap (λ (l : List ℕ). length l) (none_in_replicate {A = ℕ} n e.process) in
    let both = ap (λ (l : List ℕ). length l) (line_append n A (e ∷ []) e.process) in
    let sum = length-append (get_or (choices_of n A) e.process []) (get_or (choices_of n (e ∷ [])) e.process []) in
    omega (arith, one, none, both, sum)

module _ (P : Program) (A B : List Event) (e : Event) (c : Configuration) (legal : order P (A ++ e ∷ B) ≡ Ok c) where
  -- the list, as the prefix with the event and what comes after it
  regrouped : (A ++ e ∷ []) ++ B ≡ A ++ e ∷ B
  regrouped = append_assoc A (e ∷ []) B

  at : ℕ
  at = length (line P A e.process)

  -- the message that the event receives was sent in the prefix
  sent_earlier : (i m : ℕ) → IsMessage P (A ++ e ∷ B) i m e.process at → m < length (line P A i)
  unfolding at
  sent_earlier i m x =
      let F : List Event = A ++ e ∷ B in
      let received = x.received in
      let here : e.process < length P =
      (let within = within_by (choices_of (length P) F) e.process (omega (arith, received)) in
      let size = length-choices_of (length P) F in omega (arith, within, size)) in
      let own = own_line (length P) A e here in
      let message : IsMessage P ((A ++ e ∷ []) ++ B) i m e.process (length (line P A e.process)) =
      subst (λ (X : List Event). IsMessage P X i m e.process (length (line P A e.process))) (sym regrouped) x in
      let inside = forward P (A ++ e ∷ []) B c (ap (order P) regrouped ∙ legal) i m e.process (length (line P A e.process))
      (ByMessage message) (omega (arith, own)) in
      let same = ap (λ (l : List ℕ). length l) (other_line (length P) A e i x.apart) in
      omega (arith, inside, same)

  sent_before : (i m j n : ℕ) → j ≡ e.process → n ≡ at → IsMessage P (A ++ e ∷ B) i m j n → m < length (line P A i)
  sent_before i m j n own last x =
      sent_earlier i m
      (subst (λ (o : ℕ). IsMessage P (A ++ e ∷ B) i m e.process o) last
      (subst (λ (q : ℕ). IsMessage P (A ++ e ∷ B) i m q n) own x))

  stands_by : (i m j n : ℕ) → j ≡ e.process → n ≡ at → HappenedBefore P (A ++ e ∷ B) i m j n → m < length (line P A i)
  unfolding at
  stands_by i m j n own last (Earlier less there) =
      subst (λ (q : ℕ). m < length (line P A q)) (sym own) (omega (arith, less, last))
  stands_by i m j n own last (ByMessage x) = sent_before i m j n own last x
  stands_by i m j n own last (Through {j = k} {n = o} first second) =
      forward P A (e ∷ B) c legal i m k o first (stands_by k o j n own last second)

  -- what happened before an event is before it
  pub stands_before : (i m : ℕ) → HappenedBefore P (A ++ e ∷ B) i m e.process (length (line P A e.process)) → m < length (line P A i)
  unfolding at
  stands_before i m before = stands_by i m e.process (length (line P A e.process)) refl refl before
