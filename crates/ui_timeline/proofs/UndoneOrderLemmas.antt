-- All events of a world are undone, one by one. The order of the processes is that of the undone events, read from the end.
use Rattle.std.proofs.Common.{◌≡◌, ◌≢◌, ◌⊎◌, ◌<◌, ◌≤◌, ℕ, zero, suc, List, [], ◌∷◌, ◌++◌, length, map, reverse, replicate, get_or, set, take, sum, ◌-◌, ◌+◌}
use Rattle.std.proofs.Common.{Option, None, Some, Ok, Err, refl, sym, ap, ◌∙◌, subst, inl, inr, arith, append_assoc}
use Rattle.std.proofs.Common.{⊎_elim, true, false}
use Rattle.std.specs.Prelude.{OnOk, IfErr, IfSome}
use Rattle.std.specs.Result.{is_ok}
use Rattle.std.proofs.lemmas.Bool.{cases_eq}
use Rattle.std.proofs.lemmas.List.{length-replicate, length-set, ext_get_or, get_or-set_same, get_or-set_other}
use Rattle.std.specs.Prelude.{MatchOption, Result}
use Rattle.std.proofs.lemmas.List.{append-nil, reverse-append, map-append}
use Rattle.dbg_base.specs.declared.ids.Pid.{Pid}
use Rattle.dbg_base.specs.declared.refusal.Refusal.{Refusal}
use Rattle.dbg_base.specs.declared.refusal.Refusal.TheVariants.{NothingToUndo, Consequence}
use Rattle.dbg_base.specs.Trees.{Program}
use Rattle.dbg_base.specs.Configurations.{start_of}
use Rattle.dbg_base.specs.Histories.{History, IsPossible, play}
use Rattle.dbg_base.specs.Orders.{Event, order, IsLegalOrder, choices_of, with_last}
use Rattle.dbg_base.specs.SystemStates.{SystemState, history_of, place_at, after_undo}
use Rattle.dbg_base.specs.Reversal.{MayUndo, without_last, choice_at_end}
use Rattle.dbg_base.specs.Choices.{CannotUndo}
use Rattle.cut_core.specs.declared.kind.Kind.{Kind}
use Rattle.cut_core.specs.ConsistentCuts.{IsConsistentCut}
use Rattle.causal_world.specs.Scenes.{Scene, IsWorldOf}
use Rattle.causal_world.specs.Worlds.{IsSomeWorld}
use Rattle.causal_world.proofs.ClockRows.{has_events}
use Rattle.causal_world.proofs.WorldCallLemmas.{kinds_there, events_counted}
use Rattle.causal_world.proofs.RollbackLemmas.{none_after, choices_counted}
use Rattle.causal_world.proofs.WorldOfLemmas.{choices_more, history_without}
use Rattle.causal_world.proofs.LastKindLemmas.{sum_strict}
use Rattle.dbg_laws.proofs.Lists.{none_in_replicate}
use Rattle.dbg_laws.proofs.LineStates.{length_cut}
use Rattle.dbg_laws.proofs.ConsistentCutLemmas.{line_at}
use Rattle.dbg_laws.proofs.PrefixLemmas.{order_both, one_event, last_fires}
use Rattle.dbg_laws.proofs.OrderSwapLemmas.{takes}
use Rattle.dbg_laws.proofs.PlayLemmas.{possible}
use Rattle.dbg_laws.proofs.UndoLemmas.{with_without, within_without}
use Rattle.ui_timeline.specs.EventOrders.{IsEventOrder, Continues, no_events}
use Rattle.ui_timeline.specs.FirstCuts.{cuts_before, IsLatest}

-- If no process may undo, none has an event.

-- the process may not undo its last event
abbrev pub IsStuck : Scene → ℕ → Type 0
IsStuck w q = (place_at w.state q ≡ 0) ⊎ ((P : Program) → IsWorldOf P w → MayUndo P (history_of w.state) q → ⊥)

-- by the reason in the refusal
pub stuck_by : (w : Scene) (q : ℕ) (refusal : Refusal) → IsSomeWorld w → ((P : Program) → IsWorldOf P w → CannotUndo P w.state q refusal)
    → IsStuck w q
stuck_by w q NothingToUndo some cannot = inl (cannot some.0 some.1)
stuck_by w q (Consequence to) some cannot = inr (λ P of may. (cannot P of).impossible may.rest)
stuck_by w q refusal some cannot = absurd (cannot some.0 some.1)

zero_at : (n p : ℕ) → ◌≡◌ {A = ℕ} (get_or (replicate n 0) p 0) 0
zero_at zero p = refl
zero_at (suc n) zero = refl
zero_at (suc n) (suc p) = zero_at n p

-- the cut at the start
start_cut : (kinds : List (List Kind)) → IsConsistentCut kinds (replicate (length kinds) 0)
start_cut kinds = record {
  sizes = length-replicate (length kinds) 0;
  within = λ p. omega (arith, zero_at (length kinds) p);
  causes = λ i j apart. rw (zero_at (length kinds) j) (omega arith);
}

pub none_has_events : (w : Scene) → IsSomeWorld w → ((q : ℕ) → q < length w.kinds → IsStuck w q) → (p : ℕ) → place_at w.state p ≡ 0
none_has_events w some stuck p =
    let zeros = replicate (length w.kinds) 0 in
    let none = none_after w zeros some (start_cut w.kinds) (λ q within. from_stuck q (stuck q within)) p in
    omega (arith, none, zero_at (length w.kinds) p, events_counted some.0 w p some.1)
  where
    from_stuck : (q : ℕ) → IsStuck w q
        → (place_at w.state q ≤ get_or (replicate (length w.kinds) 0) q 0)
        ⊎ ((P : Program) → IsWorldOf P w → MayUndo P (history_of w.state) q → ⊥)
    from_stuck q (inl none) = inl (omega (arith, none))
    from_stuck q (inr never) = inr never

-- a process for each line
pub sizes : (w : Scene) → IsSomeWorld w → length w.kinds ≡ length w.state.places
sizes w some = kinds_there some.0 w some.1 ∙ sym some.1.state.places

-- the process may undo its last event
abbrev pub MayAny : Scene → ℕ → Type 0
MayAny w p = (P : Program) → IsWorldOf P w → MayUndo P (history_of w.state) p

-- among the first n processes, none that may undo its last event is beyond more cuts
abbrev pub IsAhead : List (List ℕ) → Scene → ℕ → ℕ → Type 0
IsAhead cuts w n p = (P : Program) (q : ℕ) → q < n → IsWorldOf P w → MayUndo P (history_of w.state) q
    → cuts_before cuts w.state q ≤ cuts_before cuts w.state p

-- of the first n processes this one may undo its last event and is ahead, or none may
abbrev pub IsBest : List (List ℕ) → Scene → ℕ → Option Pid → Type 0
IsBest cuts w n best = MatchOption best ((q : ℕ) → q < n → IsStuck w q)
    (λ pid. (pid.0 < length w.state.places) × MayAny w pid.0 × IsAhead cuts w n pid.0)

-- a process that is stuck may not undo
stuck_not : (w : Scene) (q : ℕ) → IsStuck w q → (P : Program) → IsWorldOf P w → MayUndo P (history_of w.state) q → ⊥
stuck_not w q (inl none) P of may = let some = may.some in absurd (omega (arith, none, some, choices_counted P w q of))
stuck_not w q (inr never) P of may = never P of may

-- one more process, which is not ahead of the best one
ahead_of : (cuts : List (List ℕ)) (w : Scene) (n p : ℕ) → IsAhead cuts w n p
    → ((P : Program) → IsWorldOf P w → MayUndo P (history_of w.state) n → cuts_before cuts w.state n ≤ cuts_before cuts w.state p)
    → IsAhead cuts w (n + 1) p
ahead_of cuts w n p ahead next P q below of may =
    ⊎_elim
    (λ (same : q ≡ n).
    subst (λ (x : ℕ). cuts_before cuts w.state x ≤ cuts_before cuts w.state p) (sym same)
    (next P of (subst (MayUndo P (history_of w.state)) same may)))
    (λ (apart : q ≢ n). ahead P q (omega (arith, below, apart)) of may)
    (cases_eq q n)

pub found_may : {A : Type 0} (w : Scene) (p : ℕ) (r : Result A Refusal) → is_ok r ≡ true → OnOk r (MayAny w p) → MayAny w p
found_may w p (Ok value) ok may = may
found_may w p (Err refusal) ok may = cc

pub found_stuck : {A : Type 0} (w : Scene) (p : ℕ) (r : Result A Refusal) → is_ok r ≡ false → IsSomeWorld w
    → IfErr r (λ refusal. (P : Program) → IsWorldOf P w → CannotUndo P w.state p refusal) → IsStuck w p
found_stuck w p (Ok value) failed some cannot = cc
found_stuck w p (Err refusal) failed some cannot = stuck_by w p refusal some cannot

-- the best one stays if the next process may not undo its last event
pub best_stays : (cuts : List (List ℕ)) (w : Scene) (n : ℕ) (best : Option Pid) → IsBest cuts w n best → IsStuck w n
    → IsBest cuts w (n + 1) best
best_stays cuts w n (Some pid) is stuck =
    (is.0, is.1, ahead_of cuts w n pid.0 is.2 (λ P of may. absurd (stuck_not w n stuck P of may)))
best_stays cuts w n None is stuck = λ q below.
    ⊎_elim (λ (same : q ≡ n). subst (IsStuck w) (sym same) stuck) (λ (apart : q ≢ n). is q (omega (arith, below, apart))) (cases_eq q n)

-- or if that is not beyond more cuts
pub best_left : (cuts : List (List ℕ)) (w : Scene) (n : ℕ) (best : Option Pid) → IsBest cuts w n best → best ≢ None
    → IfSome best (λ pid. cuts_before cuts w.state n ≤ cuts_before cuts w.state pid.0) → IsBest cuts w (n + 1) best
best_left cuts w n (Some pid) is some fewer = (is.0, is.1, ahead_of cuts w n pid.0 is.2 (λ P of may. fewer))
best_left cuts w n None is some fewer = absurd (some refl)

-- the next process is ahead of the best one, or the first that may undo its last event
ahead_by : (cuts : List (List ℕ)) (w : Scene) (n : ℕ) (best : Option Pid) → IsBest cuts w n best
    → IfSome best (λ pid. cuts_before cuts w.state pid.0 ≤ cuts_before cuts w.state n) → IsAhead cuts w n n
ahead_by cuts w n (Some pid) is more P q below of may = let few = is.2 P q below of may in omega (arith, few, more)
ahead_by cuts w n None is more P q below of may = absurd (stuck_not w q (is q below) P of may)

pub best_found : (cuts : List (List ℕ)) (w : Scene) (n : ℕ) (old best : Option Pid) → IsBest cuts w n old
    → IfSome old (λ pid. cuts_before cuts w.state pid.0 ≤ cuts_before cuts w.state n) → best ≡ Some (record { 0 = n })
    → n < length w.state.places → MayAny w n → IsBest cuts w (n + 1) best
best_found cuts w n old best is more found here may =
    subst (IsBest cuts w (n + 1)) (sym found)
    (here, may, ahead_of cuts w n n (ahead_by cuts w n old is more) (λ P of own. omega arith))

-- what holds of the best one in this case
pub of_best : {A : Type 0} (F : Pid → Type 0) (best : Option Pid) → IfSome best (λ pid. A → F pid) → A → IfSome best F
of_best F (Some pid) by case = by case
of_best F None by case = tt

-- at the end
pub best_of_all : (cuts : List (List ℕ)) (w : Scene) (n : ℕ) (best : Option Pid) → IsSomeWorld w → length w.kinds ≤ n
    → IsBest cuts w n best → IsLatest cuts w best
best_of_all cuts w n (Some pid) some all is = (
  is.0,
  is.1,
  λ P q of may.
      let has = may.some in
      let here = has_events w.kinds q (omega (arith, has, choices_counted P w q of, events_counted P w q of)) in
      is.2 P q (omega (arith, here, all)) of may,
)
best_of_all cuts w n None some all is = none_has_events w some (λ q below. is q (omega (arith, below, all)))

-- One more event is undone.

-- the world is of each program of which the world `before` was, and the undone events complete its history
abbrev pub IsUndone : Scene → Scene → List ℕ → Type 0
IsUndone before w undone =
    (P : Program) → IsWorldOf P before → IsWorldOf P w × Continues P (history_of w.state) (history_of before.state) undone

pub undone_none : (w : Scene) → IsUndone w w []
undone_none w P of = (of, λ E legal is. ([], refl, append_none E legal, append_choices E is))
  where
    append_none : (E : List Event) → IsLegalOrder P E → IsLegalOrder P (E ++ [])
    append_none E legal = rw (append-nil E) legal

    append_choices : (E : List Event) → choices_of (length P) E ≡ history_of w.state → choices_of (length P) (E ++ []) ≡ history_of w.state
    append_choices E is = rw (append-nil E) is

-- after an order of all events but its last one, the process makes that event
one_after : (P : Program) (F : History) (p : ℕ) (E : List Event) → IsPossible P F → MayUndo P F p → IsLegalOrder P E
    → choices_of (length P) E ≡ without_last F p
    → let e : Event = record { process = p; choice = choice_at_end F p } in
    IsLegalOrder P (E ++ e ∷ []) × (choices_of (length P) (E ++ e ∷ []) ≡ F)
one_after P F p E all may legal is =
    let B = without_last F p in
    let k = choice_at_end F p in
    let whole : with_last B p k ≡ F = with_without F p may.some in
    let played = possible P (choices_of (length P) E) E legal.0 legal.1 (takes P (start_of P) legal.0 E legal.1) in
    let ends : legal.0 ≡ play P B = sym played.1 ∙ ap (play P) is in
    let fires = last_fires P B p k (within_without F p may.some) may.rest (subst (IsPossible P) (sym whole) all) in
    let one = one_event P (play P B) (play P (with_last B p k)) p k fires in (
      (
        play P (with_last B p k),
        order_both P (start_of P) (play P B) (play P (with_last B p k)) E
            (record { process = p; choice = k } ∷ []) (legal.1 ∙ ap Ok ends) one,
      ),
      choices_more (length P) E (record { process = p; choice = k }) ∙ ap (λ (H : History). with_last H p k) is ∙ whole,
    )

-- so the undone events complete the history also after one more undo
pub undone_more : (before w new : Scene) (undone : List ℕ) (p : ℕ) → IsUndone before w undone
    → ((P : Program) → IsWorldOf P w → MayUndo P (history_of w.state) p) → ((P : Program) → IsWorldOf P w → IsWorldOf P new)
    → p < length w.state.places → new.state ≡ after_undo w.state p → IsUndone before new (undone ++ p ∷ [])
undone_more before w new undone p so_far may left here moved P of =
    let now = so_far P of in
    let may = may P now.0 in
    let H = history_of w.state in
    let within : p < length P = omega (arith, here, now.0.state.places) in
    let less : history_of new.state ≡ without_last H p = ap history_of moved ∙ history_without P w.state p now.0.state within in
    let continues : Continues P (history_of new.state) (history_of before.state) (undone ++ p ∷ []) = λ E legal is.
    let e : Event = record { process = p; choice = choice_at_end H p } in
    let one = one_after P H p E now.0.possible may legal (is ∙ less) in
    let rest = now.1 (E ++ e ∷ []) one.0 one.1 in
    let same : (E ++ e ∷ []) ++ rest.0 ≡ E ++ (e ∷ rest.0) = append_assoc E (e ∷ []) rest.0 in (
      e ∷ rest.0,
      ap (λ (l : List ℕ). p ∷ l) rest.1 ∙ sym (reverse-append undone (p ∷ [])),
      subst (λ (l : List Event). IsLegalOrder P l) same rest.2,
      subst (λ (l : List Event). choices_of (length P) l ≡ history_of before.state) same rest.3,
    ) in
    (left P now.0, continues)

-- The calls of the loop.

-- one event less
pub fewer_places : (w new : Scene) (p : ℕ) → IsSomeWorld w → ((P : Program) → IsWorldOf P w → MayUndo P (history_of w.state) p)
    → p < length w.state.places → new.state ≡ after_undo w.state p → sum new.state.places < sum w.state.places
fewer_places w new p some may here moved =
    let places = w.state.places in
    let has : 0 < get_or places p 0 = let events = (may some.0 some.1).some in omega (arith, events, choices_counted some.0 w p some.1) in
    let own : get_or (set places p (get_or places p 0 - 1)) p 0 ≡ get_or places p 0 - 1 = get_or-set_same places p (get_or places p 0 - 1) 0 here in
    subst (λ (l : List ℕ). sum l < sum places) (sym (ap (λ (M : SystemState). M.places) moved))
    (sum_strict (set places p (get_or places p 0 - 1)) places p (length-set places p (get_or places p 0 - 1)) (λ q. ⊎_elim
    (λ (same : p ≡ q). subst (λ (x : ℕ). get_or (set places p (get_or places p 0 - 1)) x 0 ≤ get_or places x 0) same (omega (arith, own)))
    (λ (apart : p ≢ q). omega (arith, get_or-set_other places p q (get_or places p 0 - 1) 0 (λ (x : q ≡ p). apart (sym x))))
    (cases_eq p q)) (omega (arith, own, has)))

-- no event is left
pub no_history : (P : Program) (w : Scene) → IsWorldOf P w → ((p : ℕ) → place_at w.state p ≡ 0) → history_of w.state ≡ no_events (length P)
no_history P w of none =
    let size : length (history_of w.state) ≡ length P = length_cut w.state.lines w.state.places ∙ of.state.lines in
    ext_get_or [] (history_of w.state) (no_events (length P)) (size ∙ sym (length-replicate (length P) []))
    (λ q within. line_at w.state.lines w.state.places q ∙ ap (λ (n : ℕ). take n (get_or w.state.lines q [])) (none q)
    ∙ sym (none_in_replicate (length P) q))

pub all_undone : (before w : Scene) (undone : List ℕ) → IsUndone before w undone → ((p : ℕ) → place_at w.state p ≡ 0)
    → (P : Program) → IsWorldOf P before → Continues P (no_events (length P)) (history_of before.state) undone
all_undone before w undone so_far none P of =
    let now = so_far P of in
    λ E legal is. now.1 E legal (is ∙ sym (no_history P w now.0 none))

pub map_reverse : {A B : Type 0} (f : A → B) (l : List A) → map f (reverse l) ≡ reverse (map f l)
map_reverse f [] = refl
map_reverse f (x ∷ l) =
    ap (map f) (reverse-append (x ∷ []) l) ∙ map-append f (reverse l) (x ∷ []) ∙ ap (λ t. t ++ f x ∷ []) (map_reverse f l)
    ∙ sym (reverse-append (f x ∷ []) (map f l))

-- the order is that of the undone events, read from the end
pub ordered : (P : Program) (H : History) (undone order : List ℕ) → Continues P (no_events (length P)) H undone → order ≡ reverse undone
    → IsEventOrder P H order
ordered P H undone order continues is =
    let all = continues [] (start_of P, refl) refl in
    record { events = all.0; processes = all.1 ∙ sym is; fires = all.2; all = all.3 }
