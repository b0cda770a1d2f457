-- A part that is true before is not excluded there.
use Rattle.std.proofs.Common.{◌≡◌, ℕ, ◌+◌, ◌-◌, ◌<◌, ◌≤◌, ◌==◌, ◌&&◌, not, Bool, true, false, List, [], ◌∷◌, length, get_or, refl, sym, ap, ◌∙◌, subst, arith}
use Rattle.std.proofs.Common.{inl, inr, Option, Some, None}
use Rattle.std.proofs.lemmas.Bool.{cases_lt}
use Rattle.std.proofs.lemmas.Bool.Decides.{eqb_tells}
use Rattle.std.proofs.lemmas.List.{get_or_past}
use Rattle.dbg_base.specs.Trees.{Program}
use Rattle.dbg_base.specs.declared.ids.Pid.{Pid}
use Rattle.dbg_base.specs.LocalStates.{LocalState, no_state}
use Rattle.dbg_base.specs.Histories.{History}
use Rattle.dbg_base.specs.Eliminations.{is_ruled_out}
use Rattle.dbg_base.specs.Predicates.{Conjunct, is_true}
use Rattle.dbg_base.specs.SystemStates.{history_of}
use Rattle.event_rows.specs.EventValues.{EventValue}
use Rattle.event_rows.specs.Truths.{truths_along}
use Rattle.causal_world.specs.Scenes.{Scene}
use Rattle.least_cut.proofs.WorldHistoryLemmas.{processes_counted, choices_placed}
use Rattle.least_cut.proofs.WorldHistoryLemmas as history
use Rattle.least_cut.specs.Watches.{truth_line}
use Rattle.ui_causes.specs.declared.past.EventPlace.{EventPlace}
use Rattle.ui_halt.specs.Lanes.{IsLastTrue}
use Rattle.ui_halt.specs.Parts.{AreTruths, IsOnlyPart, IsNotLeast, IsEarlierTruth, next_event}
use Rattle.ui_halt.specs.Reasons.{HasNoReason, IsReason, FindsReason}

-- the truths that are computed
pub are_truths : (w : Scene) (part : Conjunct) (truths : List Bool) → truths ≡ (truth_line w part).truths → AreTruths w part truths
are_truths w part truths same P n of here le =
    ap (λ (l : List Bool). get_or l n false) same
    ∙ history.truths P w of part n false (let places = of.state.places in omega (arith, here, places)) le

-- the truths that the rows of a world have
pub computed : (w : Scene) (part : Conjunct) (truths : List Bool) (starts : List LocalState) (events : List (List EventValue))
    → truths ≡ truths_along part.expression (get_or starts part.process no_state) (get_or events part.process []) → starts ≡ w.starts
    → events ≡ w.events → AreTruths w part truths
computed w part truths starts events same from own =
    are_truths w part truths
    (same ∙ ap (λ (l : List LocalState). truths_along part.expression (get_or l part.process no_state) (get_or events part.process [])) from
    ∙ ap (λ (l : List (List EventValue)). truths_along part.expression (get_or w.starts part.process no_state) (get_or l part.process [])) own)

-- a part that is true, and the only one of its process, is not ruled out
not_out : (P : Program) (H : History) (part : Conjunct) (n : ℕ) → is_true P H part n ≡ true → (conjuncts : List Conjunct)
    → IsOnlyPart part conjuncts → is_ruled_out P H conjuncts part.process n ≡ false
not_out P H part n holds [] only = refl
not_out P H part n holds (c ∷ conjuncts) only =
    let rest : is_ruled_out P H conjuncts part.process n ≡ false = not_out P H part n holds conjuncts only.1 in
    let first : ((c.process == part.process) && not (is_true P H c n)) ≡ false = elim (eqb_tells c.process part.process) [
      | inl here ↦ (let same : is_true P H c n ≡ true = ap (λ (x : Conjunct). is_true P H x n) (only.0 here.1) ∙ holds in cc)
      | inr apart ↦ (let no = apart.0 in cc)
    ] in
    cc

-- without a reason the cut is not the least
pub not_least : (w : Scene) (part : Conjunct) (cut : List ℕ) (truths : List Bool) (since n : ℕ) → AreTruths w part truths
    → since ≤ get_or cut part.process 0 → IsLastTrue truths since n → HasNoReason w cut (next_event part.process n) → IsNotLeast w part cut
not_least w part cut truths since n are inside last none P conjuncts of only least =
    let within = last.within in
    let H = history_of w.state in
    let p = part.process in
    let consistent = least.satisfies.consistent in
    let here : p < length cut = elim (cases_lt p (length cut)) [
      | inl lt ↦ lt
      | inr le ↦ (let gone = get_or_past cut p 0 le in absurd (omega (arith, gone, within, inside)))
    ] in
    let size = processes_counted P w of in
    let sizes = consistent.sizes in
    let most = consistent.within p in
    let placed = choices_placed P w of p in
    let places = of.state.places in
    let truth : is_true P H part n ≡ true =
    sym (are P n of (omega (arith, here, size, sizes, places)) (omega (arith, within, inside, most, placed))) ∙ last.holds in
    let out = none P conjuncts of least (omega arith) (omega (arith, within, inside)) in
    let same : n ≡ (n + 1) - 1 = omega arith in
    let in_it : is_ruled_out P H conjuncts p n ≡ true = subst (λ (k : ℕ). is_ruled_out P H conjuncts p k ≡ true) (sym same) out in
    let not_in : is_ruled_out P H conjuncts p n ≡ false = not_out P H part n truth conjuncts only in
    cc

-- an earlier truth, with its reason
pub earlier_truth : (w : Scene) (part : Conjunct) (cut : List ℕ) (truths : List Bool) (since n : ℕ) (pid : Pid) (found : Option EventPlace)
    → part.process ≡ pid.0 → AreTruths w part truths → since ≤ get_or cut pid.0 0 → IsLastTrue truths since n
    → FindsReason w cut (record { pid = pid; number = n + 1 }) found
    → IsEarlierTruth w part cut truths since (record { events = n; reason = found })
earlier_truth w part cut truths since n pid None same are inside last none = record {
  last = last;
  reason = not_least w part cut truths since n are (subst (λ (p : ℕ). since ≤ get_or cut p 0) (sym same) inside) last
      (subst (λ (p : ℕ). HasNoReason w cut (next_event p n)) (sym same) none);
}
earlier_truth w part cut truths since n pid (Some reason) same are inside last is = record {
  last = last;
  reason = subst (λ (p : ℕ). IsReason w cut (next_event p n) reason) (sym same) is;
}
