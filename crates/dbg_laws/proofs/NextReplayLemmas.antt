-- After an accepted command, the events that its reply says remain, in an order in which each fires. After a batch, those remain that the
-- replies to its commands say.
use Rattle.std.proofs.Common.{◌≡◌, inl, inr, ⊎_elim, ℕ, zero, suc, ◌+◌, ◌-◌, ◌<◌, Bool, true, false, List, [], ◌∷◌, ◌++◌, length, map}
use Rattle.std.proofs.Common.{get_or, set, Option, Some, None, Result, Ok, Err, refl, sym, ap, ◌∙◌, subst, arith, MatchBool}
use Rattle.std.specs.Prelude.{nat_lt, slice_get}
use Rattle.std.proofs.lemmas.Bool.{ltb-true}
use Rattle.std.proofs.lemmas.List.{length-take-le}
use Rattle.dbg_base.specs.declared.said.Said.TheVariants.{Accepted}
use Rattle.dbg_base.specs.declared.said.Reply.{Reply}
use Rattle.dbg_base.specs.declared.said.Done.{Done}
use Rattle.dbg_base.specs.declared.said.Done.TheVariants.{Played, Undone, Places, Plain}
use Rattle.dbg_base.specs.declared.refusal.Refusal.{Refusal}
use Rattle.dbg_base.specs.declared.refusal.Refusal.TheVariants as refusals
use Rattle.dbg_base.specs.Trees.{Program}
use Rattle.dbg_base.specs.Configurations.{Configuration, start_of}
use Rattle.dbg_base.specs.Firing.{fire}
use Rattle.dbg_base.specs.Histories.{History, IsPossible, play}
use Rattle.dbg_base.specs.Orders.{Event, order, choices_of, IsLegalOrder, with_last}
use Rattle.dbg_base.specs.Cuts.{IsConsistent, history_at}
use Rattle.dbg_base.specs.Reversal.{without_back, without_last, MayUndo}
use Rattle.dbg_base.specs.Breakpoints.{Breakpoint, named, HasCut, with_mark}
use Rattle.dbg_base.specs.Predicates.{Conjunct}
use Rattle.dbg_base.specs.SystemStates.{SystemState, line_of, place_at, history_of, configuration_of, after_choice, after_redo, after_undo}
use Rattle.dbg_base.specs.SystemStates.{after_rollback, last_choice}
use Rattle.dbg_base.specs.ModelStates.{ModelState, with_system}
use Rattle.dbg_base.specs.Choices.{step_choice, next_choice, redo_choice, choice_again, if_fires}
use Rattle.dbg_base.specs.Calls.{Plan, One, Step, Next, Undo, Redo, Rollback, Goto, Break, Clear, Arm, Pass}
use Rattle.dbg_base.specs.Acts.{Accepts, Refuses, Plays, UnlessHalted, TakesBack, KeepsEvent, RollsBack, WithProcess, WithFound, GoesTo, HasNone}
use Rattle.dbg_base.specs.Acts.{Lists, Sets, Acts, Batches, break_refusal}
use Rattle.dbg_base.specs.Reference.{events_of}
use Rattle.dbg_base.specs.Sessions.{counts, remaining, AreGiven, remaining_after}
use Rattle.dbg_laws.proofs.Lists.{length-push}
use Rattle.dbg_laws.proofs.OrderSwapLemmas.{IsOrderOf, takes, length-choices_of}
use Rattle.dbg_laws.proofs.PlayLemmas.{possible}
use Rattle.dbg_laws.proofs.PrefixLemmas.{order_both, one_event, order_more, last_fires}
use Rattle.dbg_laws.proofs.UndoLemmas.{without_with}
use Rattle.dbg_laws.proofs.ConsistentCutLemmas.{length-history_at}
use Rattle.dbg_laws.proofs.UndoneCutLemmas.{cut_of, prefix_without, prefix_consistent, prefix_is_cut}
use Rattle.dbg_laws.proofs.LineStates.{length_cut, history_choice, history_redo, history_undo}
use Rattle.dbg_laws.proofs.ReachedStateLemmas.{IsReached, cut_twice}
use Rattle.dbg_laws.proofs.EffectiveOrderLemmas.{follows_keep}
use Rattle.dbg_laws.proofs.ReplayLemmas.{part_end, part_legal, part_takes}
use Rattle.dbg_laws.proofs.SomeReplay.{choices_are}

-- the counts of a history in which one line is changed
counts_set : (H : History) (p : ℕ) (line : List ℕ) → cut_of (set H p line) ≡ set (cut_of H) p (length line)
counts_set [] p line = refl
counts_set (l ∷ H) zero line = refl
counts_set (l ∷ H) (suc p) line = ap (λ (v : List ℕ). length l ∷ v) (counts_set H p line)

module _ (P : Program) (E : List Event) (c : Configuration) (M : SystemState) (reached : IsReached P M)
    (remain : choices_of (length P) E ≡ history_of M) (legal : order P E ≡ Ok c) where
  abbrev H : History
  H = choices_of (length P) E

  whole : IsOrderOf H E
  whole = takes P (start_of P) c E legal

  all : IsPossible P H × (play P H ≡ c)
  all = possible P H E c legal whole

  -- F has the events that remain in the state
  abbrev pub Remain : List Event → SystemState → Type 0
  Remain F after = (choices_of (length P) F ≡ history_of after) × IsLegalOrder P F

  appended : (p k : ℕ) → p < length P → (after : SystemState) → history_of after ≡ with_last (history_of M) p k
      → IsPossible P (history_of after) → Remain (E ++ record { process = p; choice = k } ∷ []) after
  appended p k here after is longer =
      let size = length-choices_of (length P) E in
      let there : p < length H = omega (arith, here, size) in
      let e : Event = record { process = p; choice = k } in
      let same : history_of after ≡ with_last H p k = is ∙ ap (λ (X : History). with_last X p k) (sym remain) in
      let fires = last_fires P H p k there all.0 (subst (λ (X : History). IsPossible P X) same longer) in
      let fires_c : fire P c p k ≡ Ok (play P (with_last H p k)) =
      subst (λ (d : Configuration). fire P d p k ≡ Ok (play P (with_last H p k))) all.1 fires in (
        choices_are (length P) (with_last H p k) (E ++ e ∷ []) (length-push H p k ∙ size) (order_more H p k E there whole) ∙ sym same,
        (
          play P (with_last H p k),
          order_both P (start_of P) c (play P (with_last H p k)) E (e ∷ []) legal (one_event P c (play P (with_last H p k)) p k fires_c),
        ),
      )

  restricted : (cut : List ℕ) → IsConsistent P H cut → (after : SystemState) → history_of after ≡ history_at H cut
      → Remain (events_of cut E) after
  restricted cut is after same = (
    choices_are (length P) (history_at H cut) (events_of cut E) (length-history_at H cut ∙ length-choices_of (length P) E)
        (part_takes P E c legal cut is)
        ∙ sym same,
    (part_end P E c legal cut is, part_legal P E c legal cut is),
  )

  rolled : (cut : List ℕ) → IsConsistent P (history_of M) cut → Remain (events_of cut E) (after_rollback M cut)
  rolled cut is =
      restricted cut (subst (λ (X : History). IsConsistent P X cut) (sym remain) is) (after_rollback M cut)
      (sym (cut_twice M.lines M.places cut is.within) ∙ ap (λ (X : History). history_at X cut) (sym remain))

  undone : (p k : ℕ) → p < length P → MayUndo P (history_of M) p → last_choice M p ≡ Some k
      → Remain (events_of (set (counts P E) p (get_or (counts P E) p 0 - 1)) E) (after_undo M p)
  undone p k here may was =
      let mine : MayUndo P H p = subst (λ (X : History). MayUndo P X p) (sym remain) may in
      let B : History = without_last H p in
      let some = mine.some in
      let prefix = prefix_without H p some in
      let consistent = prefix_consistent P H B mine.rest prefix in
      let size : length (without_back (get_or H p [])) ≡ get_or (counts P E) p 0 - 1 =
      (let a = length-take-le (length (get_or H p []) - 1) (get_or H p []) (omega arith) in
      let b = count_there H p in omega (arith, a, b)) in
      let cut_is : cut_of B ≡ set (counts P E) p (get_or (counts P E) p 0 - 1) =
      counts_set H p (without_back (get_or H p [])) ∙ ap (λ (n : ℕ). set (counts P E) p n) size in
      let A : History = history_of (after_undo M p) in
      let there : p < length A =
      (let a = length_cut M.lines (after_undo M p).places in let b = reached.state.lines in omega (arith, a, b, here)) in
      let after_is : A ≡ B =
      sym (ap (λ (X : History). without_last X p) (remain ∙ history_undo P M reached.state p here k was) ∙ without_with A p k there) in
      subst (λ (v : List ℕ). Remain (events_of v E) (after_undo M p)) cut_is
      (restricted (cut_of B) consistent (after_undo M p) (after_is ∙ prefix_is_cut H B prefix))
    where
      count_there : (F : History) (q : ℕ) → get_or (map (λ (l : List ℕ). length l) F) q 0 ≡ length (get_or F q [])
      count_there [] q = refl
      count_there (line ∷ F) zero = refl
      count_there (line ∷ F) (suc q) = count_there F q

-- the choice that is made again is that of the line
again : (P : Program) (c : Configuration) (p k : ℕ) (o : Option ℕ) → choice_again P c p o ≡ Ok k → o ≡ Some k
again P c p k None e = cc
again P c p k (Some j) e = by (fire P c p j) e
  where
    by : (r : Result Configuration Refusal) → if_fires j r ≡ Ok k → Some j ≡ Some k
    by (Ok d) e = let same : j ≡ k = cc in ap (λ (n : ℕ). Some n) same
    by (Err refusal) e = cc

-- One command.
module _ (P : Program) (E : List Event) (c : Configuration) (M : ModelState) (reached : IsReached P M.system)
    (remain : choices_of (length P) E ≡ history_of M.system) (legal : order P E ≡ Ok c) (reply : Reply) (M' : ModelState)
    (next : IsReached P M'.system) where
  abbrev Leaves : Done → SystemState → Type 0
  Leaves done after = Remain P E c M.system reached remain legal (remaining P done E) after

  abbrev pub Goal : Type 0
  Goal = Leaves reply.done M'.system

  refused : (refusal : Refusal) → Refuses refusal M (Accepted reply) M' → Goal
  refused refusal reported = let wrong = reported.0 in absurd (let e : Accepted reply ≡ _ = wrong in cc)

  accepted : (done : Done) (N : ModelState) → Accepts P done (Accepted reply) M' → M' ≡ N → Leaves done N.system → Goal
  accepted done N reported left is =
      let e = reported.reported in
      let reply_is : reply ≡ record { done = done; halted = reported.halted } = cc in
      let done_is : reply.done ≡ done = ap (λ (r : Reply). r.done) reply_is in
      subst (λ (d : Done). Leaves d M'.system) (sym done_is)
      (subst (λ (K : ModelState). Leaves done K.system) (sym left) is)

  either : {A B : Type 0} (t : Bool) → (t ≡ true → A → Goal) → (B → Goal) → MatchBool t A B → Goal
  either true first second = first refl
  either false first second = second

  with_process : (p : ℕ) (Does : Type 0) → (p < length P → Does → Goal) → WithProcess P p Does M (Accepted reply) M' → Goal
  with_process p Does does =
      either (nat_lt p (length P)) (λ here. does (ltb-true p (length P) here)) (refused refusals.UnknownProcess)

  with_break : (found : Option Breakpoint) (Does : Breakpoint → Type 0) → ((b : Breakpoint) → Does b → Goal)
      → WithFound found Does M (Accepted reply) M' → Goal
  with_break None Does does = refused refusals.UnknownBreak
  with_break (Some b) Does does = does b

  unless_halted : (Does : Type 0) → (Does → Goal) → UnlessHalted P Does M (Accepted reply) M' → Goal
  unless_halted Does does (inl goes) = does goes.1
  unless_halted Does does (inr (name, is, reported)) = refused (refusals.Halted name) reported

  plays : (p : ℕ) → p < length P → (choice : Result ℕ Refusal) (after : ℕ → SystemState)
      → ((k : ℕ) → choice ≡ Ok k → history_of (after k) ≡ with_last (history_of M.system) p k)
      → Plays P p choice after M (Accepted reply) M' → Goal
  plays p here (Ok k) after is reported =
      let left : M' ≡ with_system M (after k) = reported.1 in
      accepted (Played (record { 0 = p }) (record { 0 = k })) (with_system M (after k)) reported.0 left
      (appended P E c M.system reached remain legal p k here (after k) (is k refl)
      (subst (λ (K : ModelState). IsPossible P (history_of K.system)) left next.possible))
  plays p here (Err refusal) after is reported = refused refusal reported

  lists : (breakpoints : List Breakpoint) → Lists P breakpoints M (Accepted reply) M' → Goal
  lists breakpoints reported =
      accepted Plain (record M { breakpoints = breakpoints }) reported.0 reported.1 (remain, (c, legal))

  sets : (o : Option Refusal) (name : List ℕ) (conjuncts : List Conjunct) → Sets o P name conjuncts M (Accepted reply) M' → Goal
  sets (Some refusal) name conjuncts = refused refusal
  sets None name conjuncts = lists _

  pub acts_leave : (plan : Plan) → Acts P plan M (Accepted reply) M' → Goal
  acts_leave (Step p k) =
      with_process p _
      (λ here. unless_halted _
      (plays p here (step_choice P M.system p k) (after_choice M.system p) (λ j e. history_choice P M.system reached.state p here j)))
  acts_leave (Next p) =
      with_process p _
      (λ here. unless_halted _
      (plays p here (next_choice P M.system p) (after_choice M.system p) (λ j e. history_choice P M.system reached.state p here j)))
  acts_leave (Redo p) =
      with_process p _
      (λ here. unless_halted _
      (plays p here (redo_choice P M.system p) (λ k. after_redo M.system p)
      (λ j e. history_redo P M.system reached.state p here j
      (again P (configuration_of P M.system) p j (slice_get (line_of M.system p) (place_at M.system p)) e))))
  acts_leave (Undo p) =
      with_process p _
      (λ here. ⊎_elim
      (λ (takes_back : TakesBack P p M (Accepted reply) M').
      accepted (Undone (record { 0 = p }) (record { 0 = takes_back.choice })) (with_system M (after_undo M.system p)) takes_back.reported
      takes_back.left (undone P E c M.system reached remain legal p takes_back.choice here takes_back.may takes_back.was))
      (λ (keeps : KeepsEvent P p M (Accepted reply) M'). refused keeps.refusal keeps.reported))
  acts_leave (Rollback p n) =
      with_process p _
      (λ here. either (nat_lt (place_at M.system p) n) (λ far. refused refusals.BadPlace)
      (λ (back : RollsBack P p n M (Accepted reply) M').
      accepted (Places back.cut) (with_system M (after_rollback M.system back.cut)) back.reported back.left
      (rolled P E c M.system reached remain legal back.cut back.is.consistent)))
  acts_leave (Goto name) =
      with_break (named name M.breakpoints) _
      (λ b. ⊎_elim
      (λ (goes : GoesTo P b M (Accepted reply) M').
      accepted (Places goes.cut) (with_system M (after_rollback M.system goes.cut)) goes.reported goes.left
      (rolled P E c M.system reached remain legal goes.cut goes.is.satisfies.consistent))
      (λ (none : HasNone P M b × Refuses refusals.NoCut M (Accepted reply) M'). refused refusals.NoCut none.1))
  acts_leave (Break name conjuncts) = sets (break_refusal P M name conjuncts) name conjuncts
  acts_leave (Clear name) = with_break (named name M.breakpoints) _ (λ b. lists _)
  acts_leave (Arm name) =
      with_break (named name M.breakpoints) _ (λ b. either b.armed (λ armed. refused refusals.AlreadyArmed) (lists _))
  acts_leave (Pass name) =
      with_break (named name M.breakpoints) _
      (λ b. either b.armed
      (λ armed. ⊎_elim
      (λ (passes : HasCut P (history_of M.system) b × Lists P (with_mark name false M.breakpoints) M (Accepted reply) M').
      lists _ passes.1)
      (λ (none : HasNone P M b × Refuses refusals.NoCut M (Accepted reply) M'). refused refusals.NoCut none.1))
      (refused refusals.NotArmed))

-- A batch: one command after the other.
module _ (P : Program) (start : ModelState) (reply : Reply) (M' : ModelState) where
  -- what a batch leaves, from the replies to its commands
  abbrev pub BatchLeaves : List Plan → ModelState → List Event → Type 0
  BatchLeaves plans M E = (replies : List Reply) × AreGiven P plans replies M M'
      × (choices_of (length P) (remaining_after P replies E) ≡ history_of M'.system) × IsLegalOrder P (remaining_after P replies E)

  pub batch_leaves : (plans : List Plan) (at : ℕ) (E : List Event) (c : Configuration) (M : ModelState) → IsReached P M.system
      → choices_of (length P) E ≡ history_of M.system → order P E ≡ Ok c → Batches P start at plans M (Accepted reply) M'
      → BatchLeaves plans M E
  batch_leaves [] at E c M reached remain legal done =
      ([], done.1, remain ∙ ap (λ (K : ModelState). history_of K.system) (sym done.1), (c, legal))
  batch_leaves (plan ∷ plans) at E c M reached remain legal (inl (first, between, acts, rest)) =
      let next = follows_keep P (One plan) M (Accepted first) between reached acts in
      let leaves = acts_leave P E c M reached remain legal first between next plan acts in
      let later = batch_leaves plans (at + 1) (remaining P first.done E) leaves.1.0 between next leaves.0 leaves.1.1 rest in
      (first ∷ later.0, (between, acts, later.1), later.2, later.3)
  batch_leaves (plan ∷ plans) at E c M reached remain legal (inr (refusal, acts, refuses)) =
      absurd (let wrong : Accepted reply ≡ _ = refuses.0 in cc)
