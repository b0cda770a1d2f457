-- A command leaves a state of the program with a possible history, and a refused command leaves the state unchanged.
use Rattle.std.proofs.Common.{◌≡◌, ◌⊎◌, inl, inr, ⊎_elim, ℕ, zero, suc, ◌+◌, ◌<◌, ◌≤◌, Bool, true, false, cond, List, [], ◌∷◌, length}
use Rattle.std.proofs.Common.{get_or, take, Option, Some, None, Result, Ok, Err, refl, sym, ap, ◌∙◌, subst, arith, MatchBool}
use Rattle.std.specs.Prelude.{nat_lt, slice_get, ok_or}
use Rattle.std.proofs.lemmas.Bool.{ltb-true}
use Rattle.std.proofs.lemmas.List.{length-take-le}
use Rattle.std.proofs.lemmas.Option.{slice_get_within}
use Rattle.dbg_base.specs.declared.said.Said.{Said}
use Rattle.dbg_base.specs.declared.said.Said.TheVariants.{Accepted, Refused}
use Rattle.dbg_base.specs.declared.said.Reply.{Reply}
use Rattle.dbg_base.specs.declared.said.Done.{Done}
use Rattle.dbg_base.specs.declared.said.Done.TheVariants.{Played, Undone, Places, Plain}
use Rattle.dbg_base.specs.declared.refusal.Refusal.{Refusal}
use Rattle.dbg_base.specs.declared.refusal.Refusal.TheVariants as refusals
use Rattle.dbg_base.specs.declared.limits.TheConstants.{EVENTS}
use Rattle.dbg_base.specs.Trees.{Command, Program, process_of, command_of}
use Rattle.dbg_base.specs.Configurations.{Configuration}
use Rattle.dbg_base.specs.Firing.{fire, fire_if, fire_command}
use Rattle.dbg_base.specs.Histories.{History, IsPossible}
use Rattle.dbg_base.specs.Orders.{with_last}
use Rattle.dbg_base.specs.Cuts.{IsConsistent}
use Rattle.dbg_base.specs.Reversal.{without_last}
use Rattle.dbg_base.specs.Predicates.{Conjunct}
use Rattle.dbg_base.specs.Breakpoints.{Breakpoint, named, with_mark, HasCut}
use Rattle.dbg_base.specs.SystemStates.{SystemState, IsStateOf, line_of, place_at, cut_lines, history_of, configuration_of, last_choice}
use Rattle.dbg_base.specs.SystemStates.{after_choice, after_redo, after_undo, after_rollback}
use Rattle.dbg_base.specs.ModelStates.{ModelState}
use Rattle.dbg_base.specs.Choices.{if_fires, fires_first, lowest_from, lowest_enabled, step_choice, next_choice, choice_again, redo_choice}
use Rattle.dbg_base.specs.Calls.{Plan, Step, Next, Undo, Redo, Rollback, Goto, Break, Clear, Arm, Pass}
use Rattle.dbg_base.specs.Acts.{Refuses, Accepts, Plays, UnlessHalted, TakesBack, KeepsEvent, WithProcess, WithFound}
use Rattle.dbg_base.specs.Acts.{GoesTo, HasNone, Lists, Sets, break_refusal, Acts}
use Rattle.dbg_laws.proofs.PrefixLemmas.{one_more}
use Rattle.dbg_laws.proofs.UndoLemmas.{without_with}
use Rattle.dbg_laws.proofs.ConsistentCutLemmas.{cut_possible}
use Rattle.dbg_laws.proofs.LineStates.{length_cut, cut_at, state_choice, history_choice, state_redo, history_redo, state_undo, history_undo}

-- The choices that a process makes fire.

-- the choice k of process p is one of its commands, and fires
record Fires (P : Program) (c : Configuration) (p k : ℕ) : Type 0 where
  command : k < length (process_of P p).commands
  left : Configuration
  fires : fire P c p k ≡ Ok left

chosen : (k j : ℕ) (result : Result Configuration Refusal) → if_fires k result ≡ Ok j → (k ≡ j) × (d : Configuration) × (result ≡ Ok d)
chosen k j (Ok d) e = (cc, d, refl)
chosen k j (Err refusal) e = cc

step_fires : (P : Program) (M : SystemState) (p k j : ℕ) → step_choice P M p k ≡ Ok j
    → (place_at M p < EVENTS) × Fires P (configuration_of P M) p j
step_fires P M p k j e = by (nat_lt k (length (process_of P p).commands)) (nat_lt (place_at M p) EVENTS) refl refl e
  where
    by : (s t : Bool) → nat_lt k (length (process_of P p).commands) ≡ s → nat_lt (place_at M p) EVENTS ≡ t
        → cond s (cond t (if_fires k (fire P (configuration_of P M) p k)) (Err refusals.ProcessFull)) (Err refusals.UnknownChoice) ≡ Ok j
        → (place_at M p < EVENTS) × Fires P (configuration_of P M) p j
    by true true command room e =
        let is = chosen k j (fire P (configuration_of P M) p k) e in (
          ltb-true (place_at M p) EVENTS room,
          subst (λ (n : ℕ). Fires P (configuration_of P M) p n) is.0
              (record { command = ltb-true k (length (process_of P p).commands) command; left = is.1; fires = is.2 }),
        )
    by true false command room e = cc
    by false t command room e = cc

-- the lowest command that fires, with numbers from b
record Lowest (b : ℕ) (commands : List Command) (c : Configuration) (p k : ℕ) : Type 0 where
  at : ℕ
  is : k ≡ b + at
  command : Command
  there : slice_get commands at ≡ Some command
  left : Configuration
  fires : fire_command command c p ≡ Ok left

lowest : (b : ℕ) (commands : List Command) (c : Configuration) (p k : ℕ) → lowest_from b commands c p ≡ Some k → Lowest b commands c p k
lowest b [] c p k e = cc
lowest b (command ∷ commands) c p k e = by (fire_command command c p) (lowest (b + 1) commands c p k) refl e
  where
    by : (result : Result Configuration Refusal)
        → (lowest_from (b + 1) commands c p ≡ Some k → Lowest (b + 1) commands c p k) → fire_command command c p ≡ result
        → fires_first result b (lowest_from (b + 1) commands c p) ≡ Some k → Lowest b (command ∷ commands) c p k
    by (Ok d) others fires e =
        let same : b ≡ k = cc in
        record { at = 0; is = omega (arith, same); command = command; there = refl; left = d; fires = fires }
    by (Err refusal) others fires e =
        let beyond = others e in
        record {
          at = suc beyond.at;
          is = omega (arith, beyond.is);
          command = beyond.command;
          there = beyond.there;
          left = beyond.left;
          fires = beyond.fires;
        }

next_fires : (P : Program) (M : SystemState) (p j : ℕ) → next_choice P M p ≡ Ok j
    → (place_at M p < EVENTS) × Fires P (configuration_of P M) p j
next_fires P M p j e = by (nat_lt (place_at M p) EVENTS) (lowest_enabled P (configuration_of P M) p) refl refl e
  where
    by : (t : Bool) (found : Option ℕ) → nat_lt (place_at M p) EVENTS ≡ t → lowest_enabled P (configuration_of P M) p ≡ found
        → cond t (ok_or found refusals.NoneEnabled) (Err refusals.ProcessFull) ≡ Ok j
        → (place_at M p < EVENTS) × Fires P (configuration_of P M) p j
    by false found room is e = cc
    by true None room is e = cc
    by true (Some k) room is e =
        let same : k ≡ j = cc in
        let low = lowest 0 (process_of P p).commands (configuration_of P M) p j (is ∙ ap (λ (n : ℕ). Some n) same) in
        let at : low.at ≡ j = omega (arith, low.is) in
        let there : command_of P p j ≡ Some low.command =
        ap (slice_get (process_of P p).commands) (sym at) ∙ low.there in (
          ltb-true (place_at M p) EVENTS room,
          record {
            command = slice_get_within (process_of P p).commands j low.command there;
            left = low.left;
            fires = ap (λ (o : Option Command). fire_if o (configuration_of P M) p) there ∙ low.fires;
          },
        )

again_fires : (P : Program) (c : Configuration) (p j : ℕ) (choice : Option ℕ) → choice_again P c p choice ≡ Ok j
    → (choice ≡ Some j) × (d : Configuration) × (fire P c p j ≡ Ok d)
again_fires P c p j None e = cc
again_fires P c p j (Some k) e =
    let is = chosen k j (fire P c p k) e in
    (ap (λ (n : ℕ). Some n) is.0, is.1, subst (λ (n : ℕ). fire P c p n ≡ Ok is.1) is.0 is.2)

-- A cut within the places.

take_short : (n m : ℕ) (line : List ℕ) → n ≤ length (take m line) → take n (take m line) ≡ take n line
take_short zero m line few = refl
take_short (suc n) zero line few = absurd (omega arith)
take_short (suc n) (suc m) [] few = absurd (omega arith)
take_short (suc n) (suc m) (k ∷ line) few = ap (λ (rest : List ℕ). k ∷ rest) (take_short n m line (omega arith))

nothing_taken : (n : ℕ) (line : List ℕ) → n ≤ 0 → take n [] ≡ take n line
nothing_taken zero line none = refl
nothing_taken (suc n) line none = absurd (omega arith)

pub cut_twice : (lines : List (List ℕ)) (places cut : List ℕ) → ((p : ℕ) → get_or cut p 0 ≤ length (get_or (cut_lines lines places) p []))
    → cut_lines (cut_lines lines places) cut ≡ cut_lines lines cut
cut_twice [] places cut within = refl
cut_twice (line ∷ lines) [] [] within = ap (λ (H : History). [] ∷ H) (cut_twice lines [] [] (λ p. within (suc p)))
cut_twice (line ∷ lines) [] (n ∷ cut) within =
    ap (λ (l : List ℕ). l ∷ cut_lines (cut_lines lines []) cut) (nothing_taken n line (within 0))
    ∙ ap (λ (H : History). take n line ∷ H) (cut_twice lines [] cut (λ p. within (suc p)))
cut_twice (line ∷ lines) (m ∷ places) [] within = ap (λ (H : History). [] ∷ H) (cut_twice lines places [] (λ p. within (suc p)))
cut_twice (line ∷ lines) (m ∷ places) (n ∷ cut) within =
    ap (λ (l : List ℕ). l ∷ cut_lines (cut_lines lines places) cut) (take_short n m line (within 0))
    ∙ ap (λ (H : History). take n line ∷ H) (cut_twice lines places cut (λ p. within (suc p)))

-- a state of the program, with a possible history
pub record IsReached (P : Program) (M : SystemState) : Type 0 where
  pub state : IsStateOf P M
  pub possible : IsPossible P (history_of M)

module _ (P : Program) (M : SystemState) (reached : IsReached P M) where
  cut_reached : (cut : List ℕ) → IsConsistent P (history_of M) cut → IsReached P (after_rollback M cut)
  cut_reached cut consistent = record {
    state = record {
      lines = reached.state.lines;
      places = consistent.sizes ∙ length_cut M.lines M.places ∙ reached.state.lines;
      within = λ p.
          let few = consistent.within p in
          let taken = ap (λ (l : List ℕ). length l) (cut_at M.lines M.places p)
          ∙ length-take-le (place_at M p) (line_of M p) (reached.state.within p) in
          let fits = reached.state.within p in
          omega (arith, few, taken, fits);
      few = reached.state.few;
      commands = reached.state.commands;
    };
    possible = subst (IsPossible P) (cut_twice M.lines M.places cut consistent.within)
        (cut_possible P (history_of M) cut reached.possible consistent);
  }

  module _ (p : ℕ) (here : p < length P) where
    in_history : p < length (history_of M)
    in_history = let size = length_cut M.lines M.places in let lines = reached.state.lines in omega (arith, size, lines)

    fired : (k : ℕ) (d : Configuration) → fire P (configuration_of P M) p k ≡ Ok d → IsPossible P (with_last (history_of M) p k)
    fired k d fires = (one_more P (history_of M) p k d reached.possible in_history fires).0

    choice_reached : (k : ℕ) → (place_at M p < EVENTS) × Fires P (configuration_of P M) p k → IsReached P (after_choice M p k)
    choice_reached k (room, is) = record {
      state = state_choice P M reached.state p here k is.command room;
      possible = subst (IsPossible P) (sym (history_choice P M reached.state p here k)) (fired k is.left is.fires);
    }

    redo_reached : (k : ℕ) → redo_choice P M p ≡ Ok k → IsReached P (after_redo M p)
    redo_reached k e =
        let is = again_fires P (configuration_of P M) p k (slice_get (line_of M p) (place_at M p)) e in
        record {
          state = state_redo P M reached.state p here k is.0;
          possible = subst (IsPossible P) (sym (history_redo P M reached.state p here k is.0)) (fired k is.1 is.2);
        }

    undo_reached : (k : ℕ) → last_choice M p ≡ Some k → IsPossible P (without_last (history_of M) p) → IsReached P (after_undo M p)
    undo_reached k was rest =
        let B = history_of (after_undo M p) in
        let there : p < length B =
        (let size = length_cut M.lines (after_undo M p).places in let lines = reached.state.lines in omega (arith, size, lines)) in
        record {
          state = state_undo P M reached.state p here;
          possible = subst (IsPossible P)
              (ap (λ (H : History). without_last H p) (history_undo P M reached.state p here k was) ∙ without_with B p k there) rest;
        }

-- A command at M is accepted, or refused with the state unchanged. Either way it leaves a state of the program with a possible history.
pub record Leaves (P : Program) (M : ModelState) (said : Said) (M' : ModelState) : Type 0 where
  pub reached : IsReached P M'.system
  pub settled : ((reply : Reply) × (said ≡ Accepted reply)) ⊎ ((refusal : Refusal) × (said ≡ Refused refusal) × (M' ≡ M))

module _ (P : Program) (M : ModelState) (reached : IsReached P M.system) where
  module _ (said : Said) (M' : ModelState) where
    refused : (refusal : Refusal) → Refuses refusal M said M' → Leaves P M said M'
    refused refusal reported = record {
      reached = subst (λ (N : ModelState). IsReached P N.system) (sym reported.1) reached;
      settled = inr (refusal, reported.0, reported.1);
    }

    accepted : (done : Done) (N : ModelState) → IsReached P N.system → Accepts P done said M' → M' ≡ N → Leaves P M said M'
    accepted done N is reported left = record {
      reached = subst (λ (K : ModelState). IsReached P K.system) (sym left) is;
      settled = inl (_, reported.reported);
    }

    either : {A B : Type 0} (t : Bool) → (t ≡ true → A → Leaves P M said M') → (t ≡ false → B → Leaves P M said M') → MatchBool t A B
        → Leaves P M said M'
    either true first second = first refl
    either false first second = second refl

    with_process : (p : ℕ) (Does : Type 0) → (p < length P → Does → Leaves P M said M') → WithProcess P p Does M said M'
        → Leaves P M said M'
    with_process p Does does =
        either (nat_lt p (length P)) (λ here. does (ltb-true p (length P) here)) (λ none. refused refusals.UnknownProcess)

    with_break : (found : Option Breakpoint) (Does : Breakpoint → Type 0) → ((b : Breakpoint) → Does b → Leaves P M said M')
        → WithFound found Does M said M' → Leaves P M said M'
    with_break None Does does = refused refusals.UnknownBreak
    with_break (Some b) Does does = does b

    lists : (breakpoints : List Breakpoint) → Lists P breakpoints M said M' → Leaves P M said M'
    lists breakpoints reported = accepted Plain (record M { breakpoints = breakpoints }) reached reported.0 reported.1

    plays : (p : ℕ) (choice : Result ℕ Refusal) (after : ℕ → SystemState) → ((k : ℕ) → choice ≡ Ok k → IsReached P (after k))
        → Plays P p choice after M said M' → Leaves P M said M'
    plays p (Ok k) after is reported = accepted (Played (record { 0 = p }) (record { 0 = k })) _ (is k refl) reported.0 reported.1
    plays p (Err refusal) after is reported = refused refusal reported

    unless_halted : (Does : Type 0) → (Does → Leaves P M said M') → UnlessHalted P Does M said M' → Leaves P M said M'
    unless_halted Does does (inl goes) = does goes.1
    unless_halted Does does (inr (name, is, reported)) = refused (refusals.Halted name) reported

    no_cut : (b : Breakpoint) → HasNone P M b × Refuses refusals.NoCut M said M' → Leaves P M said M'
    no_cut b none = refused refusals.NoCut none.1

    sets : (refusal : Option Refusal) (name : List ℕ) (conjuncts : List Conjunct) → Sets refusal P name conjuncts M said M' → Leaves P M said M'
    sets (Some refusal) name conjuncts = refused refusal
    sets None name conjuncts = lists _

  pub acts_keep : (plan : Plan) (said : Said) (M' : ModelState) → Acts P plan M said M' → Leaves P M said M'
  acts_keep (Step p k) said M' =
      with_process said M' p _
      (λ here. unless_halted said M' _
      (plays said M' p (step_choice P M.system p k) (after_choice M.system p)
      (λ j e. choice_reached P M.system reached p here j (step_fires P M.system p k j e))))
  acts_keep (Next p) said M' =
      with_process said M' p _
      (λ here. unless_halted said M' _
      (plays said M' p (next_choice P M.system p) (after_choice M.system p)
      (λ j e. choice_reached P M.system reached p here j (next_fires P M.system p j e))))
  acts_keep (Redo p) said M' =
      with_process said M' p _
      (λ here. unless_halted said M' _
      (plays said M' p (redo_choice P M.system p) (λ k. after_redo M.system p) (redo_reached P M.system reached p here)))
  acts_keep (Undo p) said M' =
      with_process said M' p _
      (λ here. ⊎_elim
      (λ (takes : TakesBack P p M said M').
      accepted said M' (Undone (record { 0 = p }) (record { 0 = takes.choice })) _
      (undo_reached P M.system reached p here takes.choice takes.was takes.may.rest) takes.reported takes.left)
      (λ (keeps : KeepsEvent P p M said M'). refused said M' keeps.refusal keeps.reported))
  acts_keep (Rollback p n) said M' =
      with_process said M' p _
      (λ here. either said M' (nat_lt (place_at M.system p) n) (λ far. refused said M' refusals.BadPlace)
      (λ near back. accepted said M' (Places back.cut) _ (cut_reached P M.system reached back.cut back.is.consistent) back.reported back.left))
  acts_keep (Goto name) said M' =
      with_break said M' (named name M.breakpoints) _
      (λ b. ⊎_elim
      (λ (goes : GoesTo P b M said M').
      accepted said M' (Places goes.cut) _ (cut_reached P M.system reached goes.cut goes.is.satisfies.consistent) goes.reported goes.left)
      (no_cut said M' b))
  acts_keep (Break name conjuncts) said M' = sets said M' (break_refusal P M name conjuncts) name conjuncts
  acts_keep (Clear name) said M' = with_break said M' (named name M.breakpoints) _ (λ b. lists said M' _)
  acts_keep (Arm name) said M' =
      with_break said M' (named name M.breakpoints) _
      (λ b. either said M' b.armed (λ armed. refused said M' refusals.AlreadyArmed) (λ free. lists said M' _))
  acts_keep (Pass name) said M' =
      with_break said M' (named name M.breakpoints) _
      (λ b. either said M' b.armed
      (λ armed. ⊎_elim
      (λ (passes : HasCut P (history_of M.system) b × Lists P (with_mark name false M.breakpoints) M said M').
      lists said M' _ passes.1) (no_cut said M' b))
      (λ free. refused said M' refusals.NotArmed))
