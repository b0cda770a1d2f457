-- A loop that pairs the conjuncts one by one with their truths and makes their watches.
use Rattle.std.proofs.Common.{◌≡◌, ◌<◌, ◌⊎◌, List, [], ◌∷◌, ◌++◌, length, get_or, map, drop, refl, sym, ap, ◌∙◌, subst, ⊎_elim}
use Rattle.std.proofs.Common.{append_assoc, append-nil, arith}
use Rattle.std.specs.List.{AllByRecursion}
use Rattle.std.proofs.lemmas.List.{map_push, length-map}
use Rattle.dbg_base.specs.declared.call.Conjunct as code
use Rattle.dbg_base.specs.Calls.{conjunct_of}
use Rattle.dbg_base.specs.Predicates.{Conjunct}
use Rattle.causal_world.specs.Scenes.{Scene}
use Rattle.least_cut.specs.Watches.{TruthLine, TruthsState, WatchRoom, conjunct_in, truth_line, scan_of, IsWatchOf}
use Rattle.least_cut.specs.Detectors.{AreWatchesOf}
use Rattle.least_cut.proofs.ListLoopLemmas.{all_push}

-- some conjuncts have watches, and the truths of the others are known
pub record ArePaired (w : Scene) (all : List code.Conjunct) (watched : List WatchRoom) (left : List code.Conjunct)
    (known : List TruthsState) : Type 0 where
  pub watches : AreWatchesOf w watched
  pub conjuncts : map (λ (watch : WatchRoom). conjunct_in watch.state) watched ++ map conjunct_of left ≡ map conjunct_of all
  pub here : AllByRecursion (λ conjunct. conjunct.process < length w.state.places) (map conjunct_of left)
  pub lines : map (λ (t : TruthsState). t.line) known ≡ scan_of w (map conjunct_of left)

-- at first no conjunct has a watch
pub paired_none : (w : Scene) (conjuncts : List code.Conjunct) (scan : List TruthLine) (watched : List WatchRoom)
    (left : List code.Conjunct) (known : List TruthsState) → watched ≡ [] → left ≡ conjuncts
    → map (λ (t : TruthsState). t.line) known ≡ scan → scan ≡ scan_of w (map conjunct_of conjuncts)
    → AllByRecursion (λ conjunct. conjunct.process < length w.state.places) (map conjunct_of conjuncts)
    → ArePaired w conjuncts watched left known
paired_none w conjuncts scan watched left known none all lines scanned here =
    subst (λ (l : List WatchRoom). ArePaired w conjuncts l left known) (sym none)
    (subst (λ (l : List code.Conjunct). ArePaired w conjuncts [] l known) (sym all)
    (record { watches = tt; conjuncts = refl; here = here; lines = lines ∙ scanned }))

module _ (w : Scene) (conjuncts : List code.Conjunct) (watched : List WatchRoom) (left : List code.Conjunct) (known : List TruthsState)
    (is : ArePaired w conjuncts watched left known) where
  -- all conjuncts have watches if no conjuncts or no truths are left
  pub paired_all : (length left ≡ 0) ⊎ (length known ≡ 0)
      → map (λ (watch : WatchRoom). conjunct_in watch.state) watched ≡ map conjunct_of conjuncts
  paired_all none =
      let same : length known ≡ length left =
      sym (length-map known (λ (t : TruthsState). t.line)) ∙ ap (λ (l : List TruthLine). length l) is.lines
      ∙ length-map (map conjunct_of left) (truth_line w) ∙ length-map left conjunct_of in
      let empty : length left ≡ 0 = ⊎_elim (λ e. e) (λ e. sym same ∙ e) none in
      sym (append-nil (map (λ (watch : WatchRoom). conjunct_in watch.state) watched))
      ∙ ap (λ (l : List code.Conjunct). map (λ (watch : WatchRoom). conjunct_in watch.state) watched ++ map conjunct_of l)
      (sym (nothing left empty))
      ∙ is.conjuncts
    where
      nothing : (l : List code.Conjunct) → length l ≡ 0 → l ≡ []
      nothing [] e = refl
      nothing (x ∷ l) e = absurd (omega arith)

  module _ (x : code.Conjunct) (t : TruthsState) (others : List code.Conjunct) (more : List TruthsState) (first : left ≡ x ∷ others)
      (also : known ≡ t ∷ more) where
    both : t.line ∷ map (λ (t : TruthsState). t.line) more ≡ truth_line w (conjunct_of x) ∷ scan_of w (map conjunct_of others)
    both =
        sym (ap (λ (l : List TruthsState). map (λ (t : TruthsState). t.line) l) also) ∙ is.lines
        ∙ ap (λ (l : List code.Conjunct). scan_of w (map conjunct_of l)) first

    all_here : AllByRecursion (λ conjunct. conjunct.process < length w.state.places) (map conjunct_of (x ∷ others))
    all_here =
        subst (λ (l : List code.Conjunct). AllByRecursion (λ conjunct. conjunct.process < length w.state.places) (map conjunct_of l))
        first is.here

    -- the process of the next conjunct exists
    pub next_here : x.pid.0 < length w.state.places
    next_here = all_here.0

    -- the next truths are those of the next conjunct
    pub next_line : t.line ≡ truth_line w (conjunct_of x)
    next_line = ap (λ (l : List TruthLine). get_or l 0 t.line) both

    -- the next conjunct gets its watch
    pub paired_more : (new : WatchRoom) → IsWatchOf w new.state → conjunct_in new.state ≡ conjunct_of x
        → ArePaired w conjuncts (watched ++ new ∷ []) others more
    paired_more new of same = record {
      watches = all_push (λ watch. IsWatchOf w watch.state) watched new is.watches of;
      conjuncts = ap (λ (l : List Conjunct). l ++ map conjunct_of others)
          (map_push (λ (watch : WatchRoom). conjunct_in watch.state) watched new
          ∙ ap (λ (c : Conjunct). map (λ (watch : WatchRoom). conjunct_in watch.state) watched ++ c ∷ []) same)
          ∙ append_assoc (map (λ (watch : WatchRoom). conjunct_in watch.state) watched) (conjunct_of x ∷ []) (map conjunct_of others)
          ∙ ap (λ (l : List code.Conjunct). map (λ (watch : WatchRoom). conjunct_in watch.state) watched ++ map conjunct_of l) (sym first)
          ∙ is.conjuncts;
      here = all_here.1;
      lines = ap (drop 1) both;
    }
