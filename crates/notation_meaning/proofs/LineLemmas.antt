-- Plain lines, one piece, one place and one segment after another.
use Rattle.std.proofs.Common.{◌≡◌, ℕ, suc, ◌+◌, ℤ, true, false, List, [], ◌∷◌, ◌++◌, length, take, refl, sym, ap, ◌∙◌, subst, Some, None, arith}
use Rattle.std.specs.Prelude.{codes, slice_get, pos, decimal, Option}
use Rattle.std.specs.Str.{bytes_eq}
use Rattle.std.proofs.lemmas.List.{nil_from_length, take_all, length-map}
use Rattle.std.specs.declared.alloc.Global.{Global}
use Rattle.std.specs.declared.vec.Vec.{Vec}
use Rattle.dbg_base.specs.CommandLines.{predicate_prefix}
use Rattle.dbg_base.specs.Names as names
use Rattle.dbg_base.specs.Names.{place_from}
use Rattle.dbg_base.specs.Trees.{Tree, names_of}
use Rattle.notation_tree.specs.declared.syntax.Binder.{Binder, out-Binder}
use Rattle.notation_tree.specs.declared.syntax.Definition.{Definition}
use Rattle.notation_tree.specs.declared.syntax.Expression.{Expression}
use Rattle.notation_tree.specs.declared.syntax.Reference.{Reference, out-Reference}
use Rattle.notation_programs.specs.declared.building.CommandOrigin.{CommandOrigin}
use Rattle.notation_meaning.specs.declared.command_line.LinePiece.{LinePiece}
use Rattle.notation_meaning.specs.declared.command_line.Meant.{Meant}
use Rattle.notation_meaning.specs.declared.command_line.Meant.TheVariants as means
use Rattle.notation_meaning.specs.declared.command_line.Reading.{Reading}
use Rattle.notation_meaning.specs.declared.command_line.Segment.{Segment}
use Rattle.notation_meaning.specs.declared.families.FamilyPlace.{FamilyPlace}
use Rattle.notation_meaning.specs.declared.scopes.MemberHere.{MemberHere}
use Rattle.notation_meaning.specs.ModelScopes.{Constants, Context, Scope, Top}
use Rattle.notation_meaning.specs.ModelValues.{HasValue}
use Rattle.dbg_base.specs.Evaluation.{Num}
use Rattle.notation_meaning.specs.CommandLines.{Output, IsLabel, no_brackets, more_brackets, Replaces, replaced, begun, copied}
use Rattle.notation_meaning.specs.CommandLines.{LabelAt, IsPredicate}
use Rattle.notation_meaning.specs.CommandLines as line
use Rattle.notation_meaning.specs.CommandLines.{PiecesOf, no_pieces, more_pieces, CopiesOf, no_copies, more_copies, line_context, family_scope}
use Rattle.notation_meaning.specs.CommandLines.{SegmentsOf, no_segments, more_segments, LinesOf, no_lines, more_lines, nothing_written}
use Rattle.notation_meaning.specs.ModelFamilies.{Place, place_in, PlacesOf}
use Rattle.notation_meaning.specs.ModelPrograms.{Played, bracketed}
use Rattle.notation_meaning.specs.PlainExpressions.{Means}
use Rattle.notation_meaning.specs.LineViews.{lines_of}
use Rattle.notation_meaning.specs.AgreementViews.{IsNamed, texts_of, place_of, places_of, members_of, with_members}
use Rattle.notation_meaning.proofs.AgreementFamilies.{members_more}
use Rattle.notation_meaning.proofs.AgreementParts.{take_next}

-- the label is not the first of these
pub place_passed : (label : List ℕ) (n : ℕ) (rest others : List CommandOrigin) (first : CommandOrigin) → rest ≡ first ∷ others
    → bytes_eq first.label.items label ≡ false → place_from n label (texts_of rest) ≡ place_from (n + 1) label (texts_of others)
place_passed label n rest others first e b = rw (e, b) refl

-- the label is the first of these
pub place_found : (label : List ℕ) (n : ℕ) (rest others : List CommandOrigin) (first : CommandOrigin) → rest ≡ first ∷ others
    → bytes_eq first.label.items label ≡ true → place_from n label (texts_of rest) ≡ Some n
place_found label n rest others first e b = rw (e, b) refl

pub place_none : (label : List ℕ) (n : ℕ) (rest : List CommandOrigin) → length rest ≡ 0 → place_from n label (texts_of rest) ≡ None
place_none label n rest e = rw (nil_from_length rest e) refl

-- the members of a family, where one more has a value
pub family_step : (ranges rest others : List Binder) (values left further : List ℤ) (b : Binder) (z : ℤ) (ms longer : List MemberHere)
    → ((s : Scope) → family_scope ranges values s ≡ family_scope rest left (with_members ms s)) → rest ≡ b ∷ others → left ≡ z ∷ further
    → longer ≡ ms ++ (record { member = (out-Binder b).member; value = z } ∷ [])
    → (s : Scope) → family_scope ranges values s ≡ family_scope others further (with_members longer s)
family_step ranges rest others values left further b z ms longer go e l m s =
    go s ∙ rw (e, l, m, members_more ms (record { member = (out-Binder b).member; value = z }) s) refl

module _ (L : Played) (s : Scope) (q : List ℕ) where
  pub name_replaces : {meant : Meant} {reference : Reference} {text : List ℕ} → meant ≡ means.Name reference
      → IsNamed (line_context L) s reference text → Replaces L s q meant text
  name_replaces e h = rw e (line.name h)

  pub label_replaces : {reference : Reference} {number : Option Expression} {place : Option ℕ} {k : ℕ} {text : List ℕ}
      → LabelAt L s q reference place → place ≡ Some k → text ≡ decimal k → Replaces L s q (means.Label reference number) text
  label_replaces {reference} {number} {place} {k} {text} h p e =
      rw e (line.label (subst (λ z. LabelAt L s q reference z) p h))

  pub number_labels : {reference : Reference} {number : Option Expression} {e : Expression} {place : Option ℕ} {text : List ℕ}
      → LabelAt L s q reference place → place ≡ None → number ≡ Some e
      → ((n : ℕ) × (text ≡ decimal n) × HasValue (line_context L) s e (Num (pos n))) → Replaces L s q (means.Label reference number) text
  number_labels {reference} {number} {e} {place} {text} h p m c =
      rw (m, c.1) (line.no_label (subst (λ z. LabelAt L s q reference z) p h) c.2)

  pub word_replaces : {reference : Reference} {number : Option Expression} {place : Option ℕ} {text : List ℕ}
      → LabelAt L s q reference place → place ≡ None → number ≡ None → length (out-Reference reference).indices.items ≡ 0
      → text ≡ (out-Reference reference).name → Replaces L s q (means.Label reference number) text
  word_replaces {reference} {number} {place} {text} h p m i e =
      rw (m, e) (line.word (subst (λ z. LabelAt L s q reference z) p h) (nil_from_length (out-Reference reference).indices.items i))

  pub number_replaces : {meant : Meant} {e : Expression} {text : List ℕ} → meant ≡ means.Number e
      → ((n : ℕ) × (text ≡ decimal n) × HasValue (line_context L) s e (Num (pos n))) → Replaces L s q meant text
  number_replaces m c = rw (m, c.1) (line.number c.2)

  pub predicate_replaces : {readings : Vec Reading Global} {found : List Reading} {text written : List ℕ} {p : Option ℕ}
      → length (predicate_prefix text) ≡ length text → IsPredicate L s p found text → p ≡ names.place_of q (names_of L.program)
      → found ≡ readings.items → written ≡ text → Replaces L s q (means.Predicate readings) written
  predicate_replaces {readings} {found} {text} {written} {p} l h e r w =
      rw w (line.predicate l (subst (λ z. IsPredicate L s z readings.items text) e (subst (λ z. IsPredicate L s p z text) r h)))

-- a predicate means the same where the context and the scope are the same
pub means_there : {D E : List Definition} {names variables : List (List ℕ)} {constants wanted : Constants} {s inner : Scope} {e : Expression}
    {t : Tree} → D ≡ E → constants ≡ wanted → inner ≡ s
    → Means (record { context = record { definitions = D; constants = constants }; processes = names; variables = variables }) inner e t
    → Means (record { context = record { definitions = E; constants = wanted }; processes = names; variables = variables }) s e t
means_there {D} {E} {names} {variables} {constants} {wanted} {s} {inner} {e} {t} d c i h =
    subst (λ x. Means (record { context = record { definitions = E; constants = wanted }; processes = names; variables = variables }) x e t) i
    (subst (λ x. Means (record { context = record { definitions = E; constants = x }; processes = names; variables = variables }) inner e t) c
    (subst (λ x. Means (record { context = record { definitions = x; constants = constants }; processes = names; variables = variables }) inner e t) d h))

module _ (K : Context) (s : Scope) where
  pub label_end : {name : List ℕ} (indices : List Expression) → length indices ≡ 0 → IsLabel K s name indices name
  label_end indices e = rw (nil_from_length indices e) no_brackets

  pub label_goes_on : {name longer whole : List ℕ} {z : ℤ} {index : Expression} {indices others : List Expression}
      → IsLabel K s longer others whole → longer ≡ bracketed name z → HasValue K s index (Num z)
      → indices ≡ index ∷ others → IsLabel K s name indices whole
  label_goes_on {name} {longer} {whole} {z} {index} {indices} {others} rest l h e =
      let there : IsLabel K s (bracketed name z) others whole = subst (λ x. IsLabel K s x others whole) l rest in
      rw e (more_brackets h there)

module _ (L : Played) (bytes : List ℕ) where
  -- the pieces that are left belong after those so far
  abbrev pub PiecesGo : Scope → List LinePiece → Output → Output → List LinePiece → Type 0
  PiecesGo s pieces start now rest = (after : Output) → PiecesOf L bytes s rest now after → PiecesOf L bytes s pieces start after

  pub pieces_step : (s : Scope) (pieces rest others : List LinePiece) (piece : LinePiece) (start now next : Output) (text : List ℕ)
      → PiecesGo s pieces start now rest → rest ≡ piece ∷ others → Replaces L s now.process piece.meant text
      → next ≡ replaced bytes piece text now → PiecesGo s pieces start next others
  pieces_step s pieces rest others piece start now next text go e one n after rule =
      let step : PiecesOf L bytes s (piece ∷ others) now after = more_pieces one (subst (λ w. PiecesOf L bytes s others w after) n rule) in
      go after (subst (λ z. PiecesOf L bytes s z now after) (sym e) step)

  pub pieces_done : (s : Scope) (pieces rest : List LinePiece) (start now : Output) → PiecesGo s pieces start now rest → length rest ≡ 0
      → PiecesOf L bytes s pieces start now
  pieces_done s pieces rest start now go e = go now (rw (nil_from_length rest e) no_pieces)

  -- the places that are left belong after those so far
  abbrev pub CopiesGo : Segment → Scope → List FamilyPlace → Output → List ℕ → Output → List FamilyPlace → Type 0
  CopiesGo segment s places start joint now rest =
      (after : Output) → CopiesOf L bytes segment joint (places_of s rest) now after → CopiesOf L bytes segment [] (places_of s places) start after

  pub copies_step : (segment : Segment) (s : Scope) (places rest others : List FamilyPlace) (p : FamilyPlace) (joint blank : List ℕ)
      (start now next v : Output) → CopiesGo segment s places start joint now rest → rest ≡ p ∷ others
      → PiecesOf L bytes (place_of s (members_of p)).scope segment.pieces.items (begun segment joint now) v
      → next ≡ copied bytes segment.to v → blank ≡ codes " " → CopiesGo segment s places start blank next others
  copies_step segment s places rest others p joint blank start now next v go e one n b after rule =
      let left : CopiesOf L bytes segment (codes " ") (places_of s others) (copied bytes segment.to v) after =
      subst (λ w. CopiesOf L bytes segment (codes " ") (places_of s others) w after) n
      (subst (λ z. CopiesOf L bytes segment z (places_of s others) next after) b rule) in
      let step : CopiesOf L bytes segment joint (places_of s (p ∷ others)) now after = more_copies one left in
      go after (subst (λ ps. CopiesOf L bytes segment joint (places_of s ps) now after) (sym e) step)

  pub copies_done : (segment : Segment) (s : Scope) (places rest : List FamilyPlace) (joint : List ℕ) (start now : Output)
      → CopiesGo segment s places start joint now rest → length rest ≡ 0 → CopiesOf L bytes segment [] (places_of s places) start now
  copies_done segment s places rest joint start now go e = go now (rw (nil_from_length rest e) no_copies)

  -- the segments that are left belong after those so far
  abbrev pub SegmentsGo : Scope → List Segment → Output → Output → List Segment → Type 0
  SegmentsGo s segments start now rest = (after : Output) → SegmentsOf L bytes s rest now after → SegmentsOf L bytes s segments start after

  pub segments_step : (s : Scope) (segments rest others : List Segment) (segment : Segment) (start now next : Output) (places : List Place)
      → SegmentsGo s segments start now rest → rest ≡ segment ∷ others
      → PlacesOf (line_context L) (place_in s ∷ []) segment.ranges.items places → CopiesOf L bytes segment [] places now next
      → SegmentsGo s segments start next others
  segments_step s segments rest others segment start now next places go e there one after rule =
      go after (subst (λ z. SegmentsOf L bytes s z now after) (sym e) (more_segments there one rule))

  pub segments_done : (s : Scope) (segments rest : List Segment) (start now : Output) → SegmentsGo s segments start now rest
      → length rest ≡ 0 → SegmentsOf L bytes s segments start now
  segments_done s segments rest start now go e = go now (rw (nil_from_length rest e) no_segments)

  -- the places that are left belong after the lines so far
  abbrev pub LinesGo : List Segment → List FamilyPlace → List (List ℕ) → ℕ → List FamilyPlace → Type 0
  LinesGo segments places all now rest =
      (after : List (List ℕ)) → LinesOf L bytes segments (places_of Top rest) (take now all) after
      → LinesOf L bytes segments (places_of Top places) [] after

  pub lines_step : (segments : List Segment) (places rest others : List FamilyPlace) (p : FamilyPlace) (all : List (List ℕ)) (now next : ℕ)
      (w : Output) (text : List ℕ) → LinesGo segments places all now rest → rest ≡ p ∷ others
      → SegmentsOf L bytes (place_of Top (members_of p)).scope segments nothing_written w → w.text ≡ text
      → slice_get all now ≡ Some text → next ≡ suc now → LinesGo segments places all next others
  lines_step segments places rest others p all now next w text go e one t there n after rule =
      let here : take next all ≡ take now all ++ (w.text ∷ []) =
      ap (λ k. take k all) n ∙ take_next all now text there ∙ ap (λ x. take now all ++ (x ∷ [])) (sym t) in
      let left : LinesOf L bytes segments (places_of Top others) (take now all ++ (w.text ∷ [])) after =
      subst (λ ls. LinesOf L bytes segments (places_of Top others) ls after) here rule in
      let step : LinesOf L bytes segments (places_of Top (p ∷ others)) (take now all) after = more_lines one left in
      go after (subst (λ ps. LinesOf L bytes segments (places_of Top ps) (take now all) after) (sym e) step)

  pub lines_done : (segments : List Segment) (places rest : List FamilyPlace) (all : List (List ℕ)) (now : ℕ)
      → LinesGo segments places all now rest → length rest ≡ 0 → LinesOf L bytes segments (places_of Top places) [] (take now all)
  lines_done segments places rest all now go e = go (take now all) (rw (nil_from_length rest e) no_lines)

  pub lines_all : (segments : List Segment) (places rest : List FamilyPlace) (lines : List (Vec ℕ Global)) (now : ℕ)
      → LinesGo segments places (lines_of lines) now rest → length rest ≡ 0 → now ≡ length lines
      → LinesOf L bytes segments (places_of Top places) [] (lines_of lines)
  lines_all segments places rest lines now go e n =
      let count : length (lines_of lines) ≡ length lines = length-map lines (λ (line : Vec ℕ Global). line.items) in
      subst (λ z. LinesOf L bytes segments (places_of Top places) [] z) (take_all now (lines_of lines) (omega arith))
      (lines_done segments places rest (lines_of lines) now go e)
