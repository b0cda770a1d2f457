-- Which plain lines a command line of a model stands for.
use Rattle.std.specs.Prelude.{◌≡◌, ℕ, ◌+◌, ◌-◌, ◌==◌, ℤ, pos, List, [], ◌∷◌, ◌++◌, map, length, take, drop, Bool, false, if◌then◌else◌}
use Rattle.std.specs.Prelude.{Option, Some, None, slice_get, decimal, codes}
use Rattle.std.specs.declared.alloc.Global.{Global}
use Rattle.std.specs.declared.vec.Vec.{Vec}
use Rattle.dbg_base.specs.Checks.{ReadsPredicate}
use Rattle.dbg_base.specs.CommandLines.{predicate_prefix}
use Rattle.dbg_base.specs.Evaluation.{Num}
use Rattle.dbg_base.specs.Names.{place_of}
use Rattle.dbg_base.specs.Trees.{Tree, names_of, process_of}
use Rattle.notation_tree.specs.declared.syntax.Binder.{Binder, out-Binder}
use Rattle.notation_tree.specs.declared.syntax.DeclarationNode.TheVariants as declaration
use Rattle.notation_tree.specs.declared.syntax.Expression.{Expression}
use Rattle.notation_tree.specs.declared.syntax.ProcessNode.{ProcessNode}
use Rattle.notation_tree.specs.declared.syntax.Reference.{Reference, out-Reference}
use Rattle.notation_meaning.specs.declared.command_line.CommandLine.{CommandLine}
use Rattle.notation_meaning.specs.declared.command_line.LinePiece.{LinePiece}
use Rattle.notation_meaning.specs.declared.command_line.Meant.{Meant}
use Rattle.notation_meaning.specs.declared.command_line.Meant.TheVariants as meant
use Rattle.notation_meaning.specs.declared.command_line.Reading.{Reading}
use Rattle.notation_meaning.specs.declared.command_line.Segment.{Segment}
use Rattle.notation_meaning.specs.ModelScopes.{Constants, Context, Scope, Top, Member}
use Rattle.notation_meaning.specs.ModelValues.{HasValue}
use Rattle.notation_meaning.specs.ModelFamilies.{Place, place_in, PlacesOf}
use Rattle.notation_meaning.specs.ModelPrograms.{Copy, Played, bracketed}
use Rattle.notation_meaning.specs.PlainExpressions.{Setting, HasName, Means}

-- what expressions of a line refer to
abbrev pub line_context : Played → Context
line_context L = record { definitions = L.model.tables.definitions.items; constants = L.constants }

-- a name with indices is this label
pub data IsLabel (K : Context) (s : Scope) : List ℕ → List Expression → List ℕ → Type 0 where
  no_brackets : {name : List ℕ} → IsLabel K s name [] name
  more_brackets : {name whole : List ℕ} {z : ℤ} {index : Expression} {indices : List Expression}
      → HasValue K s index (Num z) → IsLabel K s (bracketed name z) indices whole → IsLabel K s name (index ∷ indices) whole

abbrev pub labels_of : Option Copy → List (List ℕ)
labels_of None = []
labels_of (Some copy) = copy.labels

-- the labels of the process of this name
abbrev pub labels_at : Played → Option ℕ → List (List ℕ)
labels_at L None = []
labels_at L (Some p) = labels_of (slice_get L.copies p)

-- the reference is this label, and it has this number among those of the process of the name `q`, if it is one of them
pub record LabelAt (L : Played) (s : Scope) (q : List ℕ) (reference : Reference) (number : Option ℕ) : Type 0 where
  pub label : List ℕ
  pub is_label : IsLabel (line_context L) s (out-Reference reference).name (out-Reference reference).indices.items label
  pub place : place_of label (labels_at L (place_of q (names_of L.program))) ≡ number

-- whether a predicate was read for this declaration
abbrev pub is_for : ℕ → Option ℕ → Bool
is_for n None = false
is_for n (Some m) = m == n

-- the first of these expressions that was read for the declaration of this number, or else another one
abbrev pub reading_or : Option Expression → ℕ → List Reading → Option Expression
reading_or other n [] = other
reading_or other n (reading ∷ readings) = if is_for n reading.declaration then Some reading.expression else reading_or other n readings

-- the one for the declaration, or else the first
abbrev pub chosen : ℕ → List Reading → Option Expression
chosen n [] = None
chosen n (reading ∷ readings) = reading_or (Some reading.expression) n (reading ∷ readings)

-- the scope with the members of a family
abbrev pub family_scope : List Binder → List ℤ → Scope → Scope
family_scope [] values s = s
family_scope (b ∷ bs) [] s = s
family_scope (b ∷ bs) (z ∷ values) s = family_scope bs values (Member (out-Binder b).member z s)

-- the constants, where those from this number on have the values in a process
abbrev pub own_constants : ℕ → Constants → Constants → Constants
own_constants first own constants = take first constants ++ (own ++ drop (first + length own) constants)

-- what a predicate over process p refers to
abbrev pub predicate_setting : Played → ℕ → ProcessNode → Copy → Setting
predicate_setting L p node copy = record {
  context = record {
    definitions = L.model.tables.definitions.items;
    constants = own_constants node.first_constant copy.constants L.constants;
  };
  processes = names_of L.program;
  variables = map (λ variable. variable.0) (process_of L.program p).variables;
}

-- if the text reads as a predicate of process p, it is what the expression means there, where the members of its family are visible
pub record SaysOf (L : Played) (s : Scope) (p : ℕ) (readings : List Reading) (text : List ℕ) : Type 0 where
  pub copy : Copy
  pub node : ProcessNode
  pub expression : Expression
  pub is_copy : slice_get L.copies p ≡ Some copy
  pub is_declared : slice_get L.model.declarations.items copy.declaration ≡ Some (declaration.Process node)
  pub is_chosen : chosen copy.declaration readings ≡ Some expression
  pub means : (t : Tree) → ReadsPredicate L.program p text t
      → Means (predicate_setting L p node copy) (family_scope node.ranges.items copy.members s) expression t

-- the same, if there is such a process
abbrev pub IsPredicate : Played → Scope → Option ℕ → List Reading → List ℕ → Type 0
IsPredicate L s None readings text = Unit {0}
IsPredicate L s (Some p) readings text = SaysOf L s p readings text

-- the text that replaces some bytes, after the process of the name `q`
pub data Replaces (L : Played) (s : Scope) (q : List ℕ) : Meant → List ℕ → Type 0 where
  name : {reference : Reference} {whole : List ℕ}
      → HasName (line_context L) s (out-Reference reference).name (out-Reference reference).indices.items whole
      → Replaces L s q (meant.Name reference) whole
  label : {reference : Reference} {number : Option Expression} {k : ℕ} → LabelAt L s q reference (Some k)
      → Replaces L s q (meant.Label reference number) (decimal k)
  no_label : {reference : Reference} {e : Expression} {n : ℕ} → LabelAt L s q reference None → HasValue (line_context L) s e (Num (pos n))
      → Replaces L s q (meant.Label reference (Some e)) (decimal n)
  word : {reference : Reference} → LabelAt L s q reference None → (out-Reference reference).indices.items ≡ []
      → Replaces L s q (meant.Label reference None) (out-Reference reference).name
  number : {e : Expression} {n : ℕ} → HasValue (line_context L) s e (Num (pos n)) → Replaces L s q (meant.Number e) (decimal n)
  predicate : {readings : Vec Reading Global} {text : List ℕ} → length (predicate_prefix text) ≡ length text
      → IsPredicate L s (place_of q (names_of L.program)) readings.items text → Replaces L s q (meant.Predicate readings) text

-- the name of the process that was written last
abbrev pub process_after : List ℕ → Meant → List ℕ → List ℕ
process_after q (meant.Name reference) text = text
process_after q other text = q

-- what is written so far: its bytes, the name of the process that was written last, and how far the line was read
pub record Output : Type 0 where
  pub text : List ℕ
  pub process : List ℕ
  pub at : ℕ

-- the bytes of a line from one offset to another
abbrev pub between : List ℕ → ℕ → ℕ → List ℕ
between line from to = take (to - from) (drop from line)

-- the line up to an offset is written as it is
abbrev pub copied : List ℕ → ℕ → Output → Output
copied line to w = record { text = w.text ++ between line w.at to; process = w.process; at = to }

-- and a text in place of these bytes
abbrev pub replaced : List ℕ → LinePiece → List ℕ → Output → Output
replaced line piece text w = record {
  text = (w.text ++ between line w.at piece.from) ++ text;
  process = process_after w.process piece.meant text;
  at = piece.to;
}

-- the pieces are replaced, one after the other
pub data PiecesOf (L : Played) (line : List ℕ) (s : Scope) : List LinePiece → Output → Output → Type 0 where
  no_pieces : {w : Output} → PiecesOf L line s [] w w
  more_pieces : {piece : LinePiece} {pieces : List LinePiece} {text : List ℕ} {w v : Output} → Replaces L s w.process piece.meant text
      → PiecesOf L line s pieces (replaced line piece text w) v → PiecesOf L line s (piece ∷ pieces) w v

-- the bytes of a segment begin, after those that join it to what is before
abbrev pub begun : Segment → List ℕ → Output → Output
begun segment joint w = record { text = w.text ++ joint; process = w.process; at = segment.start }

-- a segment is written for each of these places, with a blank between two of them
pub data CopiesOf (L : Played) (line : List ℕ) (segment : Segment) : List ℕ → List Place → Output → Output → Type 0 where
  no_copies : {joint : List ℕ} {w : Output} → CopiesOf L line segment joint [] w w
  more_copies : {joint : List ℕ} {place : Place} {places : List Place} {w v u : Output}
      → PiecesOf L line place.scope segment.pieces.items (begun segment joint w) v
      → CopiesOf L line segment (codes " ") places (copied line segment.to v) u → CopiesOf L line segment joint (place ∷ places) w u

-- segments, in order, each for the members of its ranges
pub data SegmentsOf (L : Played) (line : List ℕ) (s : Scope) : List Segment → Output → Output → Type 0 where
  no_segments : {w : Output} → SegmentsOf L line s [] w w
  more_segments : {segment : Segment} {segments : List Segment} {places : List Place} {w v u : Output}
      → PlacesOf (line_context L) (place_in s ∷ []) segment.ranges.items places → CopiesOf L line segment [] places w v
      → SegmentsOf L line s segments v u → SegmentsOf L line s (segment ∷ segments) w u

abbrev pub nothing_written : Output
nothing_written = record { text = []; process = []; at = 0 }

-- a plain line for each of these places, after those so far
pub data LinesOf (L : Played) (line : List ℕ) (segments : List Segment) : List Place → List (List ℕ) → List (List ℕ) → Type 0 where
  no_lines : {lines : List (List ℕ)} → LinesOf L line segments [] lines lines
  more_lines : {place : Place} {places : List Place} {w : Output} {before after : List (List ℕ)}
      → SegmentsOf L line place.scope segments nothing_written w → LinesOf L line segments places (before ++ (w.text ∷ [])) after
      → LinesOf L line segments (place ∷ places) before after

-- a line, as it was read, stands for these plain lines: one for each member of its ranges
pub record StandsFor (L : Played) (line : List ℕ) (tree : CommandLine) (lines : List (List ℕ)) : Type 0 where
  pub places : List Place
  pub ranges : PlacesOf (line_context L) (place_in Top ∷ []) tree.ranges.items places
  pub each : LinesOf L line tree.segments.items places [] lines
