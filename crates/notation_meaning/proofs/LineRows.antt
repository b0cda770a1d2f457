-- Rows of the definition of a command line: what each form of a line is replaced by.
use Rattle.std.proofs.Common.{◌≡◌, ℕ, pos, negsuc, List, [], ◌∷◌, Some, None, refl, subst}
use Rattle.std.specs.Prelude.{codes, Option}
use Rattle.std.specs.Fmt.{digits}
use Rattle.dbg_base.specs.CommandLines.{predicate_prefix}
use Rattle.dbg_base.specs.Evaluation.{Num}
use Rattle.dbg_base.specs.Names as names
use Rattle.dbg_base.specs.Trees.{names_of}
use Rattle.notation_tree.specs.declared.syntax.Expression.{Expression, out-Expression}
use Rattle.notation_tree.specs.declared.syntax.Expression.TheOpen as form
use Rattle.notation_tree.specs.declared.syntax.Reference.{Reference, out-Reference}
use Rattle.notation_meaning.specs.declared.command_line.LinePiece.{LinePiece}
use Rattle.notation_meaning.specs.declared.command_line.Meant.TheVariants as meant
use Rattle.notation_meaning.specs.declared.command_line.Segment.{Segment}
use Rattle.notation_meaning.specs.ModelScopes.{Scope, Top, Member}
use Rattle.notation_meaning.specs.ModelValues as v
use Rattle.notation_meaning.specs.ModelFamilies.{Place}
use Rattle.notation_meaning.specs.ModelPrograms.{Played, label_in}
use Rattle.notation_meaning.specs.PlainExpressions as p
use Rattle.notation_meaning.specs.CommandLines as l
use Rattle.notation_meaning.specs.CommandLines.{Replaces, LabelAt, labels_at, chosen, family_scope, own_constants, replaced, copied, Output}
use Rattle.notation_meaning.specs.CommandLines.{PiecesOf, CopiesOf, LinesOf, SegmentsOf, nothing_written, between}

-- the label of a command in two `for`, in a family with one member, and of one that has no label
module _ (at : ℕ) where
  label_row : label_in 1 (Member 5 (pos 2) (Member 4 (negsuc 0) (Member 3 (pos 7) Top))) (Some (record { at = at; name = codes "hear" }))
      ≡ codes "hear[-1][2]"
  unfolding digits
  label_row = refl

no_label_row : label_in 0 (Member 5 (pos 2) Top) None ≡ []
no_label_row = refl

-- pieces whose index or number is 2, in a process with the commands `hear[1]`, `hear[2]` and `hear`
module _ (L : Played) (s : Scope) (q : List ℕ) (r : Reference) (two : Expression) (is_two : out-Expression two ≡ form.Number 0 (pos 2))
    (is_hear : (out-Reference r).name ≡ codes "hear")
    (labels : labels_at L (names.place_of q (names_of L.program)) ≡ codes "hear[1]" ∷ codes "hear[2]" ∷ codes "hear" ∷ []) where
  -- the plain name of `hear[2]`
  name_row : (out-Reference r).indices.items ≡ two ∷ [] → Replaces L s q (meant.Name r) (codes "hear_2")
  unfolding digits
  name_row indices = l.name (rw (is_hear, indices) (p.more_indices (v.simple (v.number is_two)) p.no_indices))

  -- the label `hear[2]` is command 1, whatever number it may be read as
  label_piece_row : (n : Option Expression) → (out-Reference r).indices.items ≡ two ∷ [] → Replaces L s q (meant.Label r n) (codes "1")
  unfolding digits
  label_piece_row n indices =
      l.label {k = 1} (record {
        label = codes "hear[2]";
        is_label = rw (is_hear, indices) (l.more_brackets (v.simple (v.number is_two)) l.no_brackets);
        place = rw labels refl;
      })

  -- the label `hear` is command 2, though others begin with it
  whole_label_row : (n : Option Expression) → (out-Reference r).indices.items ≡ [] → Replaces L s q (meant.Label r n) (codes "2")
  unfolding digits
  whole_label_row n indices =
      l.label {k = 2} (record { label = codes "hear"; is_label = rw (is_hear, indices) l.no_brackets; place = rw labels refl })

  -- a number that is computed
  number_row : Replaces L s q (meant.Number two) (codes "2")
  unfolding digits
  number_row = l.number (v.simple (v.number is_two))

-- a word that is no label remains, or is the number that it is read as
module _ (L : Played) (s : Scope) (q : List ℕ) (r : Reference) (two : Expression) (is_two : out-Expression two ≡ form.Number 0 (pos 2))
    (is_go : (out-Reference r).name ≡ codes "go") (indices : (out-Reference r).indices.items ≡ [])
    (labels : labels_at L (names.place_of q (names_of L.program)) ≡ codes "gone" ∷ []) where
  none : LabelAt L s q r None
  none = record { label = codes "go"; is_label = rw (is_go, indices) l.no_brackets; place = rw labels refl }

  word_row : Replaces L s q (meant.Label r None) (codes "go")
  word_row = subst (λ z. Replaces L s q (meant.Label r None) z) is_go (l.word none indices)

  computed_row : Replaces L s q (meant.Label r (Some two)) (codes "2")
  unfolding digits
  computed_row = l.no_label none (v.simple (v.number is_two))

-- the text of a predicate ends with the parenthesis that closes it
predicate_row : predicate_prefix (codes "(x = (1)) q (y)") ≡ codes "(x = (1))"
predicate_row = refl

-- the bytes of a line around a piece stay
piece_row : (piece : LinePiece) → piece.from ≡ 5 → piece.to ≡ 9
    → (copied (codes "next p[1] ok") 12 (replaced (codes "next p[1] ok") piece (codes "p_1") nothing_written)).text ≡ codes "next p_1 ok"
piece_row piece from to = rw (from, to) refl

-- a segment for two places, with a blank between them, and for none
module _ (L : Played) (segment : Segment) (start : segment.start ≡ 2) (to : segment.to ≡ 4) (pieces : segment.pieces.items ≡ [])
    (one other : Place) where
  copies_row : CopiesOf L (codes "x ab") segment [] (one ∷ other ∷ []) nothing_written (record { text = codes "ab ab"; process = []; at = 4 })
  copies_row =
      l.more_copies {v = record { text = []; process = []; at = 2 }} (rw (pieces, start) l.no_pieces)
      (l.more_copies {v = record { text = codes "ab "; process = []; at = 2 }} (rw (pieces, start, to) l.no_pieces) (rw to l.no_copies))

  no_copies_row : CopiesOf L (codes "x ab") segment [] [] nothing_written nothing_written
  no_copies_row = l.no_copies

-- a line for each of two members
lines_row : (L : Played) (segments : List Segment) (one other : Place) (w u : Output) → SegmentsOf L (codes "x") one.scope segments nothing_written w
    → SegmentsOf L (codes "x") other.scope segments nothing_written u
    → LinesOf L (codes "x") segments (one ∷ other ∷ []) [] (w.text ∷ u.text ∷ [])
lines_row L segments one other w u h k = l.more_lines h (l.more_lines k l.no_lines)

-- the values of a process in place of those of another one
own_row : own_constants 1 (Some (Num (pos 7)) ∷ []) (Some (Num (pos 1)) ∷ None ∷ Some (Num (pos 3)) ∷ [])
    ≡ Some (Num (pos 1)) ∷ Some (Num (pos 7)) ∷ Some (Num (pos 3)) ∷ []
own_row = refl
