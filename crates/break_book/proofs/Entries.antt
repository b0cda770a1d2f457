-- The entries of a book by name and by position, and its breakpoints.
use Rattle.std.proofs.Common.{◌≡◌, ℕ, zero, suc, ◌-◌, ◌<◌, ◌≤◌, Bool, true, false, cond, List, [], ◌∷◌, ◌++◌, length, get_or, map}
use Rattle.std.proofs.Common.{insert, remove, Option, Some, None, Ok, Err, is_some, refl, sym, ap, ◌∙◌, subst, arith}
use Rattle.std.specs.Prelude.{slice_get, position, if◌then◌else◌, nat_lt, Result, OnOk, is_ok}
use Rattle.std.specs.Option.{option_map_or}
use Rattle.std.specs.Map.{lookup}
use Rattle.std.specs.Str.{bytes_eq}
use Rattle.std.specs.List.{AllByRecursion, position_or_len}
use Rattle.std.proofs.lemmas.Bool.{le-ltb}
use Rattle.std.proofs.lemmas.List.{length-map, map_push}
use Rattle.std.proofs.lemmas.List.Quantifiers.{position-Some}
use Rattle.std.proofs.lemmas.Slice.Eq.{bytes_eq-Decides}
use Rattle.dbg_base.specs.declared.limits.TheConstants.{BREAKPOINTS}
use Rattle.dbg_base.specs.declared.refusal.Refusal.{Refusal}
use Rattle.dbg_base.specs.Predicates.{Conjunct}
use Rattle.least_cut.specs.Detectors.{DetectorState, conjuncts_of}
use Rattle.dbg_base.specs.declared.refusal.Refusal.TheVariants.{BreakTaken, BreaksFull}
use Rattle.dbg_base.specs.Breakpoints.{Breakpoint, named, without, with_mark, name_refusal}
use Rattle.indexmap.specs.IndexMap.{insert_entry, move_index, index_before, set_value_at, shift_remove_entry}
use Rattle.indexmap.proofs.MapLemmas.{absent_from_lookup, or_len-absent}
use Rattle.break_book.specs.Books.{Kept, Entry, breakpoint_of, breakpoints_of, new_breakpoint, marked_at, IsPlacedAt}

abbrev names_of : List Entry → List (List ℕ)
names_of book = map (λ (entry : Entry). entry.0) book

-- the position of the entry of this name, from 0
abbrev pub position_of : List ℕ → List Entry → Option ℕ
position_of name book = position (bytes_eq name) (names_of book)

pub same_in : {A : Type 0} (x y : A) → Some x ≡ Some y → x ≡ y
same_in x y is = cc

none_in : {A : Type 0} (o : Option A) → is_some o ≡ false → o ≡ None
none_in None is = refl
none_in (Some x) is = cc

module _ (name : List ℕ) where
  -- a breakpoint has a name exactly if its entry is found
  pub named_there : (book : List Entry) → is_some (named name (breakpoints_of book)) ≡ is_some (lookup (bytes_eq name) book)
  named_there [] = refl
  named_there (entry ∷ book) = by (bytes_eq name entry.0) (named_there book)
    where
      by : (b : Bool) → is_some (named name (breakpoints_of book)) ≡ is_some (lookup (bytes_eq name) book)
          → is_some (if b then Some (breakpoint_of entry) else named name (breakpoints_of book))
          ≡ is_some (cond b (Some entry.1) (lookup (bytes_eq name) book))
      by true rest = refl
      by false rest = rest

  pub not_named : (book : List Entry) → lookup (bytes_eq name) book ≡ None → named name (breakpoints_of book) ≡ None
  not_named book none = none_in (named name (breakpoints_of book)) (named_there book ∙ ap is_some none)

  pub not_found : (book : List Entry) → named name (breakpoints_of book) ≡ None → lookup (bytes_eq name) book ≡ None
  not_found book none = none_in (lookup (bytes_eq name) book) (sym (named_there book) ∙ ap is_some none)

  -- a new name is appended
  pub inserted : (kept : Kept) (book : List Entry) → named name (breakpoints_of book) ≡ None
      → insert_entry bytes_eq book name kept ≡ book ++ (name, kept) ∷ []
  inserted kept [] none = refl
  inserted kept (entry ∷ book) none = by (bytes_eq name entry.0) (λ rest. inserted kept book rest) none
    where
      by : (b : Bool) → (named name (breakpoints_of book) ≡ None → insert_entry bytes_eq book name kept ≡ book ++ (name, kept) ∷ [])
          → (if b then Some (breakpoint_of entry) else named name (breakpoints_of book)) ≡ None
          → (if b then (entry.0, kept) ∷ book else entry ∷ insert_entry bytes_eq book name kept) ≡ entry ∷ (book ++ (name, kept) ∷ [])
      by true rest none = cc
      by false rest none = ap (λ (l : List Entry). entry ∷ l) (rest none)

  -- what holds of all entries holds of all others
  pub all_left : (P : Entry → Type 0) (book : List Entry) → AllByRecursion P book
      → AllByRecursion P (shift_remove_entry (bytes_eq name) book)
  all_left P [] all = tt
  all_left P (entry ∷ book) all = by (bytes_eq name entry.0) (all_left P book all.1)
    where
      by : (b : Bool) → AllByRecursion P (shift_remove_entry (bytes_eq name) book)
          → AllByRecursion P (cond b book (entry ∷ shift_remove_entry (bytes_eq name) book))
      by true rest = all.1
      by false rest = (all.0, rest)

  -- all other breakpoints are those of all other entries
  pub left : (book : List Entry) → breakpoints_of (shift_remove_entry (bytes_eq name) book) ≡ without name (breakpoints_of book)
  left [] = refl
  left (entry ∷ book) = by (bytes_eq name entry.0) (left book)
    where
      by : (b : Bool) → breakpoints_of (shift_remove_entry (bytes_eq name) book) ≡ without name (breakpoints_of book)
          → breakpoints_of (cond b book (entry ∷ shift_remove_entry (bytes_eq name) book))
          ≡ (if b then breakpoints_of book else breakpoint_of entry ∷ without name (breakpoints_of book))
      by true rest = refl
      by false rest = ap (λ (l : List Breakpoint). breakpoint_of entry ∷ l) rest

  -- the breakpoint is at this position, and returns to it among the others
  pub record Here (book : List Entry) (i : ℕ) (kept : Kept) : Type 0 where
    pub placed_at : IsPlacedAt name book i kept
    pub place : i ≤ length (shift_remove_entry (bytes_eq name) book)
    pub whole : book ≡ insert (shift_remove_entry (bytes_eq name) book) i (name, kept)

  here_first : (entry : Entry) (book : List Entry) → bytes_eq name entry.0 ≡ true → Here (entry ∷ book) 0 entry.1
  here_first entry book same =
      let e : name ≡ entry.0 = (bytes_eq-Decides name entry.0).0 same in
      record {
        placed_at = record {
          is = ap (λ (b : Bool). if b then Some (breakpoint_of entry) else named name (breakpoints_of book)) same
              ∙ (λ i. Some (breakpoint_of (sym e i, entry.1)));
          entry = λ i. Some (sym e i, entry.1);
          within = omega arith;
          detector = λ w are. are.0;
          marked = λ armed. sym (ap (λ (b : Bool).
              if b then record { name = entry.0; conjuncts = (breakpoint_of entry).conjuncts; armed = armed } ∷ breakpoints_of book
              else breakpoint_of entry ∷ with_mark name armed (breakpoints_of book)) same);
        };
        place = omega arith;
        whole = (λ i. (sym e i, entry.1) ∷ book)
            ∙ ap (λ (l : List Entry). (name, entry.1) ∷ l)
            (sym (ap (λ (b : Bool). cond b book (entry ∷ shift_remove_entry (bytes_eq name) book)) same));
      }

  here_after : (entry : Entry) (book : List Entry) (i : ℕ) (kept : Kept) → bytes_eq name entry.0 ≡ false → Here book i kept
      → Here (entry ∷ book) (suc i) kept
  here_after entry book i kept other here =
      let rest = shift_remove_entry (bytes_eq name) book in
      let less = here.placed_at.within in
      let fits = here.place in
      let all : shift_remove_entry (bytes_eq name) (entry ∷ book) ≡ entry ∷ rest =
      ap (λ (b : Bool). cond b book (entry ∷ rest)) other in
      record {
        placed_at = record {
          is = ap (λ (b : Bool). if b then Some (breakpoint_of entry) else named name (breakpoints_of book)) other ∙ here.placed_at.is;
          entry = here.placed_at.entry;
          within = omega (arith, less);
          detector = λ w are. here.placed_at.detector w are.1;
          marked = λ armed. ap (λ (l : List Breakpoint). breakpoint_of entry ∷ l) (here.placed_at.marked armed)
              ∙ sym (ap (λ (b : Bool).
              if b then record { name = entry.0; conjuncts = (breakpoint_of entry).conjuncts; armed = armed } ∷ breakpoints_of book
              else breakpoint_of entry ∷ with_mark name armed (breakpoints_of book)) other);
        };
        place = omega (arith, fits, ap (λ (l : List Entry). length l) all);
        whole = ap (λ (l : List Entry). entry ∷ l) here.whole ∙ ap (λ (l : List Entry). insert l (suc i) (name, kept)) (sym all);
      }

  pub here : (book : List Entry) (i : ℕ) (kept : Kept) → position_of name book ≡ Some i → lookup (bytes_eq name) book ≡ Some kept
      → Here book i kept
  here book i kept is = let at = position-Some (bytes_eq name) (names_of book) i [] is in from book i at.0 at.1 at.2
    where
      from : (book : List Entry) (i : ℕ) → i < length (names_of book) → bytes_eq name (get_or (names_of book) i []) ≡ true
          → ((k : ℕ) → k < i → bytes_eq name (get_or (names_of book) k []) ≡ false) → lookup (bytes_eq name) book ≡ Some kept
          → Here book i kept
      from [] i less is before found = let none : i < 0 = less in absurd (omega (arith, none))
      from (entry ∷ book) zero less is before found =
          subst (Here (entry ∷ book) 0)
          (same_in entry.1 kept (sym (ap (λ (b : Bool). cond b (Some entry.1) (lookup (bytes_eq name) book)) is) ∙ found))
          (here_first entry book is)
      from (entry ∷ book) (suc i) less is before found =
          let other = before 0 (omega arith) in
          here_after entry book i kept other
          (from book i (omega (arith, less)) is (λ k lt. before (suc k) (omega (arith, lt)))
          (sym (ap (λ (b : Bool). cond b (Some entry.1) (lookup (bytes_eq name) book)) other) ∙ found))

-- a name that may be set is free
free_name : (o : Option Breakpoint) (rest : Option Refusal) → (if is_some o then Some BreakTaken else rest) ≡ None → o ≡ None
free_name None rest may = refl
free_name (Some b) rest may = cc

pub set_last : (name : List ℕ) (book new : List Entry) (d : DetectorState) (conjuncts : List Conjunct)
    → name_refusal name (breakpoints_of book) ≡ None → conjuncts_of d ≡ conjuncts
    → new ≡ insert_entry bytes_eq book name (record { armed = true; detector = d })
    → (new ≡ book ++ (name, record { armed = true; detector = d }) ∷ [])
    × (breakpoints_of new ≡ breakpoints_of book ++ new_breakpoint name conjuncts ∷ [])
set_last name book new d conjuncts may same is =
    let none : named name (breakpoints_of book) ≡ None = free_name (named name (breakpoints_of book)) _ may in
    let last : new ≡ book ++ (name, record { armed = true; detector = d }) ∷ [] =
    is ∙ inserted name (record { armed = true; detector = d }) book none in (
      last,
      ap breakpoints_of last ∙ map_push breakpoint_of book (name, record { armed = true; detector = d })
          ∙ ap (λ (l : List Conjunct). breakpoints_of book ++ new_breakpoint name l ∷ []) same,
    )

pub on_ok : {T E : Type 0} (r : Result T E) (X : Type 0) → is_ok r ≡ true → OnOk r X → X
on_ok (Ok x) X is holds = holds
on_ok (Err e) X is holds = cc

-- why a name may not be set, by whether it is found
pub refusal_by : (name : List ℕ) {inside book : List Entry} (found full : Bool) → inside ≡ book
    → found ≡ is_some (lookup (bytes_eq name) inside) → nat_lt (length inside) BREAKPOINTS ≡ full
    → name_refusal name (breakpoints_of book) ≡ (if found then Some BreakTaken else (if full then None else Some BreaksFull))
refusal_by name {inside} {book} found full view is size = subst (λ (l : List Entry). name_refusal name (breakpoints_of l)
    ≡ (if found then Some BreakTaken else (if full then None else Some BreaksFull))) view (λ i.
    if (named_there name inside ∙ sym is) i then Some BreakTaken
    else (if (ap (λ (n : ℕ). nat_lt n BREAKPOINTS) (length-map inside breakpoint_of) ∙ size) i then None else Some BreaksFull))

-- a book from which the breakpoint of this name was removed
pub record IsCleared (name : List ℕ) (book new : List Entry) (i : ℕ) (kept : Kept) : Type 0 where
  pub is : named name (breakpoints_of book) ≡ Some (breakpoint_of (name, kept))
  pub left : breakpoints_of new ≡ without name (breakpoints_of book)
  pub place : i ≤ length new
  pub whole : book ≡ insert new i (name, kept)

pub cleared : (name : List ℕ) (book new : List Entry) (i : ℕ) (kept : Kept) → position_of name book ≡ Some i
    → lookup (bytes_eq name) book ≡ Some kept → new ≡ shift_remove_entry (bytes_eq name) book → IsCleared name book new i kept
cleared name book new i kept at found entries =
    let spot = here name book i kept at found in
    subst (λ (l : List Entry). IsCleared name book l i kept) (sym entries)
    (record { is = spot.placed_at.is; left = left name book; place = spot.place; whole = spot.whole })

-- a mark is set, and the rest stays
pub written : (book : List Entry) (i : ℕ) (kept next : Kept) (armed : Bool)
    → slice_get (map (λ (entry : Entry). entry.1) book) i ≡ Some kept → next ≡ record kept { armed = armed }
    → set_value_at book i next ≡ marked_at i armed book
written [] i kept next armed at is = cc
written (entry ∷ book) zero kept next armed at is =
    let same : kept ≡ entry.1 = cc in
    λ j. (entry.0, (is ∙ (λ k. record (same k) { armed = armed })) j) ∷ book
written (entry ∷ book) (suc i) kept next armed at is = ap (λ (l : List Entry). entry ∷ l) (written book i kept next armed at is)

pub length_marked : (book : List Entry) (i : ℕ) (armed : Bool) → length (marked_at i armed book) ≡ length book
length_marked [] i armed = refl
length_marked (entry ∷ book) zero armed = refl
length_marked (entry ∷ book) (suc i) armed = ap suc (length_marked book i armed)

-- what holds of all entries, whatever their marks, still holds
pub all_marked : (P : Kept → Type 0) → ((kept : Kept) (armed : Bool) → P kept → P (record { armed = armed; detector = kept.detector }))
    → (book : List Entry) (i : ℕ) (armed : Bool) → AllByRecursion (λ entry. P entry.1) book
    → AllByRecursion (λ entry. P entry.1) (marked_at i armed book)
all_marked P each [] i armed all = tt
all_marked P each (entry ∷ book) zero armed all = (each entry.1 armed all.0, all.1)
all_marked P each (entry ∷ book) (suc i) armed all = (all.0, all_marked P each book i armed all.1)

-- One more at a position.

pub all_insert : (P : Entry → Type 0) (book : List Entry) (i : ℕ) (entry : Entry) → AllByRecursion P book → P entry
    → AllByRecursion P (insert book i entry)
all_insert P book zero entry all holds = (holds, all)
all_insert P [] (suc i) entry all holds = (holds, tt)
all_insert P (e ∷ book) (suc i) entry all holds = (all.0, all_insert P book i entry all.1 holds)

last_there : (book : List Entry) (entry : Entry) → slice_get (book ++ entry ∷ []) (length book) ≡ Some entry
last_there [] entry = refl
last_there (e ∷ book) entry = last_there book entry

last_off : (book : List Entry) (entry : Entry) → remove (book ++ entry ∷ []) (length book) ≡ book
last_off [] entry = refl
last_off (e ∷ book) entry = ap (λ (l : List Entry). e ∷ l) (last_off book entry)

moved : (book : List Entry) (entry : Entry) (i : ℕ) → move_index (book ++ entry ∷ []) (length book) i ≡ insert book i entry
moved book entry i =
    by (slice_get (book ++ entry ∷ []) (length book)) (last_there book entry)
    ∙ ap (λ (l : List Entry). insert l i entry) (last_off book entry)
  where
    by : (o : Option Entry) → o ≡ Some entry
        → option_map_or (λ (x : Entry). insert (remove (book ++ entry ∷ []) (length book)) i x) o (book ++ entry ∷ [])
        ≡ insert (remove (book ++ entry ∷ []) (length book)) i entry
    by None is = cc
    by (Some x) is = let same : x ≡ entry = cc in ap (insert (remove (book ++ entry ∷ []) (length book)) i) same

-- a new breakpoint is inserted at its position
pub restored : (book : List Entry) (name : List ℕ) (kept : Kept) (i n : ℕ) → named name (breakpoints_of book) ≡ None → i ≤ length book
    → n ≡ index_before (position_or_len (bytes_eq name) (names_of book)) i
    → move_index (insert_entry bytes_eq book name kept) (position_or_len (bytes_eq name) (names_of book)) n ≡ insert book i (name, kept)
restored book name kept i n none few at =
    let last : position_or_len (bytes_eq name) (names_of book) ≡ length book =
    or_len-absent (bytes_eq name) book (absent_from_lookup (bytes_eq name) book (not_found name book none)) in
    let here : n ≡ i =
    at ∙ ap (λ (m : ℕ). index_before m i) last ∙ ap (λ (b : Bool). if b then i - 1 else i) (le-ltb (length book) i few) in
    (λ j. move_index (inserted name kept book none j) (last j) (here j)) ∙ moved book (name, kept) i
