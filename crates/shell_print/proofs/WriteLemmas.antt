-- Texts that are written one after the other.
use Rattle.std.proofs.Common.{◌≡◌, ℕ, List, [], ◌++◌, Result, Ok, Err, refl, sym, ◌∙◌, ap, append_assoc, subst, take, drop, add-one}
use Rattle.std.proofs.Common.{length, map, get_or, ◌<◌, arith}
use Rattle.std.specs.Prelude.{IsErrAnd, IsErr, Some, None, ◌+◌, suc, ◌∷◌, slice_get, codes}
use Rattle.std.specs.List.{flat_map}
use Rattle.shell_io.specs.Seen.{Seen, Appended, CutShort}
use Rattle.shell_io.proofs.AppendLemmas.{appended_none, appended_then, cut_then}
use Rattle.std.proofs.lemmas.List.{append-nil, take-append-drop}
use Rattle.std.proofs.lemmas.List.Concat.{flat_map-append}
use Rattle.std.proofs.lemmas.Option.{slice_get_read}
use Rattle.shell_print.specs.declared.outcome.ServeFault.{ServeFault}
use Rattle.shell_print.specs.declared.outcome.ServeFault.TheVariants.{Write}
use Rattle.dbg_base.specs.Replies.{spaced}
use Rattle.shell_print.specs.Writing.{AppendsPrefix, Writes, Progress, Puts, in_a_row}

pub prefix_then : (a b c : Seen) (x y : List ℕ) → Appended a b x → AppendsPrefix b c y → AppendsPrefix a c (x ++ y)
prefix_then a b c x y h k = (x ++ k.0, k.1, ap (λ t. x ++ t) k.2 ∙ sym (append_assoc x k.0 k.1), cut_then a b c x k.0 h k.3)

pub prefix_longer : (a b : Seen) (x y : List ℕ) → AppendsPrefix a b x → AppendsPrefix a b (x ++ y)
prefix_longer a b x y h = (h.0, h.1 ++ y, ap (λ t. t ++ y) h.2 ∙ append_assoc h.0 h.1 y, h.3)

-- one text was written whole, and then another was written or not
pub writes_then : {A B : Type 0} {u : A} {a b c : Seen} {r : Result B ServeFault} {x y : List ℕ} → Writes {A = A} a b (Ok u) x
    → Writes b c r y → Writes a c r (x ++ y)
writes_then {a = a} {b = b} {c = c} {r = Ok v} {x = x} {y = y} h k = record
    { whole = appended_then a b c x y h.whole k.whole; part = tt; fault = tt }
writes_then {a = a} {b = b} {c = c} {r = Err e} {x = x} {y = y} h k = record
    { whole = tt; part = prefix_then a b c x y h.whole k.part; fault = k.fault }

-- a text was not written whole, and nothing after it was
pub stopped : {A B : Type 0} {e : ServeFault} {r : Result B ServeFault} {a b : Seen} {x : List ℕ} (y : List ℕ)
    → Writes {A = A} a b (Err e) x → IsErrAnd r (λ f. f ≡ e)
    → Writes a b r (x ++ y)
stopped {r = Ok v} y h k = absurd k
stopped {r = Err f} {a = a} {b = b} {x = x} y h k = record { whole = tt; part = prefix_longer a b x y h.part; fault = k ∙ h.fault }

-- a text was written whole, and was flushed or not
pub handed_on : {A B : Type 0} {u : A} {a b c : Seen} {w : Result A ServeFault} {r : Result B ServeFault} {x : List ℕ} → Writes a b w x
    → w ≡ Ok u → Writes b c r [] → Writes a c r x
handed_on {u = u} {a = a} {b = b} {c = c} {r = r} {x = x} wrote whole flushed =
    subst (λ (t : List ℕ). Writes a c r t) (append-nil x)
    (writes_then (subst (λ o. Writes a b o x) whole wrote) flushed)

-- How far bytes are written.

pub progress_begins : (a : Seen) (bytes : List ℕ) → Progress a a bytes bytes
progress_begins a bytes = record { done = []; all = refl; appends = appended_none a }

pub progress_goes_on : (a b c : Seen) (bytes rest others : List ℕ) (n : ℕ) → Progress a b bytes rest → Appended b c (take n rest)
    → others ≡ drop n rest → Progress a c bytes others
progress_goes_on a b c bytes rest others n p h e = record {
  done = p.done ++ take n rest;
  all = p.all ∙ ap (λ t. p.done ++ t) (sym (take-append-drop n rest) ∙ ap (λ t. take n rest ++ t) (sym e))
      ∙ sym (append_assoc p.done (take n rest) others);
  appends = appended_then a b c p.done (take n rest) p.appends h;
}

pub progress_ends : {A : Type 0} {u : A} (a b : Seen) (bytes rest : List ℕ) → Progress a b bytes rest → rest ≡ []
    → Writes a b (Ok u) bytes
progress_ends a b bytes rest p e =
    let whole : bytes ≡ p.done = p.all ∙ ap (λ t. p.done ++ t) e ∙ append-nil p.done in
    let P : List ℕ → Type 0 = λ t. Appended a b t in
    record { whole = subst P (sym whole) p.appends; part = tt; fault = tt }

pub progress_stops : {A : Type 0} (a b c : Seen) (bytes rest : List ℕ) → Progress a b bytes rest → CutShort b c []
    → Writes {A = A} a c (Err Write) bytes
progress_stops a b c bytes rest p h =
    let all : bytes ≡ (p.done ++ []) ++ rest = p.all ∙ ap (λ t. t ++ rest) (sym (append-nil p.done)) in
    record { whole = tt; part = (p.done ++ [], rest, all, cut_then a b c p.done [] p.appends h); fault = refl }

-- the result for an item of several, and those for the items after it
next_one : {X : Type 0} (f : X → List ℕ) (xs : List X) (i : ℕ) (x : X) → slice_get xs i ≡ Some x
    → flat_map f (drop i xs) ≡ f x ++ flat_map f (drop (suc i) xs)
next_one f [] i x h = cc
next_one f (y ∷ xs) ℕ.zero x h = let same : y ≡ x = cc in ap (λ z. f z ++ flat_map f xs) same
next_one f (y ∷ xs) (suc i) x h = next_one f xs i x h

pub next_of : {X : Type 0} (f : X → List ℕ) (xs : List X) (i : ℕ) (x : X) → slice_get xs i ≡ Some x
    → flat_map f (drop i xs) ≡ f x ++ flat_map f (drop (i + 1) xs)
next_of f xs i x h = rw add-one (next_one f xs i x h)

pub next_read : {X : Type 0} (f : X → List ℕ) (xs : List X) (i : ℕ) (x : X) → i < length xs → x ≡ get_or xs i x
    → flat_map f (drop i xs) ≡ f x ++ flat_map f (drop (i + 1) xs)
next_read f xs i x lt is = next_of f xs i x (slice_get_read xs (length xs) i x refl lt is)

-- after the last item there is nothing
pub none_of : {X : Type 0} (f : X → List ℕ) (xs : List X) (i : ℕ) → slice_get xs i ≡ None → flat_map f (drop i xs) ≡ []
none_of f [] ℕ.zero h = refl
none_of f [] (suc i) h = refl
none_of f (x ∷ xs) ℕ.zero h = cc
none_of f (x ∷ xs) (suc i) h = none_of f xs i h

-- the words of several items, each with a space before it
pub row_spaced : {X : Type 0} (f : X → List (List ℕ)) (xs : List X) → flat_map (λ x. spaced (f x)) xs ≡ spaced (in_a_row f xs)
row_spaced f [] = refl
row_spaced f (x ∷ []) = append-nil (spaced (f x))
row_spaced f (x ∷ y ∷ xs) =
    ap (λ t. spaced (f x) ++ t) (row_spaced f (y ∷ xs)) ∙ sym (flat_map-append (λ word. codes " " ++ word) (f x) (in_a_row f (y ∷ xs)))

-- the output is this text, too
pub writes_same : {A : Type 0} {a b : Seen} {r : Result A ServeFault} {x y : List ℕ} → x ≡ y → Writes a b r x → Writes a b r y
writes_same {a = a} {b = b} {r = r} same wrote = subst (λ (t : List ℕ). Writes a b r t) same wrote

-- two words
pub spaced_two : (word other : List ℕ) → spaced (word ∷ other ∷ []) ≡ (codes " " ++ word) ++ (codes " " ++ other)
spaced_two word other = ap (λ (t : List ℕ). (codes " " ++ word) ++ t) (append-nil (codes " " ++ other))

-- Words that are composed before they are written.

-- words were put after what is composed, and nothing was written
pub puts_kept : {A : Type 0} {u : A} (a : Seen) (kept words left : List ℕ) → left ≡ kept ++ words → Puts a kept a left (Ok u) words
puts_kept a kept words left is = record
    { some = record { done = []; all = sym is; appends = appended_none a }; part = tt; fault = tt }

-- all that is composed was written
pub puts_written : {A B : Type 0} {u : A} {v : B} {a b : Seen} {kept text left : List ℕ} → Writes {A = A} a b (Ok u) text → text ≡ kept
    → left ≡ [] → Puts {A = B} a kept b left (Ok v) []
puts_written {a = a} {b = b} {kept = kept} {text = text} {left = left} h same none = record {
  some = record { done = text; all = ap (λ (t : List ℕ). t ++ []) (sym same) ∙ ap (λ (t : List ℕ). text ++ t) (sym none); appends = h.whole };
  part = tt;
  fault = tt;
}

-- or it is not
pub puts_unwritten : {A B : Type 0} {e : ServeFault} {r : Result B ServeFault} {a b : Seen} {kept text left : List ℕ}
    → Writes {A = A} a b (Err e) text → text ≡ kept → IsErrAnd r (λ f. f ≡ e) → Puts a kept b left r []
puts_unwritten {r = Ok v} h same k = absurd k
puts_unwritten {r = Err f} {a = a} {b = b} {kept = kept} {text = text} h same k = record {
  some = tt;
  part = subst (AppendsPrefix a b) (same ∙ sym (append-nil kept)) h.part;
  fault = k ∙ h.fault;
}

same_rest : (kept words more done left others rest : List ℕ) → kept ++ words ≡ done ++ left → left ++ more ≡ others ++ rest
    → kept ++ (words ++ more) ≡ done ++ (others ++ rest)
same_rest kept words more done left others rest e f =
    sym (append_assoc kept words more) ∙ ap (λ (t : List ℕ). t ++ more) e ∙ append_assoc done left more ∙ ap (λ t. done ++ t) f

-- words were put, and then more were or not
pub puts_then : {A B : Type 0} {u : A} {r : Result B ServeFault} {a b c : Seen} {kept left last x y : List ℕ} → Puts a kept b left (Ok u) x
    → Puts b left c last r y → Puts a kept c last r (x ++ y)
puts_then {r = Ok v} {a = a} {b = b} {c = c} {kept = kept} {left = left} {last = last} {x = x} {y = y} h k = record {
  some = record {
    done = h.some.done ++ k.some.done;
    all = same_rest kept x y h.some.done left k.some.done last h.some.all k.some.all
        ∙ sym (append_assoc h.some.done k.some.done last);
    appends = appended_then a b c h.some.done k.some.done h.some.appends k.some.appends;
  };
  part = tt;
  fault = tt;
}
puts_then {r = Err e} {a = a} {b = b} {c = c} {kept = kept} {left = left} {last = last} {x = x} {y = y} h k = record {
  some = tt;
  part = (
    h.some.done ++ k.part.0,
    k.part.1,
    same_rest kept x y h.some.done left k.part.0 k.part.1 h.some.all k.part.2 ∙ sym (append_assoc h.some.done k.part.0 k.part.1),
    cut_then a b c h.some.done k.part.0 h.some.appends k.part.3,
  );
  fault = k.fault;
}

-- words were not put, and nothing after them was
pub puts_stopped : {A B : Type 0} {e : ServeFault} {r : Result B ServeFault} {a b : Seen} {kept left last x : List ℕ} (y : List ℕ)
    → Puts {A = A} a kept b left (Err e) x → IsErrAnd r (λ f. f ≡ e) → Puts a kept b last r (x ++ y)
puts_stopped {r = Ok v} y h k = absurd k
puts_stopped {r = Err f} {a = a} {b = b} {kept = kept} {x = x} y h k = record {
  some = tt;
  part = subst (AppendsPrefix a b) (append_assoc kept x y) (prefix_longer a b (kept ++ x) y h.part);
  fault = k ∙ h.fault;
}

-- words were put, and nothing was composed before
pub puts_first : (a : Seen) (begun words left : List ℕ) → begun ≡ [] → left ≡ begun ++ words → Puts a [] a left (Ok (tt {0})) words
puts_first a begun words left none is = puts_kept a [] words left (is ∙ ap (λ (t : List ℕ). t ++ words) none)

-- words were put, nothing was composed before, and then what is left was written or not
pub puts_ends : {A B : Type 0} {u : A} {r : Result B ServeFault} {a b c : Seen} {left x : List ℕ} → Puts a [] b left (Ok u) x
    → Writes b c r left → Writes a c r x
puts_ends {A = A} {u = u} {r = r} {a = a} {b = b} {c = c} {left = left} {x = x} h k =
    writes_same (sym h.some.all)
    (writes_then {A = A} {u = u} (record { whole = h.some.appends; part = tt; fault = tt }) k)

-- or they were not put
pub puts_failed : {A : Type 0} {r : Result A ServeFault} {a b : Seen} {left x : List ℕ} → Puts a [] b left r x → IsErr r → Writes a b r x
puts_failed {r = Ok v} h k = cc
puts_failed {r = Err f} h k = record { whole = tt; part = h.part; fault = h.fault }

-- the words that were put are this text, too
pub puts_same : {A : Type 0} {a b : Seen} {kept left x y : List ℕ} {r : Result A ServeFault} → x ≡ y → Puts a kept b left r x
    → Puts a kept b left r y
puts_same {a = a} {b = b} {kept = kept} {left = left} {r = r} same put = subst (λ (t : List ℕ). Puts a kept b left r t) same put

-- Rows of words, put one after the other: some are put, and the others are due.

-- the next ones are put
pub row_put : {A : Type 0} {u : A} (a b c : Seen) (whole left last due x others : List ℕ) → Progress a b whole (left ++ due)
    → due ≡ x ++ others → Puts b left c last (Ok u) x → Progress a c whole (last ++ others)
row_put a b c whole left last due x others p e h = record {
  done = p.done ++ h.some.done;
  all = p.all ∙ ap (λ (t : List ℕ). p.done ++ (left ++ t)) e ∙ ap (λ (t : List ℕ). p.done ++ t) (sym (append_assoc left x others))
      ∙ ap (λ (t : List ℕ). p.done ++ (t ++ others)) h.some.all
      ∙ ap (λ (t : List ℕ). p.done ++ t) (append_assoc h.some.done last others)
      ∙ sym (append_assoc p.done h.some.done (last ++ others));
  appends = appended_then a b c p.done h.some.done p.appends h.some.appends;
}

-- or they are not
pub row_stopped : {A B : Type 0} {e : ServeFault} {r : Result B ServeFault} (a b c : Seen) (kept words left last due x others : List ℕ)
    → Progress a b (kept ++ words) (left ++ due) → due ≡ x ++ others → Puts {A = A} b left c last (Err e) x → IsErrAnd r (λ f. f ≡ e)
    → Puts a kept c last r words
row_stopped {r = Ok v} a b c kept words left last due x others p e h k = absurd k
row_stopped {r = Err f} a b c kept words left last due x others p e h k =
    let longer = prefix_longer b c (left ++ x) others h.part in
    let prefix = prefix_then a b c p.done ((left ++ x) ++ others) p.appends longer in
    let whole : kept ++ words ≡ p.done ++ ((left ++ x) ++ others) =
    p.all ∙ ap (λ (t : List ℕ). p.done ++ (left ++ t)) e ∙ ap (λ (t : List ℕ). p.done ++ t) (sym (append_assoc left x others)) in
    record { some = tt; part = (prefix.0, prefix.1, whole ∙ prefix.2, prefix.3); fault = k ∙ h.fault }

-- all are put
pub row_ends : {A : Type 0} {u : A} (a b : Seen) (kept words left due : List ℕ) → Progress a b (kept ++ words) (left ++ due) → due ≡ []
    → Puts a kept b left (Ok u) words
row_ends a b kept words left due p none = record {
  some = record {
    done = p.done;
    all = p.all ∙ ap (λ (t : List ℕ). p.done ++ (left ++ t)) none ∙ ap (λ (t : List ℕ). p.done ++ t) (append-nil left);
    appends = p.appends;
  };
  part = tt;
  fault = tt;
}

next_at : {X : Type 0} (f : X → List ℕ) (xs : List X) (i : ℕ) (none x : X) → i < length xs → x ≡ get_or xs i none
    → spaced (map f (drop i xs)) ≡ (codes " " ++ f x) ++ spaced (map f (drop (suc i) xs))
next_at f [] i none x lt is = absurd (omega (arith, lt))
next_at f (y ∷ xs) ℕ.zero none x lt is = ap (λ z. (codes " " ++ f z) ++ spaced (map f xs)) (sym is)
next_at f (y ∷ xs) (suc i) none x lt is = next_at f xs i none x (omega (arith, lt)) is

-- the word of an element, and the words of those after it
pub next_mapped : {X : Type 0} (f : X → List ℕ) (xs : List X) (i : ℕ) (none x : X) → i < length xs → x ≡ get_or xs i none
    → spaced (map f (drop i xs)) ≡ (codes " " ++ f x) ++ spaced (map f (drop (i + 1) xs))
next_mapped f xs i none x lt is = rw add-one (next_at f xs i none x lt is)
