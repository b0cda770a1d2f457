-- The lines that are played for a line of a plain session.
use Rattle.std.proofs.Common.{◌≡◌, ◌≢◌, ℕ, Bor, suc, ◌+◌, ◌-◌, ◌<◌, ◌≤◌, Bool, true, false, ◌&&◌, ◌||◌, List, [], ◌∷◌, ◌++◌, length, take, drop, refl, sym, ap, ◌∙◌, inl, inr, subst, arith}
use Rattle.std.specs.Prelude.{◌==◌, not, nat_lt, nat_le, Result, Ok, Err, IfOk, IfSome, MatchOption, Option, Some, None, codes, if◌then◌else◌}
use Rattle.std.specs.Bool.{MatchBool}
use Rattle.std.specs.declared.vec.Vec.{Vec}
use Rattle.std.specs.declared.alloc.Global.{Global}
use Rattle.std.specs.Option.{option_and_then}
use Rattle.std.specs.List.{list_all, list_any, prefix_len}
use Rattle.std.specs.Str.{bytes_eq}
use Rattle.std.proofs.lemmas.Bool.{eqb-true}
use Rattle.std.proofs.lemmas.Bool.Decides.{nat_tests}
use Rattle.std.proofs.Math.Seq.{drop-length}
use Rattle.proc_lang.proofs.PassingPrefixLemmas.{and_first, and_second}
use Rattle.dbg_base.specs.declared.limits.TheConstants.{LINE_BYTES}
use Rattle.dbg_base.specs.Tokens.{is_digit, is_letter, is_numeral, is_word_byte}
use Rattle.dbg_base.specs.CommandLines.{is_blank, word_prefix, without_blanks, next_word, after_word, without_return}
use Rattle.ui_session.specs.Dialogues.{is_remark, first_word}
use Rattle.ui_repl.specs.PlainLines.{PlainLine, once, bare, is_kept, repeated, repeat_by, times_of, times_after, times_in_range, number_of, is_empty, command_words, command_word, arguments, without_comment, without_seat, trimmed, completed_or, IsCompleted, IsPlayed, IsSeated, IsFrequent}

-- the second case of a test that is false
pub otherwise : (t : Bool) (P Q : Type 0) → t ≡ false → Q → MatchBool t P Q
otherwise true P Q e q = cc
otherwise false P Q e q = q

-- what does not make the result true is false
pub refuted : (t r : Bool) → (t ≡ true → r ≡ true) → r ≡ false → t ≡ false
refuted true r h e = let s : r ≡ true = h refl in cc
refuted false r h e = refl

pub ok_more : {A E : Type 0} (r : Result A E) (P Q : A → Type 0) → ((a : A) → P a → Q a) → IfOk r P → IfOk r Q
ok_more (Ok a) P Q more h = more a h
ok_more (Err e) P Q more h = tt

-- a line that is completed is played so
pub whole_played : (line part whole : List ℕ) (t : Bool) (played : PlainLine) → part ≡ bare line
    → t ≡ (nat_lt LINE_BYTES (length line) || is_remark (first_word part)) → t ≡ false → IsCompleted 0 part whole → played ≡ repeated whole
    → IsPlayed line played
whole_played line part whole t played is test single made same =
    let this : t ≡ (nat_lt LINE_BYTES (length line) || is_remark (first_word (bare line))) =
    subst (λ (x : List ℕ). t ≡ (nat_lt LINE_BYTES (length line) || is_remark (first_word x))) is test in
    otherwise _ _ _ (sym this ∙ single) (whole, subst (λ (x : List ℕ). IsCompleted 0 x whole) is made, same)

-- the line that was completed is this one
pub made_some : (part made : List ℕ) (o : Option (Vec ℕ Global)) (v : Vec ℕ Global) → o ≡ Some v → made ≡ v.items
    → IsCompleted 0 part (completed_or part o) → IsCompleted 0 part made
made_some part made o v e s h = subst (λ (x : List ℕ). IsCompleted 0 part x) (ap (completed_or part) e ∙ sym s) h

pub made_none : (part : List ℕ) (o : Option (Vec ℕ Global)) → o ≡ None → IsCompleted 0 part (completed_or part o) → IsCompleted 0 part part
made_none part o e h = subst (λ (x : List ℕ). IsCompleted 0 part x) (ap (completed_or part) e) h

either_same : (t : Bool) (P : Type 0) (Q : Type 0) → P → Q → MatchBool t P Q
either_same true P Q p q = p
either_same false P Q p q = q

-- a line without a comment that is not repeated is played as it is
pub played_once : (line : List ℕ) → without_comment line ≡ line → repeated line ≡ once line → IsPlayed line (once line)
played_once line uncommented single =
    let same : bare line ≡ line = kept_or (is_kept line) uncommented in
    let rest : (whole : List ℕ) × IsCompleted 0 (bare line) whole × (once line ≡ repeated whole) =
    (line, subst (λ (x : List ℕ). IsCompleted 0 x line) (sym same) (either_same _ _ _ refl (inl refl)), sym single) in
    either_same (nat_lt LINE_BYTES (length line) || is_remark (first_word (bare line))) _ _ (ap once (sym same)) rest
  where
    kept_or : (t : Bool) → without_comment line ≡ line → (if t then line else without_comment line) ≡ line
    kept_or true e = refl
    kept_or false e = e

-- Lines that are plain at a glance.

-- a byte of a word is not another byte
not_byte_by : (b k : ℕ) (t : Bool) → (b == k) ≡ t → is_word_byte k ≡ false → is_word_byte b ≡ true → t ≡ false
not_byte_by b k true e no_word word =
    let same : is_word_byte b ≡ is_word_byte k = ap is_word_byte (eqb-true b k e) in cc
not_byte_by b k false e no_word word = refl

not_byte : (b k : ℕ) → is_word_byte k ≡ false → is_word_byte b ≡ true → (b == k) ≡ false
not_byte b k no_word word = not_byte_by b k (b == k) refl no_word word

not_blank : (b : ℕ) → is_word_byte b ≡ true → is_blank b ≡ false
not_blank b word = rw (not_byte b 32 refl word, not_byte b 9 refl word) refl

-- all bytes of a name are of words
word_alone : (name : List ℕ) → list_all is_word_byte name ≡ true → word_prefix name ≡ name
word_alone [] h = refl
word_alone (b ∷ bytes) h =
    rw (not_blank b (and_first (is_word_byte b) (list_all is_word_byte bytes) h))
    (ap (λ (x : List ℕ). b ∷ x) (word_alone bytes (and_second (is_word_byte b) (list_all is_word_byte bytes) h)))

no_blanks : (name : List ℕ) → list_all is_word_byte name ≡ true → without_blanks name ≡ name
no_blanks [] h = refl
no_blanks (b ∷ bytes) h = rw (not_blank b (and_first (is_word_byte b) (list_all is_word_byte bytes) h)) refl

-- none of the bytes is this one
abbrev has_no : ℕ → List ℕ → Type 0
has_no k line = list_all (λ byte. not (byte == k)) line ≡ true

name_has_no : (k : ℕ) → is_word_byte k ≡ false → (name : List ℕ) → list_all is_word_byte name ≡ true → has_no k name
name_has_no k no_word [] h = refl
name_has_no k no_word (b ∷ bytes) h =
    rw (not_byte b k no_word (and_first (is_word_byte b) (list_all is_word_byte bytes) h))
    (name_has_no k no_word bytes (and_second (is_word_byte b) (list_all is_word_byte bytes) h))

no_return : (line : List ℕ) → has_no 13 line → without_return line ≡ line
no_return [] h = refl
no_return (b ∷ []) h = no_return_by (b == 13) h
  where
    no_return_by : (t : Bool) → (not t && true) ≡ true → (if t then [] else b ∷ []) ≡ b ∷ []
    no_return_by true e = cc
    no_return_by false e = refl
no_return (b ∷ c ∷ bytes) h =
    ap (λ (x : List ℕ). b ∷ x) (no_return (c ∷ bytes) (and_second (not (b == 13)) (list_all (λ byte. not (byte == 13)) (c ∷ bytes)) h))

all_long : (line : List ℕ) → has_no 35 line → prefix_len (λ byte. not (byte == 35)) line ≡ length line
all_long [] h = refl
all_long (b ∷ bytes) h =
    let rest = all_long bytes (and_second (not (b == 35)) (list_all (λ byte. not (byte == 35)) bytes) h) in
    rw (and_first (not (b == 35)) (list_all (λ byte. not (byte == 35)) bytes) h) (omega (arith, rest))

not_below : (n : ℕ) → nat_lt n n ≡ false
not_below n = grind (arith, nat_tests)

uncommented : (line : List ℕ) → has_no 35 line → without_comment line ≡ line
uncommented line h =
    subst (λ (n : ℕ). (if nat_lt n (length line) then trimmed (take n line) else line) ≡ line) (sym (all_long line h))
    (rw (not_below (length line)) refl)

if_same : (t : Bool) (o : Option ℕ) → o ≡ None → (if t then o else None) ≡ None
if_same true o e = e
if_same false o e = refl

-- a name alone is no number of times
times_none : (name : List ℕ) → list_all is_word_byte name ≡ true → times_after (32 ∷ name) ≡ None
times_none name h =
    let bytes : List ℕ = 32 ∷ name in
    let word : next_word bytes ≡ name = ap word_prefix (no_blanks name h) ∙ word_alone name h in
    let over : after_word bytes ≡ [] =
    ap (λ (w : List ℕ). drop (length w) (without_blanks name)) word ∙ ap (drop (length name)) (no_blanks name h) ∙ drop-length name in
    subst (λ (rest : List ℕ). (if not (is_empty (next_word bytes)) && is_empty (next_word (after_word rest)) then times_of (next_word rest) else None) ≡ None)
    (sym over) (if_same (not (is_empty (next_word bytes)) && true) (times_of []) refl)

plain_line : (line name : List ℕ) → arguments line ≡ 32 ∷ name → has_no 35 line → list_all is_word_byte name ≡ true → IsPlayed line (once line)
plain_line line name is h word =
    played_once line (uncommented line h)
    (ap (repeat_by line) (if_same (nat_le (length line) LINE_BYTES && bytes_eq (command_word line) (codes "next")) (times_after (arguments line))
    (ap times_after is ∙ times_none name word)))

some_only : {A : Type 0} (o : Option A) (N : Type 0) (P : A → Type 0) → MatchOption o N P → IfSome o P
some_only None N P h = tt
some_only (Some a) N P h = h

pub after_prefix_is : (line prefix : List ℕ) (r : Option (Bor (List ℕ)))
    → MatchOption r ((rest : List ℕ) → line ≢ prefix ++ rest) (λ x. line ≡ prefix ++ x.now) → IfSome r (λ x. line ≡ prefix ++ x.now)
after_prefix_is line prefix r h = some_only r _ _ h

or_true : (a b : Bool) → ((a || true) || b) ≡ true
or_true true b = refl
or_true false b = refl

digit_word : (d : ℕ) → is_digit d ≡ true → is_word_byte d ≡ true
digit_word d h = rw h (or_true (is_letter d) (d == 95))

if_true : (t : Bool) (a b c : List ℕ) → t ≡ true → a ≡ c → (if t then a else b) ≡ c
if_true true a b c e same = same
if_true false a b c e same = cc

seat_gone : (d : ℕ) (rest : List ℕ) → is_digit d ≡ true → without_seat (d ∷ 32 ∷ rest) ≡ 32 ∷ rest
seat_gone d rest h =
    let line : List ℕ = d ∷ 32 ∷ rest in
    let inner : is_blank d ≡ false = not_blank d (digit_word d h) in
    let begun : without_blanks line ≡ line = rw inner refl in
    let first : word_prefix line ≡ d ∷ [] = rw inner refl in
    let word : next_word line ≡ d ∷ [] = ap word_prefix begun ∙ first in
    let number : is_numeral (d ∷ []) ≡ true = rw h refl in
    subst (λ (w : List ℕ). (if is_numeral w then drop (length w) (without_blanks line) else line) ≡ 32 ∷ rest) (sym word)
    (if_true (is_numeral (d ∷ [])) _ _ _ number (ap (drop 1) begun))

seat_has_no : (k d : ℕ) (rest : List ℕ) → is_word_byte k ≡ false → (32 == k) ≡ false → is_digit d ≡ true → has_no k rest
    → has_no k (d ∷ 32 ∷ rest)
seat_has_no k d rest no_word no_blank h others = rw (not_byte d k no_word (digit_word d h), no_blank) others

-- what follows the command after a seat or without one
arguments_of : (line rest : List ℕ) → has_no 13 line → after_word (without_seat line) ≡ rest → arguments line ≡ rest
arguments_of line rest h e = ap (λ (l : List ℕ). after_word (without_seat l)) (no_return line h) ∙ e

same_played : (line other : List ℕ) → line ≡ other → IsPlayed other (once other) → IsPlayed line (once line)
same_played line other e h = subst (λ (l : List ℕ). IsPlayed l (once l)) (sym e) h

unseated : (command name : List ℕ) → has_no 13 command → has_no 35 command → after_word (without_seat command) ≡ 32 ∷ name
    → list_all is_word_byte name ≡ true → IsPlayed command (once command)
unseated command name returns comment after word = plain_line command name (arguments_of command (32 ∷ name) returns after) comment word

seated : (d : ℕ) (command name : List ℕ) → is_digit d ≡ true → has_no 13 command → has_no 35 command → after_word (32 ∷ command) ≡ 32 ∷ name
    → list_all is_word_byte name ≡ true → IsPlayed (d ∷ 32 ∷ command) (once (d ∷ 32 ∷ command))
seated d command name h returns comment after word =
    unseated (d ∷ 32 ∷ command) name (seat_has_no 13 d command refl refl h returns) (seat_has_no 35 d command refl refl h comment)
    (ap after_word (seat_gone d command h) ∙ after) word

seat_played : (line command name : List ℕ) → IsSeated line command → has_no 13 command → has_no 35 command
    → after_word (without_seat command) ≡ 32 ∷ name → after_word (32 ∷ command) ≡ 32 ∷ name → list_all is_word_byte name ≡ true
    → IsPlayed line (once line)
seat_played line command name (inl e) returns comment alone after word =
    same_played line command e (unseated command name returns comment alone word)
seat_played line command name (inr h) returns comment alone after word =
    same_played line (h.0 ∷ 32 ∷ command) h.2 (seated h.0 command name h.1 returns comment after word)

frequent_seated : (line command other : List ℕ) → command ≡ other → IsSeated line command → IsSeated line other
frequent_seated line command other e h = subst (IsSeated line) e h

pub plain_played : (line command name : List ℕ) → IsSeated line command → IsFrequent command name → list_all is_word_byte name ≡ true
    → IsPlayed line (once line)
plain_played line command name seat (inl e) word =
    seat_played line (codes "next " ++ name) name (frequent_seated line command _ e seat) (name_has_no 13 refl name word)
    (name_has_no 35 refl name word) refl refl word
plain_played line command name seat (inr (inl e)) word =
    seat_played line (codes "undo " ++ name) name (frequent_seated line command _ e seat) (name_has_no 13 refl name word)
    (name_has_no 35 refl name word) refl refl word
plain_played line command name seat (inr (inr e)) word =
    seat_played line (codes "redo " ++ name) name (frequent_seated line command _ e seat) (name_has_no 13 refl name word)
    (name_has_no 35 refl name word) refl refl word
