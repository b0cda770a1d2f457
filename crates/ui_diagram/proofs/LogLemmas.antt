-- The texts of a log, made of their parts.
use Rattle.std.proofs.Common.{◌≡◌, ◌<◌, ◌+◌, ℕ, zero, suc, List, [], ◌∷◌, ◌++◌, map, take, length, get_or, None, refl, sym, ap, ◌∙◌, subst, cond, nat_lt, ◌≤◌, add-one, arith, lt-ltb, le-ltb}
use Rattle.std.specs.Prelude.{slice_get, slice_index}
use Rattle.std.specs.Option.{option_map}
use Rattle.std.specs.List.{All, filter, flat_map, range_with_len}
use Rattle.std.proofs.lemmas.List.{append-nil, map-append, take_more, take_all}
use Rattle.std.proofs.lemmas.List.Concat.{flat_map-append}
use Rattle.std.proofs.lemmas.List.Elements.{filter-append, All-nil, All-push}
use Rattle.dbg_base.specs.Trees.{Program}
use Rattle.dbg_base.specs.Histories.{History}
use Rattle.dbg_base.specs.Replies.{name_of}
use Rattle.ui_timeline.specs.declared.timed.TimedEvent.{TimedEvent}
use Rattle.ui_timeline.specs.TimedEvents.{AreTimedEvents}
use Rattle.ui_diagram.specs.Logs.{Entry, entry_text, IsOneLine, IsLog}

-- a process that is not in the program has no name
pub unnamed : (P : Program) (p : ℕ) → None ≡ option_map (λ process. process.name) (slice_get P p) → name_of P p ≡ []
unnamed [] p h = refl
unnamed (process ∷ P) zero h = cc
unnamed (process ∷ P) (suc p) h = unnamed P p h

-- one more number
range_next : (a n : ℕ) → range_with_len a (suc n) ≡ range_with_len a n ++ (a + n) ∷ []
range_next a zero = let same : a ≡ a + 0 = omega arith in ap (λ x. x ∷ []) same
range_next a (suc n) =
    let same : (a + 1) + n ≡ a + suc n = omega arith in
    ap (λ l. a ∷ l) (range_next (a + 1) n) ∙ ap (λ x. a ∷ (range_with_len (a + 1) n ++ x ∷ [])) same

-- The processes up to this one of which a clock counts at least one event.

abbrev pub counted_below : List ℕ → ℕ → List ℕ
counted_below clock p = filter (λ q. nat_lt 0 (slice_index clock q)) (range_with_len 0 p)

counted_next : (clock : List ℕ) (p : ℕ)
    → counted_below clock (p + 1) ≡ counted_below clock p ++ cond (nat_lt 0 (slice_index clock p)) (p ∷ []) []
counted_next clock p =
    let same : 0 + p ≡ p = omega arith in
    rw add-one (ap (filter (λ q. nat_lt 0 (slice_index clock q))) (range_next 0 p ∙ ap (λ x. range_with_len 0 p ++ x ∷ []) same)
    ∙ filter-append (λ q. nat_lt 0 (slice_index clock q)) (range_with_len 0 p) (p ∷ []))

pub counted_more : (clock counted : List ℕ) (p : ℕ) → counted ≡ counted_below clock p → 0 < slice_index clock p
    → counted ++ p ∷ [] ≡ counted_below clock (p + 1)
counted_more clock counted p so_far some =
    ap (λ t. t ++ p ∷ []) so_far
    ∙ sym (counted_next clock p ∙ ap (λ b. counted_below clock p ++ cond b (p ∷ []) []) (lt-ltb 0 (slice_index clock p) some))

pub counted_same : (clock counted : List ℕ) (p : ℕ) → counted ≡ counted_below clock p → slice_index clock p ≤ 0
    → counted ≡ counted_below clock (p + 1)
counted_same clock counted p so_far none =
    so_far ∙ sym (append-nil (counted_below clock p))
    ∙ sym (counted_next clock p ∙ ap (λ b. counted_below clock p ++ cond b (p ∷ []) []) (le-ltb 0 (slice_index clock p) none))

-- Entries are written one after the other.

-- so many of these events were written, each with its words
pub record AreWritten (P : Program) (events : List TimedEvent) (n : ℕ) (text : List ℕ) : Type 0 where
  pub entries : List Entry
  pub are : map (λ entry. entry.event) entries ≡ take n events
  pub words : All (λ entry. IsOneLine entry.words) entries
  pub whole : text ≡ flat_map (entry_text P) entries

pub written_none : (P : Program) (events : List TimedEvent) → AreWritten P events 0 []
written_none P events = record { entries = []; are = refl; words = All-nil (λ (entry : Entry). IsOneLine entry.words); whole = refl }

-- one more
pub written_more : (P : Program) (events : List TimedEvent) (n : ℕ) (entry : Entry) (text more : List ℕ) → AreWritten P events n text
    → n < length events → entry.event ≡ get_or events n entry.event → IsOneLine entry.words → more ≡ text ++ entry_text P entry
    → AreWritten P events (n + 1) more
written_more P events n entry text more so_far within is words goes_on = record {
  entries = so_far.entries ++ entry ∷ [];
  are = map-append (λ (e : Entry). e.event) so_far.entries (entry ∷ [])
      ∙ ap (λ (l : List TimedEvent). l ++ entry.event ∷ []) so_far.are
      ∙ ap (λ (e : TimedEvent). take n events ++ e ∷ []) is ∙ sym (take_more events n entry.event within);
  words = All-push (λ (e : Entry). IsOneLine e.words) so_far.entries entry so_far.words words;
  whole = goes_on ∙ ap (λ (t : List ℕ). t ++ entry_text P entry) so_far.whole
      ∙ ap (λ (t : List ℕ). flat_map (entry_text P) so_far.entries ++ t) (sym (append-nil (entry_text P entry)))
      ∙ sym (flat_map-append (entry_text P) so_far.entries (entry ∷ []));
}

-- all of them
pub written_all : (P : Program) (H : History) (events : List TimedEvent) (n : ℕ) (text : List ℕ) → AreWritten P events n text
    → length events ≤ n → AreTimedEvents P H events → IsLog P H text
written_all P H events n text written all timed = record {
  entries = written.entries;
  events = subst (AreTimedEvents P H) (sym (written.are ∙ take_all n events all)) timed;
  words = written.words;
  whole = written.whole;
}
