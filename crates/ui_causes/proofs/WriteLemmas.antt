-- What the writes of events do to the values of their process.
use Rattle.std.proofs.Common.{◌≡◌, ℕ, zero, suc, ◌+◌, ◌-◌, ◌<◌, ◌≤◌, ℤ, pos, List, [], ◌∷◌, ◌++◌, length, get_or, set, take, drop, Option, Some, None}
use Rattle.std.proofs.Common.{refl, sym, ap, ◌∙◌, subst, arith, inl, inr}
use Rattle.std.specs.Prelude.{◌==◌, if◌then◌else◌, slice_get}
use Rattle.std.proofs.lemmas.Bool.{cases_eq}
use Rattle.std.proofs.lemmas.Bool.Decides.{eqb_tells}
use Rattle.std.proofs.lemmas.List.{length-set, get_or-set_same, get_or-set_other, take_more}
use Rattle.dbg_base.specs.declared.expr.Direction.{Direction}
use Rattle.dbg_base.specs.declared.expr.Direction.TheVariants as counts
use Rattle.dbg_base.specs.LocalStates.{LocalState, counts_of}
use Rattle.dbg_base.specs.Firing.{set_all, with_set}
use Rattle.event_rows.specs.declared.setting.Setting.{Setting}
use Rattle.event_rows.specs.declared.exchange.Exchange.{Exchange}
use Rattle.event_rows.specs.declared.exchange.Exchange.TheVariants.{Nothing, Sent, Took}
use Rattle.event_rows.specs.Settings.{new_values}
use Rattle.event_rows.specs.Exchanges.{counted_to}
use Rattle.event_rows.specs.EventValues.{EventValue}
use Rattle.event_rows.specs.Events.{after_event, after_events, past_of}
use Rattle.event_rows.proofs.PastStateLemmas.{past_more}
use Rattle.least_cut.proofs.Truths.{alike_after}
use Rattle.ui_view.specs.declared.values.NamedValue.{NamedValue}
use Rattle.ui_view.specs.declared.values.NamedValue.TheVariants.{Variable, Count}
use Rattle.ui_causes.specs.declared.written.Written.{Written}
use Rattle.ui_causes.specs.Origins.{value_in, Has, or_later, set_by, last_set, counted, sent_by, got_by, write_of, write_if, write_at, NoWrite, IsLastWrite, IsOfStart}

-- the value after a write, or this one if there was none
abbrev pub after_write : Option Written → ℤ → ℤ
after_write None value = value
after_write (Some written) value = written.new

or_later_none : (later : Option Written) → or_later None later ≡ later
or_later_none None = refl
or_later_none (Some later) = refl

or_later_twice : (a b c : Option Written) → or_later a (or_later b c) ≡ or_later (or_later a b) c
or_later_twice a b None = refl
or_later_twice a b (Some c) = refl

last_more : (x : ℕ) (settings : List Setting) (s : Setting) → last_set x (settings ++ s ∷ []) ≡ or_later (last_set x settings) (set_by x s)
last_more x [] s = sym (or_later_none (set_by x s))
last_more x (t ∷ settings) s =
    ap (or_later (set_by x t)) (last_more x settings s) ∙ or_later_twice (set_by x t) (last_set x settings) (set_by x s)

-- one more setting
pub last_taken : (x : ℕ) (settings : List Setting) (i : ℕ) (d : Setting) → i < length settings
    → last_set x (take (i + 1) settings) ≡ or_later (last_set x (take i settings)) (set_by x (get_or settings i d))
last_taken x settings i d lt = ap (last_set x) (take_more settings i d lt) ∙ last_more x (take i settings) (get_or settings i d)

later_wins : (one rest : Option Written) (before after : ℤ) → after ≡ after_write one before
    → after_write rest after ≡ after_write (or_later one rest) before
later_wins one None before after is = is
later_wins one (Some written) before after is = refl

one_set : (x : ℕ) (s : Setting) (values : List ℤ) → x < length values
    → get_or (set values s.variable s.new) x (pos 0) ≡ after_write (set_by x s) (get_or values x (pos 0))
one_set x s values lt = elim (eqb_tells s.variable x) [
  | inl same ↦ rw same.0 (ap (λ (v : ℕ). get_or (set values v s.new) x (pos 0)) same.1 ∙ get_or-set_same values x s.new (pos 0) lt)
  | inr other ↦ rw other.0 (get_or-set_other values s.variable x s.new (pos 0) (λ e. other.1 (sym e)))
]

all_set : (x : ℕ) (settings : List Setting) (values : List ℤ) → x < length values
    → get_or (set_all values (new_values settings)) x (pos 0) ≡ after_write (last_set x settings) (get_or values x (pos 0))
all_set x [] values lt = refl
all_set x (s ∷ settings) values lt =
    all_set x settings (set values s.variable s.new) (omega (arith, lt, length-set values s.variable s.new))
    ∙ later_wins (set_by x s) (last_set x settings) (get_or values x (pos 0)) (get_or (set values s.variable s.new) x (pos 0))
    (one_set x s values lt)

one_count : (counts : List ℕ) (t q count : ℕ) → q < length counts
    → pos (get_or (set counts t count) q 0) ≡ after_write (if t == q then Some (counted count) else None) (pos (get_or counts q 0))
one_count counts t q count lt = elim (eqb_tells t q) [
  | inl same ↦ rw same.0 (ap (λ (n : ℕ). pos (get_or (set counts n count) q 0)) same.1 ∙ ap pos (get_or-set_same counts q count 0 lt))
  | inr other ↦ rw other.0 (ap pos (get_or-set_other counts t q count 0 (λ e. other.1 (sym e))))
]

values_kept : (exchange : Exchange) (state : LocalState) → (counted_to exchange state).values ≡ state.values
values_kept Nothing state = refl
values_kept (Sent target value count) state = refl
values_kept (Took source message count) state = refl

sent_value : (exchange : Exchange) (state : LocalState) (q : ℕ) → q < length state.sent
    → pos (get_or (counted_to exchange state).sent q 0) ≡ after_write (sent_by q exchange) (pos (get_or state.sent q 0))
sent_value Nothing state q lt = refl
sent_value (Sent target value count) state q lt = one_count state.sent target.0 q count lt
sent_value (Took source message count) state q lt = refl

got_value : (exchange : Exchange) (state : LocalState) (q : ℕ) → q < length state.got
    → pos (get_or (counted_to exchange state).got q 0) ≡ after_write (got_by q exchange) (pos (get_or state.got q 0))
got_value Nothing state q lt = refl
got_value (Sent target value count) state q lt = refl
got_value (Took source message count) state q lt = one_count state.got source.0 q count lt

-- the value after an event is what the event writes, or else the value before it
value_written : (named : NamedValue) (event : EventValue) (state : LocalState) → Has named state
    → value_in named (after_event event state) ≡ after_write (write_of named event) (value_in named state)
value_written (Variable x) event state has =
    ap (λ (values : List ℤ). get_or values x (pos 0)) (values_kept event.exchange (with_set state (new_values event.settings)))
    ∙ all_set x event.settings state.values has
value_written (Count counts.Sent q) event state has = sent_value event.exchange (with_set state (new_values event.settings)) q.0 has
value_written (Count counts.Got q) event state has = got_value event.exchange (with_set state (new_values event.settings)) q.0 has

has_after : (named : NamedValue) (event : EventValue) (state : LocalState) → Has named state → Has named (after_event event state)
has_after (Variable x) event state has = omega (arith, has, (alike_after state (event ∷ [])).values)
has_after (Count counts.Sent q) event state has = omega (arith, has, (alike_after state (event ∷ [])).sent)
has_after (Count counts.Got q) event state has = omega (arith, has, (alike_after state (event ∷ [])).got)

value_step : (named : NamedValue) (start : LocalState) (events : List EventValue) (k : ℕ) → Has named start
    → value_in named (past_of start events (suc k)) ≡ after_write (write_at named events k) (value_in named (past_of start events k))
value_step named start [] zero has = refl
value_step named start [] (suc k) has = refl
value_step named start (event ∷ events) zero has = value_written named event start has
value_step named start (event ∷ events) (suc k) has = value_step named (after_event event start) events k (has_after named event start has)

-- None of the events from this one up to the n-th writes the value.
pub record IsUnwritten (named : NamedValue) (start : LocalState) (events : List EventValue) (left n : ℕ) : Type 0 where
  pub within : left ≤ n
  pub none : NoWrite named events left n
  pub value : Has named start → value_in named (past_of start events n) ≡ value_in named (past_of start events left)

module _ (named : NamedValue) (start : LocalState) (events : List EventValue) where
  pub unwritten_none : (n : ℕ) → IsUnwritten named start events n n
  unwritten_none n = record { within = omega arith; none = λ k from to. absurd (omega (arith, from, to)); value = λ has. refl }

  before_write : (left : ℕ) → 0 < left → Has named start → value_in named (past_of start events left)
      ≡ after_write (write_at named events (left - 1)) (value_in named (past_of start events (left - 1)))
  before_write left some has =
      let one : left ≡ suc (left - 1) = omega (arith, some) in
      ap (λ (n : ℕ). value_in named (past_of start events n)) one ∙ value_step named start events (left - 1) has

  -- one event more that does not write it
  pub unwritten_more : (left n : ℕ) → 0 < left → write_at named events (left - 1) ≡ None → IsUnwritten named start events left n
      → IsUnwritten named start events (left - 1) n
  unwritten_more left n some here before = record {
    within = omega (arith, before.within);
    none = λ k from to. elim (cases_eq k (left - 1)) [
      | inl e ↦ ap (write_at named events) e ∙ here
      | inr ne ↦ before.none k (omega (arith, from, ne, some)) to
    ];
    value = λ has. before.value has ∙ before_write left some has
        ∙ ap (λ (w : Option Written). after_write w (value_in named (past_of start events (left - 1)))) here;
  }

  -- the last event that writes it
  pub last_written : (left n : ℕ) (written : Written) → 0 < left → write_at named events (left - 1) ≡ Some written
      → IsUnwritten named start events left n → IsLastWrite named start events n left written
  last_written left n written some here after = record {
    first = omega (arith, some);
    within = after.within;
    writes = here;
    last = after.none;
    value = λ has. after.value has ∙ before_write left some has
        ∙ ap (λ (w : Option Written). after_write w (value_in named (past_of start events (left - 1)))) here;
  }

  -- no event writes it
  pub never_written : (n : ℕ) → IsUnwritten named start events 0 n → IsOfStart named start events n
  never_written n after = record { none = after.none; value = after.value }
