use Rattle.std.proofs.Common.{◌≡◌, ◌+◌, ◌*◌, ◌^◌, ◌<◌, ◌≤◌, length, get_or, true, arith, sym, ◌∙◌, ap}
use Rattle.dbg_base.specs.Tokens.{is_digit}
use Rattle.proc_lang.proofs.Numbers.{digit_range}
use Rattle.shell_parse.proofs.Digits.{stays_low, digits_more, value_more}
use Rattle.ui_repl.proofs.words.number_of.Goals as goal
use Rattle.ui_repl.proofs.words.number_of.Goals.{After-from, Else-not-is_ascii_digit}

is_one : (c : Else-not-is_ascii_digit) → is_digit (get_or c.args.word.now c.loop-b.b-index 0) ≡ true
is_one c = sym c.is_ascii_digit.ensures.value ∙ c.if-not-is_ascii_digit.false

one_more : (c : After-from) → (c.loop-b.number * 10 + c.from.result < 10 ^ (c.loop-b.b-index + 1))
    × (c.loop-b.number * 10 + c.from.result < 4294967296)
one_more c =
    let b = get_or c.args.word.now c.loop-b.b-index 0 in
    let range : (48 ≤ b) × (b ≤ 57) = digit_range b (sym c.is_ascii_digit.ensures.value ∙ c.if-not-is_ascii_digit.false) in
    stays_low c.loop-b.b-index (length c.args.word.now) c.loop-b.number c.from.result c.loop-b-test.true
    (omega arith) c.loop-b.invariant.few (omega arith)

pub overflow_mul-number : goal.overflow_mul-number
overflow_mul-number c =
    let fits =
    stays_low c.loop-b.b-index (length c.args.word.now) c.loop-b.number 0 c.loop-b-test.true (omega arith) c.loop-b.invariant.few
    (omega arith) in
    omega arith

pub overflow_add-number : goal.overflow_add-number
overflow_add-number c = omega (arith, (one_more (goal.at.overflow_add-number c).After-from).1)

pub loop-b-preserved : goal.loop-b-preserved
loop-b-preserved c = record {
  few = (one_more (goal.at.loop-b-preserved c).After-from).0;
  digits =
      digits_more c.args.word.now c.loop-b.b-index c.loop-b-test.true
      (is_one (goal.at.loop-b-preserved c).Else-not-is_ascii_digit) c.loop-b.invariant.digits;
  value = ap (λ d. c.loop-b.number * 10 + d) c.from.ensures
      ∙ value_more c.args.word.now c.loop-b.b-index c.loop-b-test.true
      (is_one (goal.at.loop-b-preserved c).Else-not-is_ascii_digit) c.loop-b.number c.loop-b.invariant.value;
}
