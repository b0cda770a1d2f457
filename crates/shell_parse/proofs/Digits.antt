-- A number of at most nine digits, one digit at a time.
use Rattle.std.proofs.Common.{◌≡◌, ℕ, ◌+◌, ◌-◌, ◌*◌, ◌^◌, ◌<◌, ◌≤◌, true, List, length, get_or, take, arith}
use Rattle.std.specs.Char.{digit_value}
use Rattle.std.specs.List.{list_all}
use Rattle.std.proofs.lemmas.List.Folds.{list_all_more}
use Rattle.std.proofs.lemmas.Int.Digits.{digits_value_more}
use Rattle.std.proofs.lemmas.Str.{digit_value_digit}
use Rattle.std.proofs.Math.Nat.{pow-le-pow_right}
use Rattle.std.proofs.lemmas.Grind.{common_steps}
use Rattle.std.specs.Str.Parse.{digits_value}
use Rattle.dbg_base.specs.Tokens.{is_digit}
use Rattle.proc_lang.proofs.Numbers.{digit_range}

-- with one more digit the number still has few digits, and is in range
pub stays_low : (i n number digit : ℕ) → i < n → n ≤ 9 → number < 10 ^ i → digit ≤ 9
    → (number * 10 + digit < 10 ^ (i + 1)) × (number * 10 + digit < 4294967296)
stays_low i n number digit lt few below d =
    let most : 10 ^ i ≤ 10 ^ 8 = pow-le-pow_right {n = 10} (omega arith) {i = i} {j = 8} (omega arith) in
    (grind (arith, common_steps), omega (arith, most))

module _ (word : List ℕ) (i : ℕ) (lt : i < length word) (digit : is_digit (get_or word i 0) ≡ true) where
  pub digits_more : list_all is_digit (take i word) ≡ true → list_all is_digit (take (i + 1) word) ≡ true
  digits_more h = rw (list_all_more is_digit word i 0 lt) (rw h digit)

  pub value_more : (number : ℕ) → number ≡ digits_value 10 (take i word)
      → number * 10 + (get_or word i 0 - 48) ≡ digits_value 10 (take (i + 1) word)
  value_more number so_far =
      let more = digits_value_more 10 word i lt in
      let known : digit_value (get_or word i 0) + 48 ≡ get_or word i 0 = digit_value_digit (get_or word i 0) (digit_range _ digit) in
      omega (arith, more, known, so_far)
