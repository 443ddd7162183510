-- The value of a numeral, digit by digit.
use Rattle.std.proofs.Common.{◌≡◌, ℕ, ◌+◌, ◌*◌, ◌<◌, ◌≤◌, List, [], ◌∷◌, Some, None, Bool, true, length, drop, arith, nat_le, cond, zero, suc, ◌-◌, ◌&&◌, get_or, drop-cons}
use Rattle.std.specs.List.{list_all}
use Rattle.std.specs.Char.{digit_value, is_ascii_digit}
use Rattle.std.specs.Str.Parse.{digits_value_after, digits_value}
use Rattle.std.proofs.lemmas.Bool.Decides.{nat_tests}
use Rattle.eleos_texts.specs.Fields.{is_numeral, number_up_to}

-- more digits make no smaller number
pub digits_value_after-le : (n : ℕ) (cs : List ℕ) → n ≤ digits_value_after 10 n cs
digits_value_after-le n [] = omega arith
digits_value_after-le n (c ∷ cs) = omega (arith, digits_value_after-le (n * 10 + digit_value c) cs)

-- no number is found above the limit
pub above_most : (n most : ℕ) → cond (nat_le n most) (Some n) None ≡ None → most < n
above_most n most none = grind (arith, nat_tests)

digit_value_is : (c : ℕ) → is_ascii_digit c ≡ true → digit_value c ≡ c - 48
digit_value_is c digit = grind (arith, nat_tests)

-- each digit of a text of digits has the value that its byte says
digit_value_at : (text : List ℕ) (i : ℕ) → list_all is_ascii_digit text ≡ true → i < length text → digit_value (get_or text i 0) ≡ get_or text i 0 - 48
digit_value_at [] i digits lt = absurd (omega arith)
digit_value_at (c ∷ cs) zero digits lt = digit_value_is c (grind (arith, nat_tests))
digit_value_at (c ∷ cs) (suc i) digits lt = digit_value_at cs i (grind (arith, nat_tests)) (omega arith)

-- digits that come to more are no number of at most so much
pub number_up_to-large : (most : ℕ) (text : List ℕ) (i value : ℕ) → i < length text → list_all is_ascii_digit text ≡ true
    → digits_value_after 10 value (drop i text) ≡ digits_value 10 text → most < 10 * value + (get_or text i 0 - 48) → number_up_to most text ≡ None
number_up_to-large most text i value lt digits whole large =
    let step = rw (drop-cons text i 0) at whole in
    let more : value * 10 + digit_value (get_or text i 0) ≤ digits_value 10 text = rw (← step) (digits_value_after-le (value * 10 + digit_value (get_or text i 0)) (drop (suc i) text)) in
    let at : digit_value (get_or text i 0) ≡ get_or text i 0 - 48 = digit_value_at text i digits lt in
    let above : most < digits_value 10 text = omega arith in
    none (is_numeral text) (digits_value 10 text) above where
      none : (b : Bool) (n : ℕ) → most < n → cond (b && nat_le n most) (Some n) None ≡ None
      none b n above = grind (arith, nat_tests)
