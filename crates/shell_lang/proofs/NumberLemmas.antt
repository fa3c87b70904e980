-- The number that digits write.
use Rattle.std.proofs.Common.{◌≡◌, ℕ, zero, suc, ◌+◌, ◌*◌, ◌-◌, ◌<◌, ◌≤◌, ◌^◌, true, false, List, [], ◌∷◌, length, take, get_or, Bool, Some, None, refl, ap, sym, ◌∙◌, arith, subst, le-ltb, lt-ltb}
use Rattle.std.specs.Prelude.{◌&&◌, ◌||◌, ◌==◌, if◌then◌else◌, not, nat_le, nat_lt, slice_index, codes}
use Rattle.std.specs.Char.{is_ascii_digit, digit_value}
use Rattle.std.specs.List.{list_all}
use Rattle.std.specs.Str.{bytes_eq}
use Rattle.std.specs.Str.Parse.{AllDigits, digits_value}
use Rattle.std.proofs.Math.Nat.{pow-le-pow_right}
use Rattle.std.proofs.lemmas.Bool.{and_parts}
use Rattle.std.proofs.lemmas.Bool.Decides.{nat_tests}
use Rattle.std.proofs.lemmas.Int.Digits.{digits_value_more, digits_value-lt}
use Rattle.std.proofs.lemmas.Slice.Eq.{bytes_eq-Decides}
use Rattle.std.proofs.lemmas.Str.{digit_value_digit}
use Rattle.std.proofs.lemmas.Str.Parse.{digit_from_value, digits_value-take-le}
use Rattle.hac_model.specs.Script.Numbers.{is_number, is_number_within}

digit_value-lt : (c : ℕ) → is_ascii_digit c ≡ true → digit_value c < 10
digit_value-lt c h =
    let parts = and_parts (nat_le 48 c) (nat_le c 57) h in
    let low : 48 ≤ c = grind (arith, nat_tests, parts.0) in
    let high : c ≤ 57 = grind (arith, nat_tests, parts.1) in
    omega (arith, digit_value_digit c (low, high), high)

pub all-digits : (word : List ℕ) → list_all is_ascii_digit word ≡ true → AllDigits 10 word
all-digits [] h = tt
all-digits (c ∷ cs) h =
    let parts = and_parts (is_ascii_digit c) (list_all is_ascii_digit cs) h in
    (digit_value-lt c parts.0, all-digits cs parts.1)

digit-at : (word : List ℕ) (i : ℕ) → AllDigits 10 word → i < length word → digit_value (get_or word i 0) < 10
digit-at [] i h inside = absurd (omega (arith, inside))
digit-at (c ∷ cs) zero h inside = h.0
digit-at (c ∷ cs) (suc i) h inside = digit-at cs i h.1 (omega (arith, inside))

-- numbers are digits, so many at most
pub number-digits : (most : ℕ) (word : List ℕ) → 0 < most → is_number_within most word ≡ true
    → (list_all is_ascii_digit word ≡ true) × (length word ≤ most)
number-digits most word some h =
    elim (bytes_eq word (codes "0")) as (λ b. bytes_eq word (codes "0") ≡ b
    → (b || (nat_le 1 (length word) && nat_le (length word) most && list_all is_ascii_digit word && not (slice_index word 0 == 48))) ≡ true
    → (list_all is_ascii_digit word ≡ true) × (length word ≤ most)) [
      | true ↦ (λ zero_word _.
          let is : word ≡ codes "0" = (bytes_eq-Decides word (codes "0")).0 zero_word in
          subst (λ (w : List ℕ). (list_all is_ascii_digit w ≡ true) × (length w ≤ most)) (sym is) (refl, omega (arith, some)))
      | false ↦ (λ _ other.
          let first = and_parts (nat_le 1 (length word) && nat_le (length word) most && list_all is_ascii_digit word) (not (slice_index word 0 == 48)) other in
          let second = and_parts (nat_le 1 (length word) && nat_le (length word) most) (list_all is_ascii_digit word) first.0 in
          let third = and_parts (nat_le 1 (length word)) (nat_le (length word) most) second.0 in
          (second.1, grind (arith, nat_tests, third.1)))
    ] refl h

-- one digit more makes ten times the number and the digit
pub digit-more : (word : List ℕ) (i : ℕ) → list_all is_ascii_digit word ≡ true → i < length word
    → digits_value 10 (take (i + 1) word) ≡ digits_value 10 (take i word) * 10 + (get_or word i 0 - 48)
digit-more word i h inside =
    let digit : digit_value (get_or word i 0) < 10 = digit-at word i (all-digits word h) inside in
    let range = digit_from_value (get_or word i 0) digit in
    let value : digit_value (get_or word i 0) + 48 ≡ get_or word i 0 = digit_value_digit (get_or word i 0) range in
    let value_is : digit_value (get_or word i 0) ≡ get_or word i 0 - 48 = omega (arith, value) in
    digits_value_more 10 word i inside ∙ ap (λ (n : ℕ). digits_value 10 (take i word) * 10 + n) value_is

-- those in front write no greater number
pub front-le : (word : List ℕ) (i : ℕ) → digits_value 10 (take i word) ≤ digits_value 10 word
front-le word i = digits_value-take-le 10 word i (omega arith)

-- no number of a line is greater than ten digits write
pub number-fits : (word : List ℕ) → is_number word ≡ true → nat_lt (digits_value 10 word) (2 ^ 64) ≡ true
number-fits word h =
    let digits = number-digits 10 word (omega arith) h in
    let below : digits_value 10 word < 10 ^ length word = digits_value-lt 10 word (all-digits word digits.0) in
    let most : 10 ^ length word ≤ 10 ^ 10 = pow-le-pow_right (omega arith) digits.1 in
    lt-ltb (digits_value 10 word) (2 ^ 64) (omega (arith, below, most))

-- so each of them is read
pub number-read : (word : List ℕ) → is_number word ≡ true
    → (if nat_lt (digits_value 10 word) (2 ^ 64) then Some (digits_value 10 word) else None) ≡ (if is_number word then Some (digits_value 10 word) else None)
number-read word h = ap (λ (b : Bool). if b then Some (digits_value 10 word) else None) (number-fits word h ∙ sym h)

-- a number that eight bytes don't hold
pub none-fits : (n : ℕ) → 2 ^ 64 ≤ n → None ≡ (if nat_lt n (2 ^ 64) then Some n else None)
none-fits n large = sym (ap (λ (b : Bool). if b then Some n else None) (le-ltb n (2 ^ 64) large))

pub some-fits : (n : ℕ) → n < 2 ^ 64 → Some n ≡ (if nat_lt n (2 ^ 64) then Some n else None)
some-fits n small = sym (ap (λ (b : Bool). if b then Some n else None) (lt-ltb n (2 ^ 64) small))
