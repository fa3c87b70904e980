-- Facts about Bools alone, beside those that std has.
use Rattle.std.proofs.Common.{◌≡◌, Bool, true, false, refl, sym}
use Rattle.std.specs.Prelude.{◌&&◌, ◌||◌}

pub and-true : (b : Bool) → (b && true) ≡ b
and-true true = refl
and-true false = refl

pub and-false : (b : Bool) → (b && false) ≡ false
and-false true = refl
and-false false = refl

pub or-true : (b : Bool) → (b || true) ≡ true
or-true true = refl
or-true false = refl

pub or-false : (b : Bool) → (b || false) ≡ b
or-false true = refl
or-false false = refl

pub and-swapped : (b c : Bool) → (b && c) ≡ (c && b)
and-swapped true true = refl
and-swapped true false = refl
and-swapped false true = refl
and-swapped false false = refl

pub or-turned : (b c d : Bool) → (b || (c || d)) ≡ (c || (b || d))
or-turned true true d = refl
or-turned true false d = refl
or-turned false c d = refl

-- what holds of each other is equal
pub agree : (b c : Bool) → (b ≡ true → c ≡ true) → (c ≡ true → b ≡ true) → b ≡ c
agree true c there back = sym (there refl)
agree false true there back = back refl
agree false false there back = refl
