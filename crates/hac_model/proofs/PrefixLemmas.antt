-- The first line end of a list, found from a place before it on.
use Rattle.std.proofs.Common.{◌≡◌, ℕ, zero, suc, ◌+◌, ◌-◌, ◌≤◌, Bool, true, false, cond, List, [], ◌∷◌, length, take, drop, refl, ap, ◌∙◌, arith}
use Rattle.std.specs.List.{prefix_len, position_or_len}
use Rattle.std.specs.Prelude.{not, position, nat_lt, Some, None}
use Rattle.std.proofs.lemmas.List.{length-drop, take_rest}
use Rattle.std.specs.Option.{option_map}
use Rattle.std.proofs.lemmas.List.Sums.{prefix_len-le-length}
use Rattle.std.proofs.lemmas.Grind.{common_steps}

passed_limit : (b : Bool) (n whole rest : ℕ) → (n ≤ whole → whole ≡ n + rest) → suc n ≤ cond b (1 + whole) 0 → cond b (1 + whole) 0 ≡ suc n + rest
passed_limit true n whole rest step h = let k : n ≤ whole = omega arith in omega (arith, step k)
passed_limit false n whole rest step h = absurd (omega arith)

-- elements that pass may be left out before counting
pub prefix_len-skip : {X : Type 0} (p : X → Bool) (n : ℕ) (xs : List X) → n ≤ prefix_len p xs → prefix_len p xs ≡ n + prefix_len p (drop n xs)
prefix_len-skip p zero xs h = omega arith
prefix_len-skip p (suc n) [] h = absurd (omega arith)
prefix_len-skip p (suc n) (x ∷ xs) h = passed_limit (p x) n (prefix_len p xs) (prefix_len p (drop n xs)) (prefix_len-skip p n xs) h

passed_front : (b : Bool) (n whole part front : ℕ) → (n ≤ whole → part ≡ front) → suc n ≤ cond b (1 + whole) 0 → cond b (1 + part) 0 ≡ suc front
passed_front true n whole part front step h = let k : n ≤ whole = omega arith in omega (arith, step k)
passed_front false n whole part front step h = absurd (omega arith)

prefix_len-take : {X : Type 0} (p : X → Bool) (n : ℕ) (xs : List X) → n ≤ prefix_len p xs → prefix_len p (take n xs) ≡ length (take n xs)
prefix_len-take p zero xs h = refl
prefix_len-take p (suc n) [] h = refl
prefix_len-take p (suc n) (x ∷ xs) h = passed_front (p x) n (prefix_len p xs) (prefix_len p (take n xs)) (length (take n xs)) (prefix_len-take p n xs) h

-- behind a front without a line end, the first line end is that of the rest
pub position-skip : (p : ℕ → Bool) (n : ℕ) (xs : List ℕ) → n ≤ position_or_len p xs → position_or_len p xs ≡ n + position_or_len p (drop n xs)
position-skip p n xs h = prefix_len-skip (λ x. not (p x)) n xs h

-- a front without a line end is no longer than the whole
pub front-le : (p : ℕ → Bool) (n : ℕ) (xs : List ℕ) → n ≤ position_or_len p xs → n ≤ length xs
front-le p n xs h = omega (arith, prefix_len-le-length (λ x. not (p x)) xs)

moved : (b : Bool) (n x y : ℕ) → y ≡ n + x → cond b (Some y) None ≡ option_map (λ k. n + k) (cond b (Some x) None)
moved true n x y e = ap Some e
moved false n x y e = refl

same_test : (n a l : ℕ) → nat_lt (n + a) (n + l) ≡ nat_lt a l
same_test n a l = grind (arith, common_steps)

-- the first place that passes, found behind a front that has none
pub position-from : (p : ℕ → Bool) (n : ℕ) (xs : List ℕ) → n ≤ position_or_len p xs → position p xs ≡ option_map (λ k. n + k) (position p (take (length xs - n) (drop n xs)))
position-from p n xs h =
    let skip = position-skip p n xs h in
    let lengths : length xs ≡ n + length (drop n xs) = omega (arith, length-drop n xs, front-le p n xs h) in
    let test : nat_lt (position_or_len p xs) (length xs) ≡ nat_lt (position_or_len p (drop n xs)) (length (drop n xs)) = rw (skip, lengths) (same_test n (position_or_len p (drop n xs)) (length (drop n xs))) in
    rw (take_rest xs n) (ap (λ (b : Bool). cond b (Some (position_or_len p xs)) None) test ∙ moved (nat_lt (position_or_len p (drop n xs)) (length (drop n xs))) n (position_or_len p (drop n xs)) (position_or_len p xs) skip)

pub position-none : (p : ℕ → Bool) (xs : List ℕ) → position p xs ≡ None → position_or_len p xs ≡ length xs
position-none p xs e = elim (nat_lt (position_or_len p xs) (length xs)) as (λ b. nat_lt (position_or_len p xs) (length xs) ≡ b → cond b (Some (position_or_len p xs)) None ≡ None → position_or_len p xs ≡ length xs) [ true ↦ (λ _ e. cc) | false ↦ (λ other _. grind (arith, common_steps, other, prefix_len-le-length (λ x. not (p x)) xs)) ] refl e

-- a front that has no line end has none
pub unended-take : (p : ℕ → Bool) (n : ℕ) (xs : List ℕ) → n ≤ position_or_len p xs → position_or_len p (take n xs) ≡ length (take n xs)
unended-take p n xs h = prefix_len-take (λ x. not (p x)) n xs h
