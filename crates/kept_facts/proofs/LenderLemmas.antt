-- The directories that users added to a directory, in order of number.
use Rattle.std.proofs.Common.{◌≡◌, ℕ, Bool, true, false, cond, List, [], ◌∷◌, one-add, refl, ap, sym}
use Rattle.std.specs.Prelude.{nat_le, nat_lt}
use Rattle.std.specs.List.{insert, prefix_len}
use Rattle.std.proofs.lemmas.Bool.{le-leb, lt-leb, ltb-false, ltb-true}
use Rattle.hac_model.specs.Tree.Events.{put_in}

-- a number goes in its place: behind those that aren't above it
pub put_in-place : (n : ℕ) (xs : List ℕ) → put_in n xs ≡ insert xs (prefix_len (λ other. nat_le other n) xs) n
put_in-place n [] = refl
put_in-place n (x ∷ xs) = at (put_in-place n xs) (nat_lt n x) refl
  where
    at : put_in n xs ≡ insert xs (prefix_len (λ other. nat_le other n) xs) n → (b : Bool) → nat_lt n x ≡ b → cond b (n ∷ x ∷ xs) (x ∷ put_in n xs) ≡ insert (x ∷ xs) (prefix_len (λ other. nat_le other n) (x ∷ xs)) n
    at rest true less =
        let above : nat_le x n ≡ false = lt-leb x n (ltb-true n x less) in
        let none : prefix_len (λ other. nat_le other n) (x ∷ xs) ≡ 0 = rw above refl in
        ap (λ (k : ℕ). insert (x ∷ xs) k n) (sym none)
    at rest false less =
        let fits : nat_le x n ≡ true = le-leb x n (ltb-false n x less) in
        rw (fits, one-add) (ap (λ (ys : List ℕ). x ∷ ys) rest)
