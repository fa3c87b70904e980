-- Marks that stay, and letters that aren't there.
use Rattle.std.proofs.Common.{◌≡◌, ℕ, zero, suc, Bool, true, false, List, [], ◌∷◌, ◌++◌, ap, get_or, inl, inr, refl, set}
use Rattle.std.specs.Prelude.{◌⊎◌, replicate}

-- a mark stays where another is set
pub set-still : (marks : List Bool) (n m : ℕ) → get_or marks m false ≡ true → get_or (set marks n true) m false ≡ true
set-still [] n m is = is
set-still (mark ∷ marks) zero zero is = refl
set-still (mark ∷ marks) zero (suc m) is = is
set-still (mark ∷ marks) (suc n) zero is = is
set-still (mark ∷ marks) (suc n) (suc m) is = set-still marks n m is

-- and no other one comes
pub set-only : (marks : List Bool) (n m : ℕ) → get_or (set marks n true) m false ≡ true → (m ≡ n) ⊎ (get_or marks m false ≡ true)
set-only [] n m is = inr is
set-only (mark ∷ marks) zero zero is = inl refl
set-only (mark ∷ marks) zero (suc m) is = inr is
set-only (mark ∷ marks) (suc n) zero is = inr is
set-only (mark ∷ marks) (suc n) (suc m) is = elim (set-only marks n m is) [ inl same ↦ inl (ap suc same) | inr before ↦ inr before ]

none-set : (count m : ℕ) → get_or (replicate count false) m false ≡ false
none-set zero m = refl
none-set (suc count) zero = refl
none-set (suc count) (suc m) = none-set count m

-- marks that aren't set tell nothing where they are put behind
pub none-more : (marks : List Bool) (count m : ℕ) → get_or (marks ++ replicate count false) m false ≡ get_or marks m false
none-more [] count m = none-set count m
none-more (mark ∷ marks) count zero = refl
none-more (mark ∷ marks) count (suc m) = none-more marks count m
