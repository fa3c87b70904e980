-- How many first bytes agree, step by step.
use Rattle.std.proofs.Common.{◌≡◌, ℕ, suc, ◌+◌, ◌<◌, List, ◌∷◌, length, drop, get_or, ◌∙◌, ap, arith}
use Rattle.std.proofs.lemmas.Bool.Decides.{nat_tests}
use Rattle.std.proofs.lemmas.List.{drop_more}
use Rattle.hac_checkpoint.specs.Roots.{agreeing}

agreeing-same : (x y : ℕ) (xs ys : List ℕ) → x ≡ y → agreeing (x ∷ xs) (y ∷ ys) ≡ suc (agreeing xs ys)
agreeing-same x y xs ys is = grind (arith, nat_tests)

-- from a place on: one byte more agrees, or none
pub agreeing_more : (xs ys : List ℕ) (i : ℕ) → i < length xs → i < length ys → get_or xs i 0 ≡ get_or ys i 0
    → agreeing (drop i xs) (drop i ys) ≡ suc (agreeing (drop (i + 1) xs) (drop (i + 1) ys))
agreeing_more xs ys i in_xs in_ys same =
    ap (λ (l : List ℕ). agreeing l (drop i ys)) (drop_more xs i 0 in_xs)
    ∙ ap (λ (l : List ℕ). agreeing (get_or xs i 0 ∷ drop (i + 1) xs) l) (drop_more ys i 0 in_ys)
    ∙ agreeing-same (get_or xs i 0) (get_or ys i 0) (drop (i + 1) xs) (drop (i + 1) ys) same
