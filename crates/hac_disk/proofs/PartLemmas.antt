-- A write to a part of a file is a write to the whole.
use Rattle.std.proofs.Common.{◌≡◌, ℕ, ◌+◌, List, ◌++◌, length, take, drop, ◌∙◌, ap, arith, append_assoc}
use Rattle.std.proofs.Math.Seq.{take-append-add, drop-append-add}
use Rattle.hac_disk.specs.Images.{overlaid}

-- behind a front part
pub overlaid-behind : (xs ys bytes : List ℕ) (at n : ℕ) → at ≡ length xs + n → overlaid at bytes (xs ++ ys) ≡ xs ++ overlaid n bytes ys
overlaid-behind xs ys bytes at n is =
    let end : at + length bytes ≡ length xs + (n + length bytes) = omega arith in
    ap (λ (k : ℕ). take k (xs ++ ys) ++ bytes ++ drop (at + length bytes) (xs ++ ys)) is
    ∙ ap (λ (k : ℕ). take (length xs + n) (xs ++ ys) ++ bytes ++ drop k (xs ++ ys)) end
    ∙ ap (λ (l : List ℕ). l ++ bytes ++ drop (length xs + (n + length bytes)) (xs ++ ys)) (take-append-add xs ys n)
    ∙ ap (λ (l : List ℕ). (xs ++ take n ys) ++ bytes ++ l) (drop-append-add xs ys (n + length bytes))
    ∙ ap (λ (l : List ℕ). l ++ drop (n + length bytes) ys) (append_assoc xs (take n ys) bytes)
    ∙ append_assoc xs (take n ys ++ bytes) (drop (n + length bytes) ys)
