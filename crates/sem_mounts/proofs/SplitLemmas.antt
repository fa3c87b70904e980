-- Bytes in two parts, from the first place of a byte.
use Rattle.std.proofs.Common.{◌≡◌, ℕ, ◌+◌, ◌-◌, Bool, true, false, List, length, take, drop, None}
use Rattle.std.proofs.Common.{Some, arith, rules, refl}
use Rattle.std.specs.List.{position_or_len}
use Rattle.std.proofs.lemmas.List.Sums.{position_or_len_is}
use Rattle.std.proofs.lemmas.List.{take_rest}
use Rattle.memchr.specs.Find.{Nowhere, NoneBefore, Passes}
use Rattle.hac_model.specs.Spaces.Catalogue.{split_once}

-- what isn't true is false
pub not_true : (b : Bool) → ¬ (b ≡ true) → b ≡ false
not_true true no_way = absurd (no_way refl)
not_true false no_way = refl

-- where no byte passes, there are no two parts
pub split_once-none : (p : ℕ → Bool) (bytes : List ℕ) → Nowhere (Passes p bytes) 0 (length bytes) →
    split_once p bytes ≡ None
split_once-none p bytes nowhere =
    let at_end : position_or_len p bytes ≡ length bytes =
    position_or_len_is p bytes (length bytes) 0 (omega arith) (λ k below. not_true _ (nowhere k
    (omega arith) below)) (λ over. absurd (omega (arith, over)))
    in
    rw at_end (search rules)

-- where a byte is the first that passes, the parts are what stands before it and what stands behind
-- it
pub split_once-some : (p : ℕ → Bool) (bytes : List ℕ) (i : ℕ) →
    NoneBefore (Passes p bytes) 0 (length bytes) i → Passes p bytes i →
    split_once p bytes ≡ Some (take i bytes, take (length bytes - (i + 1)) (drop (i + 1) bytes))
split_once-some p bytes i none passes =
    let at : position_or_len p bytes ≡ i =
    position_or_len_is p bytes i 0 (omega (arith, none.high)) (λ k below. not_true _ (none.before k
    (omega arith) below)) (λ _. passes)
    in
    rw (at, take_rest bytes (i + 1)) (search (rules, none.high))
