-- Items or parts that were read, and those that are read behind them.
use Rattle.std.proofs.Common.{◌≡◌, ℕ, List, [], ◌∷◌, ◌++◌, Result, Ok, Err, refl, sym, ap, append_assoc}
use Rattle.hac_model.specs.Run.Answers.{◌>>=◌}

-- items in front of those that are read
abbrev pub with_front : {A : Type 0} → List A → Result (List A × List ℕ) ℕ → Result (List A × List ℕ) ℕ
with_front front (Ok x) = Ok (front ++ x.0, x.1)
with_front front (Err left) = Err left

pub regroup : {A : Type 0} (front : List A) (x : A) (read : Result (List A × List ℕ) ℕ)
    → with_front front (read >>= λ others. Ok (x ∷ others.0, others.1)) ≡ with_front (front ++ x ∷ []) read
regroup front x (Ok others) = ap (λ xs. Ok (xs, others.1)) (sym (append_assoc front (x ∷ []) others.0))
regroup front x (Err left) = refl

pub front_none : {A : Type 0} (read : Result (List A × List ℕ) ℕ) → with_front [] read ≡ read
front_none (Ok others) = refl
front_none (Err left) = refl
