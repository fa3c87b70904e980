-- One number has another value.
use Rattle.std.proofs.Common.{◌≡◌, ℕ, Bool, cond, ap, eq-eqb, refl}
use Rattle.std.proofs.lemmas.Bool.{ne_eqb}
use Rattle.tree_nodes.specs.Nodes.{set_at}

pub set-here : {X : Type 0} (n : ℕ) (x : X) (old : ℕ → X) → set_at n x old n ≡ x
set-here n x old = ap (λ (b : Bool). cond b x (old n)) (eq-eqb n n refl)

pub set-there : {X : Type 0} (n : ℕ) (x : X) (old : ℕ → X) (q : ℕ) → (n ≡ q → ⊥) → set_at n x old q ≡ old q
set-there n x old q other = ap (λ (b : Bool). cond b x (old q)) (ne_eqb n q other)
