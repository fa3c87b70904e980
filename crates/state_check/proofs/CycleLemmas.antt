-- Whether a state has no cycle, told from edges.
use Rattle.std.proofs.Common.{◌≡◌, ℕ, Bool, List, subst}
use Rattle.std.specs.Bool.{Decides}
use Rattle.std.proofs.lemmas.Bool.Decides.{same_from_decides}
use Rattle.hac_model.specs.Tree.Depends.{NeverReturns, depends}
use Rattle.hac_model.specs.Tree.ValidTest.{is_acyclic}
use Rattle.hac_model.specs.declared.states.State.{State}
use Rattle.hac_model.proofs.ValidTestLemmas.{acyclic-Decides}

-- a graph with the edges of a state tells of the state
pub acyclic-told : (s : State) (edges : ℕ → List ℕ) (told : Bool) → ((q : ℕ) → edges q ≡ depends s q)
    → Decides told (NeverReturns edges) → told ≡ is_acyclic s
acyclic-told s edges told same decides =
    same_from_decides told (is_acyclic s)
    (subst (λ (e : ℕ → List ℕ). Decides told (NeverReturns e)) (λ i q. same q i) decides) (acyclic-Decides s)
