-- Steps of a relative word, one after the other.
use Rattle.std.proofs.Common.{◌≡◌, ℕ, ◌+◌, [], ◌∷◌, ◌++◌, codes, replicate, ap, ◌∙◌}
use Rattle.std.specs.List.{flat_map}
use Rattle.std.proofs.lemmas.Grind.{flat_map-append, replicate_next}
use Rattle.hac_model.specs.Tree.Paths.{slashed}

-- one step up more
pub ups_next : (n : ℕ) → flat_map slashed (replicate (n + 1) (codes "..")) ≡ flat_map slashed (replicate n (codes "..")) ++ codes "/.."
ups_next n = ap (flat_map slashed) (replicate_next n (codes "..")) ∙ flat_map-append slashed (replicate n (codes "..")) (codes ".." ∷ [])
