-- Steps over parents, and where they lead.
use Rattle.std.proofs.Common.{◌≡◌, ℕ, suc, ◌+◌, ◌-◌, ◌<◌, Bool, List, ◌∷◌, map, refl, ap, sym, ◌∙◌, arith}
use Rattle.std.specs.Prelude.{◌==◌, ◌||◌, Some, IsTrue, reverse}
use Rattle.std.specs.List.{list_any}
use Rattle.hac_model.specs.Tree.{ancestors, entry_at, extends, lineage, path_of}
use Rattle.hac_model.specs.Tree.Valid.{IsLayout}
use Rattle.hac_model.specs.declared.limits.TheConstants.{PATH_LIMIT}
use Rattle.hac_model.specs.declared.states.Entry.{Entry}
use Rattle.hac_model.specs.declared.states.State.{State}
use Rattle.hac_model.proofs.PathLemmas.{ancestors-none, ancestors-step, extends-parent, extends-root, from_root, lineage-parent, lineage-steps, root-none}
use Rattle.hac_model.proofs.TreeLemmas.{is-live}
use Rattle.hac_model.specs.Tree.{is_live}

-- one step leads from an entry to its directory
pub ancestors-next : (steps : ℕ) (es : List Entry) (n : ℕ) (e : Entry) → 0 < steps → entry_at es n ≡ Some e → ancestors steps es n ≡ e ∷ ancestors (steps - 1) es e.parent
ancestors-next steps es n e some found =
    let more : steps ≡ suc (steps - 1) = omega arith in
    ap (λ (k : ℕ). ancestors k es n) more ∙ ancestors-step (steps - 1) es n e found

pub path-steps : (s : State) (n : ℕ) → reverse (map (λ (e : Entry). e.name) (ancestors (PATH_LIMIT + 1) s.entries n)) ≡ path_of s n
unfolding lineage path_of
path-steps s n = refl

-- steps over parents lead to a directory from what is below it, and from nothing else
pub steps-extend : (s : State) (item dir : ℕ) → IsLayout s → IsTrue (is_live s.entries item) → IsTrue (is_live s.entries dir) → list_any (λ (e : Entry). e.parent == dir) (ancestors (PATH_LIMIT + 1) s.entries item) ≡ extends (path_of s item) (path_of s dir)
steps-extend s item dir h live lives =
    ap (list_any stands) (lineage-steps s.entries item)
    ∙ from_root s (λ n. list_any stands (lineage s.entries n) ≡ extends (path_of s n) (path_of s dir)) h
    (ap (list_any stands) (sym (lineage-steps s.entries 0) ∙ ancestors-none (PATH_LIMIT + 1) s.entries 0 (root-none s h)) ∙ sym (extends-root s (path_of s dir) h))
    (λ n e found known.
    ap (list_any stands) (lineage-parent s n e h found)
    ∙ ap (λ (b : Bool). e.parent == dir || b) known
    ∙ sym (extends-parent s n dir e h (is-live s.entries dir lives) found))
    item (is-live s.entries item live)
  where
    stands : Entry → Bool
    stands e = e.parent == dir
