-- The numbers of the nodes that are entries, in order, are those of the entries.
use Rattle.std.proofs.Common.{◌≡◌, ℕ, Bool, true, false, cond, List, [], ◌∷◌, eqb, filter, subst, refl, ap, sym, ◌∙◌, arith}
use Rattle.std.specs.Prelude.{◌==◌, ◌||◌, IsPermutation, IsSorted, Option, Some, None, is_some, nat_eq, option_and_then}
use Rattle.std.specs.Cmp.{nat_eq_equiv}
use Rattle.std.specs.List.{IsDistinct}
use Rattle.std.specs.Map.{keys_of, lookup}
use Rattle.std.specs.Option.{option_map}
use Rattle.std.specs.Ordering.{nat_cmp}
use Rattle.std.proofs.lemmas.List.Sorted.{IsNonDecreasingBy-from_sort, list_any-IsPermutation}
use Rattle.std.proofs.lemmas.Map.Entries.{lookup-filter-values, option_filter}
use Rattle.std.proofs.lemmas.Map.Keys.{IsDistinct-IsPermutation, IsStrictlyIncreasing-from_distinct}
use Rattle.std.proofs.lemmas.Map.Made.{IsDistinct-keys_filter}
use Rattle.indexmap.specs.IndexMap.{IsUnique}
use Rattle.hac_model.specs.Tree.Links.{has}
use Rattle.hac_model.specs.declared.states.Entry.{Entry}
use Rattle.file_tree.specs.Answers.{numbers_of}
use Rattle.tree_nodes.specs.Nodes.{entry_from, if_placed, placed_at, placed_in}
use Rattle.file_tree.specs.Seen.{Seen}
use Rattle.file_tree.specs.Shape.{IsShaped, seen_of}
use Rattle.tree_nodes.specs.declared.nodes.Node.{Node}
use Rattle.file_tree.specs.declared.tree.Tree.TheInside.{Inside}
use Rattle.file_tree.proofs.LiveLemmas.{numbers-has, numbers-rise}
use Rattle.file_tree.proofs.ReadLemmas.{seen-at, seen-layout}
use Rattle.file_tree.proofs.RisingLemmas.{rising-one}
use Rattle.hac_model.proofs.SortedLemmas.{steps-rise}
use Rattle.hac_model.proofs.AmongLemmas.{eqb-turned}

-- the keys of nodes are those under which one is found
keys-has : (nodes : List (ℕ × Node)) (q : ℕ) → has (keys_of nodes) q ≡ is_some (lookup (nat_eq q) nodes)
keys-has [] q = refl
keys-has (node ∷ nodes) q =
    ap (λ (b : Bool). b || has (keys_of nodes) q) (eqb-turned node.0 q)
    ∙ (elim (q == node.0) as (λ b. (b || has (keys_of nodes) q) ≡ is_some (cond b (Some node.1) (lookup (nat_eq q) nodes))) [ true ↦ refl | false ↦ keys-has nodes q ])

placed-some : (o : Option Node) → is_some (option_filter (λ (node : Node). node.placed) o) ≡ is_some (option_and_then if_placed o)
placed-some None = refl
placed-some (Some node) = elim node.placed as (λ b. is_some (cond b (Some node) None) ≡ is_some (cond b (Some node) None)) [ true ↦ refl | false ↦ refl ]

placed-has : (nodes : List (ℕ × Node)) (q : ℕ) → IsDistinct nat_eq (keys_of nodes) → has (placed_in nodes) q ≡ is_some (option_and_then if_placed (lookup (nat_eq q) nodes))
placed-has nodes q unique =
    keys-has (filter (λ (node : ℕ × Node). node.1.placed) nodes) q
    ∙ ap (λ (o : Option Node). is_some o) (lookup-filter-values nat_eq_equiv (λ (node : Node). node.placed) q nodes unique)
    ∙ placed-some (lookup (nat_eq q) nodes)

entry-some : (q : ℕ) (o : Option Node) → is_some o ≡ is_some (option_map (entry_from q) o)
entry-some q None = refl
entry-some q (Some node) = refl

module _ (t : Inside) (s : Seen) (view : seen_of t ≡ s) (h : IsShaped t) (unique : IsUnique nat_eq t.nodes) where
  placed-numbers : (q : ℕ) → has (placed_in t.nodes.entries) q ≡ has (numbers_of s.state.entries) q
  placed-numbers q =
      placed-has t.nodes.entries q unique
      ∙ entry-some q (placed_at t.nodes q)
      ∙ ap (λ (o : Option Entry). is_some o) (sym (seen-at t s view h q))
      ∙ sym (numbers-has s.state.entries q)

  pub numbered : (found sorted : List ℕ) → found ≡ placed_in t.nodes.entries → IsPermutation found sorted → IsSorted nat_cmp sorted → sorted ≡ numbers_of s.state.entries
  numbered found sorted are same order = rising-one 0 0 sorted (numbers_of s.state.entries)
      (steps-rise 0 sorted (λ n more is. omega arith) (IsStrictlyIncreasing-from_distinct sorted (IsNonDecreasingBy-from_sort (λ n. n) sorted order) (IsDistinct-IsPermutation eqb eqb-turned found sorted same (subst (λ (ns : List ℕ). IsDistinct eqb ns) (sym are) (IsDistinct-keys_filter nat_eq (λ (node : ℕ × Node). node.1.placed) t.nodes.entries unique)))))
      (numbers-rise 0 0 s.state.entries s.state.next (seen-layout t s view h).numbers (omega arith))
      (λ q. sym (list_any-IsPermutation (λ n. n == q) found sorted same) ∙ ap (λ (ns : List ℕ). has ns q) are ∙ placed-numbers q)
