-- Many entries of one directory at once: the numbers that they take, and what is under each number then.
use Rattle.std.specs.Prelude.{ℕ, zero, suc, ◌+◌, Bool, ◌&&◌, if◌then◌else◌, nat_eq, List, [], ◌∷◌, ◌++◌, filter, Option, Some, is_none}
use Rattle.std.specs.Option.{option_map_or}
use Rattle.hac_model.specs.Tree.Links.{has}
use Rattle.hac_model.specs.Tree.Mounting.{documents_from}
use Rattle.indexmap.specs.IndexMap.{IndexMap}
use Rattle.hac_model.specs.declared.states.Entry.{Entry}
use Rattle.tree_nodes.specs.Nodes.{AreRead, entry_of, has_node, kids_of, name_of}
use Rattle.tree_nodes.specs.Search.{first_named}
use Rattle.tree_nodes.specs.declared.nodes.Node.{Node}

-- so many numbers from one on
abbrev pub numbers_up : ℕ → ℕ → List ℕ
numbers_up from zero = []
numbers_up from (suc count) = numbers_up from count ++ (from + count) ∷ []

module _ (find : List ℕ → Option ℕ) where
  -- the names under which nothing is found
  abbrev pub unknown : List (List ℕ) → List (List ℕ)
  unknown names = filter (λ name. is_none (find name)) names

  -- the numbers that are found under names. Where none is, the next one is taken.
  abbrev pub numbers_from : ℕ → List (List ℕ) → List ℕ
  numbers_from next [] = []
  numbers_from next (name ∷ names) =
      option_map_or (λ number. number ∷ numbers_from next names) (find name) (next ∷ numbers_from (next + 1) names)

-- what is under each number, once entries are put under theirs
abbrev pub with_entries : List Entry → (ℕ → Option Entry) → ℕ → Option Entry
with_entries [] at = at
with_entries (entry ∷ entries) at = with_entries entries (λ number. if nat_eq entry.number number then Some entry else at number)

-- the name of each number then
abbrev pub with_names : List Entry → (ℕ → List ℕ) → ℕ → List ℕ
with_names [] names = names
with_names (entry ∷ entries) names = with_names entries (λ number. if nat_eq entry.number number then entry.name else names number)

module _ {S : Type 0} where
  -- the names that none of the known nodes has
  abbrev pub unknown_in : IndexMap ℕ Node S → List ℕ → List (List ℕ) → List (List ℕ)
  unknown_in nodes known names = unknown (first_named (name_of nodes) known) names

  -- documents of a mount are put under the numbers from one on, and nothing else changes
  abbrev pub PutsDocuments : ℕ → ℕ → List (List ℕ) → IndexMap ℕ Node S → IndexMap ℕ Node S → Type 0
  PutsDocuments first mount names old new =
      AreRead (has_node old) (with_entries (documents_from first mount names) (entry_of old)) (with_names (documents_from first mount names) (name_of old)) (kids_of old) new

-- a number of the list goes: nothing that is kept has its name
abbrev pub is_dropped : (ℕ → List ℕ) → List ℕ → List ℕ → ℕ → Bool
is_dropped names numbers kept number = has numbers number && is_none (first_named names kept (names number))
