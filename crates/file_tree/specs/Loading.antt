-- A tree as far as it is made of the entries of a state.
use Rattle.std.specs.Prelude.{◌≡◌, ◌==◌, ◌||◌, ◌&&◌, ℕ, Bool, List, [], None, false, if◌then◌else◌, insert, is_some, nat_eq, Some}
use Rattle.std.specs.BTreeSet.{contains}
use Rattle.std.specs.Option.{option_map}
use Rattle.std.specs.Ordering.{nat_cmp}
use Rattle.indexmap.specs.IndexMap.{IndexMap}
use Rattle.hac_model.specs.Tree.Bare.{bare_body}
use Rattle.hac_model.specs.Tree.Events.{edited}
use Rattle.hac_model.specs.Tree.{entry_at, is_dirty}
use Rattle.hac_model.specs.declared.states.Entry.{Entry}
use Rattle.file_tree.specs.Answers.{is_dirty_at}
use Rattle.tree_nodes.specs.Nodes.{entry_of, has_node, kids_of, name_of}
use Rattle.tree_nodes.specs.Search.{rank_in, NamesRise}
use Rattle.file_tree.specs.Shape.{AreNested}
use Rattle.file_tree.specs.declared.loading.Loading.{Loading}
use Rattle.tree_nodes.specs.declared.nodes.Node.{Node}

-- an entry without its marks and answers
abbrev pub bare_entry : Entry → Entry
bare_entry = edited bare_body

-- the root, or one of the entries, has the number
abbrev pub is_to_load : List Entry → ℕ → Bool
is_to_load entries number = number == 0 || is_some (entry_at entries number)

-- no entry has the number, and no directory of that number has anything in it
pub record StandsAlone {S : Type 0} (nodes : IndexMap ℕ Node S) (number : ℕ) : Type 0 where
  pub none : entry_of nodes number ≡ None
  pub bare : kids_of nodes number ≡ []

-- there is a node for the root and for each entry, and none is an entry yet
pub record IsPrepared (next : ℕ) (entries : List Entry) (loading : Loading) : Type 0 where
  pub next_is : loading.next ≡ next
  pub numbers : (number : ℕ) → has_node loading.nodes number ≡ is_to_load entries number
  pub alone : (number : ℕ) → StandsAlone loading.nodes number
  pub clean : (number : ℕ) → contains nat_cmp loading.to_index number ≡ false

-- a prepared node has become this entry, in the list of its directory
pub record IsPlaced (entry : Entry) (old new : Loading) : Type 0 where
  pub next_is : new.next ≡ old.next
  pub numbers : (q : ℕ) → has_node new.nodes q ≡ has_node old.nodes q
  pub entries : (q : ℕ) → entry_of new.nodes q ≡ if nat_eq entry.number q then Some (bare_entry entry) else entry_of old.nodes q
  pub names : (q : ℕ) → name_of new.nodes q ≡ if nat_eq entry.number q then entry.name else name_of old.nodes q
  pub kids : NamesRise (name_of old.nodes) (kids_of old.nodes entry.parent) → (q : ℕ) → kids_of new.nodes q
      ≡ if nat_eq entry.parent q then insert (kids_of old.nodes entry.parent) (rank_in (name_of old.nodes) entry.name (kids_of old.nodes entry.parent)) entry.number else kids_of old.nodes q
  pub dirty : (q : ℕ) → contains nat_cmp new.to_index q ≡ (contains nat_cmp old.to_index q || (is_dirty entry.body && nat_eq entry.number q))

-- the nodes are the entries, each in the list of its directory
pub record IsLoaded (next : ℕ) (entries : List Entry) (loading : Loading) : Type 0 where
  pub next_is : loading.next ≡ next
  pub numbers : (number : ℕ) → has_node loading.nodes number ≡ is_to_load entries number
  pub entries_are : (number : ℕ) → entry_of loading.nodes number ≡ option_map bare_entry (entry_at entries number)
  pub lists : AreNested next (entry_of loading.nodes) (name_of loading.nodes) (kids_of loading.nodes)
  pub dirty_are : (number : ℕ) → contains nat_cmp loading.to_index number ≡ is_dirty_at entries number
