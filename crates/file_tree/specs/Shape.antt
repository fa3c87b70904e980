-- How a tree keeps a state.
use Rattle.std.specs.Prelude.{◌≡◌, ℕ, zero, suc, ◌+◌, ◌<◌, ◌≤◌, false, List, [], ◌++◌, Option, Some, None, IsTrue}
use Rattle.std.specs.BTreeSet.{contains}
use Rattle.std.specs.Option.{option_to_list}
use Rattle.std.specs.Ordering.{nat_cmp}
use Rattle.indexmap.specs.IndexMap.{IndexMap}
use Rattle.hac_model.specs.Tree.Depends.{Among}
use Rattle.hac_model.specs.Tree.Limits.{counts}
use Rattle.hac_model.specs.Tree.Valid.{IsLayout}
use Rattle.hac_model.specs.declared.states.Entry.{Entry}
use Rattle.hac_model.specs.declared.states.State.{State}
use Rattle.tree_nodes.specs.Documents.{numbers_up}
use Rattle.tree_nodes.specs.Nodes.{entry_of, has_node, kids_of, name_of, parent_in, spare_of}
use Rattle.tree_nodes.specs.Search.{NamesRise}
use Rattle.file_tree.specs.Ready.{is_to_index}
use Rattle.file_tree.specs.Seen.{Seen}
use Rattle.tree_nodes.specs.declared.nodes.Node.{Node}
use Rattle.file_tree.specs.declared.ready.Ready.{Ready}
use Rattle.file_tree.specs.declared.ready.Ready.TheVariants.{Nothing, Add, Link, Move, Text, Mount, Sync}
use Rattle.file_tree.specs.declared.tree.Tree.TheInside.{Inside}

-- the entries of the numbers below a number, in order, given the entry of each
abbrev pub entries_below : ℕ → (ℕ → Option Entry) → List Entry
entries_below zero at = []
entries_below (suc number) at = entries_below number at ++ option_to_list (at number)

abbrev pub state_of : Inside → State
state_of tree = record { version = tree.version; next = tree.next; entries = entries_below tree.next (entry_of tree.nodes); sessions = [] }

abbrev pub seen_of : Inside → Seen
seen_of tree = record { state = state_of tree; ready = tree.ready }

-- the lists of children are those of the entries, given the entry, the name and the children of each number
pub record AreNested (next : ℕ) (at : ℕ → Option Entry) (names : ℕ → List ℕ) (kids : ℕ → List ℕ) : Type 0 where
  pub root : at 0 ≡ None
  pub above : (number : ℕ) → next ≤ number → at number ≡ None
  pub fresh : (dir : ℕ) → next ≤ dir → kids dir ≡ []
  pub listed : (dir number : ℕ) → Among (kids dir) number → parent_in (at number) ≡ Some dir
  pub lists : (dir number : ℕ) → parent_in (at number) ≡ Some dir → Among (kids dir) number
  pub rises : (dir : ℕ) → NamesRise names (kids dir)

module _ {S : Type 0} where
  -- a directory of the tree whose list has a place for one more
  abbrev pub HasPlace : ℕ → IndexMap ℕ Node S → ℕ → Type 0
  HasPlace dir nodes next = (0 < spare_of nodes dir) × (dir < next)

  -- the same, and the node of a new entry
  abbrev pub HasNew : ℕ → IndexMap ℕ Node S → ℕ → Type 0
  HasNew dir nodes next = HasPlace dir nodes next × IsTrue (has_node nodes next)

  -- the numbers from one on, and below another, have nodes
  abbrev pub HasNodes : IndexMap ℕ Node S → ℕ → ℕ → Type 0
  HasNodes nodes from to = (number : ℕ) → from ≤ number → number < to → IsTrue (has_node nodes number)

  -- what was prepared is in the tree
  abbrev pub HasSpare : Ready → IndexMap ℕ Node S → ℕ → Type 0
  HasSpare Nothing nodes next = Unit {0}
  HasSpare (Add dir kind) nodes next = HasNew dir nodes next
  HasSpare (Link dir word) nodes next = HasNew dir nodes next
  HasSpare (Move dir) nodes next = HasPlace dir nodes next
  HasSpare (Text file) nodes next = Unit {0}
  HasSpare (Mount dir count) nodes next = HasNew dir nodes next × HasNodes nodes next (next + 1 + count)
  HasSpare (Sync mount numbers) nodes next = (number : ℕ) → Among numbers number → IsTrue (has_node nodes number)

  -- of the numbers that were taken, only those of the entries and of the root have nodes. Others may have what was
  -- prepared.
  abbrev pub HasNoOther : IndexMap ℕ Node S → ℕ → Type 0
  HasNoOther nodes next = (number : ℕ) → (number ≡ 0 → ⊥) → number < next → entry_of nodes number ≡ None → has_node nodes number ≡ false

-- the list of the documents of a mount was prepared
abbrev pub HasDocuments : Ready → ℕ → List ℕ → Type 0
HasDocuments (Mount dir count) next documents = documents ≡ numbers_up (next + 1) count
HasDocuments other next documents = Unit {0}

-- the nodes are those of a state that fits together
pub record IsShaped (tree : Inside) : Type 0 where
  pub lists : AreNested tree.next (entry_of tree.nodes) (name_of tree.nodes) (kids_of tree.nodes)
  pub layout : IsLayout (state_of tree)
  pub root : IsTrue (has_node tree.nodes 0)
  pub spare : HasSpare tree.ready tree.nodes tree.next
  pub others : HasNoOther tree.nodes tree.next

-- so they are, and what is kept beside them follows from them: how much there is, and which files are dirty. The set has
-- one number more at most, that of the file that the prepared change will make dirty.
pub record IsTree (tree : Inside) : Type 0 where
  pub shaped : IsShaped tree
  pub counts_are : tree.counts ≡ counts (state_of tree)
  pub dirty_are : (number : ℕ) → contains nat_cmp tree.to_index number ≡ is_to_index (state_of tree) tree.ready number
  pub documents_are : HasDocuments tree.ready tree.next tree.documents.items
