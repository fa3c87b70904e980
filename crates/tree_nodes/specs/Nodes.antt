-- The nodes of a tree, read as entries, names and lists of children, and how they change.
use Rattle.std.specs.Prelude.{◌≡◌, ℕ, Bool, false, is_some, if◌then◌else◌, nat_eq, List, [], filter, map, Option, Some, None, option_and_then}
use Rattle.std.specs.Option.{option_map, option_map_or}
use Rattle.indexmap.specs.IndexMap.{IndexMap, get}
use Rattle.hac_model.specs.declared.states.Body.{Body}
use Rattle.hac_model.specs.declared.states.Body.TheVariants as body
use Rattle.hac_model.specs.declared.states.Entry.{Entry}
use Rattle.tree_nodes.specs.declared.nodes.Content.{Content}
use Rattle.tree_nodes.specs.declared.nodes.Content.TheVariants.{File, Dir, Symlink, Semantic, Mount, Document}
use Rattle.tree_nodes.specs.declared.nodes.Node.{Node}
use Rattle.tree_nodes.specs.declared.nodes.Shown.{Shown}
use Rattle.tree_nodes.specs.declared.nodes.Shown.TheVariants.{Never, AsItIs, Older}

-- the text that is shown of a file with this text
abbrev pub shown_in : List ℕ → Shown → Option (List ℕ)
shown_in text Never = None
shown_in text AsItIs = Some text
shown_in text (Older shown) = Some shown

-- what the content of a node says. Neither marks nor answers are kept in it.
abbrev pub body_of : Content → Body
body_of (File text dirty shown) = body.File text dirty (shown_in text shown)
body_of Dir = body.Dir
body_of (Symlink target) = body.Symlink target
body_of (Semantic query) = body.Semantic query [] []
body_of (Mount space) = body.Mount space []
body_of Document = body.Document

-- a node, where it is an entry
abbrev pub if_placed : Node → Option Node
if_placed node = if node.placed then Some node else None

-- the numbers of those of the nodes that are entries
abbrev pub placed_in : List (ℕ × Node) → List ℕ
placed_in nodes = map (λ node. node.0) (filter (λ node. node.1.placed) nodes)

-- the node as the entry of a number
abbrev pub entry_from : ℕ → Node → Entry
entry_from number node = record { number = number; parent = node.parent; name = node.name; body = body_of node.content }

module _ {S : Type 0} where
  -- there is a node of the number
  abbrev pub has_node : IndexMap ℕ Node S → ℕ → Bool
  has_node nodes number = is_some (get nat_eq nodes number)

  -- the node of a number, where it is an entry
  abbrev pub placed_at : IndexMap ℕ Node S → ℕ → Option Node
  placed_at nodes number = option_and_then if_placed (get nat_eq nodes number)

  -- the entry of a number
  abbrev pub entry_of : IndexMap ℕ Node S → ℕ → Option Entry
  entry_of nodes number = option_map (entry_from number) (placed_at nodes number)

  -- the name in the node of a number
  abbrev pub name_of : IndexMap ℕ Node S → ℕ → List ℕ
  name_of nodes number = option_map_or (λ node. node.name) (get nat_eq nodes number) []

  -- the numbers of the entries of a directory
  abbrev pub kids_of : IndexMap ℕ Node S → ℕ → List ℕ
  kids_of nodes number = option_map_or (λ node. node.children.items) (get nat_eq nodes number) []

  -- how many places the list of a directory has for more
  abbrev pub spare_of : IndexMap ℕ Node S → ℕ → ℕ
  spare_of nodes number = option_map_or (λ node. node.children.spare) (get nat_eq nodes number) 0

-- the directory of the entry, if it has one
abbrev pub parent_in : Option Entry → Option ℕ
parent_in entry = option_map (λ entry. entry.parent) entry

-- one number has this value, and the others keep theirs
abbrev pub set_at : {X : Type 0} → ℕ → X → (ℕ → X) → ℕ → X
set_at number value values other = if nat_eq number other then value else values other

-- the entry of one number is changed
abbrev pub edited_at : ℕ → (Entry → Entry) → (ℕ → Option Entry) → ℕ → Option Entry
edited_at number change entries other = if nat_eq number other then option_map change (entries other) else entries other

-- nodes are read so: which numbers have one, and the entry, the name and the list of each number
pub record AreRead {S : Type 0} (has : ℕ → Bool) (entry : ℕ → Option Entry) (name : ℕ → List ℕ) (list : ℕ → List ℕ) (nodes : IndexMap ℕ Node S) : Type 0 where
  pub numbers : (number : ℕ) → has_node nodes number ≡ has number
  pub entries : (number : ℕ) → entry_of nodes number ≡ entry number
  pub names : (number : ℕ) → name_of nodes number ≡ name number
  pub kids : (number : ℕ) → kids_of nodes number ≡ list number

module _ {S : Type 0} where
  -- nothing that is read of nodes changes
  abbrev pub AreSame : IndexMap ℕ Node S → IndexMap ℕ Node S → Type 0
  AreSame old new = AreRead (has_node old) (entry_of old) (name_of old) (kids_of old) new

  -- the entry of a number is changed, but for its name, and nothing else is
  abbrev pub ChangesEntry : ℕ → (Entry → Entry) → IndexMap ℕ Node S → IndexMap ℕ Node S → Type 0
  ChangesEntry number change old new = AreRead (has_node old) (edited_at number change (entry_of old)) (name_of old) (kids_of old) new

  -- a directory has this list, and nothing else changes
  abbrev pub HasList : ℕ → List ℕ → IndexMap ℕ Node S → IndexMap ℕ Node S → Type 0
  HasList dir list old new = AreRead (has_node old) (entry_of old) (name_of old) (set_at dir list (kids_of old)) new

-- the nodes of such numbers are gone, and the others stay
pub record TakesOut {S : Type 0} (gone : ℕ → Bool) (old new : IndexMap ℕ Node S) : Type 0 where
  pub numbers : (number : ℕ) → has_node new number ≡ if gone number then false else has_node old number
  pub entries : (number : ℕ) → entry_of new number ≡ if gone number then None else entry_of old number
  pub names : (number : ℕ) → gone number ≡ false → name_of new number ≡ name_of old number
  pub kids : (number : ℕ) → kids_of new number ≡ if gone number then [] else kids_of old number
