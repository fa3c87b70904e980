-- A tree of the root alone, and what a new entry finds.
use Rattle.std.proofs.Common.{◌≡◌, ℕ, List, [], subst, refl, ap, sym, ◌∙◌, arith}
use Rattle.std.specs.Prelude.{nat_eq, Option, None, false, true, is_some, option_and_then}
use Rattle.std.specs.Option.{option_map, option_map_or, option_to_list}
use Rattle.std.specs.Map.{lookup}
use Rattle.indexmap.specs.IndexMap.{IndexMap}
use Rattle.hac_model.specs.Tree.Depends.{Among}
use Rattle.hac_model.specs.Tree.{root_alone}
use Rattle.hac_model.specs.Tree.Limits.{first_passed, passed_limit}
use Rattle.hac_model.specs.Tree.Valid.{IsLayout}
use Rattle.hac_model.specs.declared.states.Entry.{Entry}
use Rattle.hac_model.specs.declared.versions.Version.{Version}
use Rattle.hac_model.specs.declared.versions.Version.TheVariants.{One, Two}
use Rattle.file_tree.specs.Shape.{entries_below, HasNew, HasSpare, IsShaped, state_of}
use Rattle.tree_nodes.specs.Nodes.{entry_from, entry_of, has_node, if_placed, kids_of, name_of, parent_in}
use Rattle.file_tree.specs.Ready.{ready_for}
use Rattle.tree_nodes.specs.Search.{NamesRise}
use Rattle.file_tree.specs.declared.bodies.NewBody.{NewBody}
use Rattle.tree_nodes.specs.declared.nodes.Node.{Node}
use Rattle.file_tree.specs.declared.tree.Tree.TheInside.{Inside}
use Rattle.file_tree.proofs.StateLemmas.{state_with}
use Rattle.file_tree.specs.declared.bodies.NewBody.TheVariants as new

module _ {S : Type 0} where
  pub empty-entry : (nodes : IndexMap ℕ Node S) → nodes.entries ≡ [] → (n : ℕ) → entry_of nodes n ≡ None
  empty-entry nodes none n = ap (λ (es : List (ℕ × Node)). option_map (entry_from n) (option_and_then if_placed (lookup (nat_eq n) es))) none

  pub empty-node : (nodes : IndexMap ℕ Node S) → nodes.entries ≡ [] → (n : ℕ) → has_node nodes n ≡ false
  empty-node nodes none n = ap (λ (es : List (ℕ × Node)). is_some (lookup (nat_eq n) es)) none

  pub empty-kids : (nodes : IndexMap ℕ Node S) → nodes.entries ≡ [] → (n : ℕ) → kids_of nodes n ≡ []
  empty-kids nodes none n = ap (λ (es : List (ℕ × Node)). option_map_or (λ (node : Node). node.children.items) (lookup (nat_eq n) es) []) none

-- no directory has anything in it
nowhere : (ns : List ℕ) (n : ℕ) → ns ≡ [] → Among ns n → ⊥
nowhere ns n none among = subst (λ (xs : List ℕ). Among xs n) none among

pub state-new : (u : Inside) → u.next ≡ 1 → ((n : ℕ) → entry_of u.nodes n ≡ None) → state_of u ≡ root_alone u.version
state-new u next entries =
    let first : state_of u ≡ state_with u.version 1 (entries_below 1 (entry_of u.nodes)) = ap (λ (k : ℕ). state_with u.version k (entries_below k (entry_of u.nodes))) next in
    let none : entries_below 1 (entry_of u.nodes) ≡ [] = ap (λ (o : Option Entry). option_to_list o) (entries 0) in
    first ∙ ap (λ (es : List Entry). state_with u.version 1 es) none

-- it fits in a store of any version
alone-layout : (version : Version) → IsLayout (root_alone version)
unfolding passed_limit first_passed
alone-layout One = record { numbers = omega arith; names = tt; places = tt; differ = tt; bodies = tt; limits = refl }
alone-layout Two = record { numbers = omega arith; names = tt; places = tt; differ = tt; bodies = tt; limits = refl }

pub shaped-new : (u : Inside) → u.next ≡ 1 → ((n : ℕ) → entry_of u.nodes n ≡ None) → ((dir : ℕ) → kids_of u.nodes dir ≡ []) → has_node u.nodes 0 ≡ true → ((n : ℕ) → (n ≡ 0 → ⊥) → has_node u.nodes n ≡ false) → HasSpare u.ready u.nodes u.next → IsShaped u
shaped-new u next entries kids root others spare = record {
  lists = record {
    root = entries 0;
    above = λ n high. entries n;
    fresh = λ dir high. kids dir;
    listed = λ dir n among. absurd (nowhere (kids_of u.nodes dir) n (kids dir) among);
    lists = λ dir n stands. (let none : parent_in (entry_of u.nodes n) ≡ None = ap parent_in (entries n) in absurd cc);
    rises = λ dir. subst (λ (ns : List ℕ). NamesRise (name_of u.nodes) ns) (sym (kids dir)) tt;
  };
  layout = subst IsLayout (sym (state-new u next entries)) (alone-layout u.version);
  root = root;
  spare = spare;
  others = λ n root ahead none. others n root;
}

-- A new entry.

-- what was prepared for it, of whatever kind
pub spare-new : {S : Type 0} (dir : ℕ) (b : NewBody) (nodes : IndexMap ℕ Node S) (next : ℕ) → HasSpare (ready_for dir b) nodes next → HasNew dir nodes next
spare-new dir (new.File text) nodes next has = has
spare-new dir new.Dir nodes next has = has
spare-new dir (new.Symlink target) nodes next has = has
spare-new dir (new.Semantic query) nodes next has = has
spare-new dir (new.Mount space) nodes next has = has
spare-new dir new.Document nodes next has = has
