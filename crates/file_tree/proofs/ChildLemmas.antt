-- What a directory has under a name is found among its children.
use Rattle.std.proofs.Common.{◌≡◌, ℕ, Bool, true, false, cond, List, [], ◌∷◌, subst, refl, ap, sym, ◌∙◌, inl, inr}
use Rattle.std.specs.Prelude.{nat_eq, Option, Some, None, IsSome, option_and_then}
use Rattle.std.specs.Option.{option_map, option_map_or}
use Rattle.std.specs.Str.{bytes_eq}
use Rattle.std.proofs.lemmas.Slice.Eq.{bytes_eq-Decides}
use Rattle.indexmap.specs.IndexMap.{IndexMap, get}
use Rattle.hac_model.specs.Tree.Depends.{Among}
use Rattle.hac_model.specs.Tree.{child}
use Rattle.hac_model.specs.declared.states.Entry.{Entry}
use Rattle.hac_model.proofs.TreeLemmas.{child-own, child-entry}
use Rattle.tree_nodes.specs.Nodes.{entry_from, entry_of, if_placed, kids_of, name_of, parent_in}
use Rattle.tree_nodes.specs.Search.{first_named}
use Rattle.file_tree.specs.Seen.{Seen}
use Rattle.file_tree.specs.Shape.{IsShaped, seen_of, state_of}
use Rattle.tree_nodes.specs.declared.nodes.Node.{Node}
use Rattle.file_tree.specs.declared.tree.Tree.TheInside.{Inside}
use Rattle.file_tree.proofs.ReadLemmas.{seen-entry}

-- what has the name is among the numbers
pub named-member : (names : ℕ → List ℕ) (ns : List ℕ) (name : List ℕ) (n : ℕ) → first_named names ns name ≡ Some n → Among ns n × (bytes_eq (names n) name ≡ true)
named-member names [] name n found = absurd cc
named-member names (m ∷ ns) name n found =
    elim (bytes_eq (names m) name) as (λ b. bytes_eq (names m) name ≡ b → cond b (Some m) (first_named names ns name) ≡ Some n → Among (m ∷ ns) n × (bytes_eq (names n) name ≡ true)) [
      | true ↦ (λ here found. let same : m ≡ n = cc in (inl same, subst (λ (k : ℕ). bytes_eq (names k) name ≡ true) same here))
      | false ↦ (λ other found. let rest = named-member names ns name n found in (inr rest.0, rest.1))
    ] refl found

-- and is found there
named-among : (names : ℕ → List ℕ) (ns : List ℕ) (name : List ℕ) (n : ℕ) → Among ns n → bytes_eq (names n) name ≡ true → first_named names ns name ≡ None → ⊥
named-among names [] name n among same none = among
named-among names (m ∷ ns) name n among same none =
    elim (bytes_eq (names m) name) as (λ b. bytes_eq (names m) name ≡ b → cond b (Some m) (first_named names ns name) ≡ None → ⊥) [
      | true ↦ (λ here none. cc)
      | false ↦ (λ other none. elim among [
        | inl first ↦ (let never : false ≡ true = sym other ∙ subst (λ (k : ℕ). bytes_eq (names k) name ≡ true) (sym first) same in cc)
        | inr rest ↦ named-among names ns name n rest same none
      ])
    ] refl none

-- an entry of a directory
pub parent-told : (found : Option Entry) (dir : ℕ) → parent_in found ≡ Some dir → (e : Entry) × (found ≡ Some e) × (e.parent ≡ dir)
parent-told None dir h = absurd cc
parent-told (Some e) dir h = let same : e.parent ≡ dir = cc in (e, refl, same)

module _ {S : Type 0} where
  -- the name in a node is that of its entry
  pub name-told : (nodes : IndexMap ℕ Node S) (n : ℕ) (e : Entry) → entry_of nodes n ≡ Some e → name_of nodes n ≡ e.name
  name-told nodes n e found = told (get nat_eq nodes n) found
    where
      told : (o : Option Node) → option_map (entry_from n) (option_and_then if_placed o) ≡ Some e → option_map_or (λ (node : Node). node.name) o [] ≡ e.name
      told None found = absurd cc
      told (Some node) found = placed node.placed found
        where
          placed : (b : Bool) → option_map (entry_from n) (cond b (Some node) None) ≡ Some e → node.name ≡ e.name
          placed true found = let same : entry_from n node ≡ e = cc in ap (λ (x : Entry). x.name) same
          placed false found = absurd cc

-- what a directory has under a name
pub child-named : (t : Inside) → IsShaped t → (dir : ℕ) (name : List ℕ) → child (state_of t).entries dir name ≡ first_named (name_of t.nodes) (kids_of t.nodes dir) name
child-named t h dir name = by_found (first_named (name_of t.nodes) (kids_of t.nodes dir) name) refl
  where
    stands : (n : ℕ) → first_named (name_of t.nodes) (kids_of t.nodes dir) name ≡ Some n → child (state_of t).entries dir name ≡ Some n
    stands n found =
        let member = named-member (name_of t.nodes) (kids_of t.nodes dir) name n found in
        let entry = parent-told (entry_of t.nodes n) dir (h.lists.listed dir n member.0) in
        let named : entry.0.name ≡ name = sym (name-told t.nodes n entry.0 entry.1) ∙ (bytes_eq-Decides (name_of t.nodes n) name).0 member.1 in
        ap (λ (d : ℕ). child (state_of t).entries d name) (sym entry.2)
        ∙ ap (λ (x : List ℕ). child (state_of t).entries entry.0.parent x) (sym named)
        ∙ child-own (state_of t).entries n entry.0 h.layout.differ (seen-entry t h n ∙ entry.1)

    nothing : first_named (name_of t.nodes) (kids_of t.nodes dir) name ≡ None → (o : Option ℕ) → child (state_of t).entries dir name ≡ o → o ≡ None
    nothing none None is = refl
    nothing none (Some n) is =
        let entry = child-entry 0 (state_of t).entries t.next dir n name h.layout.numbers is in
        let found : entry_of t.nodes n ≡ Some entry.0 = sym (seen-entry t h n) ∙ entry.1 in
        let parent : parent_in (entry_of t.nodes n) ≡ Some dir = ap parent_in found ∙ ap (λ (d : ℕ). Some d) entry.2 in
        let named : name_of t.nodes n ≡ name = name-told t.nodes n entry.0 found ∙ entry.3 in
        absurd (named-among (name_of t.nodes) (kids_of t.nodes dir) name n (h.lists.lists dir n parent) ((bytes_eq-Decides (name_of t.nodes n) name).1 named) none)

    by_found : (o : Option ℕ) → first_named (name_of t.nodes) (kids_of t.nodes dir) name ≡ o → child (state_of t).entries dir name ≡ first_named (name_of t.nodes) (kids_of t.nodes dir) name
    by_found None none = nothing none (child (state_of t).entries dir name) refl ∙ sym none
    by_found (Some n) found = stands n found ∙ sym found

pub child-seen : (t : Inside) (s : Seen) → seen_of t ≡ s → IsShaped t → (dir : ℕ) (name : List ℕ) → child s.state.entries dir name ≡ first_named (name_of t.nodes) (kids_of t.nodes dir) name
child-seen t s view h dir name = subst (λ (x : Seen). child x.state.entries dir name ≡ first_named (name_of t.nodes) (kids_of t.nodes dir) name) view (child-named t h dir name)

module _ {S : Type 0} where
  -- an entry has a node
  pub entry-node : (nodes : IndexMap ℕ Node S) (n : ℕ) (e : Entry) → entry_of nodes n ≡ Some e → IsSome (get nat_eq nodes n)
  entry-node nodes n e found = told (get nat_eq nodes n) found
    where
      told : (o : Option Node) → option_map (entry_from n) (option_and_then if_placed o) ≡ Some e → IsSome o
      told None found = absurd cc
      told (Some node) found = refl
