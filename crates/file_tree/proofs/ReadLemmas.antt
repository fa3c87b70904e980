-- What is read of a tree is what its state says.
use Rattle.std.proofs.Common.{Bor, ◌≡◌, ℕ, true, false, subst, refl, ap, sym, ◌∙◌}
use Rattle.std.specs.Prelude.{IsSome, is_some, Option, Some, None, Result, Ok, Err, OnOk}
use Rattle.std.specs.Option.{option_copied, option_map}
use Rattle.indexmap.specs.IndexMap.{IndexMap}
use Rattle.hac_model.specs.Tree.{entry_at}
use Rattle.hac_model.specs.Tree.Valid.{IsLayout}
use Rattle.hac_model.specs.declared.states.Entry.{Entry}
use Rattle.tree_nodes.specs.Nodes.{entry_from, entry_of, placed_at}
use Rattle.file_tree.specs.Seen.{Seen}
use Rattle.file_tree.specs.Shape.{IsShaped, seen_of, state_of}
use Rattle.tree_nodes.specs.declared.nodes.Node.{Node}
use Rattle.file_tree.specs.declared.tree.Tree.TheInside.{Inside}
use Rattle.file_tree.proofs.BelowLemmas.{IsNumbered, below-all}

module _ {S : Type 0} where
  -- entries have the numbers of their nodes
  pub entry_of-number : (nodes : IndexMap ℕ Node S) → IsNumbered (entry_of nodes)
  entry_of-number nodes n e found =
      elim (placed_at nodes n) as (λ o. option_map (entry_from n) o ≡ Some e → e.number ≡ n) [
        | None ↦ (λ found. absurd cc)
        | Some node ↦ (λ found. let same : entry_from n node ≡ e = cc in ap (λ (x : Entry). x.number) (sym same))
      ] found

-- the entry of a number in the state
pub seen-entry : (t : Inside) → IsShaped t → (n : ℕ) → entry_at (state_of t).entries n ≡ entry_of t.nodes n
seen-entry t h n = below-all t.next (entry_of t.nodes) n (entry_of-number t.nodes) h.lists.above

module _ (t : Inside) (s : Seen) (view : seen_of t ≡ s) (h : IsShaped t) (n : ℕ) where
  -- what is seen under a number is what is kept there
  pub seen-at : entry_at s.state.entries n ≡ entry_of t.nodes n
  seen-at = subst (λ (x : Seen). entry_at x.state.entries n ≡ entry_of t.nodes n) view (seen-entry t h n)

  pub seen-some : (found : Option (Bor Node)) → option_copied found ≡ placed_at t.nodes n → (node : Bor Node) → found ≡ Some node → entry_at s.state.entries n ≡ Some (entry_from n node.now)
  seen-some found told node is = seen-at ∙ ap (λ (o : Option Node). option_map (entry_from n) o) (sym told ∙ ap (λ (o : Option (Bor Node)). option_copied o) is)

  pub seen-none : (found : Option (Bor Node)) → option_copied found ≡ placed_at t.nodes n → found ≡ None → entry_at s.state.entries n ≡ None
  seen-none found told is = seen-at ∙ ap (λ (o : Option Node). option_map (entry_from n) o) (sym told ∙ ap (λ (o : Option (Bor Node)). option_copied o) is)

-- nothing isn't something
pub none-there : {X : Type 0} {o : Option X} → o ≡ None → IsSome o → ⊥
none-there {X} none there = let never : false ≡ true = subst (λ (o : Option X). IsSome o) none there in cc

-- the state that is seen has a sound layout
pub seen-layout : (t : Inside) (s : Seen) → seen_of t ≡ s → IsShaped t → IsLayout s.state
seen-layout t s view h = subst (λ (x : Seen). IsLayout x.state) view h.layout

-- what follows where a call succeeds
pub on_ok-map : {A E P Q : Type 0} (r : Result A E) → OnOk r P → (P → Q) → OnOk r Q
on_ok-map (Ok value) p then_so = then_so p
on_ok-map (Err fault) p then_so = tt

some-copied : (found : Option (Bor Node)) → is_some found ≡ true → (node : Bor Node) × (found ≡ Some node)
some-copied None h = absurd cc
some-copied (Some node) h = (node, refl)

none-copied : (found : Option (Bor Node)) → is_some found ≡ false → found ≡ None
none-copied None h = refl
none-copied (Some node) h = absurd cc

module _ (t : Inside) (s : Seen) (view : seen_of t ≡ s) (h : IsShaped t) (n : ℕ) (found : Option (Bor Node)) (told : option_copied found ≡ placed_at t.nodes n) where
  pub seen-there : is_some found ≡ true → (e : Entry) × (entry_at s.state.entries n ≡ Some e)
  seen-there is = let node = some-copied found is in (entry_from n node.0.now, seen-some t s view h n found told node.0 node.1)

  pub seen-missing : is_some found ≡ false → entry_at s.state.entries n ≡ None
  seen-missing is = seen-none t s view h n found told (none-copied found is)
