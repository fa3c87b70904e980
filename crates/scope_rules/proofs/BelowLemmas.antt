-- Steps over parents in the state after an event.
use Rattle.std.proofs.Common.{◌≡◌, ℕ, ◌+◌, ◌-◌, ◌<◌, Bool, true, false, refl, ap, sym, ◌∙◌, inl, inr}
use Rattle.std.specs.Prelude.{◌==◌, ◌&&◌, ◌||◌, Option, Some, None}
use Rattle.std.specs.List.{list_any}
use Rattle.std.specs.Option.{option_map, option_map_or}
use Rattle.hac_model.specs.Tree.Links.{is_below, is_item, parent_of}
use Rattle.hac_model.specs.Tree.Valid.{IsLayout}
use Rattle.hac_model.specs.Tree.{ancestors, entry_at, extends, is_directory_at, is_linkable, is_live, path_of}
use Rattle.hac_model.specs.declared.limits.TheConstants.{PATH_LIMIT}
use Rattle.hac_model.specs.declared.states.Entry.{Entry}
use Rattle.hac_model.specs.declared.states.State.{State}
use Rattle.hac_model.proofs.PathLemmas.{ancestors-none, parent-lives, root-none}
use Rattle.hac_model.proofs.TreeLemmas.{Lives, directory-lives, is-live, live-is}
use Rattle.file_tree.proofs.StepLemmas.{ancestors-next, steps-extend}

module _ (s : State) (h : IsLayout s) (dir : ℕ) where
  -- at most so many steps lead to the directory
  abbrev leads : ℕ → ℕ → Bool
  leads steps entry = list_any (λ (x : Entry). x.parent == dir) (ancestors steps s.entries entry)

  pub none-leads : (steps entry : ℕ) → steps ≡ 0 → false ≡ leads steps entry
  none-leads steps entry none = sym (ap (λ (k : ℕ). leads k entry) none)

  pub root-leads : (steps entry : ℕ) → entry ≡ 0 → false ≡ leads steps entry
  root-leads steps entry root = sym (ap (list_any (λ (x : Entry). x.parent == dir)) (ap (ancestors steps s.entries) root ∙ ancestors-none steps s.entries 0 (root-none s h)))

  -- what is there and isn't the root
  there : (entry : ℕ) → (entry ≡ 0 → ⊥) → is_live s.entries entry ≡ true → (x : Entry) × (entry_at s.entries entry ≡ Some x)
  there entry apart live = at (is-live s.entries entry live)
    where
      at : Lives s.entries entry → (x : Entry) × (entry_at s.entries entry ≡ Some x)
      at (inl root) = absurd (apart root)
      at (inr found) = found

  in-parent : (entry : ℕ) (x : Entry) → entry_at s.entries entry ≡ Some x → parent_of s entry ≡ x.parent
  in-parent entry x found = ap (λ (o : Option Entry). option_map_or (λ (x : Entry). x.parent) o 0) found

  pub up-leads : (steps entry : ℕ) → 0 < steps → (entry ≡ 0 → ⊥) → is_live s.entries entry ≡ true → leads steps entry ≡ (parent_of s entry == dir || leads (steps - 1) (parent_of s entry))
  up-leads steps entry some apart live =
      let (x, found) = there entry apart live in
      ap (list_any (λ (x : Entry). x.parent == dir)) (ancestors-next steps s.entries entry x some found)
      ∙ ap (λ (k : ℕ). k == dir || leads (steps - 1) k) (sym (in-parent entry x found))

  -- the directory of what is there is there too
  pub up-lives : (entry : ℕ) → (entry ≡ 0 → ⊥) → is_live s.entries entry ≡ true → is_live s.entries (parent_of s entry) ≡ true
  up-lives entry apart live =
      let (x, found) = there entry apart live in
      ap (is_live s.entries) (in-parent entry x found) ∙ live-is s.entries x.parent (parent-lives s entry x h found)

  pub item-lives : (item : ℕ) → is_item s item ≡ true → is_live s.entries item ≡ true
  item-lives item is = live-is s.entries item (inr (at (entry_at s.entries item) refl is))
    where
      at : (o : Option Entry) → entry_at s.entries item ≡ o → option_map_or is_linkable (option_map (λ (x : Entry). x.body) o) false ≡ true → (x : Entry) × (entry_at s.entries item ≡ Some x)
      at None found is = absurd cc
      at (Some x) found is = (x, found)

  -- an item is below a directory where steps lead there
  pub leads-below : (item : ℕ) → is_item s item ≡ true → is_directory_at s.entries dir ≡ true → leads (PATH_LIMIT + 1) item ≡ is_below s dir item
  leads-below item is holds =
      steps-extend s item dir h (item-lives item is) (live-is s.entries dir (directory-lives s.entries dir holds))
      ∙ (λ i. sym is i && sym holds i && extends (path_of s item) (path_of s dir))
