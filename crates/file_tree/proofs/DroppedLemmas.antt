-- Which documents go in a sync: those whose names nothing has that is in the new list.
use Rattle.std.proofs.Common.{◌≡◌, ℕ, ◌<◌, true, false, List, map, subst, refl, ap, sym, ◌∙◌, inl, inr}
use Rattle.std.specs.Prelude.{◌&&◌, not, is_none, Option, Some, None}
use Rattle.std.proofs.lemmas.Bool.{cases_lt}
use Rattle.hac_model.specs.Tree.Depends.{Among}
use Rattle.hac_model.specs.Tree.Links.{has}
use Rattle.hac_model.specs.Tree.Mounting.{do_names_rise, documents_from, is_among}
use Rattle.hac_model.specs.Tree.{is_mount_at}
use Rattle.hac_model.specs.declared.states.Entry.{Entry}
use Rattle.tree_nodes.specs.Documents.{is_dropped, numbers_from, unknown, with_entries, with_names}
use Rattle.file_tree.specs.Documents.{numbers_for}
use Rattle.tree_nodes.specs.Nodes.{entry_of, has_node, kids_of, name_of}
use Rattle.tree_nodes.specs.Search.{first_named, NamesRise}
use Rattle.file_tree.specs.Seen.{Seen}
use Rattle.file_tree.specs.Shape.{HasSpare, IsShaped, seen_of, state_of}
use Rattle.file_tree.specs.declared.ready.Ready.{Ready}
use Rattle.file_tree.specs.declared.ready.Ready.TheVariants.{Sync}
use Rattle.file_tree.specs.declared.tree.Tree.TheInside.{Inside}
use Rattle.file_tree.proofs.ChildLemmas.{child-named}
use Rattle.tree_nodes.proofs.FoundLemmas.{found-same}
use Rattle.file_tree.proofs.NumberLemmas.{found-map, names-rise, number-names}
use Rattle.tree_nodes.proofs.OverLemmas.{named-follow, named-low, named-same, names-same, over-same}
use Rattle.file_tree.proofs.SyncLemmas.{documents, find, find-member, leaves, member, more}
use Rattle.hac_model.proofs.AmongLemmas.{has-among}

module _ (t : Inside) (h : IsShaped t) (mount : ℕ) (is : is_mount_at (state_of t).entries mount ≡ true) where
  -- what is in the mount has a number that was taken
  pub member-low : (q : ℕ) → Among (kids_of t.nodes mount) q → q < t.next
  member-low q among = elim (cases_lt q t.next) [
    | inl low ↦ low
    | inr high ↦
        (let own = member t h mount is q among in
        let none : entry_of t.nodes q ≡ None = h.lists.above q high in
        let some : entry_of t.nodes q ≡ Some own.0 = own.1 in
        absurd cc)
  ]

  module _ (xs : List (List ℕ)) (g : ℕ → List ℕ) (same : (q : ℕ) → g q ≡ with_names (documents t h mount is xs) (name_of t.nodes) q) where
    pub low-name : (q : ℕ) → q < t.next → g q ≡ name_of t.nodes q
    low-name q low = same q ∙ named-low (more t h mount is xs) t.next mount q (name_of t.nodes) low

    -- the new list has these names
    pub names-redone : map g (numbers_from (find t h mount is) t.next xs) ≡ xs
    names-redone = number-names (find t h mount is) g xs t.next
        (λ x n in_it found. let own = find-member t h mount is x n found in low-name n (member-low n own.0) ∙ own.1)
        (names-same (more t h mount is xs) t.next (with_names (documents t h mount is xs) (name_of t.nodes)) g (λ q high low. same q) (named-follow (more t h mount is xs) t.next mount (name_of t.nodes)))

    pub rise-redone : do_names_rise xs ≡ true → NamesRise g (numbers_from (find t h mount is) t.next xs)
    rise-redone rise = names-rise g (numbers_from (find t h mount is) t.next xs) (ap do_names_rise names-redone ∙ rise)

    pub dropped-told : (q : ℕ) → is_dropped g (kids_of t.nodes mount) (numbers_from (find t h mount is) t.next xs) q ≡ leaves t h mount is xs q
    dropped-told q = elim (has (kids_of t.nodes mount) q) as (λ b. has (kids_of t.nodes mount) q ≡ b → (b && is_none (first_named g (numbers_from (find t h mount is) t.next xs) (g q))) ≡ (b && not (is_among xs (name_of t.nodes q)))) [
      | true ↦ (λ in_it.
          found-map g (numbers_from (find t h mount is) t.next xs) (g q)
          ∙ ap (λ (ys : List (List ℕ)). not (is_among ys (g q))) names-redone
          ∙ ap (λ (x : List ℕ). not (is_among xs x)) (low-name q (member-low q (has-among (kids_of t.nodes mount) q in_it))))
      | false ↦ (λ out. refl)
    ] refl

  -- what is under each number once they are put, where the same is found
  module _ (xs : List (List ℕ)) (f : List ℕ → Option ℕ) (same : f ≡ find t h mount is) where
    pub entries-put : (at old : ℕ → Option Entry) → ((q : ℕ) → old q ≡ entry_of t.nodes q) → ((q : ℕ) → at q ≡ with_entries (documents_from t.next mount (unknown f xs)) old q) → (q : ℕ) → at q ≡ with_entries (documents t h mount is xs) (entry_of t.nodes) q
    entries-put at old before told q =
        told q ∙ (λ i. with_entries (documents_from t.next mount (unknown (same i) xs)) old q)
        ∙ over-same (documents t h mount is xs) (entry_of t.nodes) old before q

    pub names-put : (g old : ℕ → List ℕ) → ((q : ℕ) → old q ≡ name_of t.nodes q) → ((q : ℕ) → g q ≡ with_names (documents_from t.next mount (unknown f xs)) old q) → (q : ℕ) → g q ≡ with_names (documents t h mount is xs) (name_of t.nodes) q
    names-put g old before told q =
        told q ∙ (λ i. with_names (documents_from t.next mount (unknown (same i) xs)) old q)
        ∙ named-same (documents t h mount is xs) (name_of t.nodes) old before q

-- What is seen of a mount.

module _ (t : Inside) (s : Seen) (view : seen_of t ≡ s) (mount : ℕ) where
  pub mount-inside : is_mount_at s.state.entries mount ≡ true → is_mount_at (state_of t).entries mount ≡ true
  mount-inside is = subst (λ (x : Seen). is_mount_at x.state.entries mount ≡ true) (sym view) is

  module _ (h : IsShaped t) (is : is_mount_at (state_of t).entries mount ≡ true) where
    -- what is found among its children is what it has
    pub finds : (g : ℕ → List ℕ) (known : List ℕ) → ((q : ℕ) → g q ≡ name_of t.nodes q) → known ≡ kids_of t.nodes mount → first_named g known ≡ find t h mount is
    finds g known same told = λ i x. (
        found-same (name_of t.nodes) g known x (λ n among. same n)
        ∙ ap (λ (ns : List ℕ). first_named (name_of t.nodes) ns x) told
        ∙ sym (child-named t h mount x)) i

    -- the numbers that were prepared
    pub ready-inside : (xs : List (List ℕ)) → s.ready ≡ Sync mount (numbers_for s.state mount xs) → t.ready ≡ Sync mount (numbers_from (find t h mount is) t.next xs)
    ready-inside xs ready = ap (λ (x : Seen). x.ready) view ∙ ready ∙ ap (λ (x : Seen). Sync mount (numbers_for x.state mount xs)) (sym view)

    pub spare-inside : (xs : List (List ℕ)) → s.ready ≡ Sync mount (numbers_for s.state mount xs) → (q : ℕ) → Among (numbers_from (find t h mount is) t.next xs) q → has_node t.nodes q ≡ true
    spare-inside xs ready = subst (λ (r : Ready). HasSpare r t.nodes t.next) (ready-inside xs ready) h.spare
