-- What a tree keeps after a change, given what is under each number before and after.
use Rattle.std.proofs.Common.{◌≡◌, ℕ, ◌+◌, ◌<◌, ◌≤◌, Bool, true, false, cond, List, [], length, subst, refl, ap, sym, ◌∙◌, arith, inl, inr}
use Rattle.std.specs.Prelude.{nat_eq, insert, remove, Option, Some, None, IsSome}
use Rattle.std.specs.Option.{option_map}
use Rattle.std.specs.Str.{bytes_eq}
use Rattle.std.proofs.lemmas.Slice.Eq.{bytes_eq-Decides}
use Rattle.std.proofs.lemmas.Bool.{cases_Bool, cases_eq, ne_eqb}
use Rattle.hac_model.specs.Tree.Depends.{Among}
use Rattle.hac_model.specs.Tree.Events.{added, changed_at, edited, removed, reseated}
use Rattle.hac_model.specs.Tree.{child, entry_at, is_directory_at, path_of}
use Rattle.hac_model.specs.Tree.Valid.{IsLayout}
use Rattle.hac_model.specs.declared.states.Body.{Body}
use Rattle.hac_model.specs.declared.states.Entry.{Entry}
use Rattle.hac_model.specs.declared.states.State.{State}
use Rattle.hac_model.specs.declared.versions.Version.{Version}
use Rattle.hac_model.proofs.PathLemmas.{parent-directory, path_of-deeper}
use Rattle.hac_model.proofs.TreeLemmas.{Lives, child-own, directory-lives, entry_at-below, rise-below}
use Rattle.file_tree.specs.Shape.{entries_below, HasNoOther, HasSpare, IsShaped, AreNested, seen_of, state_of}
use Rattle.tree_nodes.specs.Nodes.{entry_of, has_node, kids_of, name_of, set_at, parent_in}
use Rattle.tree_nodes.specs.Search.{rank_in}
use Rattle.file_tree.specs.Seen.{Seen}
use Rattle.file_tree.specs.declared.tree.Tree.TheInside.{Inside}
use Rattle.file_tree.proofs.BelowLemmas.{below-added, below-all, below-changed, below-removed, below-same}
use Rattle.file_tree.proofs.ChildLemmas.{entry-node, name-told, parent-told}
use Rattle.tree_nodes.proofs.ListLemmas.{none-among, rank-inside}
use Rattle.file_tree.proofs.ReadLemmas.{entry_of-number, none-there, seen-at, seen-entry}
use Rattle.file_tree.proofs.ShapeLemmas.{none-standing, tree-linked, tree-same, tree-unlinked}
use Rattle.tree_nodes.proofs.SetLemmas.{set-here, set-there}

abbrev pub state_with : Version → ℕ → List Entry → State
state_with version next entries = record { version = version; next = next; entries = entries; sessions = [] }

-- what is there after a change of one entry
abbrev pub touched_at : ℕ → (Entry → Entry) → (ℕ → Option Entry) → ℕ → Option Entry
touched_at n change at q = cond (nat_eq n q) (option_map change (at q)) (at q)

parent-edited : (b : Bool) (edit : Body → Body) (found : Option Entry) → parent_in (cond b (option_map (edited edit) found) found) ≡ parent_in found
parent-edited true edit None = refl
parent-edited true edit (Some e) = refl
parent-edited false edit found = refl

module _ (t : Inside) (s : Seen) (view : seen_of t ≡ s) (h : IsShaped t) (u : Inside) where
  seen-state : state_of t ≡ s.state
  seen-state = ap (λ (x : Seen). x.state) view

  -- the entries stay
  pub state-same : u.next ≡ t.next → u.version ≡ t.version → ((n : ℕ) → entry_of u.nodes n ≡ entry_of t.nodes n) → state_of u ≡ s.state
  state-same next version told =
      (λ i. state_with (version i) (next i) (entries_below (next i) (entry_of u.nodes)))
      ∙ ap (λ (es : List Entry). state_with t.version t.next es) (below-same t.next (entry_of t.nodes) (entry_of u.nodes) (λ n low. told n))
      ∙ seen-state

  -- an entry is changed
  pub state-changed : (m : ℕ) (change : Entry → Entry) → u.next ≡ t.next → u.version ≡ t.version → ((n : ℕ) → entry_of u.nodes n ≡ touched_at m change (entry_of t.nodes) n) → state_of u ≡ changed_at s.state m change
  state-changed m change next version told =
      (λ i. state_with (version i) (next i) (entries_below (next i) (entry_of u.nodes)))
      ∙ ap (λ (es : List Entry). state_with t.version t.next es) (below-changed t.next (entry_of t.nodes) (entry_of u.nodes) m change (entry_of-number t.nodes) told)
      ∙ ap (λ (x : State). changed_at x m change) seen-state

  -- an entry is taken out
  pub state-removed : (m : ℕ) → u.next ≡ t.next → u.version ≡ t.version → ((n : ℕ) → entry_of u.nodes n ≡ set_at m None (entry_of t.nodes) n) → state_of u ≡ removed s.state m
  state-removed m next version told =
      (λ i. state_with (version i) (next i) (entries_below (next i) (entry_of u.nodes)))
      ∙ ap (λ (es : List Entry). state_with t.version t.next es) (below-removed t.next (entry_of t.nodes) (entry_of u.nodes) m (entry_of-number t.nodes) told)
      ∙ ap (λ (x : State). removed x m) seen-state

  -- an entry is added
  pub state-added : (dir : ℕ) (name : List ℕ) (body : Body) → u.next ≡ t.next + 1 → u.version ≡ t.version → ((n : ℕ) → entry_of u.nodes n ≡ set_at t.next (Some (record { number = t.next; parent = dir; name = name; body = body })) (entry_of t.nodes) n) → state_of u ≡ added s.state dir name body
  state-added dir name body next version told =
      (λ i. state_with (version i) (next i) (entries_below (next i) (entry_of u.nodes)))
      ∙ ap (λ (es : List Entry). state_with t.version (t.next + 1) es) (below-added t.next (entry_of t.nodes) (entry_of u.nodes) (record { number = t.next; parent = dir; name = name; body = body }) told)
      ∙ ap (λ (x : State). added x dir name body) seen-state

  -- the root has its node still
  root-there : ((n : ℕ) → n < t.next → has_node u.nodes n ≡ has_node t.nodes n) → has_node u.nodes 0 ≡ true
  root-there numbers = numbers 0 (rise-below 0 (state_of t).entries t.next h.layout.numbers) ∙ h.root

  -- no number that was taken got a node and no entry
  none-other : u.next ≡ t.next → ((n : ℕ) → n < t.next → has_node u.nodes n ≡ has_node t.nodes n) → ((n : ℕ) → entry_of u.nodes n ≡ None → entry_of t.nodes n ≡ None) → HasNoOther u.nodes u.next
  none-other next numbers none n root low gone = let below : n < t.next = subst (λ (k : ℕ). n < k) next low in numbers n below ∙ h.others n root below (none n gone)

  -- the tree keeps what it kept where neither parents nor children changed
  pub shaped-same : u.next ≡ t.next → u.version ≡ t.version → ((n : ℕ) → parent_in (entry_of u.nodes n) ≡ parent_in (entry_of t.nodes n)) → ((dir n : ℕ) → parent_in (entry_of t.nodes n) ≡ Some dir → name_of u.nodes n ≡ name_of t.nodes n) → ((dir : ℕ) → kids_of u.nodes dir ≡ kids_of t.nodes dir) →
      ((n : ℕ) → n < t.next → has_node u.nodes n ≡ has_node t.nodes n) → IsLayout (state_of u) → HasSpare u.ready u.nodes u.next → IsShaped u
  shaped-same next version parents names kids numbers layout spare = record {
    lists = subst (λ (k : ℕ). AreNested k (entry_of u.nodes) (name_of u.nodes) (kids_of u.nodes)) (sym next)
        (tree-same t.next (entry_of t.nodes) (entry_of u.nodes) (name_of t.nodes) (name_of u.nodes) (kids_of t.nodes) (kids_of u.nodes) h.lists parents names kids);
    layout = layout;
    root = root-there numbers;
    spare = spare;
    others = none-other next numbers (λ n gone. none-standing (entry_of t.nodes n) (sym (parents n) ∙ ap parent_in gone));
  }

  -- a body is edited
  pub shaped-edited : (m : ℕ) (edit : Body → Body) → u.next ≡ t.next → u.version ≡ t.version → ((n : ℕ) → entry_of u.nodes n ≡ touched_at m (edited edit) (entry_of t.nodes) n) → ((n : ℕ) → name_of u.nodes n ≡ name_of t.nodes n) → ((dir : ℕ) → kids_of u.nodes dir ≡ kids_of t.nodes dir) →
      ((n : ℕ) → has_node u.nodes n ≡ has_node t.nodes n) → IsLayout (changed_at s.state m (edited edit)) → HasSpare u.ready u.nodes u.next → IsShaped u
  shaped-edited m edit next version told names kids numbers layout spare =
      shaped-same next version (λ n. ap parent_in (told n) ∙ parent-edited (nat_eq m n) edit (entry_of t.nodes n)) (λ dir n stands. names n) kids (λ n other. numbers n)
      (subst IsLayout (sym (state-changed m (edited edit) next version told)) layout) spare

  -- a number that has an entry is below the next one
  pub entry-low : (n : ℕ) (e : Entry) → entry_of t.nodes n ≡ Some e → n < t.next
  entry-low n e found = entry_at-below 0 (state_of t).entries t.next n e h.layout.numbers (seen-entry t h n ∙ found)

  -- nodes that are no entries are under numbers that weren't taken
  pub shaped-prepared : u.next ≡ t.next → u.version ≡ t.version → ((n : ℕ) → entry_of u.nodes n ≡ entry_of t.nodes n) → ((n : ℕ) → n < t.next → name_of u.nodes n ≡ name_of t.nodes n) → ((dir : ℕ) → kids_of u.nodes dir ≡ kids_of t.nodes dir) →
      ((n : ℕ) → n < t.next → has_node u.nodes n ≡ has_node t.nodes n) → HasSpare u.ready u.nodes u.next → IsShaped u
  shaped-prepared next version told names kids numbers spare =
      shaped-same next version (λ n. ap parent_in (told n))
      (λ dir n stands.
      let found = parent-told (entry_of t.nodes n) dir stands in
      names n (entry-low n found.0 found.1))
      kids numbers (subst IsLayout (sym (state-same next version told)) (subst (λ (x : Seen). IsLayout x.state) view h.layout)) spare

  -- a directory has a node, and its number is below the next one
  pub directory-there : (dir : ℕ) → is_directory_at s.state.entries dir ≡ true → (has_node t.nodes dir ≡ true) × (dir < t.next)
  directory-there dir is = by_life (directory-lives (state_of t).entries dir (subst (λ (x : Seen). is_directory_at x.state.entries dir ≡ true) (sym view) is))
    where
      by_life : Lives (state_of t).entries dir → (has_node t.nodes dir ≡ true) × (dir < t.next)
      by_life (inl root) = (
        ap (λ (n : ℕ). has_node t.nodes n) root ∙ h.root,
        let positive : 0 < t.next = rise-below 0 (state_of t).entries t.next h.layout.numbers in omega arith,
      )
      by_life (inr found) =
          let there : entry_of t.nodes dir ≡ Some found.0 = sym (seen-entry t h dir) ∙ found.1 in
          (entry-node t.nodes dir found.0 there, entry-low dir found.0 there)

-- two entries of a sound layout in one directory under one name are one
pub apart : (u : Inside) → IsLayout (state_of u) → ((n : ℕ) → u.next ≤ n → entry_of u.nodes n ≡ None) → (m n : ℕ) (e f : Entry) → entry_of u.nodes m ≡ Some e → entry_of u.nodes n ≡ Some f → e.parent ≡ f.parent → e.name ≡ f.name → m ≡ n
apart u layout above m n e f found other parents names =
    let both : Some m ≡ Some n =
    sym (child-own (state_of u).entries m e layout.differ (below-all u.next (entry_of u.nodes) m (entry_of-number u.nodes) above ∙ found))
    ∙ ap (λ (d : ℕ). child (state_of u).entries d e.name) parents
    ∙ ap (λ (x : List ℕ). child (state_of u).entries f.parent x) names
    ∙ child-own (state_of u).entries n f layout.differ (below-all u.next (entry_of u.nodes) n (entry_of-number u.nodes) above ∙ other) in
    cc

module _ (t : Inside) (s : Seen) (view : seen_of t ≡ s) (h : IsShaped t) (u : Inside) where
  -- an entry is added
  pub shaped-added : (dir : ℕ) (name : List ℕ) (body : Body) → u.next ≡ t.next + 1 → u.version ≡ t.version → ((n : ℕ) → entry_of u.nodes n ≡ set_at t.next (Some (record { number = t.next; parent = dir; name = name; body = body })) (entry_of t.nodes) n) →
      ((n : ℕ) → name_of u.nodes n ≡ set_at t.next name (name_of t.nodes) n) → ((d : ℕ) → kids_of u.nodes d ≡ set_at dir (insert (kids_of t.nodes dir) (rank_in (name_of t.nodes) name (kids_of t.nodes dir)) t.next) (kids_of t.nodes) d) →
      ((n : ℕ) → has_node u.nodes n ≡ has_node t.nodes n) → dir < t.next → IsLayout (added s.state dir name body) → HasSpare u.ready u.nodes u.next → IsShaped u
  shaped-added dir name body next version told names kids numbers low layout spare = record {
    lists = subst (λ (k : ℕ). AreNested k (entry_of u.nodes) (name_of u.nodes) (kids_of u.nodes)) (sym next)
        (tree-same (t.next + 1) (set_at t.next (Some new) (entry_of t.nodes)) (entry_of u.nodes) (set_at t.next name (name_of t.nodes)) (name_of u.nodes) (set_at dir (insert (kids_of t.nodes dir) (rank_in (name_of t.nodes) name (kids_of t.nodes dir)) t.next) (kids_of t.nodes)) (kids_of u.nodes) linked
        (λ n. ap parent_in (told n)) (λ d n stands. names n) kids);
    layout = sound;
    root = numbers 0 ∙ h.root;
    spare = spare;
    others = λ n root ahead gone. numbers n ∙ h.others n root (before n (subst (λ (k : ℕ). n < k) next ahead) (new-there n gone)) (sym (set-there t.next (Some new) (entry_of t.nodes) n (λ same. new-there n gone (sym same))) ∙ sym (told n) ∙ gone);
  }
    where
      new : Entry
      new = record { number = t.next; parent = dir; name = name; body = body }

      sound : IsLayout (state_of u)
      sound = subst IsLayout (sym (state-added t s view h u dir name body next version told)) layout

      here : entry_of u.nodes t.next ≡ Some new
      here = told t.next ∙ set-here t.next (Some new) (entry_of t.nodes)

      new-there : (n : ℕ) → entry_of u.nodes n ≡ None → n ≡ t.next → ⊥
      new-there n gone same = let none : Some new ≡ None = sym here ∙ ap (λ (k : ℕ). entry_of u.nodes k) (sym same) ∙ gone in cc

      before : (n : ℕ) → n < t.next + 1 → (n ≡ t.next → ⊥) → n < t.next
      before n low other = omega arith

      above : (n : ℕ) → u.next ≤ n → entry_of u.nodes n ≡ None
      above n high = let more : t.next + 1 ≤ n = subst (λ (k : ℕ). k ≤ n) next high in told n ∙ set-there t.next (Some new) (entry_of t.nodes) n (λ same. omega arith) ∙ h.lists.above n (omega arith)

      free : (m : ℕ) → Among (kids_of t.nodes dir) m → bytes_eq (name_of t.nodes m) name ≡ false
      free m among = elim (cases_Bool (bytes_eq (name_of t.nodes m) name)) [
        | inr other ↦ other
        | inl same ↦
            (let found = parent-told (entry_of t.nodes m) dir (h.lists.listed dir m among) in
            let less : m < t.next = entry-low t s view h u m found.0 found.1 in
            let there : entry_of u.nodes m ≡ Some found.0 = told m ∙ set-there t.next (Some new) (entry_of t.nodes) m (λ is. omega arith) ∙ found.1 in
            let one : m ≡ t.next = apart u sound above m t.next found.0 new there here found.2 (sym (name-told t.nodes m found.0 found.1) ∙ (bytes_eq-Decides (name_of t.nodes m) name).0 same) in
            absurd (omega arith))
      ]

      linked : AreNested (t.next + 1) (set_at t.next (Some new) (entry_of t.nodes)) (set_at t.next name (name_of t.nodes)) (set_at dir (insert (kids_of t.nodes dir) (rank_in (name_of t.nodes) name (kids_of t.nodes dir)) t.next) (kids_of t.nodes))
      linked = tree-linked t.next (t.next + 1) (entry_of t.nodes) (name_of t.nodes) (kids_of t.nodes) t.next dir new name h.lists (h.lists.above t.next (omega arith)) (rise-below 0 (state_of t).entries t.next h.layout.numbers) (omega arith) (omega arith) (omega arith) refl free

  -- an entry is taken out, with its list, which is empty
  pub shaped-removed : (n dir : ℕ) → u.next ≡ t.next → u.version ≡ t.version → parent_in (entry_of t.nodes n) ≡ Some dir → ((q : ℕ) → entry_of u.nodes q ≡ set_at n None (entry_of t.nodes) q) → ((q : ℕ) → nat_eq n q ≡ false → name_of u.nodes q ≡ name_of t.nodes q) →
      ((d : ℕ) → kids_of u.nodes d ≡ set_at n [] (set_at dir (remove (kids_of t.nodes dir) (rank_in (name_of t.nodes) (name_of t.nodes n) (kids_of t.nodes dir))) (kids_of t.nodes)) d) →
      ((q : ℕ) → has_node u.nodes q ≡ set_at n false (has_node t.nodes) q) → IsLayout (removed s.state n) → HasSpare u.ready u.nodes u.next → IsShaped u
  shaped-removed n dir next version stands told names kids numbers layout spare = record {
    lists = subst (λ (k : ℕ). AreNested k (entry_of u.nodes) (name_of u.nodes) (kids_of u.nodes)) (sym next)
        (tree-same t.next (set_at n None (entry_of t.nodes)) (entry_of u.nodes) (name_of t.nodes) (name_of u.nodes) cut (kids_of u.nodes) (tree-unlinked t.next (entry_of t.nodes) (name_of t.nodes) (kids_of t.nodes) n dir h.lists stands)
        (λ q. ap parent_in (told q)) (λ d q there. names q (ne_eqb n q (λ same.
        let none : parent_in (set_at n None (entry_of t.nodes) q) ≡ None = ap (λ (k : ℕ). parent_in (set_at n None (entry_of t.nodes) k)) (sym same) ∙ ap parent_in (set-here n None (entry_of t.nodes)) in
        let some : parent_in (set_at n None (entry_of t.nodes) q) ≡ Some d = there in cc)))
        (λ d. kids d ∙ bare d));
    layout = sound;
    root = numbers 0 ∙ set-there n false (has_node t.nodes) 0 (λ root. none-there (ap (λ (k : ℕ). entry_of t.nodes k) root ∙ h.lists.root) (subst IsSome (sym entry.1) refl)) ∙ h.root;
    spare = spare;
    others = λ q root ahead gone. numbers q ∙ (elim (cases_eq n q) [
      | inl same ↦ ap (λ (k : ℕ). set_at n false (has_node t.nodes) k) (sym same) ∙ set-here n false (has_node t.nodes)
      | inr other ↦ set-there n false (has_node t.nodes) q other ∙ h.others q root (subst (λ (k : ℕ). q < k) next ahead) (sym (set-there n None (entry_of t.nodes) q other) ∙ sym (told q) ∙ gone)
    ]);
  }
    where
      cut : ℕ → List ℕ
      cut = set_at dir (remove (kids_of t.nodes dir) (rank_in (name_of t.nodes) (name_of t.nodes n) (kids_of t.nodes dir))) (kids_of t.nodes)

      sound : IsLayout (state_of u)
      sound = subst IsLayout (sym (state-removed t s view h u n next version told)) layout

      above : (q : ℕ) → u.next ≤ q → entry_of u.nodes q ≡ None
      above q high = told q ∙ (elim (nat_eq n q) as (λ b. cond b None (entry_of t.nodes q) ≡ None) [ true ↦ refl | false ↦ h.lists.above q (subst (λ (k : ℕ). k ≤ q) next high) ])

      entry : (e : Entry) × (entry_of t.nodes n ≡ Some e) × (e.parent ≡ dir)
      entry = parent-told (entry_of t.nodes n) dir stands

      -- it isn't in itself
      outside : dir ≡ n → ⊥
      outside same =
          let deeper = path_of-deeper (state_of t) n entry.0 h.layout (seen-entry t h n ∙ entry.1) in
          let own : entry.0.parent ≡ n = entry.2 ∙ same in
          let never = subst (λ (k : ℕ). length (path_of (state_of t) n) ≡ length (path_of (state_of t) k) + 1) own deeper in
          omega arith

      -- nothing is in it
      nothing : (q : ℕ) → Among (kids_of t.nodes n) q → ⊥
      nothing q among =
          let found = parent-told (entry_of t.nodes q) n (h.lists.listed n q among) in
          let differs : n ≡ q → ⊥ = λ same. outside (let one : Some dir ≡ Some n = sym stands ∙ ap (λ (k : ℕ). parent_in (entry_of t.nodes k)) same ∙ h.lists.listed n q among in cc) in
          let there : entry_of u.nodes q ≡ Some found.0 = told q ∙ set-there n None (entry_of t.nodes) q differs ∙ found.1 in
          let is : is_directory_at (state_of u).entries n ≡ true = subst (λ (d : ℕ). is_directory_at (state_of u).entries d ≡ true) found.2 (parent-directory (state_of u) q found.0 sound (below-all u.next (entry_of u.nodes) q (entry_of-number u.nodes) above ∙ there)) in
          gone (directory-lives (state_of u).entries n is)
        where
          gone : Lives (state_of u).entries n → ⊥
          gone (inl root) =
              let none : entry_of t.nodes n ≡ None = ap (λ (k : ℕ). entry_of t.nodes k) root ∙ h.lists.root in
              let some : entry_of t.nodes n ≡ Some entry.0 = entry.1 in
              cc
          gone (inr found) =
              let none : entry_at (state_of u).entries n ≡ None = below-all u.next (entry_of u.nodes) n (entry_of-number u.nodes) above ∙ told n ∙ set-here n None (entry_of t.nodes) in
              let some : entry_at (state_of u).entries n ≡ Some found.0 = found.1 in
              cc

      bare : (d : ℕ) → set_at n [] cut d ≡ cut d
      bare d = elim (cases_eq n d) [
        | inl same ↦
            (let empty : kids_of t.nodes d ≡ [] = ap (λ (k : ℕ). kids_of t.nodes k) (sym same) ∙ none-among (kids_of t.nodes n) nothing in
            ap (λ (k : ℕ). set_at n [] cut k) (sym same) ∙ set-here n [] cut
            ∙ sym empty ∙ sym (set-there dir (remove (kids_of t.nodes dir) (rank_in (name_of t.nodes) (name_of t.nodes n) (kids_of t.nodes dir))) (kids_of t.nodes) d (λ is. outside (is ∙ sym same))))
        | inr other ↦ set-there n [] cut d other
      ]

module _ (t : Inside) (s : Seen) (view : seen_of t ≡ s) (h : IsShaped t) (n : ℕ) where
  -- an entry of the state has a node that says so
  pub entry-there : IsSome (entry_at s.state.entries n) → IsSome (entry_of t.nodes n)
  entry-there there = subst (λ (o : Option Entry). IsSome o) (seen-at t s view h n) there

  -- it is in the list of its directory
  pub entry-listed : (dir : ℕ) → parent_in (entry_of t.nodes n) ≡ Some dir → rank_in (name_of t.nodes) (name_of t.nodes n) (kids_of t.nodes dir) < length (kids_of t.nodes dir)
  entry-listed dir stands = rank-inside (name_of t.nodes) (kids_of t.nodes dir) n (h.lists.rises dir) (h.lists.lists dir n stands)

module _ (t : Inside) (s : Seen) (view : seen_of t ≡ s) (h : IsShaped t) (u : Inside) where
  -- an entry is moved
  pub shaped-moved : (n dir old : ℕ) (name : List ℕ) → u.next ≡ t.next → u.version ≡ t.version → parent_in (entry_of t.nodes n) ≡ Some old → ((q : ℕ) → entry_of u.nodes q ≡ touched_at n (reseated dir name) (entry_of t.nodes) q) → ((q : ℕ) → name_of u.nodes q ≡ set_at n name (name_of t.nodes) q) →
      (cut : ℕ → List ℕ) → ((d : ℕ) → cut d ≡ set_at old (remove (kids_of t.nodes old) (rank_in (name_of t.nodes) (name_of t.nodes n) (kids_of t.nodes old))) (kids_of t.nodes) d) →
      ((d : ℕ) → kids_of u.nodes d ≡ set_at dir (insert (cut dir) (rank_in (name_of t.nodes) name (cut dir)) n) cut d) →
      ((q : ℕ) → has_node u.nodes q ≡ has_node t.nodes q) → dir < t.next → IsLayout (changed_at s.state n (reseated dir name)) → HasSpare u.ready u.nodes u.next → IsShaped u
  shaped-moved n dir old name next version stands told names cut left kids numbers low layout spare = record {
    lists = subst (λ (k : ℕ). AreNested k (entry_of u.nodes) (name_of u.nodes) (kids_of u.nodes)) (sym next)
        (tree-same t.next (set_at n (Some new) (set_at n None (entry_of t.nodes))) (entry_of u.nodes) (set_at n name (name_of t.nodes)) (name_of u.nodes) (set_at dir (insert (cut dir) (rank_in (name_of t.nodes) name (cut dir)) n) cut) (kids_of u.nodes) linked parents (λ d q there. names q) kids);
    layout = sound;
    root = numbers 0 ∙ h.root;
    spare = spare;
    others = none-other t s view h u next (λ q other. numbers q) (λ q gone. untouched (nat_eq n q) (entry_of t.nodes q) (sym (told q) ∙ gone));
  }
    where
      entry : (e : Entry) × (entry_of t.nodes n ≡ Some e) × (e.parent ≡ old)
      entry = parent-told (entry_of t.nodes n) old stands

      new : Entry
      new = reseated dir name entry.0

      sound : IsLayout (state_of u)
      sound = subst IsLayout (sym (state-changed t s view h u n (reseated dir name) next version told)) layout

      untouched : (b : Bool) (found : Option Entry) → cond b (option_map (reseated dir name) found) found ≡ None → found ≡ None
      untouched b None none = refl
      untouched true (Some e) none = absurd cc
      untouched false (Some e) none = absurd cc

      above : (q : ℕ) → u.next ≤ q → entry_of u.nodes q ≡ None
      above q high =
          told q ∙ ap (λ (o : Option Entry). cond (nat_eq n q) (option_map (reseated dir name) o) o) (h.lists.above q (subst (λ (k : ℕ). k ≤ q) next high))
          ∙ (elim (nat_eq n q) as (λ b. cond b (option_map (reseated dir name) None) None ≡ None) [ true ↦ refl | false ↦ refl ])

      here : entry_of u.nodes n ≡ Some new
      here = told n ∙ set-here n (option_map (reseated dir name) (entry_of t.nodes n)) (entry_of t.nodes) ∙ ap (λ (o : Option Entry). option_map (reseated dir name) o) entry.1

      there : (q : ℕ) → (n ≡ q → ⊥) → entry_of u.nodes q ≡ entry_of t.nodes q
      there q other = told q ∙ set-there n (option_map (reseated dir name) (entry_of t.nodes q)) (entry_of t.nodes) q other

      parents : (q : ℕ) → parent_in (entry_of u.nodes q) ≡ parent_in (set_at n (Some new) (set_at n None (entry_of t.nodes)) q)
      parents q = ap parent_in (elim (cases_eq n q) [
        | inl same ↦
            ap (λ (k : ℕ). entry_of u.nodes k) (sym same) ∙ here ∙ sym (set-here n (Some new) (set_at n None (entry_of t.nodes)))
            ∙ ap (λ (k : ℕ). set_at n (Some new) (set_at n None (entry_of t.nodes)) k) same
        | inr other ↦ there q other ∙ sym (set-there n None (entry_of t.nodes) q other) ∙ sym (set-there n (Some new) (set_at n None (entry_of t.nodes)) q other)
      ])

      unlinked : AreNested t.next (set_at n None (entry_of t.nodes)) (name_of t.nodes) cut
      unlinked =
          let known = tree-unlinked t.next (entry_of t.nodes) (name_of t.nodes) (kids_of t.nodes) n old h.lists stands in
          tree-same t.next (set_at n None (entry_of t.nodes)) (set_at n None (entry_of t.nodes)) (name_of t.nodes) (name_of t.nodes) (set_at old (remove (kids_of t.nodes old) (rank_in (name_of t.nodes) (name_of t.nodes n) (kids_of t.nodes old))) (kids_of t.nodes)) cut known (λ q. refl) (λ d q there. refl) left

      free : (m : ℕ) → Among (cut dir) m → bytes_eq (name_of t.nodes m) name ≡ false
      free m among = elim (cases_Bool (bytes_eq (name_of t.nodes m) name)) [
        | inr other ↦ other
        | inl same ↦
            (let told_so : parent_in (set_at n None (entry_of t.nodes) m) ≡ Some dir = unlinked.listed dir m among in
            let differs : n ≡ m → ⊥ = λ is. (let none : parent_in (set_at n None (entry_of t.nodes) m) ≡ None = ap (λ (k : ℕ). parent_in (set_at n None (entry_of t.nodes) k)) (sym is) ∙ ap parent_in (set-here n None (entry_of t.nodes)) in cc) in
            let found = parent-told (entry_of t.nodes m) dir (ap parent_in (sym (set-there n None (entry_of t.nodes) m differs)) ∙ told_so) in
            let one : m ≡ n = apart u sound above m n found.0 new (there m differs ∙ found.1) here found.2 (sym (name-told t.nodes m found.0 found.1) ∙ (bytes_eq-Decides (name_of t.nodes m) name).0 same) in
            absurd (differs (sym one)))
      ]

      positive : 0 < n
      positive = elim (cases_eq n 0) [
        | inl root ↦
            (let none : entry_of t.nodes n ≡ None = ap (λ (k : ℕ). entry_of t.nodes k) root ∙ h.lists.root in
            let some : entry_of t.nodes n ≡ Some entry.0 = entry.1 in
            absurd cc)
        | inr other ↦ omega arith
      ]

      linked : AreNested t.next (set_at n (Some new) (set_at n None (entry_of t.nodes))) (set_at n name (name_of t.nodes)) (set_at dir (insert (cut dir) (rank_in (name_of t.nodes) name (cut dir)) n) cut)
      linked = tree-linked t.next t.next (set_at n None (entry_of t.nodes)) (name_of t.nodes) cut n dir new name unlinked (set-here n None (entry_of t.nodes)) positive (entry-low t s view h u n entry.0 entry.1) (omega arith) low refl free
