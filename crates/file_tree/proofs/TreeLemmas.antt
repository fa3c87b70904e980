-- What a tree keeps beside its nodes, after a change.
use Rattle.std.proofs.Common.{◌≡◌, ◌<◌, ◌≤◌, ℕ, true, false, subst, refl, ap, sym, arith, ◌∙◌}
use Rattle.std.specs.Prelude.{◌||◌, nat_eq, nat_lt}
use Rattle.std.specs.BTreeSet.{contains}
use Rattle.std.specs.Ordering.{nat_cmp}
use Rattle.std.proofs.Math.Bool.{or-false}
use Rattle.std.proofs.lemmas.Bool.{ne_eqb}
use Rattle.std.proofs.lemmas.Bool.Decides.{nat_tests}
use Rattle.hac_model.specs.declared.limits.TheConstants.{NUMBERS_LIMIT}
use Rattle.hac_model.proofs.LimitLemmas.{limits-within, most-numbers}
use Rattle.indexmap.specs.IndexMap.{IndexMap}
use Rattle.hac_model.specs.Tree.Events.{changed_at, edited}
use Rattle.hac_model.specs.Tree.Limits.{counts}
use Rattle.hac_model.specs.Tree.Valid.{IsLayout}
use Rattle.hac_model.specs.Tree.{is_directory_at}
use Rattle.hac_model.specs.declared.states.Body.{Body}
use Rattle.hac_model.specs.declared.states.State.{State}
use Rattle.file_tree.specs.Answers.{is_dirty_at}
use Rattle.tree_nodes.specs.Nodes.{entry_of, has_node, kids_of, name_of, spare_of}
use Rattle.file_tree.specs.Ready.{is_awaited}
use Rattle.file_tree.specs.Seen.{Seen}
use Rattle.file_tree.specs.Shape.{HasDocuments, HasPlace, HasSpare, IsShaped, IsTree, seen_of, state_of}
use Rattle.tree_nodes.specs.declared.nodes.Node.{Node}
use Rattle.file_tree.specs.declared.ready.Ready.{Ready}
use Rattle.file_tree.specs.declared.ready.Ready.TheVariants.{Nothing}
use Rattle.file_tree.specs.declared.tree.Tree.TheInside.{Inside}
use Rattle.file_tree.proofs.StateLemmas.{directory-there, shaped-edited, shaped-prepared, state-changed, state-same, touched_at}

-- the tree has become this state, and is ready for nothing
pub became : (u : Inside) (after : State) → seen_of u ≡ record { state = after; ready = Nothing } → IsShaped u → u.counts ≡ counts after → ((n : ℕ) → contains nat_cmp u.to_index n ≡ is_dirty_at after.entries n) → IsTree u
became u after seen shaped told dirty = record {
  shaped = shaped;
  counts_are = told ∙ ap (λ (x : Seen). counts x.state) (sym seen);
  dirty_are = λ n. dirty n ∙ sym (or-false (is_dirty_at after.entries n)) ∙ ap (λ (x : Seen). is_dirty_at x.state.entries n || is_awaited u.next x.ready n) (sym seen);
  documents_are = subst (λ (r : Ready). HasDocuments r u.next u.documents.items) (sym (ap (λ (x : Seen). x.ready) seen)) tt;
}

-- where nothing is awaited, the set has just what is dirty
pub set-clean : (t : Inside) → IsTree t → t.ready ≡ Nothing → (n : ℕ) → contains nat_cmp t.to_index n ≡ is_dirty_at (state_of t).entries n
set-clean t h none n = h.dirty_are n ∙ ap (λ r. is_dirty_at (state_of t).entries n || is_awaited t.next r n) none ∙ or-false (is_dirty_at (state_of t).entries n)

-- what is below the next number is another
pub other-below : (next n : ℕ) → n < next → nat_eq next n ≡ false
other-below next n low = ne_eqb next n (λ same. omega arith)

-- a tree with other nodes that are no entries, ready for another change
pub tree-readied : (t : Inside) → IsTree t → (u : Inside) → u.next ≡ t.next → u.version ≡ t.version → ((n : ℕ) → entry_of u.nodes n ≡ entry_of t.nodes n) → ((n : ℕ) → n < t.next → name_of u.nodes n ≡ name_of t.nodes n) → ((dir : ℕ) → kids_of u.nodes dir ≡ kids_of t.nodes dir) →
    ((n : ℕ) → n < t.next → has_node u.nodes n ≡ has_node t.nodes n) → HasSpare u.ready u.nodes u.next → u.counts ≡ t.counts →
    ((n : ℕ) → contains nat_cmp u.to_index n ≡ (is_dirty_at (state_of t).entries n || is_awaited t.next u.ready n)) → HasDocuments u.ready u.next u.documents.items → IsTree u
tree-readied t h u next version told names kids numbers spare same set documents =
    let state : state_of u ≡ state_of t = state-same t (seen_of t) refl h.shaped u next version told in
    record {
      shaped = shaped-prepared t (seen_of t) refl h.shaped u next version told names kids numbers spare;
      counts_are = same ∙ h.counts_are ∙ sym (ap counts state);
      dirty_are = λ n. set n ∙ (λ i. is_dirty_at (sym state i).entries n || is_awaited (sym next i) u.ready n);
      documents_are = documents;
    }

-- the same where only the next number has another node
pub tree-prepared : (t : Inside) → IsTree t → (u : Inside) → u.next ≡ t.next → u.version ≡ t.version → ((n : ℕ) → entry_of u.nodes n ≡ entry_of t.nodes n) → ((n : ℕ) → nat_eq t.next n ≡ false → name_of u.nodes n ≡ name_of t.nodes n) → ((dir : ℕ) → kids_of u.nodes dir ≡ kids_of t.nodes dir) →
    ((n : ℕ) → nat_eq t.next n ≡ false → has_node u.nodes n ≡ has_node t.nodes n) → HasSpare u.ready u.nodes u.next → u.counts ≡ t.counts →
    ((n : ℕ) → contains nat_cmp u.to_index n ≡ (is_dirty_at (state_of t).entries n || is_awaited t.next u.ready n)) → HasDocuments u.ready u.next u.documents.items → IsTree u
tree-prepared t h u next version told names kids numbers spare same set documents =
    tree-readied t h u next version told (λ n low. names n (other-below t.next n low)) kids (λ n low. numbers n (other-below t.next n low)) spare same set documents

-- numbers stay small
pub next-small : (t : Inside) → IsTree t → t.next ≤ NUMBERS_LIMIT
next-small t h = let low : nat_lt NUMBERS_LIMIT t.next ≡ false = most-numbers (state_of t) (limits-within (state_of t) h.shaped.layout.limits) in grind (arith, nat_tests, low)

-- A tree that is ready for nothing.

module _ (t : Inside) (state : State) (view : seen_of t ≡ record { state = state; ready = Nothing }) where
  pub ready-nothing : t.ready ≡ Nothing
  ready-nothing = ap (λ (x : Seen). x.ready) view

  -- what was prepared needn't be in it
  pub spare-nothing : {S : Type 0} (nodes : IndexMap ℕ Node S) (next : ℕ) → HasSpare t.ready nodes next
  spare-nothing nodes next = subst (λ (r : Ready). HasSpare r nodes next) (sym ready-nothing) tt

  -- a directory has a node, beside which others may have come
  pub directory-node : {S : Type 0} (nodes : IndexMap ℕ Node S) (dir : ℕ) → IsTree t → is_directory_at state.entries dir ≡ true → ((n : ℕ) → n < t.next → has_node nodes n ≡ has_node t.nodes n) → has_node nodes dir ≡ true
  directory-node nodes dir h is others =
      let there = directory-there t (record { state = state; ready = Nothing }) view h.shaped t dir is in
      others dir there.1 ∙ there.0

  -- a place for one more is in the list of one of its directories
  pub place-reserved : {S : Type 0} (nodes : IndexMap ℕ Node S) (dir : ℕ) → IsTree t → is_directory_at state.entries dir ≡ true → 0 < spare_of nodes dir → HasPlace dir nodes t.next
  place-reserved nodes dir h is place = (place, (directory-there t (record { state = state; ready = Nothing }) view h.shaped t dir is).1)

-- it is seen as this state, and keeps all
abbrev pub Became : Inside → State → Type 0
Became u after = (seen_of u ≡ record { state = after; ready = Nothing }) × IsTree u

module _ (t : Inside) (s : Seen) (view : seen_of t ≡ s) (h : IsTree t) where
  -- the set has what is dirty, and what is awaited
  pub set-has : (n : ℕ) → contains nat_cmp t.to_index n ≡ (is_dirty_at s.state.entries n || is_awaited s.state.next s.ready n)
  set-has n = h.dirty_are n ∙ ap (λ (x : Seen). is_dirty_at x.state.entries n || is_awaited x.state.next x.ready n) view

  -- where nothing is, it has just what is dirty
  pub set-dirty : s.ready ≡ Nothing → (n : ℕ) → contains nat_cmp t.to_index n ≡ is_dirty_at s.state.entries n
  set-dirty none n = set-has n ∙ ap (λ r. is_dirty_at s.state.entries n || is_awaited s.state.next r n) none ∙ or-false (is_dirty_at s.state.entries n)

  -- the body of an entry was edited
  pub tree-edited : (u : Inside) (m : ℕ) (edit : Body → Body) → u.next ≡ t.next → u.version ≡ t.version → u.ready ≡ Nothing → ((n : ℕ) → entry_of u.nodes n ≡ touched_at m (edited edit) (entry_of t.nodes) n) → ((n : ℕ) → name_of u.nodes n ≡ name_of t.nodes n) →
      ((dir : ℕ) → kids_of u.nodes dir ≡ kids_of t.nodes dir) → ((n : ℕ) → has_node u.nodes n ≡ has_node t.nodes n) → IsLayout (changed_at s.state m (edited edit)) → u.counts ≡ counts (changed_at s.state m (edited edit)) →
      ((n : ℕ) → contains nat_cmp u.to_index n ≡ is_dirty_at (changed_at s.state m (edited edit)).entries n) → Became u (changed_at s.state m (edited edit))
  tree-edited u m edit next version ready told names kids numbers layout same dirty =
      let seen : seen_of u ≡ record { state = changed_at s.state m (edited edit); ready = Nothing } = λ i. record { state = state-changed t s view h.shaped u m (edited edit) next version told i; ready = ready i } in
      let spare : HasSpare u.ready u.nodes u.next = subst (λ r. HasSpare r u.nodes u.next) (sym ready) tt in
      (seen, became u (changed_at s.state m (edited edit)) seen (shaped-edited t s view h.shaped u m edit next version told names kids numbers layout spare) same dirty)
