use Rattle.std.proofs.Common.{◌≡◌, ◌<◌, ℕ, List, [], Bool, true, false, length, cond, ap, subst, sym, refl, ◌∙◌}
use Rattle.std.specs.Prelude.{nat_eq, remove, Option, None, IsSome}
use Rattle.hac_model.specs.Tree.Mounting.{is_of_mount, without_such}
use Rattle.hac_model.specs.Tree.{is_mount_at}
use Rattle.hac_model.specs.Tree.Valid.{IsLayout}
use Rattle.hac_model.specs.declared.states.Entry.{Entry}
use Rattle.tree_nodes.specs.Documents.{is_dropped}
use Rattle.tree_nodes.specs.Nodes.{entry_of, has_node, kids_of, name_of}
use Rattle.file_tree.specs.Seen.{Seen}
use Rattle.file_tree.specs.Shape.{HasSpare, seen_of, state_of}
use Rattle.tree_nodes.specs.Search.{NamesRise}
use Rattle.file_tree.specs.declared.ready.Ready.{Ready}
use Rattle.file_tree.specs.declared.ready.Ready.TheVariants.{Nothing}
use Rattle.file_tree.specs.declared.tree.Tree.TheInside.{Inside}
use Rattle.file_tree.proofs.UnmountLemmas.{IsUnmounted, apart, clean-unmounted, inside, shaped-unmounted, state-unmounted}
use Rattle.file_tree.proofs.StateLemmas.{entry-listed}
use Rattle.file_tree.proofs.DroppedLemmas.{mount-inside}
use Rattle.tree_nodes.proofs.ListLemmas.{rises-same}
use Rattle.file_tree.proofs.MountLemmas.{dirty-same}
use Rattle.tree_nodes.proofs.SetLemmas.{set-there}
use Rattle.file_tree.proofs.SyncLemmas.{mount-entry}
use Rattle.file_tree.proofs.TreeLemmas.{became, set-dirty}
use Rattle.tiered_list.specs.Listed.{Listed}
use Rattle.file_tree.proofs.tree.Tree.unmount.Goals as goal

pub parent_at-parent-requires : goal.parent_at-parent-requires
parent_at-parent-requires c =
    let view = c.self.view_is ∙ c.forget.ensures in
    let is : is_mount_at (state_of c.self.inside).entries c.args.mount ≡ true = subst (λ (x : Seen). is_mount_at x.state.entries c.args.mount ≡ true) (sym view) c.requires.mount in
    let entry = mount-entry c.self.inside c.self.invariant.shaped c.args.mount is in
    subst (λ (o : Option Entry). IsSome o) (sym entry.1) refl

pub drop_child-requires : goal.drop_child-requires
drop_child-requires c =
    subst (λ (i : ℕ). i < length (kids_of c.self.inside.nodes c.parent_at-parent.result)) (sym (c.place_at-place.ensures (c.self.invariant.shaped.lists.rises c.parent_at-parent.result)))
    (entry-listed c.self.inside (record { state = c.args.self.now.state; ready = Nothing }) (c.self.view_is ∙ c.forget.ensures) c.self.invariant.shaped c.args.mount c.parent_at-parent.result c.parent_at-parent.ensures)

pub take_dropped-requires-clause-rise : goal.take_dropped-requires-clause-rise
take_dropped-requires-clause-rise c =
    let t = c.self.inside in
    let h = c.self.invariant.shaped in
    let is = mount-inside t (record { state = c.args.self.now.state; ready = Nothing }) (c.self.view_is ∙ c.forget.ensures) c.args.mount c.requires.mount in
    let outside = apart t h c.args.mount is c.parent_at-parent.result c.parent_at-parent.ensures in
    let known : c.items.result ≡ kids_of t.nodes c.args.mount =
    c.items.ensures ∙ c.put_children.ensures.given ∙ c.drop_child.ensures.list.kids c.args.mount
    ∙ set-there c.parent_at-parent.result (remove (kids_of t.nodes c.parent_at-parent.result) c.place_at-place.result) (kids_of t.nodes) c.args.mount (λ same. outside (sym same)) in
    subst (λ (ns : List ℕ). NamesRise (name_of c.put_children.new.nodes) ns) (sym known)
    (rises-same (name_of t.nodes) (name_of c.put_children.new.nodes) (kids_of t.nodes c.args.mount) (λ n among. c.put_children.ensures.list.names n ∙ c.drop_child.ensures.list.names n) (h.lists.rises c.args.mount))

pub take_dropped-requires-clause-kept_rise : goal.take_dropped-requires-clause-kept_rise
take_dropped-requires-clause-kept_rise c = subst (λ (ns : List ℕ). NamesRise (name_of c.put_children.new.nodes) ns) (sym c.from_slice.ensures) tt

module _ (c : goal.After-drop-documents-inside-2) where
  abbrev u : Inside
  u = record c.self.inside { nodes = c.take_out.new.nodes; counts = c.args.counts }

  abbrev s : Seen
  s = record { state = c.args.self.now.state; ready = Nothing }

  view : seen_of c.self.inside ≡ record { state = c.args.self.now.state; ready = Nothing }
  view = c.self.view_is ∙ c.forget.ensures

  is : is_mount_at (state_of c.self.inside).entries c.args.mount ≡ true
  is = mount-inside c.self.inside (record { state = c.args.self.now.state; ready = Nothing }) view c.args.mount c.requires.mount

  known : c.items.result ≡ kids_of c.self.inside.nodes c.args.mount
  known =
      c.items.ensures ∙ c.put_children.ensures.given ∙ c.drop_child.ensures.list.kids c.args.mount
      ∙ set-there c.parent_at-parent.result (remove (kids_of c.self.inside.nodes c.parent_at-parent.result) c.place_at-place.result) (kids_of c.self.inside.nodes) c.args.mount
      (λ same. apart c.self.inside c.self.invariant.shaped c.args.mount is c.parent_at-parent.result c.parent_at-parent.ensures (sym same))

  abbrev out : ℕ → Bool
  out = inside c.self.inside c.self.invariant.shaped c.args.mount is c.parent_at-parent.result c.parent_at-parent.ensures

  dropped : (q : ℕ) → is_dropped (name_of c.put_children.new.nodes) c.items.result c.from_slice.result q ≡ inside c.self.inside c.self.invariant.shaped c.args.mount is c.parent_at-parent.result c.parent_at-parent.ensures q
  dropped q = (λ i. is_dropped (name_of c.put_children.new.nodes) (known i) (c.from_slice.ensures i) q)

  gone : IsUnmounted c.self.inside c.self.invariant.shaped c.args.mount is c.parent_at-parent.result c.parent_at-parent.ensures u
  gone = record {
    next = refl;
    version = refl;
    entries = λ q.
        c.take_out.ensures.entries q
        ∙ ap (λ (o : Option Entry). cond (nat_eq c.args.mount q) None o) (
        c.take_dropped.ensures.entries q
        ∙ ap (λ (b : Bool). cond {A = Option Entry} b None (entry_of c.put_children.new.nodes q)) (dropped q)
        ∙ ap (λ (o : Option Entry). cond (out q) None o) (c.put_children.ensures.list.entries q ∙ c.drop_child.ensures.list.entries q));
    named = λ q other stays. c.take_out.ensures.names q other ∙ c.take_dropped.ensures.names q (dropped q ∙ stays) ∙ c.put_children.ensures.list.names q ∙ c.drop_child.ensures.list.names q;
    lists = λ d.
        c.take_out.ensures.kids d
        ∙ ap (λ (ns : List ℕ). cond (nat_eq c.args.mount d) [] ns) (
        c.take_dropped.ensures.kids d
        ∙ ap (λ (b : Bool). cond {A = List ℕ} b [] (kids_of c.put_children.new.nodes d)) (dropped d)
        ∙ ap (λ (ns : List ℕ). cond (out d) [] ns) (
        c.put_children.ensures.list.kids d
        ∙ ap (λ (ns : List ℕ). cond (nat_eq c.args.mount d) ns (kids_of c.drop_child.new.nodes d)) (ap (λ (x : Listed). x.items) c.new-documents.ensures)
        ∙ ap (λ (ns : List ℕ). cond (nat_eq c.args.mount d) [] ns) (
        c.drop_child.ensures.list.kids d
        ∙ ap (λ (i : ℕ). cond (nat_eq c.parent_at-parent.result d) (remove (kids_of c.self.inside.nodes c.parent_at-parent.result) i) (kids_of c.self.inside.nodes d)) (c.place_at-place.ensures (c.self.invariant.shaped.lists.rises c.parent_at-parent.result)))));
    numbers = λ q.
        c.take_out.ensures.numbers q
        ∙ ap (λ (b : Bool). cond (nat_eq c.args.mount q) false b) (
        c.take_dropped.ensures.numbers q
        ∙ ap (λ (b : Bool). cond b false (has_node c.put_children.new.nodes q)) (dropped q)
        ∙ ap (λ (b : Bool). cond (out q) false b) (c.put_children.ensures.list.numbers q ∙ c.drop_child.ensures.list.numbers q));
  }

  state : state_of u ≡ without_such (is_of_mount c.args.mount) c.args.self.now.state
  state =
      state-unmounted c.self.inside c.self.invariant.shaped c.args.mount is c.parent_at-parent.result c.parent_at-parent.ensures u gone
      ∙ ap (λ (x : Seen). without_such (is_of_mount c.args.mount) x.state) view

pub returns : goal.returns
returns c = λ i. record { state = state c i; ready = ap (λ (x : Seen). x.ready) (view c) i }

pub invariant_of-self : goal.invariant_of-self
invariant_of-self c =
    let h = c.self.invariant.shaped in
    let after = without_such (is_of_mount c.args.mount) c.args.self.now.state in
    let shaped = shaped-unmounted c.self.inside h c.args.mount (is c) c.parent_at-parent.result c.parent_at-parent.ensures (u c) (gone c) (subst IsLayout (sym (state c)) c.requires.may.layout)
    (subst (λ (r : Ready). HasSpare r c.take_out.new.nodes c.self.inside.next) (sym (ap (λ (x : Seen). x.ready) (view c))) tt) in
    became (u c) after (returns c) shaped c.requires.may.counts_are
    (λ n.
    set-dirty c.self.inside (s c) (view c) c.self.invariant refl n
    ∙ dirty-same c.self.inside (s c) (view c) h (u c) after shaped (state c) (clean-unmounted c.self.inside h c.args.mount (is c) c.parent_at-parent.result c.parent_at-parent.ensures (u c) (gone c)) n)
