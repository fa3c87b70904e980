use Rattle.std.proofs.Common.{◌≡◌, ◌<◌, ℕ, List, Option, length, cond, ap, sym, subst, refl, ◌∙◌}
use Rattle.std.specs.Prelude.{◌||◌, nat_eq, insert, remove}
use Rattle.std.specs.Option.{option_map}
use Rattle.std.proofs.Math.Bool.{or-false}
use Rattle.hac_model.specs.Tree.Events.{changed_at, reseated}
use Rattle.hac_model.specs.declared.states.Entry.{Entry}
use Rattle.hac_model.specs.declared.states.State.{State}
use Rattle.file_tree.specs.Answers.{is_dirty_at}
use Rattle.tree_nodes.specs.Nodes.{entry_of, kids_of, name_of, set_at}
use Rattle.file_tree.specs.Ready.{is_awaited}
use Rattle.tree_nodes.specs.Search.{rank_in, NamesRise}
use Rattle.file_tree.specs.Seen.{Seen}
use Rattle.file_tree.specs.Shape.{HasPlace, HasSpare}
use Rattle.file_tree.specs.declared.ready.Ready.{Ready}
use Rattle.file_tree.specs.declared.ready.Ready.TheVariants.{Nothing}
use Rattle.file_tree.specs.declared.tree.Tree.TheInside.{Inside}
use Rattle.file_tree.proofs.DirtyLemmas.{dirty-kept}
use Rattle.tree_nodes.proofs.ListLemmas.{rank-same, rises-same}
use Rattle.file_tree.proofs.ShapeLemmas.{tree-unlinked}
use Rattle.file_tree.proofs.StateLemmas.{entry-listed, entry-there, shaped-moved, state-changed, touched_at}
use Rattle.file_tree.proofs.TreeLemmas.{became, set-has}
use Rattle.file_tree.proofs.tree.Tree.move_to.Goals as goal

pub parent_at-parent-requires : goal.parent_at-parent-requires
parent_at-parent-requires c = entry-there c.self.inside c.args.self.now c.self.view_is c.self.invariant.shaped c.args.entry c.requires.there

pub drop_child-requires : goal.drop_child-requires
drop_child-requires c =
    subst (λ (i : ℕ). i < length (kids_of c.self.inside.nodes c.parent_at-parent.result)) (sym (c.place_at-place.ensures (c.self.invariant.shaped.lists.rises c.parent_at-parent.result)))
    (entry-listed c.self.inside c.args.self.now c.self.view_is c.self.invariant.shaped c.args.entry c.parent_at-parent.result c.parent_at-parent.ensures)

module _ (c : goal.After-counts-1) where
  abbrev u : Inside
  u = record c.self.inside { nodes = c.reseat.new.nodes; ready = Nothing; counts = c.args.counts }

  spare : HasPlace c.args.dir c.self.inside.nodes c.self.inside.next
  spare = subst (λ (r : Ready). HasSpare r c.self.inside.nodes c.self.inside.next) (ap (λ (x : Seen). x.ready) c.self.view_is ∙ c.requires.ready) c.self.invariant.shaped.spare

  -- the lists without the entry
  left : (d : ℕ) → kids_of c.drop_child.new.nodes d ≡ set_at c.parent_at-parent.result (remove (kids_of c.self.inside.nodes c.parent_at-parent.result) (rank_in (name_of c.self.inside.nodes) (name_of c.self.inside.nodes c.args.entry) (kids_of c.self.inside.nodes c.parent_at-parent.result))) (kids_of c.self.inside.nodes) d
  left d = c.drop_child.ensures.list.kids d ∙ ap (λ (i : ℕ). cond (nat_eq c.parent_at-parent.result d) (remove (kids_of c.self.inside.nodes c.parent_at-parent.result) i) (kids_of c.self.inside.nodes d)) (c.place_at-place.ensures (c.self.invariant.shaped.lists.rises c.parent_at-parent.result))

  ordered : NamesRise (name_of c.drop_child.new.nodes) (kids_of c.drop_child.new.nodes c.args.dir)
  ordered = rises-same (name_of c.self.inside.nodes) (name_of c.drop_child.new.nodes) (kids_of c.drop_child.new.nodes c.args.dir) (λ n among. c.drop_child.ensures.list.names n) (
      subst (λ (ns : List ℕ). NamesRise (name_of c.self.inside.nodes) ns) (sym (left c.args.dir))
      ((tree-unlinked c.self.inside.next (entry_of c.self.inside.nodes) (name_of c.self.inside.nodes) (kids_of c.self.inside.nodes) c.args.entry c.parent_at-parent.result c.self.invariant.shaped.lists c.parent_at-parent.ensures).rises c.args.dir))

  entries : (q : ℕ) → entry_of c.reseat.new.nodes q ≡ touched_at c.args.entry (reseated c.args.dir c.args.name) (entry_of c.self.inside.nodes) q
  entries q = c.reseat.ensures.entries q
      ∙ ap (λ (o : Option Entry). cond (nat_eq c.args.entry q) (option_map (reseated c.args.dir c.args.name) o) o) (c.insert_named.ensures.entries q ∙ c.drop_child.ensures.list.entries q)

  names : (q : ℕ) → name_of c.reseat.new.nodes q ≡ set_at c.args.entry c.args.name (name_of c.self.inside.nodes) q
  names q = c.reseat.ensures.names q
      ∙ ap (λ (x : List ℕ). cond (nat_eq c.args.entry q) c.args.name x) (c.insert_named.ensures.names q ∙ c.drop_child.ensures.list.names q)

  kids : (d : ℕ) → kids_of c.reseat.new.nodes d ≡ set_at c.args.dir (insert (kids_of c.drop_child.new.nodes c.args.dir) (rank_in (name_of c.self.inside.nodes) c.args.name (kids_of c.drop_child.new.nodes c.args.dir)) c.args.entry) (kids_of c.drop_child.new.nodes) d
  kids d = c.reseat.ensures.kids d ∙ c.insert_named.ensures.kids ordered d
      ∙ ap (λ (i : ℕ). set_at c.args.dir (insert (kids_of c.drop_child.new.nodes c.args.dir) i c.args.entry) (kids_of c.drop_child.new.nodes) d) (
      ap (λ (x : List ℕ). rank_in (name_of c.drop_child.new.nodes) x (kids_of c.drop_child.new.nodes c.args.dir)) c.as_bytes.ensures
      ∙ rank-same (name_of c.self.inside.nodes) (name_of c.drop_child.new.nodes) c.args.name (kids_of c.drop_child.new.nodes c.args.dir) (λ n among. c.drop_child.ensures.list.names n))

pub returns : goal.returns
returns c = ap (λ (x : State). record { state = x; ready = Nothing }) (state-changed c.self.inside c.args.self.now c.self.view_is c.self.invariant.shaped (u c) c.args.entry (reseated c.args.dir c.args.name) refl refl (entries c))

pub invariant_of-self : goal.invariant_of-self
invariant_of-self c =
    let s = c.args.self.now in
    became (u c) (changed_at s.state c.args.entry (reseated c.args.dir c.args.name)) (returns c)
    (shaped-moved c.self.inside s c.self.view_is c.self.invariant.shaped (u c) c.args.entry c.args.dir c.parent_at-parent.result c.args.name refl refl c.parent_at-parent.ensures (entries c) (names c) (kids_of c.drop_child.new.nodes) (left c) (kids c)
    (λ q. c.reseat.ensures.numbers q ∙ c.insert_named.ensures.numbers q ∙ c.drop_child.ensures.list.numbers q) (spare c).1 c.requires.may.layout tt)
    c.requires.may.counts_are
    (λ n.
    set-has c.self.inside s c.self.view_is c.self.invariant n
    ∙ ap (λ (r : Ready). is_dirty_at s.state.entries n || is_awaited s.state.next r n) c.requires.ready
    ∙ or-false (is_dirty_at s.state.entries n)
    ∙ dirty-kept s.state c.args.entry (reseated c.args.dir c.args.name) n (λ e. refl) (λ e. refl))
