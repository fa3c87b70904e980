use Rattle.std.proofs.Common.{◌≡◌, ◌<◌, ℕ, List, [], Bool, false, Option, None, length, cond, ap, sym, subst, refl, ◌∙◌}
use Rattle.std.specs.Prelude.{◌==◌, ◌&&◌, not, nat_eq, remove}
use Rattle.hac_model.specs.Tree.Events.{removed}
use Rattle.hac_model.specs.declared.states.Entry.{Entry}
use Rattle.tree_nodes.specs.Nodes.{entry_of, kids_of, name_of, set_at}
use Rattle.tree_nodes.specs.Search.{rank_in}
use Rattle.file_tree.specs.Seen.{Seen}
use Rattle.file_tree.specs.Shape.{HasSpare, seen_of}
use Rattle.file_tree.specs.declared.ready.Ready.{Ready}
use Rattle.file_tree.specs.declared.ready.Ready.TheVariants.{Nothing}
use Rattle.file_tree.proofs.DirtyLemmas.{dirty-removed}
use Rattle.file_tree.proofs.StateLemmas.{entry-listed, entry-there, shaped-removed, state-removed}
use Rattle.file_tree.proofs.TreeLemmas.{Became, became, set-dirty}
use Rattle.file_tree.proofs.tree.Tree.remove.Goals as goal

pub parent_at-parent-requires : goal.parent_at-parent-requires
parent_at-parent-requires c = entry-there c.self.inside (record { state = c.args.self.now.state; ready = Nothing }) (c.self.view_is ∙ c.forget.ensures) c.self.invariant.shaped c.args.entry c.requires.there

pub drop_child-requires : goal.drop_child-requires
drop_child-requires c =
    subst (λ (i : ℕ). i < length (kids_of c.self.inside.nodes c.parent_at-parent.result)) (sym (c.place_at-place.ensures (c.self.invariant.shaped.lists.rises c.parent_at-parent.result)))
    (entry-listed c.self.inside (record { state = c.args.self.now.state; ready = Nothing }) (c.self.view_is ∙ c.forget.ensures) c.self.invariant.shaped c.args.entry c.parent_at-parent.result c.parent_at-parent.ensures)

module _ (c : goal.After-counts-1) where
  entries : (q : ℕ) → entry_of c.take_out.new.nodes q ≡ set_at c.args.entry None (entry_of c.self.inside.nodes) q
  entries q = c.take_out.ensures.entries q ∙ ap (λ (o : Option Entry). cond (nat_eq c.args.entry q) None o) (c.drop_child.ensures.list.entries q)

  kids : (d : ℕ) → kids_of c.take_out.new.nodes d ≡ set_at c.args.entry [] (set_at c.parent_at-parent.result (remove (kids_of c.self.inside.nodes c.parent_at-parent.result) (rank_in (name_of c.self.inside.nodes) (name_of c.self.inside.nodes c.args.entry) (kids_of c.self.inside.nodes c.parent_at-parent.result))) (kids_of c.self.inside.nodes)) d
  kids d = c.take_out.ensures.kids d ∙ ap (λ (ns : List ℕ). cond (nat_eq c.args.entry d) [] ns) (c.drop_child.ensures.list.kids d
      ∙ ap (λ (i : ℕ). cond (nat_eq c.parent_at-parent.result d) (remove (kids_of c.self.inside.nodes c.parent_at-parent.result) i) (kids_of c.self.inside.nodes d)) (c.place_at-place.ensures (c.self.invariant.shaped.lists.rises c.parent_at-parent.result)))

  made : Became (record c.self.inside { nodes = c.take_out.new.nodes; counts = c.args.counts; to_index = c.drop_number.new.numbers }) (removed c.args.self.now.state c.args.entry)
  made =
      let s : Seen = record { state = c.args.self.now.state; ready = Nothing } in
      let view = c.self.view_is ∙ c.forget.ensures in
      let u = record c.self.inside { nodes = c.take_out.new.nodes; counts = c.args.counts; to_index = c.drop_number.new.numbers } in
      let ready = ap (λ (x : Seen). x.ready) view in
      let seen : seen_of u ≡ record { state = removed s.state c.args.entry; ready = Nothing } = λ i. record { state = state-removed c.self.inside s view c.self.invariant.shaped u c.args.entry refl refl entries i; ready = ready i } in (
        seen,
        became u (removed s.state c.args.entry) seen
            (shaped-removed c.self.inside s view c.self.invariant.shaped u c.args.entry c.parent_at-parent.result refl refl c.parent_at-parent.ensures entries
            (λ q other. c.take_out.ensures.names q other ∙ c.drop_child.ensures.list.names q) kids
            (λ q. c.take_out.ensures.numbers q ∙ ap (λ (b : Bool). cond (nat_eq c.args.entry q) false b) (c.drop_child.ensures.list.numbers q)) c.requires.may.layout (subst (λ (r : Ready). HasSpare r c.take_out.new.nodes c.self.inside.next) (sym ready) tt))
            c.requires.may.counts_are
            (λ n. c.drop_number.ensures n ∙ ap (λ (b : Bool). b && not (c.args.entry == n)) (set-dirty c.self.inside s view c.self.invariant refl n) ∙ dirty-removed s.state c.args.entry n),
      )

pub invariant_of-self : goal.invariant_of-self
invariant_of-self c = (made c).1

pub returns : goal.returns
returns c = (made c).0
