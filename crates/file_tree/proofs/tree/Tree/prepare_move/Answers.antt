use Rattle.std.proofs.Common.{refl, sym, ◌∙◌}
use Rattle.std.proofs.Math.Bool.{or-false}
use Rattle.file_tree.specs.Answers.{is_dirty_at}
use Rattle.file_tree.specs.Shape.{state_of}
use Rattle.file_tree.proofs.TreeLemmas.{directory-node, place-reserved, ready-nothing, set-clean, spare-nothing, tree-prepared}
use Rattle.file_tree.proofs.tree.Tree.prepare_move.Goals as goal

pub reserve_child-requires : goal.reserve_child-requires
reserve_child-requires c = directory-node c.self.inside c.args.self.now.state (c.self.view_is ∙ c.forget.ensures) c.self.inside.nodes c.args.dir c.self.invariant c.requires (λ n low. refl)

pub invariant_of-self : goal.invariant_of-self
invariant_of-self c =
    tree-prepared c.self.inside c.self.invariant _ refl refl c.reserve_child.ensures.same.entries (λ n other. c.reserve_child.ensures.same.names n) c.reserve_child.ensures.same.kids (λ n other. c.reserve_child.ensures.same.numbers n)
    (spare-nothing c.self.inside c.args.self.now.state (c.self.view_is ∙ c.forget.ensures) c.reserve_child.new.nodes c.self.inside.next) refl c.self.invariant.dirty_are c.self.invariant.documents_are

pub invariant_of-self-2 : goal.invariant_of-self-2
invariant_of-self-2 c =
    let view = c.self.view_is ∙ c.forget.ensures in
    tree-prepared c.self.inside c.self.invariant _ refl refl c.reserve_child.ensures.same.entries (λ n other. c.reserve_child.ensures.same.names n) c.reserve_child.ensures.same.kids (λ n other. c.reserve_child.ensures.same.numbers n)
    (place-reserved c.self.inside c.args.self.now.state view c.reserve_child.new.nodes c.args.dir c.self.invariant c.requires c.in_ok-reserve_child.ensures.place) refl
    (λ n. set-clean c.self.inside c.self.invariant (ready-nothing c.self.inside c.args.self.now.state view) n ∙ sym (or-false (is_dirty_at (state_of c.self.inside).entries n))) tt
