use Rattle.std.proofs.Common.{refl, ◌∙◌}
use Rattle.std.specs.Prelude.{◌||◌}
use Rattle.file_tree.specs.Ready.{is_number}
use Rattle.file_tree.proofs.TreeLemmas.{directory-node, other-below, place-reserved, ready-nothing, set-clean, spare-nothing, tree-prepared}
use Rattle.file_tree.proofs.tree.Tree.prepare_add.Goals as goal

pub reserve_child-requires : goal.reserve_child-requires
reserve_child-requires c = directory-node c.self.inside c.args.self.now.state (c.self.view_is ∙ c.forget.ensures) c.prepare.new.nodes c.args.dir c.self.invariant c.requires (λ n low. c.prepare.ensures.others n (other-below c.self.inside.next n low))

pub invariant_of-self : goal.invariant_of-self
invariant_of-self c =
    tree-prepared c.self.inside c.self.invariant _ refl refl c.prepare.ensures.entries c.prepare.ensures.names c.prepare.ensures.kids c.prepare.ensures.others
    (spare-nothing c.self.inside c.args.self.now.state (c.self.view_is ∙ c.forget.ensures) c.prepare.new.nodes c.self.inside.next) refl c.self.invariant.dirty_are c.self.invariant.documents_are

pub invariant_of-self-in_err-reserve_child : goal.invariant_of-self-in_err-reserve_child
invariant_of-self-in_err-reserve_child c =
    tree-prepared c.self.inside c.self.invariant _ refl refl (λ n. c.reserve_child.ensures.same.entries n ∙ c.prepare.ensures.entries n) (λ n other. c.reserve_child.ensures.same.names n ∙ c.prepare.ensures.names n other)
    (λ d. c.reserve_child.ensures.same.kids d ∙ c.prepare.ensures.kids d) (λ n other. c.reserve_child.ensures.same.numbers n ∙ c.prepare.ensures.others n other)
    (spare-nothing c.self.inside c.args.self.now.state (c.self.view_is ∙ c.forget.ensures) c.reserve_child.new.nodes c.self.inside.next) refl c.self.invariant.dirty_are c.self.invariant.documents_are

pub invariant_of-self-in_err-add_number : goal.invariant_of-self-in_err-add_number
invariant_of-self-in_err-add_number c =
    tree-prepared c.self.inside c.self.invariant _ refl refl (λ n. c.reserve_child.ensures.same.entries n ∙ c.prepare.ensures.entries n) (λ n other. c.reserve_child.ensures.same.names n ∙ c.prepare.ensures.names n other)
    (λ d. c.reserve_child.ensures.same.kids d ∙ c.prepare.ensures.kids d) (λ n other. c.reserve_child.ensures.same.numbers n ∙ c.prepare.ensures.others n other)
    (spare-nothing c.self.inside c.args.self.now.state (c.self.view_is ∙ c.forget.ensures) c.reserve_child.new.nodes c.self.inside.next) refl (λ n. c.in_err-add_number.ensures.err n ∙ c.self.invariant.dirty_are n) c.self.invariant.documents_are

pub invariant_of-self-2 : goal.invariant_of-self-2
invariant_of-self-2 c =
    let view = c.self.view_is ∙ c.forget.ensures in
    tree-prepared c.self.inside c.self.invariant _ refl refl (λ n. c.reserve_child.ensures.same.entries n ∙ c.prepare.ensures.entries n) (λ n other. c.reserve_child.ensures.same.names n ∙ c.prepare.ensures.names n other)
    (λ d. c.reserve_child.ensures.same.kids d ∙ c.prepare.ensures.kids d) (λ n other. c.reserve_child.ensures.same.numbers n ∙ c.prepare.ensures.others n other)
    (place-reserved c.self.inside c.args.self.now.state view c.reserve_child.new.nodes c.args.dir c.self.invariant c.requires c.in_ok-reserve_child.ensures.place, c.reserve_child.ensures.same.numbers c.self.inside.next ∙ c.in_ok-prepare.ensures.there) refl
    (λ n. c.in_ok-add_number.ensures.ok n ∙ (λ i. set-clean c.self.inside c.self.invariant (ready-nothing c.self.inside c.args.self.now.state view) n i || is_number (c.awaited.ensures i) n)) tt
