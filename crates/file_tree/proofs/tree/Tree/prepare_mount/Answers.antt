use Rattle.std.proofs.Common.{◌≡◌, ◌≤◌, ◌+◌, refl, sym, subst, ◌∙◌, arith, ℕ}
use Rattle.std.proofs.Math.Bool.{or-false}
use Rattle.hac_model.specs.declared.limits.TheConstants.{NUMBERS_LIMIT}
use Rattle.file_tree.specs.Answers.{is_dirty_at}
use Rattle.file_tree.specs.Shape.{HasDocuments, state_of}
use Rattle.file_tree.specs.declared.ready.Ready.{Ready}
use Rattle.file_tree.proofs.TreeLemmas.{directory-node, next-small, place-reserved, ready-nothing, set-clean, spare-nothing, tree-readied}
use Rattle.file_tree.proofs.tree.Tree.prepare_mount.Goals as goal

pub prepare_documents-requires-clause-small : goal.prepare_documents-requires-clause-small
prepare_documents-requires-clause-small c = let small : c.self.inside.next ≤ NUMBERS_LIMIT = next-small c.self.inside c.self.invariant in omega arith

pub reserve_child-requires : goal.reserve_child-requires
reserve_child-requires c = directory-node c.self.inside c.args.self.now.state (c.self.view_is ∙ c.forget.ensures) c.prepare_documents.new.nodes c.args.dir c.self.invariant c.requires.dir (λ n low. c.prepare_documents.ensures.others n low)

pub invariant_of-self : goal.invariant_of-self
invariant_of-self c =
    let view = c.self.view_is ∙ c.forget.ensures in
    let nothing = ready-nothing c.self.inside c.args.self.now.state view in
    tree-readied c.self.inside c.self.invariant _ refl refl c.prepare_documents.ensures.entries c.prepare_documents.ensures.names c.prepare_documents.ensures.kids c.prepare_documents.ensures.others
    (spare-nothing c.self.inside c.args.self.now.state view c.prepare_documents.new.nodes c.self.inside.next) refl c.self.invariant.dirty_are
    (subst (λ (r : Ready). HasDocuments r c.self.inside.next c.prepare_documents.new.list.items) (sym nothing) tt)

pub invariant_of-self-in_err-reserve_child : goal.invariant_of-self-in_err-reserve_child
invariant_of-self-in_err-reserve_child c =
    let view = c.self.view_is ∙ c.forget.ensures in
    let nothing = ready-nothing c.self.inside c.args.self.now.state view in
    tree-readied c.self.inside c.self.invariant _ refl refl (λ n. c.reserve_child.ensures.same.entries n ∙ c.prepare_documents.ensures.entries n)
    (λ n low. c.reserve_child.ensures.same.names n ∙ c.prepare_documents.ensures.names n low) (λ d. c.reserve_child.ensures.same.kids d ∙ c.prepare_documents.ensures.kids d)
    (λ n low. c.reserve_child.ensures.same.numbers n ∙ c.prepare_documents.ensures.others n low)
    (spare-nothing c.self.inside c.args.self.now.state view c.reserve_child.new.nodes c.self.inside.next) refl c.self.invariant.dirty_are
    (subst (λ (r : Ready). HasDocuments r c.self.inside.next c.prepare_documents.new.list.items) (sym nothing) tt)

pub invariant_of-self-2 : goal.invariant_of-self-2
invariant_of-self-2 c =
    let view = c.self.view_is ∙ c.forget.ensures in
    tree-readied c.self.inside c.self.invariant _ refl refl (λ n. c.reserve_child.ensures.same.entries n ∙ c.prepare_documents.ensures.entries n)
    (λ n low. c.reserve_child.ensures.same.names n ∙ c.prepare_documents.ensures.names n low) (λ d. c.reserve_child.ensures.same.kids d ∙ c.prepare_documents.ensures.kids d)
    (λ n low. c.reserve_child.ensures.same.numbers n ∙ c.prepare_documents.ensures.others n low) (
      (
        place-reserved c.self.inside c.args.self.now.state view c.reserve_child.new.nodes c.args.dir c.self.invariant c.requires.dir c.in_ok-reserve_child.ensures.place,
        c.reserve_child.ensures.same.numbers c.self.inside.next ∙ c.in_ok-prepare_documents.ensures.there c.self.inside.next (omega arith) (omega arith),
      ),
      λ n high low. c.reserve_child.ensures.same.numbers n ∙ c.in_ok-prepare_documents.ensures.there n high low,
    ) refl
    (λ n. set-clean c.self.inside c.self.invariant (ready-nothing c.self.inside c.args.self.now.state view) n ∙ sym (or-false (is_dirty_at (state_of c.self.inside).entries n)))
    c.in_ok-prepare_documents.ensures.list
