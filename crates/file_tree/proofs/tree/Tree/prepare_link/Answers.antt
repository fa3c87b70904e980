use Rattle.std.proofs.Common.{◌≡◌, ap, refl, ◌∙◌}
use Rattle.std.specs.Prelude.{◌||◌}
use Rattle.file_tree.specs.Answers.{is_dirty_at}
use Rattle.file_tree.specs.Ready.{is_awaited}
use Rattle.file_tree.specs.Shape.{state_of}
use Rattle.file_tree.specs.declared.ready.Ready.TheVariants.{Link, Nothing}
use Rattle.file_tree.specs.declared.tree.Tree.TheInside.{Inside}
use Rattle.hac_model.specs.Script.PathWords.{untested_word}
use Rattle.file_tree.proofs.StateLemmas.{state-same}
use Rattle.file_tree.proofs.TreeLemmas.{directory-node, other-below, place-reserved, ready-nothing, spare-nothing, tree-prepared}
use Rattle.file_tree.proofs.tree.Tree.prepare_link.Goals as goal

pub reserve_child-requires : goal.reserve_child-requires
reserve_child-requires c = directory-node c.self.inside c.args.self.now.state (c.self.view_is ∙ c.forget.ensures) c.prepare.new.nodes c.args.dir c.self.invariant c.requires.dir (λ n low. c.prepare.ensures.others n (other-below c.self.inside.next n low))

pub invariant_of-self : goal.invariant_of-self
invariant_of-self c =
    tree-prepared c.self.inside c.self.invariant _ refl refl c.prepare.ensures.entries c.prepare.ensures.names c.prepare.ensures.kids c.prepare.ensures.others
    (spare-nothing c.self.inside c.args.self.now.state (c.self.view_is ∙ c.forget.ensures) c.prepare.new.nodes c.self.inside.next) refl c.self.invariant.dirty_are c.self.invariant.documents_are

pub invariant_of-self-in_err-reserve_child : goal.invariant_of-self-in_err-reserve_child
invariant_of-self-in_err-reserve_child c =
    tree-prepared c.self.inside c.self.invariant _ refl refl (λ n. c.reserve_child.ensures.same.entries n ∙ c.prepare.ensures.entries n) (λ n other. c.reserve_child.ensures.same.names n ∙ c.prepare.ensures.names n other)
    (λ d. c.reserve_child.ensures.same.kids d ∙ c.prepare.ensures.kids d) (λ n other. c.reserve_child.ensures.same.numbers n ∙ c.prepare.ensures.others n other)
    (spare-nothing c.self.inside c.args.self.now.state (c.self.view_is ∙ c.forget.ensures) c.reserve_child.new.nodes c.self.inside.next) refl c.self.invariant.dirty_are c.self.invariant.documents_are

pub invariant_of-self-2 : goal.invariant_of-self-2
invariant_of-self-2 c =
    let view = c.self.view_is ∙ c.forget.ensures in
    tree-prepared c.self.inside c.self.invariant _ refl refl (λ n. c.reserve_child.ensures.same.entries n ∙ c.prepare.ensures.entries n) (λ n other. c.reserve_child.ensures.same.names n ∙ c.prepare.ensures.names n other)
    (λ d. c.reserve_child.ensures.same.kids d ∙ c.prepare.ensures.kids d) (λ n other. c.reserve_child.ensures.same.numbers n ∙ c.prepare.ensures.others n other)
    (place-reserved c.self.inside c.args.self.now.state view c.reserve_child.new.nodes c.args.dir c.self.invariant c.requires.dir c.in_ok-reserve_child.ensures.place, c.reserve_child.ensures.same.numbers c.self.inside.next ∙ c.in_ok-prepare.ensures.there) refl
    (λ n. c.self.invariant.dirty_are n ∙ ap (λ r. is_dirty_at (state_of c.self.inside).entries n || is_awaited c.self.inside.next r n) (ready-nothing c.self.inside c.args.self.now.state view)) tt

pub returns-clause-ok : goal.returns-clause-ok
returns-clause-ok c =
    let u : Inside = record c.self.inside { nodes = c.reserve_child.new.nodes; ready = Link c.args.dir c.in_ok-word.word } in
    let state = state-same c.self.inside (record { state = c.args.self.now.state; ready = Nothing }) (c.self.view_is ∙ c.forget.ensures) c.self.invariant.shaped u refl refl (λ n. c.reserve_child.ensures.same.entries n ∙ c.prepare.ensures.entries n) in
    let word : c.in_ok-word.word ≡ untested_word c.args.target.now = c.in_ok-word.ensures in
    λ i. record { state = state i; ready = Link c.args.dir (word i) }
