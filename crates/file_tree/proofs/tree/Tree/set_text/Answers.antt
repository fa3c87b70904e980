use Rattle.std.proofs.Common.{ap, refl, ◌∙◌}
use Rattle.std.specs.Prelude.{◌||◌}
use Rattle.hac_model.specs.Tree.Events.{changed_at, edited, rewritten}
use Rattle.file_tree.specs.Answers.{is_dirty_at}
use Rattle.file_tree.specs.Ready.{is_awaited}
use Rattle.file_tree.specs.declared.ready.Ready.{Ready}
use Rattle.file_tree.specs.declared.ready.Ready.TheVariants.{Nothing}
use Rattle.file_tree.proofs.DirtyLemmas.{dirty-written}
use Rattle.file_tree.proofs.TreeLemmas.{Became, set-has, tree-edited}
use Rattle.file_tree.proofs.tree.Tree.set_text.Goals as goal

made : (c : goal.After-counts-1) → Became (record c.self.inside { nodes = c.set_text.new.nodes; ready = Nothing; counts = c.args.counts }) (changed_at c.args.self.now.state c.args.file (edited (rewritten c.args.text)))
made c =
    let s = c.args.self.now in
    tree-edited c.self.inside s c.self.view_is c.self.invariant _ c.args.file (rewritten c.args.text) refl refl refl c.set_text.ensures.entries c.set_text.ensures.names c.set_text.ensures.kids c.set_text.ensures.numbers c.requires.may.layout c.requires.may.counts_are (λ n.
    set-has c.self.inside s c.self.view_is c.self.invariant n
    ∙ ap (λ (r : Ready). is_dirty_at s.state.entries n || is_awaited s.state.next r n) c.requires.ready
    ∙ dirty-written s.state c.args.file c.args.text n c.requires.file)

pub invariant_of-self : goal.invariant_of-self
invariant_of-self c = (made c).1

pub returns : goal.returns
returns c = (made c).0
