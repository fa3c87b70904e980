use Rattle.std.proofs.Common.{ap, refl, ◌∙◌}
use Rattle.hac_model.specs.Tree.Events.{asking, changed_at, edited}
use Rattle.file_tree.specs.Seen.{Seen}
use Rattle.file_tree.specs.declared.ready.Ready.TheVariants.{Nothing}
use Rattle.file_tree.proofs.DirtyLemmas.{asking-dirty, dirty-kept}
use Rattle.file_tree.proofs.TreeLemmas.{Became, set-dirty, tree-edited}
use Rattle.file_tree.proofs.tree.Tree.set_query.Goals as goal

made : (c : goal.After-counts-1) → Became (record c.self.inside { nodes = c.set_query.new.nodes; counts = c.args.counts }) (changed_at c.args.self.now.state c.args.dir (edited (asking c.args.query)))
made c =
    let s : Seen = record { state = c.args.self.now.state; ready = Nothing } in
    let view = c.self.view_is ∙ c.forget.ensures in
    tree-edited c.self.inside s view c.self.invariant _ c.args.dir (asking c.args.query) refl refl (ap (λ (x : Seen). x.ready) view) c.set_query.ensures.entries c.set_query.ensures.names c.set_query.ensures.kids c.set_query.ensures.numbers c.requires.may.layout c.requires.may.counts_are (λ n.
    set-dirty c.self.inside s view c.self.invariant refl n ∙ dirty-kept s.state c.args.dir (edited (asking c.args.query)) n (λ e. refl) (λ e. asking-dirty c.args.query e.body))

pub invariant_of-self : goal.invariant_of-self
invariant_of-self c = (made c).1

pub returns : goal.returns
returns c = (made c).0
