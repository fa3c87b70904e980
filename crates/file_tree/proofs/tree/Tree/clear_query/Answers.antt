use Rattle.std.proofs.Common.{ap, refl, ◌∙◌}
use Rattle.hac_model.specs.Tree.Events.{plain_body, changed_at, edited}
use Rattle.file_tree.specs.Seen.{Seen}
use Rattle.file_tree.specs.declared.ready.Ready.TheVariants.{Nothing}
use Rattle.file_tree.proofs.DirtyLemmas.{plain-dirty, dirty-kept}
use Rattle.file_tree.proofs.TreeLemmas.{Became, set-dirty, tree-edited}
use Rattle.file_tree.proofs.tree.Tree.clear_query.Goals as goal

made : (c : goal.After-counts-1) → Became (record c.self.inside { nodes = c.clear_query.new.nodes; counts = c.args.counts }) (changed_at c.args.self.now.state c.args.dir (edited (plain_body)))
made c =
    let s : Seen = record { state = c.args.self.now.state; ready = Nothing } in
    let view = c.self.view_is ∙ c.forget.ensures in
    tree-edited c.self.inside s view c.self.invariant _ c.args.dir (plain_body) refl refl (ap (λ (x : Seen). x.ready) view) c.clear_query.ensures.entries c.clear_query.ensures.names c.clear_query.ensures.kids c.clear_query.ensures.numbers c.requires.may.layout c.requires.may.counts_are (λ n.
    set-dirty c.self.inside s view c.self.invariant refl n ∙ dirty-kept s.state c.args.dir (edited (plain_body)) n (λ e. refl) (λ e. plain-dirty e.body))

pub invariant_of-self : goal.invariant_of-self
invariant_of-self c = (made c).1

pub returns : goal.returns
returns c = (made c).0
