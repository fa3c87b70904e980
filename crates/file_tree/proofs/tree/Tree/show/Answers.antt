use Rattle.std.proofs.Common.{Bool, ap, refl, ◌∙◌}
use Rattle.std.specs.Prelude.{◌==◌, ◌&&◌, not}
use Rattle.hac_model.specs.Tree.Events.{changed_at, edited, indexed}
use Rattle.file_tree.specs.Seen.{Seen}
use Rattle.file_tree.proofs.DirtyLemmas.{dirty-indexed}
use Rattle.file_tree.proofs.TreeLemmas.{Became, set-dirty, tree-edited}
use Rattle.file_tree.proofs.tree.Tree.show.Goals as goal

made : (c : goal.After-counts-1) → Became (record c.self.inside { nodes = c.show_text.new.nodes; counts = c.args.counts; to_index = c.drop_number.new.numbers }) (changed_at c.args.self.now.state c.args.file (edited indexed))
made c =
    let s = c.args.self.now in
    tree-edited c.self.inside s c.self.view_is c.self.invariant _ c.args.file indexed refl refl (ap (λ (x : Seen). x.ready) c.self.view_is ∙ c.requires.ready) c.show_text.ensures.entries c.show_text.ensures.names c.show_text.ensures.kids c.show_text.ensures.numbers c.requires.may.layout c.requires.may.counts_are (λ n.
    c.drop_number.ensures n
    ∙ ap (λ (b : Bool). b && not (c.args.file == n)) (set-dirty c.self.inside s c.self.view_is c.self.invariant c.requires.ready n)
    ∙ dirty-indexed s.state c.args.file n)

pub invariant_of-self : goal.invariant_of-self
invariant_of-self c = (made c).1

pub returns : goal.returns
returns c = (made c).0
