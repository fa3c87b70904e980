use Rattle.std.proofs.Common.{ℕ, List, sym, ap, subst, ◌∙◌}
use Rattle.tree_nodes.specs.Nodes.{kids_of, name_of}
use Rattle.tree_nodes.specs.Search.{first_named, NamesRise}
use Rattle.file_tree.proofs.ChildLemmas.{child-seen}
use Rattle.file_tree.proofs.tree.Tree.child.Goals as goal

pub returns : goal.returns
returns c =
    let rises = subst (λ (ns : List ℕ). NamesRise (name_of c.self.inside.nodes) ns) (sym c.children_at.ensures) (c.self.invariant.shaped.lists.rises c.args.dir) in
    c.named.ensures rises
    ∙ ap (λ (ns : List ℕ). first_named (name_of c.self.inside.nodes) ns c.as_bytes.result.now) c.children_at.ensures
    ∙ ap (λ (x : List ℕ). first_named (name_of c.self.inside.nodes) (kids_of c.self.inside.nodes c.args.dir) x) c.as_bytes.ensures
    ∙ sym (child-seen c.self.inside c.args.self.now c.self.view_is c.self.invariant.shaped c.args.dir c.args.name.now)
