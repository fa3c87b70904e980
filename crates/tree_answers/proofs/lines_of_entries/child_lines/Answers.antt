use Rattle.std.proofs.Common.{arith, map, sym, ◌∙◌}
use Rattle.hac_model.specs.Tree.Listing.{children, entry_line}
use Rattle.hac_model.proofs.AlikeLemmas.{children-bare}
use Rattle.kept_state.proofs.StateLemmas.{alike}
use Rattle.tree_answers.proofs.ListingLemmas.{child-some, children-end}
use Rattle.tree_answers.proofs.lines_of_entries.child_lines.Goals as goal

pub child_line-requires : goal.child_line-requires
child_line-requires c =
    child-some c.tree-tree.result.now.state c.args.dir c.children-entries.result c.tree-tree.ensures.tree.layout c.children-entries.ensures.numbers c.entries.place 0 c.at.result (omega arith) c.at.ensures

pub returns : goal.returns
returns c =
    children-end c.tree-tree.result.now.state c.args.dir c.children-entries.result c.tree-tree.ensures.tree.layout c.children-entries.ensures.numbers c.entries.place c.entries.lines.items (omega arith) c.entries.invariant
    ∙ sym (alike c.args.kept.now.state c.tree-tree.result.now.state c.tree-tree.ensures.tree.bares (λ s. map entry_line (children s c.args.dir)) (λ s. children-bare s c.args.dir))
