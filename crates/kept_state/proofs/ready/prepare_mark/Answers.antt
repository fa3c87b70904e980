use Rattle.std.proofs.Common.{◌≡◌, ap, subst, sym, ◌∙◌}
use Rattle.hac_model.specs.Tree.Facts.{Marks, edges_to, with_mark}
use Rattle.hac_model.specs.Tree.Links.{parent_of, query_at}
use Rattle.hac_model.specs.Tree.{is_directory_at}
use Rattle.file_tree.specs.Seen as tree
use Rattle.link_kinds.specs.Seen.{Known}
use Rattle.kept_state.specs.Parts.{WillHave, marks_kept}
use Rattle.kept_state.proofs.ready.prepare_mark.Goals as goal

pub returns-clause-edges : goal.returns-clause-edges
returns-clause-edges c =
    let mark = c.args.mark.now in
    let old = c.args.kept.now in
    let mid = c.prepare_marked_edges.new.self in
    let same = c.in_ok-edges.ensures.same in
    let kinds = c.prepare.ensures.kinds mark.dir in
    let marks : marks_kept old.marks mark.dir ≡ marks_kept c.prepare.new.self mark.dir =
    ap (λ (m : Known). marks_kept m mark.dir) (sym same.marks) ∙ (λ i. record { permanent = (sym kinds i).permanent; prohibited = (sym kinds i).prohibited }) in
    subst (λ (t : tree.Seen). WillHave mid.graph mark.dir (edges_to (is_directory_at t.state.entries) (parent_of t.state mark.dir) (query_at t.state mark.dir) (with_mark mark.kind mark.item (marks_kept c.prepare.new.self mark.dir)).permanent) c.in_ok-edges.edges)
    (sym same.tree)
    (subst (λ (m : Marks). WillHave mid.graph mark.dir (edges_to (is_directory_at old.tree.state.entries) (parent_of old.tree.state mark.dir) (query_at old.tree.state mark.dir) (with_mark mark.kind mark.item m).permanent) c.in_ok-edges.edges)
    marks c.in_ok-edges.ensures.edges)
