use Rattle.std.proofs.Common.{◌≡◌, ◌∷◌, ◌++◌, ℕ, List, ap, refl, sym, true, ◌∙◌}
use Rattle.std.specs.Option.{option_copied}
use Rattle.hac_model.specs.Tree.Depends.{named_in}
use Rattle.hac_model.specs.Tree.Facts.{edges_to, with_mark}
use Rattle.hac_model.specs.Tree.Links.{lenders, parent_of}
use Rattle.hac_model.specs.Tree.{is_directory_at}
use Rattle.kept_state.specs.Parts.{edges_marked, marks_kept, state_of}
use Rattle.kept_state.proofs.LenderLemmas.{mark-edges, mark-edges-stay, marked_numbers, no-edges, will-made}
use Rattle.kept_state.proofs.parts.Parts.prepare_marked_edges.Goals as goal

pub returns-in_default-clause-edges : goal.returns-in_default-clause-edges
returns-in_default-clause-edges c =
    let kept = c.args.self.now in
    let mark = c.args.mark.now in
    no-edges kept c.requires mark.dir (λ o. edges_to (is_directory_at kept.tree.state.entries) (parent_of kept.tree.state mark.dir) o (with_mark mark.kind mark.item (marks_kept kept.marks mark.dir)).permanent) refl
    (sym c.query.ensures ∙ ap (λ o. option_copied o) c.in_default.is)

pub returns-then-not-is_directory-clause-edges : goal.returns-then-not-is_directory-clause-edges
returns-then-not-is_directory-clause-edges c = mark-edges-stay c.args.self.now c.requires c.args.mark.now (sym c.is_directory.ensures ∙ c.if-not-is_directory.true)

pub returns-clause-edges : goal.returns-clause-edges
returns-clause-edges c =
    let kept = c.args.self.now in
    let mark = c.args.mark.now in
    let query = c.in-Some.query.now in
    let there : is_directory_at kept.tree.state.entries mark.item ≡ true = sym c.is_directory.ensures ∙ c.if-not-is_directory.false in
    let numbers : c.as_slice.result.now ≡ marked_numbers mark.kind mark.item (lenders (state_of kept) mark.dir) =
    c.as_slice.ensures.value ∙ c.in_ok-lenders.ensures ∙ ap (λ (dirs : List ℕ). marked_numbers mark.kind mark.item dirs) c.lenders.ensures in
    will-made c.prepare_edges.new.self mark.dir (edges_marked kept mark) c.in_ok-prepare_edges.field-0 _ c.in_ok-prepare_edges.ensures.prepared refl
    (c.in_ok-edges.ensures ∙ (λ i. c.parent-parent.ensures i ∷ named_in query ++ numbers i) ∙ mark-edges kept c.requires mark query (sym c.in-Some.ensures) there)
    c.in_ok-prepare_edges.ensures.ok
