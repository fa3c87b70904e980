use Rattle.std.proofs.Common.{ap, sym, ◌∙◌}
use Rattle.hac_model.specs.Run.Asks.{space_of}
use Rattle.kept_state.proofs.StateLemmas.{same-document, same-parent}
use Rattle.hac_core.proofs.AskedLemmas.{document-some, fetched, same-name}
use Rattle.hac_core.proofs.questions.fetch_asks.Goals as goal

pub name_of-requires : goal.name_of-requires
name_of-requires c =
    document-some c.tree-tree.result.now.state.entries c.args.document
    (sym (same-document c.args.kept.now.state c.tree-tree.result.now.state c.tree-tree.ensures.tree.bares c.args.document) ∙ c.requires)

pub returns : goal.returns
returns c =
    fetched c.args.kept.now.state c.args.document c.new-2.result c.in_ok-space.space c.in_ok-document.document c.requires (c.new-2.ensures ∙ c.new.ensures.items)
    (c.in_ok-space.ensures ∙ ap (space_of c.args.kept.now.state) (c.parent.ensures ∙ sym (same-parent c.args.kept.now.state c.tree-tree.result.now.state c.tree-tree.ensures.tree.bares c.args.document)))
    (same-name c.args.kept.now.state c.tree-tree.result.now.state c.tree-tree.ensures.tree.bares c.args.document c.name_of.result.now c.name_of.ensures ∙ sym c.in_ok-document.ensures.cases)
