use Rattle.std.proofs.Common.{sym, ◌∙◌}
use Rattle.kept_state.proofs.StateLemmas.{same-document}
use Rattle.hac_core.proofs.AskedLemmas.{unfetched}
use Rattle.hac_core.proofs.questions.text_asks.Goals as goal

pub returns-then-not-is_document : goal.returns-then-not-is_document
returns-then-not-is_document c =
    c.no_asks.ensures
    ∙ sym (unfetched c.args.kept.now.state c.args.entry (same-document c.args.kept.now.state c.tree-tree.result.now.state c.tree-tree.ensures.tree.bares c.args.entry ∙ sym c.if-not-is_document.ensures))

pub fetch_asks-requires : goal.fetch_asks-requires
fetch_asks-requires c = same-document c.args.kept.now.state c.tree-tree.result.now.state c.tree-tree.ensures.tree.bares c.args.entry ∙ sym c.if-not-is_document.ensures
