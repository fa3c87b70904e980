use Rattle.std.proofs.Common.{ℕ, ap, sym, ◌∙◌}
use Rattle.hac_model.specs.Tree.Links.{has, kept_at}
use Rattle.reindex.proofs.IndexedLemmas.{told-indexed}
use Rattle.reindex.proofs.indexing.Indexing.document_has.Goals as goal

pub returns : goal.returns
returns c =
    let s = c.args.self.now.kept.now.state in
    c.has_answer.ensures
    ∙ ap (λ (m : ℕ). has (kept_at s m c.args.term.now) c.args.item) c.parent_of.ensures
    ∙ sym (told-indexed c.args.self.now.last s c.args.item c.args.term.now)
