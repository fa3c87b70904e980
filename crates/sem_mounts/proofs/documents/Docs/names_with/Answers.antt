-- The lists tell which documents have the term.
use Rattle.std.proofs.Common.{◌≡◌, ◌∙◌}
use Rattle.std.proofs.lemmas.Result.{IfOk-weaker}
use Rattle.hac_model.specs.Spaces.Answering.{names_with}
use Rattle.hac_model.specs.Spaces.Catalogue.{names}
use Rattle.sem_mounts.specs.WordLists.{marked}
use Rattle.sem_mounts.proofs.WordListLemmas.{marked-names}
use Rattle.sem_mounts.proofs.documents.Docs.names_with.Goals as goal

pub returns : goal.returns
returns c =
    let texts = c.self.inside.texts in
    let marks = rw c.len.ensures at c.in_ok-marks.ensures in
    let same = marked-names c.args.term.now texts c.self.inside.lists
    c.in_ok-marks.marks.items c.self.invariant marks in
    rw (← c.self.view_is) (IfOk-weaker c.names_marked.result
    (λ found. found.items ≡ marked (names texts) c.as_slice.result.now)
    (λ found. found.items ≡ names_with texts c.args.term.now)
    (λ found is. is ∙ rw c.as_slice.ensures.value same) c.names_marked.ensures)
