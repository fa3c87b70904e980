use Rattle.std.proofs.Common.{ℕ, List, [], ◌∷◌, ◌++◌, set, ap, ◌∙◌}
use Rattle.tiered_list.proofs.EditLemmas.{wrapped}
use Rattle.tiered_list.proofs.runs.Run.push_back.Goals as goal

pub returns-then-self-len-clause-numbers : goal.returns-then-self-len-clause-numbers
returns-then-self-len-clause-numbers c =
    let ring = c.self.inside.ring.items in
    let head = c.self.inside.head in
    (λ i. c.replace-first.ensures.value i ∷ (set ring head (c.replace-first.ensures.after i) ++ []))
    ∙ wrapped ring head c.args.number c.index_mut.result.now (c.if-self-len.true ∙ c.len.ensures ∙ c.self.inside.ring.ok.0) c.index_mut.ensures.value
    ∙ ap (λ (ns : List ℕ). ns ++ c.args.number ∷ []) c.self.view_is
