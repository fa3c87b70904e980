use Rattle.std.proofs.Common.{◌+◌, Bool, ap, drop, sym, ◌∙◌}
use Rattle.std.specs.Prelude.{◌||◌}
use Rattle.tree_answers.specs.Asked.{was_told}
use Rattle.tree_answers.proofs.ToldLemmas.{told-step}
use Rattle.tree_answers.proofs.telling.was_told.Goals as goal

pub places-preserved : goal.places-preserved
places-preserved c =
    let rest = was_told (drop (c.places.place + 1) c.args.questions.now) (drop (c.places.place + 1) c.args.documents.now) c.args.mount c.args.term.now c.args.item in
    sym (told-step c.args.questions.now c.args.documents.now c.places.place c.args.mount c.args.term.now c.args.item ∙ ap (λ (b : Bool). b || rest) (sym c.tells_at.ensures ∙ c.if-tells_at.false))
    ∙ c.places.invariant
