use Rattle.std.proofs.Common.{length, sym, ◌∙◌}
use Rattle.std.proofs.lemmas.Bool.{eqb-true}
use Rattle.std.proofs.lemmas.List.{nil_from_length}
use Rattle.tree_answers.specs.Asked.{questions}
use Rattle.tree_answers.proofs.QuestionLemmas.{asks-even}
use Rattle.tree_answers.proofs.asking.questions_answered.Goals as goal

pub returns-then-is_empty : goal.returns-then-is_empty
returns-then-is_empty c =
    let s = c.args.kept.now.state in
    c.new.ensures.items
    ∙ sym (nil_from_length (questions s c.args.query.now) (sym (asks-even s c.args.query.now) ∙ sym c.requires ∙ eqb-true (length c.args.found.now) 0 (sym c.is_empty.ensures ∙ c.if-is_empty.true)))
