use Rattle.std.proofs.Common.{◌≡◌, List, ap, sym, subst, ◌∙◌, IfOk}
use Rattle.std.specs.List.{flat_map}
use Rattle.hac_model.specs.declared.counts.Counts.{Counts}
use Rattle.hac_model.specs.declared.terms.Term.{Term}
use Rattle.file_tree.specs.Answers.{numbers_of}
use Rattle.tree_answers.specs.Asked.{questions_at}
use Rattle.tree_answers.specs.declared.asking.Question.{Question}
use Rattle.tree_answers.proofs.QuestionLemmas.{all-asked, none-asked}
use Rattle.tree_answers.proofs.asking.questions.Goals as goal

pub returns-then-counts-eq0 : goal.returns-then-counts-eq0
returns-then-counts-eq0 c =
    c.new.ensures.items
    ∙ sym (none-asked c.args.kept.now.state c.args.query.now (sym (ap (λ (k : Counts). k.mounts) c.counts.ensures.counts) ∙ c.if-counts-eq0.true))

pub returns : goal.returns
returns c =
    let s = c.args.kept.now.state in
    subst (λ (asked : List Question). IfOk c.questions_about.result (λ questions. questions.items ≡ asked))
    (ap (λ (terms : List Term). flat_map (questions_at s terms) (numbers_of s.entries)) (c.as_slice.ensures.value ∙ c.in_ok-terms.ensures) ∙ all-asked s c.args.query.now c.counts.ensures.valid.layout.numbers)
    c.questions_about.ensures
