-- Each question leads on to the next, or stops all.
use Rattle.std.proofs.Common.{◌≡◌, ℕ, ◌+◌, Err, ◌∙◌, ap, length, rules}
use Rattle.std.proofs.lemmas.List.{length_push}
use Rattle.hac_model.specs.Spaces.Answering.{documents_in, names_with}
use Rattle.sem_mounts.proofs.GatherLemmas.{next-asked, next-said, next-stops}
use Rattle.sem_mounts.proofs.gathering.search_all.Goals as goal

pub returns-in_err-search_one-clause-asked : goal.returns-in_err-search_one-clause-asked
returns-in_err-search_one-clause-asked g c =
    let seen = g.P.Spaces.seen in
    let same : c.from_residual.result ≡ Err c.in_err-search_one.field-0.0 = search rules in
    rw same (next-stops (seen c.args.spaces.now) (seen c.loop-question.spaces) (seen
    c.search_one.new.spaces) c.args.searches.now c.loop-question.question-index
    c.question-item.result c.in_err-search_one.field-0.0
    c.loop-question-test.true c.question-item.is c.loop-question.invariant.asked
    c.in_err-search_one.ensures.asked)

pub loop-question-preserved : goal.loop-question-preserved
loop-question-preserved g c =
    let seen = g.P.Spaces.seen in
    let was = c.loop-question.invariant in
    let given = c.in_ok-search_one.ensures in
    record {
      asked = next-asked (seen c.args.spaces.now) (seen c.loop-question.spaces) (seen
          c.search_one.new.spaces) c.args.searches.now c.loop-question.question-index
          c.question-item.result c.in_ok-search_one.field-0
          c.loop-question-test.true c.question-item.is was.asked given.asked;
      count = ap length c.in_ok-push.ensures.ok ∙ length_push _ _ ∙ ap (λ (n : ℕ). n + 1) was.count;
      said = next-said (seen c.args.spaces.now).contents (seen c.loop-question.spaces).contents (λ
          contents question. names_with (documents_in contents.spaces question.space) question.term)
          c.args.searches.now c.loop-question.question-index c.question-item.result
          c.loop-question.found.items c.push.new.list.items c.in_ok-search_one.field-0
          c.loop-question-test.true c.question-item.is was.asked.contents c.in_ok-push.ensures.ok
          was.said given.said;
    }
