-- The runs of the text in lower case are its words.
use Rattle.std.proofs.Common.{◌≡◌, ◌∙◌, ap, arith, map}
use Rattle.hac_model.specs.Query.Words.{lower_case, runs, words}
use Rattle.hac_words.proofs.RunLemmas.{runs-lower_case}
use Rattle.sem_mounts.specs.WordLists.{is_listed}
use Rattle.sem_mounts.proofs.GatheredLemmas.{text-listed}
use Rattle.sem_mounts.proofs.gathered.Gathered.put_text.Goals as goal

pub returns : goal.returns
returns c = λ n term.
    let lowered : c.deref.result.now ≡ lower_case c.args.text.now = cc (c.in_ok-text.ensures.ok) in
    let found : map (λ run. run.now) c.deref-word-items.result.now ≡ words c.args.text.now =
    ap (map (λ run. run.now)) c.deref-word-items.ensures.value ∙ c.in_ok-runs.ensures
    ∙ ap runs lowered ∙ runs-lower_case c.args.text.now in
    text-listed n c.args.number term c.args.text.now (λ word. word.now)
    c.deref-word-items.result.now
    c.loop-word.word-index (is_listed c.args.self.now n term) (is_listed c.loop-word.self n term)
    (omega arith) found
    (c.loop-word.invariant n term)
