use Rattle.std.proofs.Common.{ℕ, Bool, refl, ◌∙◌}
use Rattle.hac_model.specs.Query.Queries.{query_meaning}
use Rattle.hac_model.specs.Tree.Links.{atom, provide}
use Rattle.reeval.specs.Judging.{is_linked, verdict_of}
use Rattle.reeval.specs.Told.{told}
use Rattle.reeval.proofs.MeaningLemmas.{meaning-same}
use Rattle.reeval.proofs.judging.Sight.satisfies.Goals as goal

pub returns-clause-satisfies : goal.returns-clause-satisfies
returns-clause-satisfies g c =
    let t = g.Y.Layout.state c.args.self.now.layout.now in
    let s = g.B.Before.state c.args.self.now.before.now in
    let news = c.args.self.now.news.now in
    let held : ℕ → ℕ → Bool = (λ dir item. provide t (is_linked (told news (verdict_of s item))) dir item) in
    ◌∙◌ {b = query_meaning (atom t) held c.args.query.now c.args.item} c.judge.ensures.meaning
    (meaning-same (atom t) held (provide t (is_linked (told news (verdict_of s c.args.item)))) c.args.item (λ dir. refl) c.args.query.now)
