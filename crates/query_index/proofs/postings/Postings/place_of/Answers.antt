use Rattle.std.proofs.Common.{ap, sym, ◌∙◌}
use Rattle.query_index.specs.Seen.{place_of}
use Rattle.query_index.proofs.PostingLemmas.{Seen_postings, unpassed-nowhere}
use Rattle.query_index.proofs.postings.Postings.place_of.Goals as goal

pub returns-else-passes : goal.returns-else-passes
returns-else-passes c =
    sym (unpassed-nowhere c.self.inside.places.entries c.self.inside.sieve c.args.letters.now c.self.invariant (sym c.passes.ensures ∙ c.if-passes.false))
    ∙ ap (λ (seen : Seen_postings). place_of seen c.args.letters.now) c.self.view_is
