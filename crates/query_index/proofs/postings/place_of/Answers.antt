use Rattle.std.proofs.Common.{◌∙◌}
use Rattle.query_index.proofs.PostingLemmas.{place-seen}
use Rattle.query_index.proofs.postings.place_of.Goals as goal

pub returns : goal.returns
returns c = c.get_index_of.ensures.index ∙ place-seen c.args.places.now.entries c.args.letters.now
