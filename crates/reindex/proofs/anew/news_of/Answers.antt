use Rattle.reindex.proofs.WayLemmas.{lends-none}
use Rattle.reindex.proofs.anew.news_of.Goals as goal

pub news_by_words-requires-clause-unlent : goal.news_by_words-requires-clause-unlent
news_by_words-requires-clause-unlent g c = lends-none c.args.kept.now.state c.args.way.now c.requires c.if-way.false
