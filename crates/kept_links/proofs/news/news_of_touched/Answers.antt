use Rattle.kept_links.proofs.SemanticLemmas.{still-semantic}
use Rattle.kept_links.proofs.TaskLemmas.{next-valid, way-still}
use Rattle.kept_links.proofs.news.news_of_touched.Goals as goal

pub returns-clause-news : goal.returns-clause-news
returns-clause-news g c = record {
  valid = next-valid c.args.coming.now.kept.now.state c.args.coming.now.event.now c.know_valid.ensures c.requires.coming.accepted;
  begun = λ dir _. still-semantic c.args.coming.now.kept.now.state c.know_valid.ensures c.args.coming.now.event.now c.requires.coming.accepted dir (c.requires.never dir);
  leads = c.in_ok-delta.ensures.behind;
  way = way-still c.args.coming.now.kept.now.state c.args.coming.now.event.now c.know_valid.ensures c.requires.coming.accepted c.args.coming.now.way.now c.requires.never c.requires.coming.way;
}
