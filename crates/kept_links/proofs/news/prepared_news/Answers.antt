use Rattle.std.proofs.Common.{subst}
use Rattle.kept_state.specs.After.{next_state}
use Rattle.reeval.specs.Settled.{AreSetsFor}
use Rattle.kept_links.proofs.KeepLemmas.{links-alike}
use Rattle.kept_links.proofs.SetLemmas.{few-news}
use Rattle.kept_links.proofs.news.prepared_news.Goals as goal

pub drop_plain-requires-clause-links : goal.drop_plain-requires-clause-links
drop_plain-requires-clause-links g c = links-alike c.args.kept.now.state c.args.found.now c.reserve.new.found c.requires.links c.reserve.ensures.same

pub drop_plain-requires-clause-sets : goal.drop_plain-requires-clause-sets
drop_plain-requires-clause-sets g c =
    let news = c.in_ok-news.ensures.news in
    few-news c.args.kept.now.state (next_state c.args.kept.now) c.in_ok-news.news.begun c.args.found.now c.reserve.new.found c.in_ok-news.news.delta.items
    c.know_valid.ensures news.valid news.begun news.leads (subst (AreSetsFor c.args.found.now c.reserve.new.found) c.as_slice.ensures.value c.reserve.ensures.sets) c.requires.sets

pub returns-in-Ok-clause-links : goal.returns-in-Ok-clause-links
returns-in-Ok-clause-links g c = links-alike c.args.kept.now.state c.args.found.now c.reserve.new.found c.requires.links c.reserve.ensures.same

pub returns-in-Ok-clause-sets : goal.returns-in-Ok-clause-sets
returns-in-Ok-clause-sets g c =
    let news = c.in_ok-news.ensures.news in
    few-news c.args.kept.now.state (next_state c.args.kept.now) c.in_ok-news.news.begun c.args.found.now c.reserve.new.found c.in_ok-news.news.delta.items
    c.know_valid.ensures news.valid news.begun news.leads (subst (AreSetsFor c.args.found.now c.reserve.new.found) c.as_slice.ensures.value c.reserve.ensures.sets) c.requires.sets
