use Rattle.std.proofs.Common.{subst}
use Rattle.reeval.specs.Settled.{AreSetsFor}
use Rattle.kept_links.proofs.KeepLemmas.{links-alike}
use Rattle.kept_links.proofs.SetLemmas.{steps-asked}
use Rattle.kept_links.proofs.news.prepared_steps.Goals as goal

pub returns-clause-links : goal.returns-clause-links
returns-clause-links g c = links-alike c.args.kept.now.state c.args.found.now c.reserve.new.found c.requires.links c.reserve.ensures.same

pub returns-clause-sets : goal.returns-clause-sets
returns-clause-sets g c =
    steps-asked c.args.kept.now.state c.args.count c.args.found.now c.reserve.new.found c.in_ok-delta.delta.items c.know_valid.ensures c.requires.happen c.in_ok-delta.ensures.leads
    (subst (AreSetsFor c.args.found.now c.reserve.new.found) c.as_slice.ensures.value c.reserve.ensures.sets) c.requires.sets

pub returns-in_err-reserve-clause-links : goal.returns-in_err-reserve-clause-links
returns-in_err-reserve-clause-links g c = links-alike c.args.kept.now.state c.args.found.now c.reserve.new.found c.requires.links c.reserve.ensures.same

pub returns-in_err-reserve-clause-sets : goal.returns-in_err-reserve-clause-sets
returns-in_err-reserve-clause-sets g c =
    steps-asked c.args.kept.now.state c.args.count c.args.found.now c.reserve.new.found c.in_ok-delta.delta.items c.know_valid.ensures c.requires.happen c.in_ok-delta.ensures.leads
    (subst (AreSetsFor c.args.found.now c.reserve.new.found) c.as_slice.ensures.value c.reserve.ensures.sets) c.requires.sets
