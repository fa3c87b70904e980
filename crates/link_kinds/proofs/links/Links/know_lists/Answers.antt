use Rattle.link_kinds.proofs.SeenLemmas.{rise-seen}
use Rattle.link_kinds.proofs.links.Links.know_lists.Goals as goal

pub returns : goal.returns
returns c = rise-seen c.self.inside c.args.self.now c.self.view_is c.self.invariant
