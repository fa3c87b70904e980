use Rattle.hac_core.proofs.DraftLemmas.{known-indexes, known-reads, known-saves, knows-change, seated-made}
use Rattle.hac_core.proofs.drafting.known_of.Goals as goal

pub changing-requires : goal.changing-requires
changing-requires c = seated-made c.args.kept.now.state c.know_valid.ensures.layout c.args.command c.in-Event.event c.requires.stands c.requires.free c.in-Event.ensures

pub returns-in-Event-clause-known : goal.returns-in-Event-clause-known
returns-in-Event-clause-known c =
    (knows-change c.args.kept.now.state c.know_valid.ensures c.args.command c.in-Event.event c.changing.result c.requires.stands c.requires.free c.in-Event.ensures c.changing.ensures.known c.changing.ensures.passes).0

pub returns-in-Event-clause-refused : goal.returns-in-Event-clause-refused
returns-in-Event-clause-refused c =
    (knows-change c.args.kept.now.state c.know_valid.ensures c.args.command c.in-Event.event c.changing.result c.requires.stands c.requires.free c.in-Event.ensures c.changing.ensures.known c.changing.ensures.passes).1

pub returns-in-Steps-clause-known : goal.returns-in-Steps-clause-known
returns-in-Steps-clause-known c = known-indexes c.args.kept.now.state c.know_valid.ensures c.args.command c.in-Steps.count c.requires.stands c.in-Steps.ensures

pub returns-in-Nothing-clause-known : goal.returns-in-Nothing-clause-known
returns-in-Nothing-clause-known c = known-reads c.args.kept.now.state c.know_valid.ensures c.args.command c.in-Nothing.command c.requires.stands c.requires.free c.in-Nothing.ensures

pub returns-in-Area-clause-known : goal.returns-in-Area-clause-known
returns-in-Area-clause-known c = known-saves c.args.kept.now.state c.know_valid.ensures c.args.command c.requires.stands c.in-Area.ensures
