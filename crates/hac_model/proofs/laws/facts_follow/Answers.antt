use Rattle.std.proofs.Common.{◌∙◌, sym}
use Rattle.hac_model.specs.Tree.Facts.{facts_of}
use Rattle.hac_model.proofs.FactLemmas.{facts-bare, facts-law}
use Rattle.hac_model.proofs.FillLemmas.{same-state}
use Rattle.hac_model.proofs.SessionLemmas.{sessions-follow}
use Rattle.hac_model.proofs.laws.facts_follow.Goals as goal

pub returns-clause-follow : goal.returns-clause-follow
returns-clause-follow c = λ s event valid ok number.
    facts-law s valid event ok number
    ∙ sym (facts-bare event s (facts_of s) number)

pub returns-clause-tell : goal.returns-clause-tell
returns-clause-tell c = λ s t valid sound bares sessions facts. same-state s t valid.layout.numbers sound.layout.numbers sessions bares facts

pub returns-clause-sessions : goal.returns-clause-sessions
returns-clause-sessions c = sessions-follow
