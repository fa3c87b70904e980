use Rattle.hac_model.proofs.EventLemmas.{steps-clean, steps-due}
use Rattle.hac_model.proofs.PlayLemmas.{index-cleans}
use Rattle.hac_model.proofs.laws.steps_clean.Goals as goal

pub returns-clause-due : goal.returns-clause-due
returns-clause-due c = λ s h. steps-due s h.layout

pub returns-clause-clean : goal.returns-clause-clean
returns-clause-clean c = λ s h ok. steps-clean s h.layout ok

pub returns-clause-all : goal.returns-clause-all
returns-clause-all c = index-cleans
