use Rattle.std.proofs.Common.{◌≡◌, List, ap, subst, sym, ◌∙◌}
use Rattle.hac_model.specs.Tree.Events.{apply_all}
use Rattle.hac_model.specs.declared.events.Event.{Event}
use Rattle.hac_model.specs.declared.states.State.{State}
use Rattle.reeval.specs.Judging.{verdict_of}
use Rattle.reeval.specs.Settled.{IsPlanned}
use Rattle.reeval.specs.Told.{news_on, told}
use Rattle.kept_links.specs.Tasks.{IsWayFrom}
use Rattle.kept_links.proofs.CostLemmas.{planned-cost}
use Rattle.kept_links.proofs.SemanticLemmas.{still-semantic}
use Rattle.kept_links.proofs.TaskLemmas.{next-valid, way-found}
use Rattle.kept_links.proofs.news.news_from.Goals as goal

pub task_from-requires-clause-way : goal.task_from-requires-clause-way
task_from-requires-clause-way g c =
    let s = c.args.coming.now.kept.now.state in
    way-found s c.args.coming.now.event.now c.know_valid.ensures c.requires.coming.accepted c.in_ok-way.way c.args.first c.requires.begins
    (subst (λ (next : State). IsWayFrom s next c.args.first c.in_ok-way.way) (ap (λ (events : List Event). apply_all s events) c.requires.coming.ready) c.in_ok-way.ensures)

pub returns-clause-news : goal.returns-clause-news
returns-clause-news g c =
    let s = c.args.coming.now.kept.now.state in
    let e = c.args.coming.now.event.now in
    let planned : IsPlanned s c.new-outlook.result c.in_ok-task.task = subst (λ (t : State). IsPlanned s t c.in_ok-task.task) (sym c.new-outlook.ensures) c.in_ok-task.ensures.planned in
    record {
      valid = next-valid s e c.know_valid.ensures c.requires.coming.accepted;
      begun = λ dir out. still-semantic s c.know_valid.ensures e c.requires.coming.accepted dir (c.requires.begins dir ∙ out);
      leads = record {
        verdicts = λ item dir. subst (λ (t : State). told (news_on item c.in_ok-delta.delta.items) (verdict_of s item) dir ≡ verdict_of t item dir) c.new-outlook.ensures
            (c.in_ok-delta.ensures.news planned item dir);
        fresh = c.in_ok-delta.ensures.fresh planned;
      };
      way = way-found s c.args.coming.now.event.now c.know_valid.ensures c.requires.coming.accepted c.in_ok-way.way c.args.first c.requires.begins
          (subst (λ (next : State). IsWayFrom s next c.args.first c.in_ok-way.way) (ap (λ (events : List Event). apply_all s events) c.requires.coming.ready) c.in_ok-way.ensures);
    }

pub returns-clause-probes : goal.returns-clause-probes
returns-clause-probes g c =
    planned-cost c.args.coming.now.kept.now.state c.new-outlook.result c.args.coming.now.event.now c.in_ok-task.task c.args.probes.now c.plan.new.probes c.new-outlook.ensures c.in_ok-task.ensures c.plan.ensures.probes
