use Rattle.kept_links.proofs.TaskLemmas.{task-touched}
use Rattle.kept_links.proofs.tasks.task_of_touched.Goals as goal

pub returns : goal.returns
returns c =
    let w = c.requires.way in
    task-touched c.args.transition.now.before.now.state c.args.transition.now.event.now c.know_valid.ensures c.requires.transition.accepted
    (record { touched = c.in_ok-touched_items.field-0; everywhere = c.in_ok-stops_of_touched.field-0; others = c.new.result; along = c.new-2.result })
    c.args.way.now c.in_ok-touched_items.ensures w c.in_ok-stops_of_touched.ensures c.requires.never c.new.ensures.items
