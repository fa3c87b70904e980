use Rattle.std.proofs.Common.{◌≡◌, ◌++◌}
use Rattle.std.specs.Prelude.{filter}
use Rattle.hac_model.specs.Tree.Events.{apply}
use Rattle.kept_links.specs.Items.{is_other, numbers_around}
use Rattle.kept_links.proofs.transition.Transition.other_items.Given as goal

-- the items so far, and those among the numbers that are left, are all
abbrev pub invariant-loop-number : goal.invariant-loop-number
invariant-loop-number l = l.items.items ++ filter (is_other l.self.before.now.state l.self.event.now) l.number-iterator.rest.items ≡ filter (is_other l.self.before.now.state l.self.event.now) (numbers_around l.self.before.now.state (apply l.self.before.now.state l.self.event.now))
