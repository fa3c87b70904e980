use Rattle.std.proofs.Common.{sym, ◌∙◌}
use Rattle.kept_links.proofs.TouchLemmas.{touched-nothing}
use Rattle.kept_links.proofs.transition.Transition.touched_items.Goals as goal

pub returns-in-Nothing : goal.returns-in-Nothing
returns-in-Nothing c =
    c.new.ensures.items
    ∙ sym (touched-nothing c.args.self.now.before.now.state c.args.self.now.event.now c.know_valid.ensures.layout c.requires.accepted (sym c.reach_of.ensures ∙ c.in-Nothing.is))
