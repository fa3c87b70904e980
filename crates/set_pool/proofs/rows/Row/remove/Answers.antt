use Rattle.std.proofs.Common.{sym, ◌∙◌}
use Rattle.set_pool.proofs.RowLemmas.{close_up, more_behind, removed-first, removed-later}
use Rattle.set_pool.proofs.rows.Row.remove.Goals as goal

pub returns-then-self-value-clause-list : goal.returns-then-self-value-clause-list
returns-then-self-value-clause-list c =
    let row = c.args.self.now in
    let more = more_behind row.first c.args.value row.rest.items c.requires.stays c.if-self-value.true in
    rw c.remove-self.ensures.items (close_up row.rest.items c.remove-self.result c.remove-self.ensures.value more)
    ∙ sym (removed-first row.first c.args.value row.rest.items c.requires.rising c.if-self-value.true)

pub returns-clause-list : goal.returns-clause-list
returns-clause-list c =
    let row = c.args.self.now in
    rw (c.remove_behind.ensures.first, c.remove_behind.ensures.list) (sym (removed-later row.first c.args.value row.rest.items c.if-self-value.false))
