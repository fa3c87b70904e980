use Rattle.std.proofs.Common.{sym, subst, ◌∙◌}
use Rattle.std.specs.Prelude.{IsTrue}
use Rattle.hac_model.specs.declared.events.Event.{Event}
use Rattle.tree_counts.specs.Seated.{is_seated}
use Rattle.hac_core.proofs.SettleLemmas.{change-is, seated-answering, unasked-change}
use Rattle.hac_core.specs.Drafts.{answering}
use Rattle.hac_core.proofs.settling.answered.Goals as goal

pub counted-requires : goal.counted-requires
counted-requires c =
    let s = c.args.kept.now.state in
    subst (λ (e : Event). IsTrue (is_seated s e)) (sym c.in_ok-event.ensures)
    (seated-answering s c.know_valid.ensures.layout c.args.answers c.args.change.event c.requires.seated c.requires.answered c.requires.few)

pub returns-in_ok-event : goal.returns-in_ok-event
returns-in_ok-event c =
    let s = c.args.kept.now.state in
    change-is s c.counted.result (answering s c.args.answers c.args.change.event) (c.counted.ensures.event ∙ c.in_ok-event.ensures) c.counted.ensures.counts

pub returns-else-asks : goal.returns-else-asks
returns-else-asks c = unasked-change c.args.kept.now.state c.args.answers c.args.change (sym c.asks.ensures ∙ c.if-asks.false) c.requires.counted
