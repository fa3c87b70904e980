use Rattle.std.proofs.Common.{sym, ◌∙◌}
use Rattle.event_check.proofs.PlacedLemmas.{asks-none, same-alone}
use Rattle.event_check.proofs.fitting.is_placed.Goals as goal

pub is_placed_in-requires : goal.is_placed_in-requires
is_placed_in-requires c = asks-none c.args.event.now c.in_default.not-Smkdir c.in_default.not-Setq c.in_default.not-Smount c.in_default.not-Ssync

pub returns-in_default : goal.returns-in_default
returns-in_default c =
    c.is_placed_in.ensures
    ∙ sym (same-alone c.args.kept.now.state c.tree.result.now.state c.tree.ensures.tree.bares c.args.event.now
    (asks-none c.args.event.now c.in_default.not-Smkdir c.in_default.not-Setq c.in_default.not-Smount c.in_default.not-Ssync))
