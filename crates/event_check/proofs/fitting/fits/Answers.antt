use Rattle.std.proofs.Common.{ap, sym, ◌∙◌}
use Rattle.hac_model.specs.declared.versions.Version.{Version}
use Rattle.event_check.specs.Fitting.{passes_none}
use Rattle.event_check.proofs.CountedLemmas.{placed-seated}
use Rattle.event_check.proofs.FittingLemmas.{accepts, not-placed, not-within}
use Rattle.event_check.proofs.fitting.fits.Goals as goal

pub returns-then-not-branch : goal.returns-then-not-branch
returns-then-not-branch c = not-placed c.args.kept.now.state c.args.event.now (sym c.in_ok-is_placed.ensures ∙ c.if-not-branch.true)

pub counts_after-counts-requires : goal.counts_after-counts-requires
counts_after-counts-requires c = placed-seated c.args.kept.now.state c.args.event.now (sym c.in_ok-is_placed.ensures ∙ c.if-not-branch.false)

pub returns-then-not-passes_none : goal.returns-then-not-passes_none
returns-then-not-passes_none c =
    not-within c.args.kept.now.state c.args.event.now c.counts_after-counts.result c.counts_after-counts.ensures
    (ap (λ (v : Version). passes_none v c.counts_after-counts.result) (sym c.version.ensures) ∙ sym c.passes_none.ensures ∙ c.if-not-passes_none.true)

pub returns-then-branch : goal.returns-then-branch
returns-then-branch c =
    let placed = sym c.in_ok-is_placed.ensures ∙ c.if-not-branch.false in
    let within = ap (λ (v : Version). passes_none v c.counts_after-counts.result) (sym c.version.ensures) ∙ sym c.passes_none.ensures ∙ c.if-not-passes_none.false in
    let clear = sym c.in_ok-is_clear.ensures ∙ c.if-branch.true in
    (accepts c.args.kept.now.state c.args.event.now c.counts_after-counts.result placed c.counts_after-counts.ensures within clear, c.counts_after-counts.ensures)
