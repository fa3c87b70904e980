use Rattle.std.proofs.Common.{ℕ, ◌+◌, length, ap, ◌∙◌}
use Rattle.std.specs.Prelude.{nat_le}
use Rattle.hac_model.specs.Tree.{lineage}
use Rattle.hac_model.specs.declared.limits.TheConstants.{PATH_LIMIT}
use Rattle.hac_model.proofs.PathLemmas.{lineage-steps}
use Rattle.layout_check.proofs.depths.has_short_path.Goals as goal

pub returns : goal.returns
returns c =
    let entries = c.args.entries.now in
    let number = c.args.entry.now.number in
    ap (λ (names : ℕ). nat_le (names + c.names_below.result) PATH_LIMIT)
    (c.count_ancestors-names.ensures.ancestors ∙ ap length (lineage-steps entries number))
    ∙ ap (λ (below : ℕ). nat_le (length (lineage entries number) + below) PATH_LIMIT) c.names_below.ensures
