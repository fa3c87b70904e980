use Rattle.std.proofs.Common.{◌+◌, sym, ◌∙◌}
use Rattle.std.specs.Prelude.{nat_le}
use Rattle.hac_model.specs.declared.limits.TheConstants.{PATH_LIMIT}
use Rattle.hac_model.proofs.MoveLemmas.{paths-added}
use Rattle.hac_model.proofs.TreeLemmas.{directory-lives}
use Rattle.tree_counts.proofs.depths.has_room.Goals as goal

pub returns : goal.returns
returns c = λ name body is.
    let s = c.args.tree.now.state in
    (λ i. nat_le (c.depth.ensures.depth i + 1 + is i) PATH_LIMIT)
    ∙ sym (paths-added s c.args.dir name body c.know_layout.ensures.layout (directory-lives s.entries c.args.dir c.requires.dir))
