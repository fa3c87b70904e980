use Rattle.std.proofs.Common.{false, refl, sym, ap, ◌∙◌}
use Rattle.std.proofs.lemmas.Bool.{both_ways}
use Rattle.set_pool.specs.Trees.{numbers_of}
use Rattle.set_pool.proofs.BlockLemmas.{never-empty}
use Rattle.set_pool.proofs.trees.Tree.is_empty.Goals as goal

pub returns-in-Full : goal.returns-in-Full
returns-in-Full c =
    let block = c.in-Full.field-0.value in
    (λ h. absurd (both_ways false refl h), λ e. absurd (never-empty block.left block.row.first _ (sym (ap numbers_of c.in-Full.is) ∙ c.self.view_is ∙ e)))
