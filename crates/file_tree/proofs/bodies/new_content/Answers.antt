use Rattle.std.proofs.Common.{subst, ap, sym, ◌∙◌}
use Rattle.hac_model.specs.Tree.Valid.{IsSound}
use Rattle.hac_model.proofs.FollowLemmas.{target-is_word}
use Rattle.file_tree.specs.Bodies.{body_from, new_word}
use Rattle.file_tree.specs.declared.bodies.NewBody.{NewBody}
use Rattle.file_tree.proofs.bodies.new_content.Goals as goal

pub new-requires : goal.new-requires
new-requires c =
    target-is_word c.in-Symlink.target (subst (λ (b : NewBody). IsSound (body_from b)) c.in-Symlink.is c.requires.sound)
    ∙ sym (ap new_word c.in-Symlink.is) ∙ sym c.requires.word ∙ c.in-Some.is
