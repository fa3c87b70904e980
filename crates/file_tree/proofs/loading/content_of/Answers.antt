use Rattle.std.proofs.Common.{subst, ap, sym, ◌∙◌}
use Rattle.std.specs.Prelude.{Some}
use Rattle.hac_model.specs.Tree.Valid.{IsSound}
use Rattle.hac_model.specs.declared.states.Body.{Body}
use Rattle.hac_model.specs.declared.paths.PathWord.{PathWord}
use Rattle.hac_model.proofs.FollowLemmas.{target-is_word}
use Rattle.file_tree.proofs.loading.content_of.Goals as goal

-- a sound link has a target that is the word that was read
pub new-requires : goal.new-requires
new-requires c =
    target-is_word c.in-Symlink.target (subst (λ (b : Body). IsSound b) c.in-Symlink.is c.requires)
    ∙ ap (λ (w : PathWord). Some w) (sym c.in_ok-word-in-Symlink.ensures)
