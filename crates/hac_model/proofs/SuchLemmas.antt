-- A body without marks on some items stays what it is.
use Rattle.std.proofs.Common.{◌≡◌, ℕ, Bool, refl}
use Rattle.hac_model.specs.Tree.Mounting.{forgetting_such}
use Rattle.hac_model.specs.Tree.Mounts.{terms_in}
use Rattle.hac_model.specs.Tree.{is_directory, is_document, is_linkable, is_mount}
use Rattle.hac_model.specs.Tree.Valid.{IsSound}
use Rattle.hac_model.specs.declared.states.Body.{Body}
use Rattle.hac_model.specs.declared.states.Body.TheVariants.{Semantic}

pub such-terms : (test : ℕ → Bool) (body : Body) → terms_in (forgetting_such test body) ≡ terms_in body
such-terms test (Semantic query permanent prohibited) = refl
such-terms test other = refl

pub such-sound : (test : ℕ → Bool) (body : Body) → IsSound body → IsSound (forgetting_such test body)
such-sound test (Semantic query permanent prohibited) h = tt
such-sound test other h = h
