-- What new entries are.
use Rattle.std.specs.Prelude.{[], Bool, true, Option, Some, None}
use Rattle.hac_model.specs.Script.PathWords.{untested_word}
use Rattle.hac_model.specs.declared.paths.PathWord.{PathWord}
use Rattle.hac_model.specs.declared.states.Body.{Body}
use Rattle.hac_model.specs.declared.states.Body.TheVariants as body
use Rattle.file_tree.specs.declared.bodies.NewBody.{NewBody}
use Rattle.file_tree.specs.declared.bodies.NewBody.TheVariants as new

-- what a new entry is: a file is dirty, and a directory has neither marks nor answers
abbrev pub body_from : NewBody → Body
body_from (new.File text) = body.File text true None
body_from new.Dir = body.Dir
body_from (new.Symlink target) = body.Symlink target
body_from (new.Semantic query) = body.Semantic query [] []
body_from (new.Mount space) = body.Mount space []
body_from new.Document = body.Document

-- the word of a new symbolic link
abbrev pub new_word : NewBody → Option PathWord
new_word (new.Symlink target) = Some (untested_word target)
new_word other = None
