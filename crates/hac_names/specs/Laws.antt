-- Theorems over the definitions alone.
use Rattle.std.specs.Prelude.{◌≡◌, ℕ, true, List, IsTrue, Ok}
use Rattle.hac_model.specs.Tree.Paths.{are_names, path_text}
use Rattle.hac_model.specs.Script.PathWords.{word_of}
use Rattle.hac_model.specs.declared.paths.PathWord.{PathWord}

-- a printed path of names is read as the absolute word that leads to it
abbrev pub PrintedPathIsRead : Type 0
PrintedPathIsRead = (path : List (List ℕ)) → IsTrue (are_names path) → word_of (path_text path) ≡ Ok (record { absolute = true; ups = 0; names = path })

-- the names of a word that is read are names
abbrev pub ReadNamesAreNames : Type 0
ReadNamesAreNames = (bytes : List ℕ) (word : PathWord) → word_of bytes ≡ Ok word → IsTrue (are_names word.names)
