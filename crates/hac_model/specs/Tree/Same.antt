-- States in which a user sees the same tree, whatever numbers its entries have.
use Rattle.std.specs.Prelude.{◌≡◌, ℕ, Bool, true, false, ◌&&◌, List, [], ◌∷◌, Option}
use Rattle.std.specs.List.{list_any}
use Rattle.std.specs.Option.{option_map}
use Rattle.std.specs.Str.{bytes_eq}
use Rattle.hac_model.specs.Query.Formula.{Formula}
use Rattle.hac_model.specs.Query.QueryText.{referred_by}
use Rattle.hac_model.specs.Tree.Looks.{body_of, stands_at}
use Rattle.hac_model.specs.Tree.{path_of}
use Rattle.hac_model.specs.declared.states.Body.{Body}
use Rattle.hac_model.specs.declared.states.Body.TheVariants.{File, Dir, Symlink, Semantic, Mount, Document}
use Rattle.hac_model.specs.declared.states.State.{State}

-- a path by its names, from the root
abbrev pub Names : Type 0
Names = List (List ℕ)

-- What stands at a path, with paths for numbers: a text, whether it is dirty, and the text that is shown; a target; a
-- query, which paths were added and which were removed. What a mount keeps of its space's answers is left out.
pub data Sight : Type 0 where
  file : List ℕ → Bool → Option (List ℕ) → Sight
  directory : Sight
  link : List ℕ → Sight
  semantic : Formula Names → (Names → Bool) → (Names → Bool) → Sight
  mount : List ℕ → Sight
  document : Sight

abbrev pub is_same_path : Names → Names → Bool
is_same_path [] [] = true
is_same_path (name ∷ names) (other ∷ others) = bytes_eq name other && is_same_path names others
is_same_path path other = false

-- the path is that of one of these numbers
abbrev pub is_among_paths : State → List ℕ → Names → Bool
is_among_paths s numbers path = list_any (λ number. is_same_path (path_of s number) path) numbers

-- a body with paths for its numbers
abbrev pub sight : State → Body → Sight
sight s (File text dirty shown) = file text dirty shown
sight s Dir = directory
sight s (Symlink target) = link target
sight s (Semantic query permanent prohibited) =
    semantic (referred_by (path_of s) query) (is_among_paths s permanent) (is_among_paths s prohibited)
sight s (Mount space answers) = mount space
sight s Document = document

-- what stands at a path, if anything does
abbrev pub sight_at : State → Names → Option Sight
sight_at s path = option_map (λ number. sight s (body_of s number)) (stands_at s.entries 0 path)

-- the same stands at every path
abbrev pub Same : State → State → Type 0
Same s t = (path : Names) → sight_at s path ≡ sight_at t path
