-- Where an item that moves is judged again.
use Rattle.std.specs.Prelude.{◌≡◌, ℕ, Bool, true, not}
use Rattle.std.specs.List.{list_any}
use Rattle.std.proofs.Math.Bool.{beq}
use Rattle.hac_model.specs.Tree.Depends.{depends}
use Rattle.hac_model.specs.Tree.Links.{is_below, is_semantic, parent_of}
use Rattle.hac_model.specs.Tree.{body_at, is_document_at}
use Rattle.hac_model.specs.declared.states.State.{State}

-- the item leaves the directory or comes to it, at any depth
abbrev pub crosses : State → State → ℕ → ℕ → Bool
crosses s t item dir = not (beq (is_below s dir item) (is_below t dir item))

-- the place of the item may tell the directory something else: it depends on one that the item leaves or comes to
abbrev pub place_tells : State → State → ℕ → ℕ → Bool
place_tells s t item dir = list_any (crosses s t item) (depends t dir)

-- the states differ in nothing but where entries are: each is what it was, semantic directories are where they were, and so
-- is the item, if it is a document
pub record OnlyMoves (s t : State) (item : ℕ) : Type 0 where
  pub bodies : (number : ℕ) → body_at s.entries number ≡ body_at t.entries number
  pub asking : (dir : ℕ) → is_semantic s dir ≡ true → parent_of s dir ≡ parent_of t dir
  pub home : is_document_at s.entries item ≡ true → parent_of s item ≡ parent_of t item
