-- What a tree holds.
use Rattle.std.specs.Prelude.{ℕ, ◌+◌, ◌≤◌, List, [], ◌∷◌, ◌++◌}
use Rattle.set_pool.specs.Rows.{members}
use Rattle.set_pool.specs.declared.trees.Block.{Block}
use Rattle.set_pool.specs.declared.trees.Link.{Link}
use Rattle.set_pool.specs.declared.trees.Link.TheVariants.{Empty, One, Full}

-- the numbers of a block: those on its left, its row, and those on its right
abbrev pub numbers_in : Block → List ℕ
numbers_in block = block.left ++ (members block.row ++ block.right)

-- the numbers of a tree, in order
abbrev pub numbers_of : Link → List ℕ
numbers_of Empty = []
numbers_of (One number) = number ∷ []
numbers_of (Full block) = numbers_in block.value

-- at most one of the blocks that were set aside was taken, and none was added
abbrev pub TakesOneAtMost : ℕ → ℕ → Type 0
TakesOneAtMost old new = (new ≤ old) × (old ≤ new + 1)
