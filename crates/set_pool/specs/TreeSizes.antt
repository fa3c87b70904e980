-- Each side of a block has fewer numbers than the block, since no row is empty.
use Rattle.std.specs.Prelude.{◌≤◌, max, ◌++◌, length}
use Rattle.std.proofs.Common.{arith, length-append}
use Rattle.set_pool.specs.Rows.{members}
use Rattle.set_pool.specs.Trees.{numbers_of}
use Rattle.set_pool.specs.declared.trees.Link.{Link}
use Rattle.set_pool.specs.declared.trees.Link.TheVariants.{Empty, One, Full}
use Rattle.set_pool.specs.declared.trees.Tree.TheDeep.{deep-Link}

-- no side is deeper than the tree has numbers
pub sides_shorter : (link : Link) → max (deep-Link link) 0 ≤ length (numbers_of link)
sides_shorter Empty = omega arith
sides_shorter (One number) = omega arith
sides_shorter (Full block) = omega (arith, length-append block.value.left (members block.value.row ++ block.value.right), length-append (members block.value.row) block.value.right)
