use Rattle.std.proofs.Common.{rules, ◌∙◌, sym}
use Rattle.set_pool.specs.Rows.{members}
use Rattle.set_pool.proofs.BlockLemmas.{first_from-left, first_from-right, first_from-within}
use Rattle.set_pool.proofs.RisingLemmas.{parts}
use Rattle.set_pool.proofs.trees.+first_from.Goals as goal

pub Block::first_from-side-requires : goal.Block::first_from-side-requires
Block::first_from-side-requires t c = (parts c.args.self.now.left (members c.args.self.now.row) c.args.self.now.right c.requires).row

pub Block::first_from-first_from-requires : goal.Block::first_from-first_from-requires
Block::first_from-first_from-requires t c = (search rules, (parts c.args.self.now.left (members c.args.self.now.row) c.args.self.now.right c.requires).left)

pub Block::first_from-first_from-requires-in-After : goal.Block::first_from-first_from-requires-in-After
Block::first_from-first_from-requires-in-After t c = (search rules, (parts c.args.self.now.left (members c.args.self.now.row) c.args.self.now.right c.requires).right)

pub Block::first_from-returns-in-Before : goal.Block::first_from-returns-in-Before
Block::first_from-returns-in-Before t c = c.or.ensures ∙ rw (c.first_from.ensures, c.first.ensures) (sym (first_from-left c.args.value c.args.self.now.row.first c.args.self.now.left c.args.self.now.row.rest.items c.args.self.now.right c.requires c.in-Before.ensures))

pub Block::first_from-returns-in-Within : goal.Block::first_from-returns-in-Within
Block::first_from-returns-in-Within t c = c.first_from-in-Within.ensures ∙ sym (first_from-within c.args.value c.args.self.now.row.first c.args.self.now.left c.args.self.now.row.rest.items c.args.self.now.right c.requires c.in-Within.ensures)

pub Block::first_from-returns-in-After : goal.Block::first_from-returns-in-After
Block::first_from-returns-in-After t c = c.first_from-in-After.ensures ∙ sym (first_from-right c.args.value c.args.self.now.row.first c.args.self.now.left c.args.self.now.row.rest.items c.args.self.now.right c.requires c.in-After.ensures)
