use Rattle.std.proofs.Common.{rules, ◌∙◌, sym}
use Rattle.set_pool.specs.Rows.{members}
use Rattle.set_pool.proofs.BlockLemmas.{is_among-left, is_among-right, is_among-within}
use Rattle.set_pool.proofs.RisingLemmas.{parts}
use Rattle.set_pool.proofs.trees.+contains.Goals as goal

pub Block::contains-side-requires : goal.Block::contains-side-requires
Block::contains-side-requires t c = (parts c.args.self.now.left (members c.args.self.now.row) c.args.self.now.right c.requires).row

pub Block::contains-contains-requires : goal.Block::contains-contains-requires
Block::contains-contains-requires t c = (search rules, (parts c.args.self.now.left (members c.args.self.now.row) c.args.self.now.right c.requires).left)

pub Block::contains-contains-requires-in-After : goal.Block::contains-contains-requires-in-After
Block::contains-contains-requires-in-After t c = (search rules, (parts c.args.self.now.left (members c.args.self.now.row) c.args.self.now.right c.requires).right)

pub Block::contains-returns-in-Before : goal.Block::contains-returns-in-Before
Block::contains-returns-in-Before t c = c.contains.ensures ∙ sym (is_among-left c.args.value c.args.self.now.row.first c.args.self.now.left c.args.self.now.row.rest.items c.args.self.now.right c.requires c.in-Before.ensures)

pub Block::contains-returns-in-Within : goal.Block::contains-returns-in-Within
Block::contains-returns-in-Within t c = c.contains-in-Within.ensures ∙ sym (is_among-within c.args.value c.args.self.now.row.first c.args.self.now.left c.args.self.now.row.rest.items c.args.self.now.right c.requires c.in-Within.ensures)

pub Block::contains-returns-in-After : goal.Block::contains-returns-in-After
Block::contains-returns-in-After t c = c.contains-in-After.ensures ∙ sym (is_among-right c.args.value c.args.self.now.row.first c.args.self.now.left c.args.self.now.row.rest.items c.args.self.now.right c.requires c.in-After.ensures)
