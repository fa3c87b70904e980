use Rattle.std.proofs.Common.{◌++◌, refl, rules, sym, ap, ◌∙◌}
use Rattle.set_pool.specs.Rows.{members}
use Rattle.set_pool.specs.Trees.{numbers_of}
use Rattle.set_pool.proofs.BlockLemmas.{is_among-left, is_among-right, is_among-within, removed-left, removed-only, removed-right, removed-within}
use Rattle.set_pool.proofs.RisingLemmas.{parts}
use Rattle.set_pool.proofs.trees.+remove.Goals as goal
use Rattle.set_pool.proofs.trees.+remove.Goals.{Tree::remove-in-Empty-2, Tree::remove-in-Full-2}

pub Block::remove-side-requires : goal.Block::remove-side-requires
Block::remove-side-requires t c = (parts c.args.self.now.left (members c.args.self.now.row) c.args.self.now.right c.requires.rising).row

pub Block::remove-remove_left-requires : goal.Block::remove-remove_left-requires
Block::remove-remove_left-requires t c = (search rules, (parts c.args.self.now.left (members c.args.self.now.row) c.args.self.now.right c.requires.rising).left)

pub Block::remove-remove-requires-clause-rising : goal.Block::remove-remove-requires-clause-rising
Block::remove-remove-requires-clause-rising t c = (parts c.args.self.now.left (members c.args.self.now.row) c.args.self.now.right c.requires.rising).row

pub Block::remove-remove_right-requires : goal.Block::remove-remove_right-requires
Block::remove-remove_right-requires t c = (search rules, (parts c.args.self.now.left (members c.args.self.now.row) c.args.self.now.right c.requires.rising).right)

pub Block::remove-returns-in-Before-clause-list : goal.Block::remove-returns-in-Before-clause-list
Block::remove-returns-in-Before-clause-list t c = c.remove_left.ensures.list ∙ sym (removed-left c.args.value c.args.self.now.row.first c.args.self.now.left c.args.self.now.row.rest.items c.args.self.now.right c.requires.rising c.in-Before.ensures)

pub Block::remove-returns-in-Before-clause-there : goal.Block::remove-returns-in-Before-clause-there
Block::remove-returns-in-Before-clause-there t c = c.remove_left.ensures.there ∙ sym (is_among-left c.args.value c.args.self.now.row.first c.args.self.now.left c.args.self.now.row.rest.items c.args.self.now.right c.requires.rising c.in-Before.ensures)

pub Block::remove-returns-in-Within-clause-list : goal.Block::remove-returns-in-Within-clause-list
Block::remove-returns-in-Within-clause-list t c = ap (λ z. c.args.self.now.left ++ (z ++ c.args.self.now.right)) c.remove.ensures.list ∙ sym (removed-within c.args.value c.args.self.now.row.first c.args.self.now.left c.args.self.now.row.rest.items c.args.self.now.right c.requires.rising c.in-Within.ensures)

pub Block::remove-returns-in-Within-clause-there : goal.Block::remove-returns-in-Within-clause-there
Block::remove-returns-in-Within-clause-there t c = c.remove.ensures.there ∙ sym (is_among-within c.args.value c.args.self.now.row.first c.args.self.now.left c.args.self.now.row.rest.items c.args.self.now.right c.requires.rising c.in-Within.ensures)

pub Block::remove-returns-in-After-clause-list : goal.Block::remove-returns-in-After-clause-list
Block::remove-returns-in-After-clause-list t c = c.remove_right.ensures.list ∙ sym (removed-right c.args.value c.args.self.now.row.first c.args.self.now.left c.args.self.now.row.rest.items c.args.self.now.right c.requires.rising c.in-After.ensures)

pub Block::remove-returns-in-After-clause-there : goal.Block::remove-returns-in-After-clause-there
Block::remove-returns-in-After-clause-there t c = c.remove_right.ensures.there ∙ sym (is_among-right c.args.value c.args.self.now.row.first c.args.self.now.left c.args.self.now.row.rest.items c.args.self.now.right c.requires.rising c.in-After.ensures)

pub Tree::remove-returns-in-Some-clause-list : goal.Tree::remove-returns-in-Some-clause-list
Tree::remove-returns-in-Some-clause-list t c =
    let block = c.in-Full.block.value in
    let is = sym c.self.view_is ∙ ap numbers_of c.in-Full.is in
    let only = rw c.deref.ensures at (c.if-not-is_only.ensures.0 refl) in
    let gone = removed-only c.args.value c.args.self.now block.left (members block.row) block.right is c.requires only in
    let left = rw c.deref_mut-in-Full.ensures.value at c.in-Some.ensures in
    elim c.match-self-left.branch [
      | Tree::remove-in-Full-2 w ↦ w.self-is ∙ c.left.view_is ∙ left ∙ sym gone
      | Tree::remove-in-Empty-2 w ↦ w.self-is ∙ c.left.view_is ∙ left ∙ sym gone
    ]

pub Tree::remove-returns-in_default-clause-list : goal.Tree::remove-returns-in_default-clause-list
Tree::remove-returns-in_default-clause-list t c =
    let block = c.in-Full.block.value in
    let is = sym c.self.view_is ∙ ap numbers_of c.in-Full.is in
    let only = rw c.deref.ensures at (c.if-not-is_only.ensures.0 refl) in
    let gone = removed-only c.args.value c.args.self.now block.left (members block.row) block.right is c.requires only in
    rw c.deref_mut-in-Full.ensures.value at c.in_default.ensures ∙ sym gone
