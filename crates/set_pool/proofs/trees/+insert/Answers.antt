use Rattle.std.proofs.Common.{◌++◌, not, rules, sym, ap, ◌∙◌}
use Rattle.set_pool.specs.Rising.{inserted}
use Rattle.set_pool.specs.Rows.{members}
use Rattle.set_pool.proofs.BlockLemmas.{absent-first, absent-last, below-greatest, greatest-below, inserted-first, inserted-last, inserted-left, inserted-overflow, inserted-right, inserted-within, is_among-left, is_among-right, is_among-within}
use Rattle.set_pool.proofs.RisingLemmas.{below-within, inserted-present, is_among-above, is_among-below, parts}
use Rattle.set_pool.proofs.trees.+insert.Goals as goal

pub Block::insert-side-requires : goal.Block::insert-side-requires
Block::insert-side-requires t c = (parts c.args.self.now.left (members c.args.self.now.row) c.args.self.now.right c.requires.rising).row

pub Block::place_before-insert-requires-clause-rising : goal.Block::place_before-insert-requires-clause-rising
Block::place_before-insert-requires-clause-rising t c = (parts c.args.self.now.left (members c.args.self.now.row) c.args.self.now.right c.requires.rising).row

pub Block::place_before-insert-requires-clause-absent : goal.Block::place_before-insert-requires-clause-absent
Block::place_before-insert-requires-clause-absent t c = is_among-above c.args.value (members c.args.self.now.row) c.requires.before

pub Block::place_before-returns-then-not-is_full-clause-list : goal.Block::place_before-returns-then-not-is_full-clause-list
Block::place_before-returns-then-not-is_full-clause-list t c =
    let none = c.is_empty.ensures.0 c.if-is_empty.true in
    ap (λ z. c.args.self.now.left ++ (z ++ c.args.self.now.right)) c.insert.ensures ∙ sym (inserted-first c.args.value c.args.self.now.row.first c.args.self.now.left c.args.self.now.row.rest.items c.args.self.now.right c.requires.rising c.requires.before none)

pub Block::place_before-returns-then-not-is_full-clause-fresh : goal.Block::place_before-returns-then-not-is_full-clause-fresh
Block::place_before-returns-then-not-is_full-clause-fresh t c =
    let none = c.is_empty.ensures.0 c.if-is_empty.true in
    sym (ap not (absent-first c.args.value c.args.self.now.row.first c.args.self.now.left c.args.self.now.row.rest.items c.args.self.now.right c.requires.rising c.requires.before none))

pub Block::place_before-insert_left-requires : goal.Block::place_before-insert_left-requires
Block::place_before-insert_left-requires t c = (search rules, ((parts c.args.self.now.left (members c.args.self.now.row) c.args.self.now.right c.requires.rising).left, c.requires.room))

pub Block::place_before-returns-clause-list : goal.Block::place_before-returns-clause-list
Block::place_before-returns-clause-list t c = c.insert_left.ensures.list ∙ sym (inserted-left c.args.value c.args.self.now.row.first c.args.self.now.left c.args.self.now.row.rest.items c.args.self.now.right c.requires.rising c.requires.before)

pub Block::place_before-returns-clause-fresh : goal.Block::place_before-returns-clause-fresh
Block::place_before-returns-clause-fresh t c = c.insert_left.ensures.fresh ∙ sym (ap not (is_among-left c.args.value c.args.self.now.row.first c.args.self.now.left c.args.self.now.row.rest.items c.args.self.now.right c.requires.rising c.requires.before))

pub Block::place_after-insert-requires-clause-rising : goal.Block::place_after-insert-requires-clause-rising
Block::place_after-insert-requires-clause-rising t c = (parts c.args.self.now.left (members c.args.self.now.row) c.args.self.now.right c.requires.rising).row

pub Block::place_after-insert-requires-clause-absent : goal.Block::place_after-insert-requires-clause-absent
Block::place_after-insert-requires-clause-absent t c = is_among-below c.args.value (members c.args.self.now.row) c.requires.after

pub Block::place_after-returns-then-not-is_full-clause-list : goal.Block::place_after-returns-then-not-is_full-clause-list
Block::place_after-returns-then-not-is_full-clause-list t c =
    let none = c.is_empty.ensures.0 c.if-is_empty.true in
    ap (λ z. c.args.self.now.left ++ (z ++ c.args.self.now.right)) c.insert.ensures ∙ sym (inserted-last c.args.value c.args.self.now.row.first c.args.self.now.left c.args.self.now.row.rest.items c.args.self.now.right c.requires.rising c.requires.after none)

pub Block::place_after-returns-then-not-is_full-clause-fresh : goal.Block::place_after-returns-then-not-is_full-clause-fresh
Block::place_after-returns-then-not-is_full-clause-fresh t c =
    let none = c.is_empty.ensures.0 c.if-is_empty.true in
    sym (ap not (absent-last c.args.value c.args.self.now.row.first c.args.self.now.left c.args.self.now.row.rest.items c.args.self.now.right c.requires.rising c.requires.after none))

pub Block::place_after-insert_right-requires : goal.Block::place_after-insert_right-requires
Block::place_after-insert_right-requires t c = (search rules, ((parts c.args.self.now.left (members c.args.self.now.row) c.args.self.now.right c.requires.rising).right, c.requires.room))

pub Block::place_after-returns-clause-list : goal.Block::place_after-returns-clause-list
Block::place_after-returns-clause-list t c = c.insert_right.ensures.list ∙ sym (inserted-right c.args.value c.args.self.now.row.first c.args.self.now.left c.args.self.now.row.rest.items c.args.self.now.right c.requires.rising c.requires.after)

pub Block::place_after-returns-clause-fresh : goal.Block::place_after-returns-clause-fresh
Block::place_after-returns-clause-fresh t c = c.insert_right.ensures.fresh ∙ sym (ap not (is_among-right c.args.value c.args.self.now.row.first c.args.self.now.left c.args.self.now.row.rest.items c.args.self.now.right c.requires.rising c.requires.after))

pub Block::place_within-returns-then-contains-clause-list : goal.Block::place_within-returns-then-contains-clause-list
Block::place_within-returns-then-contains-clause-list t c =
    sym (inserted-present c.args.value _ c.requires.rising (is_among-within c.args.value c.args.self.now.row.first c.args.self.now.left c.args.self.now.row.rest.items c.args.self.now.right c.requires.rising c.requires.within ∙ sym c.contains.ensures ∙ c.if-contains.true))

pub Block::place_within-insert-requires-clause-rising : goal.Block::place_within-insert-requires-clause-rising
Block::place_within-insert-requires-clause-rising t c = (parts c.args.self.now.left (members c.args.self.now.row) c.args.self.now.right c.requires.rising).row

pub Block::place_within-returns-then-not-is_full-clause-list : goal.Block::place_within-returns-then-not-is_full-clause-list
Block::place_within-returns-then-not-is_full-clause-list t c = ap (λ z. c.args.self.now.left ++ (z ++ c.args.self.now.right)) c.insert.ensures ∙ sym (inserted-within c.args.value c.args.self.now.row.first c.args.self.now.left c.args.self.now.row.rest.items c.args.self.now.right c.requires.rising c.requires.within)

pub Block::place_within-returns-then-not-is_full-clause-fresh : goal.Block::place_within-returns-then-not-is_full-clause-fresh
Block::place_within-returns-then-not-is_full-clause-fresh t c = sym (ap not (is_among-within c.args.value c.args.self.now.row.first c.args.self.now.left c.args.self.now.row.rest.items c.args.self.now.right c.requires.rising c.requires.within ∙ sym c.contains.ensures ∙ c.if-contains.false))

pub Block::place_within-exchange-greatest-requires-clause-rising : goal.Block::place_within-exchange-greatest-requires-clause-rising
Block::place_within-exchange-greatest-requires-clause-rising t c = (parts c.args.self.now.left (members c.args.self.now.row) c.args.self.now.right c.requires.rising).row

pub Block::place_within-insert_right-requires : goal.Block::place_within-insert_right-requires
Block::place_within-insert_right-requires t c = (search rules, ((parts c.args.self.now.left (members c.args.self.now.row) c.args.self.now.right c.requires.rising).right, c.requires.room))

pub Block::place_within-returns-clause-list : goal.Block::place_within-returns-clause-list
Block::place_within-returns-clause-list t c =
    let smaller = below-greatest c.args.value c.args.self.now.left (members c.args.self.now.row) c.args.self.now.right c.exchange-greatest.ensures.0 c.exchange-greatest.result c.requires.rising c.exchange-greatest.ensures.1 (sym c.contains.ensures ∙ c.if-contains.false) c.requires.within.1 in
    let below = below-within c.args.value c.args.self.now.left (members c.args.self.now.row) c.args.self.now.right c.requires.rising c.requires.within.0 in
    c.insert_right.ensures.list
    ∙ ap (λ z. c.args.self.now.left ++ (z ++ inserted c.exchange-greatest.result c.args.self.now.right)) c.exchange-greatest.ensures.2
    ∙ sym (inserted-overflow c.args.value c.args.self.now.left (members c.args.self.now.row) c.args.self.now.right c.exchange-greatest.ensures.0 c.exchange-greatest.result c.requires.rising c.exchange-greatest.ensures.1 below smaller)

pub Block::place_within-returns-clause-fresh : goal.Block::place_within-returns-clause-fresh
Block::place_within-returns-clause-fresh t c =
    c.insert_right.ensures.fresh
    ∙ ap not (is_among-above _ c.args.self.now.right (greatest-below c.args.value c.args.self.now.left (members c.args.self.now.row) c.args.self.now.right c.exchange-greatest.ensures.0 c.exchange-greatest.result c.requires.rising c.exchange-greatest.ensures.1) ∙ sym (is_among-within c.args.value c.args.self.now.row.first c.args.self.now.left c.args.self.now.row.rest.items c.args.self.now.right c.requires.rising c.requires.within ∙ sym c.contains.ensures ∙ c.if-contains.false))
