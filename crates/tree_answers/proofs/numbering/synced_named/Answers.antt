use Rattle.std.proofs.Common.{[], List, ℕ, ap, length, ◌≡◌, ◌∙◌, arith}
use Rattle.tree_answers.specs.Numbering.{listed_with, numbered_by, numbers_of}
use Rattle.tree_answers.proofs.NumberingLemmas.{if_ok-same, next-small, numbers-even, synced-numbered}
use Rattle.tree_answers.proofs.numbering.synced_named.Goals as goal

pub numbers_of-requires : goal.numbers_of-requires
numbers_of-requires c =
    let small = next-small c.args.tree.now.state c.next_number.ensures.layout in
    omega (arith, small, c.get.ensures, c.next_number.ensures.number)

pub numbered-requires-clause-even : goal.numbered-requires-clause-even
numbered-requires-clause-even c =
    ap (λ (ns : List ℕ). length ns) (c.as_slice.ensures.value ∙ c.in_ok-numbers.ensures)
    ∙ numbers-even c.args.tree.now.state.entries c.args.mount c.get.result c.args.list.now

pub returns : goal.returns
returns c =
    let s = c.args.tree.now.state in
    let listed : c.as_slice.result.now ≡ numbers_of s.entries c.args.mount s.next c.args.list.now =
    c.as_slice.ensures.value ∙ c.in_ok-numbers.ensures
    ∙ ap (λ (next : ℕ). numbers_of s.entries c.args.mount next c.args.list.now) (c.get.ensures ∙ c.next_number.ensures.number) in
    if_ok-same c.numbered.result
    (ap (λ (ns : List ℕ). numbered_by (listed_with c.args.list.now ns) [] c.args.names.now) listed
    ∙ synced-numbered s c.args.mount c.args.list.now c.args.names.now c.next_number.ensures.layout c.requires.mount c.requires.list)
    c.numbered.ensures
