use Rattle.std.proofs.Common.{[], List, ℕ, ap, length, ◌≡◌, ◌+◌, ◌∙◌, arith}
use Rattle.tree_answers.specs.Numbering.{listed_with, numbered_by, numbers_of}
use Rattle.tree_answers.proofs.NumberingLemmas.{if_ok-same, mounted-numbered, next-small, numbers-even}
use Rattle.tree_answers.proofs.numbering.mounted_named.Goals as goal

pub overflow_add-get : goal.overflow_add-get
overflow_add-get c =
    let small = next-small c.args.tree.now.state c.next_number-mount.ensures.layout in
    omega (arith, small, c.get.ensures, c.next_number-mount.ensures.number)

pub numbers_of-requires : goal.numbers_of-requires
numbers_of-requires c =
    let small = next-small c.args.tree.now.state c.next_number-mount.ensures.layout in
    omega (arith, small, c.get.ensures, c.next_number-mount.ensures.number)

pub numbered-requires-clause-even : goal.numbered-requires-clause-even
numbered-requires-clause-even c =
    ap (λ (ns : List ℕ). length ns) (c.as_slice.ensures.value ∙ c.in_ok-numbers.ensures)
    ∙ numbers-even c.args.tree.now.state.entries c.next_number-mount.result (c.get.result + 1) c.args.list.now

pub returns : goal.returns
returns c = λ dir name space.
    let s = c.args.tree.now.state in
    let listed : c.as_slice.result.now ≡ numbers_of s.entries s.next (s.next + 1) c.args.list.now =
    c.as_slice.ensures.value ∙ c.in_ok-numbers.ensures
    ∙ (λ i. numbers_of s.entries (c.next_number-mount.ensures.number i) ((c.get.ensures ∙ c.next_number-mount.ensures.number) i + 1) c.args.list.now) in
    let same =
    ap (λ (ns : List ℕ). numbered_by (listed_with c.args.list.now ns) [] c.args.names.now) listed
    ∙ mounted-numbered s dir name space c.args.list.now c.args.names.now c.next_number-mount.ensures.layout c.requires in
    if_ok-same c.numbered.result same c.numbered.ensures
