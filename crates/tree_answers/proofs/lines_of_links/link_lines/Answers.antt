use Rattle.std.proofs.Common.{◌≡◌, ◌<◌, ◌≤◌, ◌+◌, ℕ, ap, subst, sym, ◌∙◌, arith}
use Rattle.std.specs.Prelude.{Some}
use Rattle.std.specs.List.{flat_map, range_with_len}
use Rattle.hac_model.specs.Tree.Valid.{IsValid}
use Rattle.kept_state.specs.Seen.{Seen}
use Rattle.tree_answers.specs.NextLinks.{next_linked}
use Rattle.tree_answers.proofs.CountsLemmas.{next-few}
use Rattle.tree_answers.proofs.NextLinkLemmas.{line_of, lines-all, lines-next, next-below}
use Rattle.tree_answers.proofs.lines_of_links.link_lines.Goals as goal

valid : (c : goal.After-get-from) → IsValid c.args.linked.now.state
valid c = subst (λ (seen : Seen). IsValid seen.state) c.kept.ensures c.know_valid.ensures

next-is : (c : goal.After-get-from) → next_linked c.args.linked.now.state c.args.dir c.links.from ≡ Some c.in-Some.item
next-is c = ap (next_linked c.args.linked.now.state c.args.dir) (sym c.new.ensures) ∙ sym c.next_linked.ensures ∙ c.in-Some.is

bounds : (c : goal.After-get-from) → (c.links.from ≤ c.in-Some.item) × (c.in-Some.item < c.args.linked.now.state.next)
bounds c = next-below c.args.linked.now.state (valid c) c.args.dir c.links.from c.in-Some.item (next-is c)

pub overflow_add-from : goal.overflow_add-from
overflow_add-from c =
    let within = bounds c in
    let few = next-few c.args.linked.now.state (valid c).layout in
    omega (arith, within.1, few, c.get-from.ensures)

pub links-preserved : goal.links-preserved
links-preserved c =
    let s = c.args.linked.now.state in
    let within = bounds c in (
      omega (arith, within.1, c.get-from.ensures),
      lines-next s (valid c) c.args.dir c.links.from c.in-Some.item c.links.lines.items c.push_number.new.lines.items (next-is c) c.links.invariant.1 (c.in_ok-push_number.ensures)
          ∙ ap (λ (n : ℕ). flat_map (line_of s c.args.dir) (range_with_len 0 (n + 1))) (sym c.get-from.ensures),
    )

pub links-smaller : goal.links-smaller
links-smaller c =
    let within = bounds c in
    omega (arith, within.0, within.1, c.get-from.ensures)

pub returns : goal.returns
returns c =
    let s = c.args.linked.now.state in
    let valid = subst (λ (seen : Seen). IsValid seen.state) c.kept.ensures c.know_valid.ensures in
    lines-all s valid c.args.dir c.links.from c.links.lines.items c.links.invariant.0
    (ap (next_linked s c.args.dir) (sym c.new.ensures) ∙ sym c.next_linked.ensures ∙ c.in_default.is) c.links.invariant.1
