use Rattle.std.proofs.Common.{◌<◌, ◌≤◌, length, Bool, Some, None, cond, sym, ap, ◌∙◌, arith, rules}
use Rattle.std.specs.Option.{option_copied}
use Rattle.std.proofs.lemmas.Bool.Decides.{nat_tests}
use Rattle.std.proofs.lemmas.List.Sorted.{IsPartitionPoint-from_clause}
use Rattle.hac_model.specs.declared.states.Entry.{Entry}
use Rattle.layout_check.proofs.SearchLemmas.{below-partition, entry-end, entry-point, is_below}
use Rattle.layout_check.proofs.searching.entry_at.Goals as goal

pub returns-in_err-entry : goal.returns-in_err-entry
returns-in_err-entry c =
    let number = c.args.number in
    let entries = c.args.entries.now in
    let place = c.partition_point-place.result in
    let point =
    IsPartitionPoint-from_clause (is_below number) entries place c.partition_point-place.ensures.partitioned
    (below-partition number entries c.requires) (λ a r f' k. search rules)
    in
    let bound = c.partition_point-place.ensures.bound in
    let outside : length entries ≤ place = grind (arith, nat_tests, c.in_err-entry.ensures.lookup) in
    ap option_copied c.from_residual.ensures ∙ sym (entry-end number entries c.requires place bound point outside)

pub returns-then-eq : goal.returns-then-eq
returns-then-eq c =
    let number = c.args.number in
    let entries = c.args.entries.now in
    let place = c.partition_point-place.result in
    let point =
    IsPartitionPoint-from_clause (is_below number) entries place c.partition_point-place.ensures.partitioned
    (below-partition number entries c.requires) (λ a r f' k. search rules)
    in
    let bound = c.partition_point-place.ensures.bound in
    let inside : place < length entries = grind (arith, nat_tests, c.in_ok-entry.ensures.lookup) in
    let entry : Entry = c.in_ok-entry.entry.now in
    sym (entry-point number entries c.requires place bound point entry inside c.in_ok-entry.ensures.lookup.1
    ∙ ap (λ (b : Bool). cond b (Some entry) None) (sym c.eq.ensures ∙ c.if-eq.true))

pub returns-else-eq : goal.returns-else-eq
returns-else-eq c =
    let number = c.args.number in
    let entries = c.args.entries.now in
    let place = c.partition_point-place.result in
    let point =
    IsPartitionPoint-from_clause (is_below number) entries place c.partition_point-place.ensures.partitioned
    (below-partition number entries c.requires) (λ a r f' k. search rules)
    in
    let bound = c.partition_point-place.ensures.bound in
    let inside : place < length entries = grind (arith, nat_tests, c.in_ok-entry.ensures.lookup) in
    let entry : Entry = c.in_ok-entry.entry.now in
    sym (entry-point number entries c.requires place bound point entry inside c.in_ok-entry.ensures.lookup.1
    ∙ ap (λ (b : Bool). cond b (Some entry) None) (sym c.eq.ensures ∙ c.if-eq.false))
