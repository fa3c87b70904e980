-- The words before the letters stand first.
use Rattle.std.proofs.Common.{◌∙◌, ap, refl, rules, sym}
use Rattle.std.proofs.lemmas.List.Sorted.{IsPartitionPoint-from_clause}
use Rattle.hac_model.specs.Query.Terms.{letters_in}
use Rattle.sem_mounts.specs.WordLists.{is_listed}
use Rattle.sem_mounts.proofs.OrderLemmas.{Parts, before-first, is_before, slice-asked, slice-from}
use Rattle.sem_mounts.proofs.word_lists.WordLists.lists_from.Goals as goal

pub returns-clause-from : goal.returns-clause-from
returns-clause-from c =
    let term = c.args.term.now in
    let all = c.deref.result.now in
    let first = c.partition_point-first.result in
    let parts : Parts term all first =
    IsPartitionPoint-from_clause (is_before (letters_in term)) all first
    c.partition_point-first.ensures.partitioned
    (before-first (letters_in term) all (rw c.deref.ensures.value c.self.invariant))
    (λ a r q k. search rules) in
    rw (c.deref-2.ensures.value ∙ sym c.deref.ensures.value) (slice-from term all first parts)

pub returns-clause-asked : goal.returns-clause-asked
returns-clause-asked c =
    let term = c.args.term.now in
    let all = c.deref.result.now in
    let first = c.partition_point-first.result in
    let parts : Parts term all first =
    IsPartitionPoint-from_clause (is_before (letters_in term)) all first
    c.partition_point-first.ensures.partitioned
    (before-first (letters_in term) all (rw c.deref.ensures.value c.self.invariant))
    (λ a r q k. search rules) in
    λ n. rw (c.deref-2.ensures.value ∙ sym c.deref.ensures.value)
    (slice-asked term all first parts c.partition_point-first.ensures.bound n
    ∙ ap (λ lists. is_listed lists n term) c.deref.ensures.value
    ∙ rw (← c.self.view_is) refl)
