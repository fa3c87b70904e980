use Rattle.std.proofs.Common.{None, rules}
use Rattle.std.proofs.lemmas.List.Sorted.{IsPartitionPoint-from_clause}
use Rattle.hac_model.specs.Query.Terms.{is_term_before}
use Rattle.hac_model.specs.declared.terms.Term.{Term}
use Rattle.hac_model.proofs.SortedLemmas.{falls-partition, prefix-point}
use Rattle.kept_facts.proofs.UseLemmas.{terms-falls}
use Rattle.kept_facts.proofs.terms.rank.Goals as goal

pub returns-clause-rank : goal.returns-clause-rank
returns-clause-rank c = λ rise.
    prefix-point (λ (t : Term). is_term_before t c.args.term.now) c.args.terms.now c.partition_point.result c.partition_point.ensures.bound
    (IsPartitionPoint-from_clause (λ (t : Term). is_term_before t c.args.term.now) c.args.terms.now c.partition_point.result c.partition_point.ensures.partitioned
    (falls-partition (λ (t : Term). is_term_before t c.args.term.now) c.args.terms.now (terms-falls c.args.term.now None c.args.terms.now rise)) (λ a r f' k. search rules))
