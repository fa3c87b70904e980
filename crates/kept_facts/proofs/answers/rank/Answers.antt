use Rattle.std.proofs.Common.{None, rules}
use Rattle.std.proofs.lemmas.List.Sorted.{IsPartitionPoint-from_clause}
use Rattle.hac_model.specs.Query.Terms.{is_term_before}
use Rattle.hac_model.specs.declared.states.Answer.{Answer}
use Rattle.hac_model.proofs.SortedLemmas.{falls-partition, prefix-point}
use Rattle.kept_facts.proofs.OrderLemmas.{rank-falls}
use Rattle.kept_facts.proofs.answers.rank.Goals as goal

pub returns-clause-rank : goal.returns-clause-rank
returns-clause-rank c = λ rise.
    prefix-point (λ (a : Answer). is_term_before a.term c.args.term.now) c.args.answers.now c.partition_point.result c.partition_point.ensures.bound
    (IsPartitionPoint-from_clause (λ (a : Answer). is_term_before a.term c.args.term.now) c.args.answers.now c.partition_point.result c.partition_point.ensures.partitioned
    (falls-partition (λ (a : Answer). is_term_before a.term c.args.term.now) c.args.answers.now (rank-falls c.args.term.now None c.args.answers.now rise)) (λ a r f' k. search rules))
