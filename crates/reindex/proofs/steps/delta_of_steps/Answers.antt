use Rattle.std.proofs.Common.{◌≡◌, ◌*◌, ℕ, List, length, ap, arith, subst, sym, ◌∙◌}
use Rattle.hac_model.specs.Tree.Costs.{weight}
use Rattle.reindex.specs.Steps.{AreIndexed}
use Rattle.reindex.proofs.BatchLemmas.{after, batch-if}
use Rattle.reindex.proofs.ProbeLemmas.{steps-cost}
use Rattle.reindex.proofs.steps.delta_of_steps.Goals as goal

pub delta_of_files-requires-clause-ahead : goal.delta_of_files-requires-clause-ahead
delta_of_files-requires-clause-ahead g c =
    let batch = c.in_ok-batch.batch in
    record {
      links = c.requires.links;
      way = c.requires.way;
      valid = after c.args.kept.now.state c.args.count batch.files.items batch.last c.know_valid.ensures c.requires.happen c.in_ok-batch.ensures;
    }

pub returns-clause-leads : goal.returns-clause-leads
returns-clause-leads g c =
    let s = c.args.kept.now.state in
    let batch = c.in_ok-batch.batch in
    let files = c.as_slice-files.result.now in
    batch-if s c.args.count files batch.last c.know_valid.ensures c.requires.happen
    (subst (λ (numbers : List ℕ). AreIndexed s c.args.count numbers batch.last) (sym c.as_slice-files.ensures.value) c.in_ok-batch.ensures)
    c.delta_of_files.result c.delta_of_files.ensures.settled

pub returns-clause-probes : goal.returns-clause-probes
returns-clause-probes g c =
    let s = c.args.kept.now.state in
    let batch = c.in_ok-batch.batch in
    let most = c.delta_of_files.ensures.probes in
    let many : length c.as_slice-files.result.now * weight s ≡ c.args.count * weight s =
    ap (λ (files : List ℕ). length files * weight s) c.as_slice-files.ensures.value ∙ ap (λ (n : ℕ). n * weight s) c.in_ok-batch.ensures.many in
    let may = steps-cost c.args.count s c.know_valid.ensures c.requires.happen in
    omega (arith, most, many, may)
