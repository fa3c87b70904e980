use Rattle.std.proofs.Common.{◌≡◌, ◌++◌, ◌+◌, ◌∷◌, [], ℕ, List, ap, subst, sym, ◌∙◌}
use Rattle.std.specs.Prelude.{drop, take}
use Rattle.std.proofs.lemmas.List.{drop_more, take_more}
use Rattle.hac_model.specs.Tree.Costs.{weight}
use Rattle.reindex.specs.Steps.{AreSettled, indexed_through}
use Rattle.reindex.proofs.ProbeLemmas.{more-at}
use Rattle.reindex.proofs.SettledLemmas.{once-apart}
use Rattle.reindex.proofs.steps.delta_of_files.Goals as goal

pub loop-file-preserved : goal.loop-file-preserved
loop-file-preserved g c =
    let s = c.args.ahead.now.indexing.kept.now.state in
    let t = indexed_through c.args.ahead.now.indexing.last s in
    let files = c.args.files.now in
    let i = c.loop-file.file-index in
    let file = c.file-item.result in
    let rest : List ℕ = drop (i + 1) files in
    let left : drop i files ≡ file ∷ rest = drop_more files i file c.loop-file-test.true ∙ ap (λ (n : ℕ). n ∷ rest) (sym c.file-item.is) in
    let more : take (i + 1) files ≡ take i files ++ file ∷ [] = take_more files i file c.loop-file-test.true ∙ ap (λ (n : ℕ). take i files ++ n ∷ []) (sym c.file-item.is) in (
      subst (λ (done : List ℕ). AreSettled s t done c.settle_file.new.delta.items) (sym more)
          (c.in_ok-settle_file.ensures.settled (take i files) (once-apart files i file rest c.requires.once left) c.loop-file.invariant.0),
      more-at files i file (weight s) c.args.probes.now c.loop-file.probes c.settle_file.new.probes c.loop-file-test.true c.loop-file.invariant.1 c.in_ok-settle_file.ensures.probes,
    )
