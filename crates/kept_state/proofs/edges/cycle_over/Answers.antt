use Rattle.std.proofs.Common.{◌∷◌, ℕ, List, ap, ◌∙◌}
use Rattle.std.proofs.lemmas.List.{append-nil}
use Rattle.hac_model.specs.Tree.Depends.{named_in}
use Rattle.kept_state.proofs.ReachLemmas.{way-told}
use Rattle.kept_state.proofs.edges.cycle_over.Goals as goal

pub returns : goal.returns
returns c = way-told c.args.kept.now c.args.dir c.args.parent c.args.query.now c.as_slice.result.now c.would_cycle.result c.requires.linked (c.as_slice.ensures.value ∙ c.in_ok-edges.ensures ∙ ap (λ (ns : List ℕ). c.args.parent ∷ ns) (append-nil (named_in c.args.query.now))) c.would_cycle.ensures
