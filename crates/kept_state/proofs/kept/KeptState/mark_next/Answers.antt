use Rattle.std.proofs.Common.{ap, subst, sym, ◌∙◌}
use Rattle.std.specs.Prelude.{IsTrue}
use Rattle.hac_model.specs.Tree.Links.{is_item}
use Rattle.kept_state.specs.After.{next_state}
use Rattle.kept_state.specs.Readers.{mark_at}
use Rattle.kept_state.specs.Seen.{Seen}
use Rattle.kept_state.proofs.AfterLemmas.{next-mark}
use Rattle.kept_state.proofs.kept.KeptState.mark_next.Goals as goal

pub returns : goal.returns
returns c = λ there.
    c.mark_next.ensures
    ∙ next-mark c.self.inside c.self.invariant c.args.dir c.args.item (subst (λ (seen : Seen). IsTrue (is_item (next_state seen) c.args.item)) (sym c.self.view_is) there)
    ∙ ap (λ (seen : Seen). mark_at (next_state seen) c.args.dir c.args.item) c.self.view_is
