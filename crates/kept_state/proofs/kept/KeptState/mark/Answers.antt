use Rattle.std.proofs.Common.{ap, ◌∙◌}
use Rattle.kept_state.specs.Parts.{state_of}
use Rattle.kept_state.specs.Readers.{mark_at}
use Rattle.kept_state.proofs.ReaderLemmas.{mark-told, marks-of}
use Rattle.kept_state.specs.Seen.{Seen}
use Rattle.kept_state.proofs.kept.KeptState.mark.Goals as goal

pub returns : goal.returns
returns c =
    let parts = c.self.inside.parts in
    c.kind.ensures.kind ∙ mark-told (state_of parts) parts.marks (marks-of parts c.self.invariant.linked) c.args.dir c.args.item ∙ ap (λ (x : Seen). mark_at x.state c.args.dir c.args.item) c.self.view_is
