use Rattle.std.proofs.Common.{◌≡◌, ℕ, None, Some, List, ap, drop, sym, ◌∙◌}
use Rattle.std.specs.Prelude.{filter}
use Rattle.std.specs.Option.{option_copied}
use Rattle.hac_model.specs.Tree.Links.{lenders, query_at}
use Rattle.hac_model.specs.Tree.{is_directory_at}
use Rattle.hac_model.specs.declared.states.State.{State}
use Rattle.kept_state.specs.After.{next_state}
use Rattle.kept_state.specs.Seen.{Seen}
use Rattle.kept_state.proofs.AfterLemmas.{next-asks}
use Rattle.kept_state.proofs.LenderLemmas.{depends-asked, none-added}
use Rattle.kept_state.proofs.kept.KeptState.lenders_next.Goals as goal

pub returns-in-Some : goal.returns-in-Some
returns-in-Some c =
    let next : State = next_state c.args.self.now in
    let dir = c.args.dir in
    let asked : query_at next dir ≡ Some c.in-Some.query.now =
    sym (next-asks c.self.inside c.self.invariant dir ∙ ap (λ (seen : Seen). query_at (next_state seen) dir) c.self.view_is) ∙ sym c.in-Some.ensures in
    c.behind_named.ensures (lenders next dir)
    (c.behind_first.ensures ∙ ap (drop 1) c.depends_next.ensures ∙ depends-asked next dir c.in-Some.query.now asked)

pub returns-in-None : goal.returns-in-None
returns-in-None c =
    let next : State = next_state c.args.self.now in
    let dir = c.args.dir in
    let asked : query_at next dir ≡ None =
    sym (next-asks c.self.inside c.self.invariant dir ∙ ap (λ (seen : Seen). query_at (next_state seen) dir) c.self.view_is)
    ∙ sym c.query_next.ensures ∙ ap (λ o. option_copied o) c.in-None.is in
    sym (ap (λ (numbers : List ℕ). filter (is_directory_at next.entries) numbers) (none-added next dir asked))
