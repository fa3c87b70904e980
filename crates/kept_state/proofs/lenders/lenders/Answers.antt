use Rattle.std.proofs.Common.{◌≡◌, ℕ, None, Some, List, ap, drop, sym, ◌∙◌}
use Rattle.std.specs.Prelude.{filter}
use Rattle.std.specs.Option.{option_copied}
use Rattle.hac_model.specs.Tree.Links.{lenders, query_at}
use Rattle.hac_model.specs.Tree.{is_directory_at}
use Rattle.kept_state.specs.Parts.{state_of}
use Rattle.kept_state.proofs.KeptLemmas.{kept-edges}
use Rattle.kept_state.proofs.LenderLemmas.{depends-asked, none-added}
use Rattle.kept_state.proofs.StateLemmas.{kept-bares, same-query}
use Rattle.kept_state.proofs.lenders.lenders.Goals as goal

pub returns-in-Some : goal.returns-in-Some
returns-in-Some c =
    let kept = c.args.kept.now in
    let s = state_of kept in
    let asked : query_at s c.args.dir ≡ Some c.in-Some.query.now = same-query s kept.tree.state (kept-bares kept) c.args.dir ∙ sym c.in-Some.ensures in
    c.behind_named.ensures (lenders s c.args.dir)
    (c.behind_first.ensures ∙ ap (drop 1) (c.edges.ensures ∙ kept-edges kept c.requires c.args.dir) ∙ depends-asked s c.args.dir c.in-Some.query.now asked)

pub returns-in-None : goal.returns-in-None
returns-in-None c =
    let kept = c.args.kept.now in
    let s = state_of kept in
    let asked : query_at s c.args.dir ≡ None = same-query s kept.tree.state (kept-bares kept) c.args.dir ∙ sym c.query.ensures ∙ ap (λ o. option_copied o) c.in-None.is in
    sym (ap (λ (numbers : List ℕ). filter (is_directory_at s.entries) numbers) (none-added s c.args.dir asked))
